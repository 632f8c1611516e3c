-- The states alive: a set to which each state of a row is joined if its word lies in the range, and such a set for each mark. What is alive is a
-- state of the condition, and reached.
use Prim.Native.Nat.{ℕ, ◌+◌, ◌*◌, ◌^◌, ◌≤◌, ◌<◌, zero-le}
use mathlib.Core.Path.{◌≡◌, refl, sym, ◌∙◌, ap}
use mathlib.Core.Bool.{Bool, true, false, ◌||◌, or-false}
use mathlib.Core.List.{List}
use native.Mathlib.Omega.{arith}
use native.Mathlib.Nat.{not-suc-le-zero}
use lib.Bits.{bit_or, bit_and}
use lib.Dec.{leb, ltb, eqb}
use lib.ListN.{length, get_or, set}
use lib.Seq.{get_or-set_same, get_or-set_other}
use borrow.Author.Tests.{eqb-true, eqb-false, ltb-true, ltb-false, lt-ltb, le-ltb, le-leb, lt-leb, leb-true}
use Rattle.walk.specs.Ceilings.{ceilings}
use Rattle.walk.specs.Numbers.{has, ◌and◌}
use Rattle.walk.proofs.Numbers.{Yes, and_in}
use Rattle.tables.proofs.SetLaws.{has-or, has-and, has-none, one_is}
use Rattle.tables.proofs.StepLaws.{no_and, yes_and}
use Rattle.rows.specs.Rows.{row, between, Joined, AliveRow, Alive}
use Rattle.rows.specs.Offers.{Living, AllLiving}
use Rattle.rows.proofs.RowLaws.{row_at, row-length}

and_true : (a b : Bool) → b ≡ true → (a and b) ≡ a
unfolding ◌and◌
and_true true b e = e
and_true false b e = refl

and_false : (a b : Bool) → b ≡ false → (a and b) ≡ false
unfolding ◌and◌
and_false true b e = e
and_false false b e = refl

pub joined_yes : (x s p : ℕ) (t : Bool) → t ≡ true → x ≡ bit_or s (2 ^ p) → Joined x s p t
joined_yes x s p t e f q = ap (λ (n : ℕ). has n q) f ∙ has-or s (2 ^ p) q ∙ ap (λ (b : Bool). has s q || b) (one_is p q ∙ sym (and_true (eqb p q) t e))

pub joined_no : (s p : ℕ) (t : Bool) → t ≡ false → Joined s s p t
joined_no s p t e q = sym (ap (λ (b : Bool). has s q || b) (and_false (eqb p q) t e) ∙ or-false (has s q))

-- the three ways of the range
pub between_yes : (lo hi d : ℕ) → lo ≤ d → d < hi → between lo hi d ≡ true
between_yes lo hi d h l = yes_and _ _ (le-leb lo d h) ∙ lt-ltb d hi l

pub between_low : (lo hi d : ℕ) → d < lo → between lo hi d ≡ false
between_low lo hi d h = no_and _ _ (lt-leb lo d h)

pub between_high : (lo hi d : ℕ) → hi ≤ d → between lo hi d ≡ false
between_high lo hi d h = and_false (leb lo d) (ltb d hi) (le-ltb d hi h)

pub between_in : (lo hi d : ℕ) → Yes (between lo hi d) → (lo ≤ d) × (d < hi)
between_in lo hi d t = let (a, b) = and_in _ _ t in (leb-true lo d a, ltb-true d hi b)

-- the loop over a row
pub alive-row-none : (words : List ℕ) (lo hi : ℕ) → AliveRow 0 words 0 lo hi
alive-row-none words lo hi p = has-none p ∙ sym (no_and (ltb p 0) _ (le-ltb p 0 zero-le))

pub alive-row-more : (words : List ℕ) (s x n lo hi : ℕ) → AliveRow s words n lo hi → Joined x s n (between lo hi (get_or words n 0)) → AliveRow x words (n + 1) lo hi
unfolding ◌and◌
alive-row-more words s x n lo hi h k p =
    k p ∙ ap (λ (b : Bool). b || (eqb n p and between lo hi (get_or words n 0))) (h p) ∙ go (eqb n p) refl (ltb p n) refl
  where
    go : (t : Bool) → eqb n p ≡ t → (u : Bool) → ltb p n ≡ u
        → ((u and between lo hi (get_or words p 0)) || (t and between lo hi (get_or words n 0))) ≡ (ltb p (n + 1) and between lo hi (get_or words p 0))
    go true e true f = let x = eqb-true n p e in let y = ltb-true p n f in absurd (omega arith)
    go true e false f = let x = eqb-true n p e in rw (lt-ltb p (n + 1) (omega arith), x)
    go false e true f = let y = ltb-true p n f in rw (lt-ltb p (n + 1) (omega arith)) (or-false _)
    go false e false f = let y = ltb-false p n f in let x : ¬ (n ≡ p) = eqb-false n p e in rw (le-ltb p (n + 1) (omega arith))

-- the loop over the marks
pub alive-none : (L A : List ℕ) (Q lo hi : ℕ) → Alive L A 0 Q lo hi
alive-none L A Q lo hi u p h = absurd (not-suc-le-zero h)

pub alive-more : (L A W : List ℕ) (n v Q lo hi x : ℕ) → length L ≡ ceilings.marks → v < n → n ≤ ceilings.marks → n * Q ≤ length A → W ≡ row A Q v → AliveRow x W (length W) lo hi
    → Alive L A v Q lo hi → Alive (set L v x) A (v + 1) Q lo hi
unfolding ◌and◌
alive-more L A W n v Q lo hi x size hv hn room e X F u p h = go (eqb u v) refl
  where
    at_row : (t : Bool) → ltb p Q ≡ t → (t and between lo hi (get_or (row A Q v) p 0)) ≡ (t and between lo hi (get_or A (v * Q + p) 0))
    at_row true g = ap (λ (n : ℕ). between lo hi n) (row_at A Q v p (ltb-true p Q g))
    at_row false g = refl

    go : (t : Bool) → eqb u v ≡ t → has (get_or (set L v x) u 0) p ≡ (ltb p Q and between lo hi (get_or A (u * Q + p) 0))
    go true f =
        let k = eqb-true u v f in
        rw k (ap (λ (n : ℕ). has n p) (get_or-set_same L v x 0 (omega arith))
        ∙ X p
        ∙ ap (λ (w : List ℕ). ltb p (length w) and between lo hi (get_or w p 0)) e
        ∙ ap (λ (n : ℕ). ltb p n and between lo hi (get_or (row A Q v) p 0)) (row-length A Q v n hv room)
        ∙ at_row (ltb p Q) refl)
    go false f = let ne : ¬ (u ≡ v) = eqb-false u v f in ap (λ (n : ℕ). has n p) (get_or-set_other L v u x 0 (eqb-false u v f)) ∙ F u p (omega arith)

-- what is alive is a state, and reached
pub alive_in : (L A : List ℕ) (n Q lo hi u p : ℕ) → Alive L A n Q lo hi → u < n → Yes (has (get_or L u 0) p) → (p < Q) × (lo ≤ get_or A (u * Q + p) 0) ×
    (get_or A (u * Q + p) 0 < hi)
alive_in L A n Q lo hi u p F h t =
    let (a, b) = and_in _ _ (sym (F u p h) ∙ t) in
    let (c, d) = between_in lo hi (get_or A (u * Q + p) 0) b in
    (ltb-true p Q a, c, d)

pub alive_living : (L A : List ℕ) (n Q lo hi : ℕ) → hi ≤ 65535 → Alive L A n Q lo hi → AllLiving L A n Q
alive_living L A n Q lo hi h F u p hu t = let (a, b, c) = alive_in L A n Q lo hi u p F hu t in (a, omega arith)

-- a row of the area that is lent as a part
pub living_row : (L A W : List ℕ) (n v Q : ℕ) → v < n → W ≡ row A Q v → AllLiving L A n Q → Living W (get_or L v 0) Q
living_row L A W n v Q hv e F p t = let (a, b) = F v p hv t in (a, rw (e, row_at A Q v p a) b)

-- those of them that are in another set too
pub living_and : (words : List ℕ) (s t Q : ℕ) → Living words s Q → Living words (bit_and s t) Q
living_and words s t Q F p e = F p (and_in _ _ (sym (has-and s t p) ∙ e)).0
