-- Going back over one tie. The walk over a set joins the states passed that lead on, so at its end those of the whole set; a number is known by its
-- elements, so what has the elements of a set that is made of a test is that set.
use Prim.Native.Nat.{ℕ, ◌+◌, ◌*◌, ◌^◌, ◌≤◌, ◌<◌, zero-le}
use mathlib.Core.Path.{◌≡◌, refl, sym, subst, ap, ◌∙◌}
use mathlib.Core.Bool.{Bool, true, false, ◌||◌, false≢true}
use mathlib.Core.List.{List}
use mathlib.Core.Logic.{⊎_elim}
use mathlib.Mathlib.Data.Bool.Basic.{or_inl, or_inr, eq-false_of_not-eq-true}
use native.Mathlib.Nat.{lt_of_le_of_lt}
use native.Mathlib.Omega.{arith}
use lib.Bits.{bit_and, and_le_r}
use lib.Dec.{ltb, eqb}
use lib.ListN.{get_or}
use borrow.Author.Tests.{eqb-true, eqb-false, ltb-true, ltb-false, lt-ltb, le-ltb, ne_eqb}
use Rattle.walk.specs.Numbers.{has, ◌and◌, set_below}
use Rattle.walk.proofs.Numbers.{Yes, and_in, and_of, or_in, eqb_of, any_below_in, any_below_of, yes_same}
use Rattle.walk.proofs.Sets.{nonempty, in_some, set_is}
use Rattle.tables.specs.Steps.{steps}
use Rattle.tables.specs.Sets.{LowestFrom}
use Rattle.tables.proofs.SetLaws.{has-and, has-none}
use Rattle.tables.proofs.StepLaws.{no_and, yes_and}
use Rattle.rows.specs.Rows.{row, between, Joined, AliveRow}
use Rattle.rows.proofs.RowLaws.{row_at}
use Rattle.rows.proofs.AliveLaws.{between_yes, between_in}
use Rattle.back.specs.Over.{leads_into, Leading, over, ends_at}

-- x are the elements of `set` below n that pass
abbrev pub UpTo : ℕ → ℕ → (ℕ → Bool) → ℕ → Type 0
UpTo x set f n = (p : ℕ) → has x p ≡ (ltb p n and (has set p and f p))

pub up-to-none : (set : ℕ) (f : ℕ → Bool) → UpTo 0 set f 0
up-to-none set f p = has-none p ∙ sym (no_and (ltb p 0) _ (le-ltb p 0 zero-le))

pub up-to-more : (set at n : ℕ) (f : ℕ → Bool) (s x : ℕ) → LowestFrom set at n → UpTo s set f at → Joined x s n (f n) → UpTo x set f (n + 1)
up-to-more set at n f s x W h j p = yes_same there back
  where
    there : Yes (has x p) → Yes (ltb p (n + 1) and (has set p and f p))
    there t =
        ⊎_elim
        (λ y. let (a, b) = and_in _ _ (sym (h p) ∙ y) in let l = ltb-true p at a in and_of (lt-ltb p (n + 1) (omega (arith, W.from))) b)
        (λ y. let (a, b) = and_in _ _ y in
        let e = eqb-true n p a in
        and_of (lt-ltb p (n + 1) (omega arith)) (subst (λ (m : ℕ). Yes (has set m and f m)) e (and_of W.stands b)))
        (or_in (has s p) (eqb n p and f n) (sym (j p) ∙ t))

    back : Yes (ltb p (n + 1) and (has set p and f p)) → Yes (has x p)
    back t =
        let (a, b) = and_in _ _ t in
        let l = ltb-true p (n + 1) a in
        j p ∙ go l b (eqb n p) refl (ltb p at) refl
      where
        go : p < n + 1 → Yes (has set p and f p) → (u : Bool) → eqb n p ≡ u → (v : Bool) → ltb p at ≡ v → Yes (has s p || (eqb n p and f n))
        go l b true e v g =
            or_inr (has s p) _ (and_of e (subst (λ (m : ℕ). Yes (f m)) (sym (eqb-true n p e)) (and_in _ _ b).1))
        go l b false e true g = or_inl (has s p) _ (h p ∙ and_of g b)
        go l b false e false g =
            let ne : ¬ (n ≡ p) = eqb-false n p e in
            let m = ltb-false p at g in
            absurd (false≢true (sym (W.between p m (omega arith)) ∙ (and_in _ _ b).0))

pub up-to-end : (set at : ℕ) (f : ℕ → Bool) (x : ℕ) → ((i : ℕ) → at ≤ i → has set i ≡ false) → UpTo x set f at → (p : ℕ) → has x p ≡ (has set p and f p)
up-to-end set at f x e h p = h p ∙ go (ltb p at) refl
  where
    go : (t : Bool) → ltb p at ≡ t → (ltb p at and (has set p and f p)) ≡ (has set p and f p)
    go true g = yes_and _ _ g
    go false g = no_and _ _ g ∙ sym (no_and _ _ (e p (ltb-false p at g)))

-- what the test of a state says
pub leads_yes : (T : List ℕ) (kinds S p x : ℕ) → S < 2 ^ 32 → ((q : ℕ) → has x q ≡ steps T kinds p q) → (bit_and x S ≡ 0 → ⊥) → leads_into T kinds S p ≡ true
unfolding leads_into nonempty
leads_yes T kinds S p x small h ne =
    let (q, l, t) = in_some 32 (bit_and x S) (lt_of_le_of_lt (and_le_r x S) small) (rw (ne_eqb _ 0 ne)) in
    let (a, b) = and_in _ _ (sym (has-and x S q) ∙ t) in
    any_below_of 32 _ q l (and_of (sym (h q) ∙ a) b)

pub leads_no : (T : List ℕ) (kinds S p x : ℕ) → ((q : ℕ) → has x q ≡ steps T kinds p q) → bit_and x S ≡ 0 → leads_into T kinds S p ≡ false
unfolding leads_into
leads_no T kinds S p x h e =
    eq-false_of_not-eq-true
    (λ t. let (q, _, y) = any_below_in 32 _ t in
    let (a, b) = and_in _ _ y in
    false≢true (sym (has-none q) ∙ ap (λ (n : ℕ). has n q) (sym e) ∙ has-and x S q ∙ and_of (h q ∙ a) b))

-- the states of a row with the word i
exactly : (i d : ℕ) → Yes (between i (i + 1) d) → d ≡ i
exactly i d t = let (a, b) = between_in i (i + 1) d t in omega arith

-- those of them that pass a test f
row-passes : (A W : List ℕ) (Q v i s x : ℕ) (f : ℕ → Bool) → W ≡ row A Q v → AliveRow s W Q i (i + 1) → ((p : ℕ) → has x p ≡ (has s p and f p))
    → x ≡ set_below Q (λ p. eqb (get_or A (v * Q + p) 0) i and f p)
row-passes A W Q v i s x f e h k =
    set_is Q x _ (λ p. yes_same
    (λ t. let (a, b) = and_in _ _ (sym (k p) ∙ t) in
    let (l, d) = and_in _ _ (sym (h p) ∙ a) in
    and_of l (and_of (eqb_of (sym (word p (ltb-true p Q l)) ∙ exactly i _ d)) b))
    (λ t. let (l, y) = and_in _ _ t in
    let (d, b) = and_in _ _ y in
    let z : get_or W p 0 ≡ i = word p (ltb-true p Q l) ∙ eqb-true _ _ d in
    k p ∙ and_of (h p ∙ and_of l (between_yes i (i + 1) _ (omega arith) (omega arith))) b))
  where
    word : (p : ℕ) → p < Q → get_or W p 0 ≡ get_or A (v * Q + p) 0
    word p l = ap (λ (w : List ℕ). get_or w p 0) e ∙ row_at A Q v p l

pub over-is : (T A W : List ℕ) (Q u kinds i S s x : ℕ) → W ≡ row A Q u → AliveRow s W Q i (i + 1) → Leading T kinds s S x → x ≡ over T A Q u kinds i S
unfolding over
over-is T A W Q u kinds i S s x e h k = row-passes A W Q u i s x (leads_into T kinds S) e h k

pub ends_is : (A W : List ℕ) (Q t accept n s : ℕ) → W ≡ row A Q t → AliveRow s W Q n (n + 1) → bit_and s accept ≡ ends_at A Q t accept n
unfolding ends_at
ends_is A W Q t accept n s e h = row-passes A W Q t n s _ (has accept) e h (has-and s accept)
