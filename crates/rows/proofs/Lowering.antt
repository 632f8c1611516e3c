-- Lowering a row by offers: by none, by one, by those of two steps after each other, by those of a loop over the elements of a set or over
-- numbers. A loop's invariant is that the row is the first one lowered by the offers of what was passed.
use Prim.Native.Nat.{ℕ, ◌+◌, ◌/◌, ◌^◌, ◌≤◌, ◌<◌}
use mathlib.Core.Path.{◌≡◌, refl, sym, ◌∙◌, subst, ap}
use mathlib.Core.Bool.{Bool, true, false, false≢true}
use mathlib.Core.List.{List}
use mathlib.Core.Logic.{◌⊎◌, inl, inr, ⊎_elim}
use native.Mathlib.Omega.{arith}
use native.Mathlib.Nat.{not-suc-le-zero, le_trans, le_refl}
use lib.Dec.{ltb, eqb}
use lib.ListN.{length, get_or, set, length-set}
use lib.Seq.{get_or-set_same, get_or-set_other}
use borrow.Author.Tests.{eqb-true, eqb-false, ltb-true, ltb-false}
use Rattle.walk.specs.Numbers.{has}
use Rattle.walk.proofs.Numbers.{and_in}
use Rattle.tables.specs.Sets.{LowestFrom}
use Rattle.tables.proofs.SetLaws.{has-and, has-none, none_from}
use Rattle.rows.specs.Offers.{Lowered, One, Each, Between, Along}

lowered_none : (P : ℕ → ℕ → Type 0) (b : List ℕ) → length b ≡ 32 → ((q w : ℕ) → P q w → ⊥) → Lowered P b b
lowered_none P b e never = record { size = e; keeps = λ q h. le_refl _; takes = λ q w h p. absurd (never q w p); comes = λ q h. inl refl }

-- first by P and then by P': by both
lowered_then : (P P' R : ℕ → ℕ → Type 0) (b b' b'' : List ℕ) → Lowered P b b' → Lowered P' b' b'' → ((q w : ℕ) → R q w → P q w ⊎ P' q w) →
    ((q w : ℕ) → P q w → R q w) → ((q w : ℕ) → P' q w → R q w) → Lowered R b b''
lowered_then P P' R b b' b'' L M split f g = record { size = M.size; keeps = λ q h. le_trans (M.keeps q h) (L.keeps q h); takes = tk; comes = cm }
  where
    tk : (q w : ℕ) → q < 32 → R q w → get_or b'' q 0 ≤ w
    tk q w h x = ⊎_elim (λ p. le_trans (M.keeps q h) (L.takes q w h p)) (λ p. M.takes q w h p) (split q w x)

    old : (q : ℕ) → get_or b'' q 0 ≡ get_or b' q 0 → (get_or b' q 0 ≡ get_or b q 0) ⊎ P q (get_or b' q 0) → (get_or b'' q 0 ≡ get_or b q 0) ⊎ R q (get_or b'' q 0)
    old q e (inl k) = inl (e ∙ k)
    old q e (inr p) = inr (f q _ (subst (λ (w : ℕ). P q w) (sym e) p))

    new : (q : ℕ) → q < 32 → (get_or b'' q 0 ≡ get_or b' q 0) ⊎ P' q (get_or b'' q 0) → (get_or b'' q 0 ≡ get_or b q 0) ⊎ R q (get_or b'' q 0)
    new q h (inl e) = old q e (L.comes q h)
    new q h (inr p) = inr (g q _ p)

    cm : (q : ℕ) → q < 32 → (get_or b'' q 0 ≡ get_or b q 0) ⊎ R q (get_or b'' q 0)
    cm q h = new q h (M.comes q h)

-- the same offers, said otherwise
pub lowered_as : (P R : ℕ → ℕ → Type 0) (b b' : List ℕ) → Lowered P b b' → ((q w : ℕ) → R q w → P q w) → ((q w : ℕ) → P q w → R q w) → Lowered R b b'
lowered_as P R b b' L f g = record { size = L.size; keeps = L.keeps; takes = λ q w h x. L.takes q w h (f q w x); comes = λ q h. go q (L.comes q h) }
  where
    go : (q : ℕ) → (get_or b' q 0 ≡ get_or b q 0) ⊎ P q (get_or b' q 0) → (get_or b' q 0 ≡ get_or b q 0) ⊎ R q (get_or b' q 0)
    go q (inl e) = inl e
    go q (inr p) = inr (g q _ p)

-- a loop over the elements of a set
pub each_none : (s : ℕ) (P : ℕ → ℕ → ℕ → Type 0) (b : List ℕ) → length b ≡ 32 → Lowered (Each s P 0) b b
each_none s P b e = lowered_none (Each s P 0) b e (λ q w x. not-suc-le-zero x.1)

pub each_more : (s at n : ℕ) (P : ℕ → ℕ → ℕ → Type 0) (b b' b'' : List ℕ) → LowestFrom s at n → Lowered (Each s P at) b b' → Lowered (P n) b' b''
    → Lowered (Each s P (n + 1)) b b''
each_more s at n P b b' b'' W L M = lowered_then (Each s P at) (P n) (Each s P (n + 1)) b b' b'' L M split
    (λ q w x. (x.0, omega (arith, x.1, W.from), x.2, x.3)) (λ q w x. (n, omega arith, W.stands, x))
  where
    split : (q w : ℕ) → Each s P (n + 1) q w → Each s P at q w ⊎ P n q w
    split q w (i, l, t, x) = go (ltb i at) refl (eqb i n) refl
      where
        go : (c : Bool) → ltb i at ≡ c → (d : Bool) → eqb i n ≡ d → Each s P at q w ⊎ P n q w
        go true e d f = inl (i, ltb-true i at e, t, x)
        go false e true f = inr (subst (λ (j : ℕ). P j q w) (eqb-true i n f) x)
        go false e false f = let no : ¬ (i ≡ n) = eqb-false i n f in let ge = ltb-false i at e in absurd
            (false≢true (sym (W.between i ge (let m : i < n = omega arith in m)) ∙ t))

pub each_end : (s n : ℕ) (P : ℕ → ℕ → ℕ → Type 0) (b b' : List ℕ) → n ≤ 32 → 0 ≡ s / 2 ^ n → Lowered (Each s P n) b b' → Lowered (Each s P 32) b b'
each_end s n P b b' l e L = lowered_as (Each s P n) (Each s P 32) b b' L f (λ q w x. (x.0, omega (arith, x.1), x.2, x.3))
  where
    f : (q w : ℕ) → Each s P 32 q w → Each s P n q w
    f q w (i, m, t, x) = go (ltb i n) refl
      where
        go : (c : Bool) → ltb i n ≡ c → Each s P n q w
        go true h = (i, ltb-true i n h, t, x)
        go false h = absurd (false≢true (sym (none_from s n (sym e) i (ltb-false i n h)) ∙ t))

-- what such a loop keeps: t is the set of the walk, whose elements from `at` on are still to come
abbrev pub Passed : ℕ → ℕ → ℕ → (ℕ → ℕ → ℕ → Type 0) → List ℕ → List ℕ → Type 0
Passed t at s P b b' = (t ≡ s) × Lowered (Each s P at) b b'

pub passed_more : {t t' at at' s n : ℕ} {b b' b'' : List ℕ} (P : ℕ → ℕ → ℕ → Type 0) → (t' ≡ t) × (LowestFrom t at n × (at' ≡ n + 1))
    → Passed t at s P b b' → Lowered (P n) b' b'' → Passed t' at' s P b b''
passed_more {at} {s} {n} {b} {b'} {b''} P (h, (W, e)) (k, L) M = (h ∙ k, rw e (each_more s at n P b b' b'' (rw k at W) L M))

-- one word lowered
pub lower_down : (w q : ℕ) (b : List ℕ) → length b ≡ 32 → q < 32 → w < get_or b q 0 → Lowered (One w q) b (set b q w)
lower_down w q b e h l = record { size = length-set b q w ∙ e; keeps = λ j m. kp j (eqb j q) refl; takes = λ j x m p. tk j x p; comes = λ j m. cm j (eqb j q) refl }
  where
    here : get_or (set b q w) q 0 ≡ w
    here = get_or-set_same b q w 0 (omega arith)

    kp : (j : ℕ) (t : Bool) → eqb j q ≡ t → get_or (set b q w) j 0 ≤ get_or b j 0
    kp j true f = subst (λ (i : ℕ). get_or (set b q w) i 0 ≤ get_or b i 0) (sym (eqb-true j q f)) (omega (arith, here))
    kp j false f = omega (arith, get_or-set_other b q j w 0 (eqb-false j q f))

    tk : (j x : ℕ) → One w q j x → get_or (set b q w) j 0 ≤ x
    tk j x (f, g) = subst (λ (i : ℕ). get_or (set b q w) i 0 ≤ x) (sym f) (omega (arith, here))

    cm : (j : ℕ) (t : Bool) → eqb j q ≡ t → (get_or (set b q w) j 0 ≡ get_or b j 0) ⊎ One w q j (get_or (set b q w) j 0)
    cm j true f = let g = eqb-true j q f in inr (g, ap (λ (i : ℕ). get_or (set b q w) i 0) g ∙ here)
    cm j false f = inl (get_or-set_other b q j w 0 (eqb-false j q f))

pub lower_not : (w q : ℕ) (b : List ℕ) → length b ≡ 32 → get_or b q 0 ≤ w → Lowered (One w q) b b
lower_not w q b e l = record {
  size = e;
  keeps = λ j m. le_refl _;
  takes = λ j x m (f, g). subst (λ (i : ℕ). get_or b i 0 ≤ x) (sym f)
      (omega arith);
  comes = λ j m. inl refl;
}

-- a loop over numbers
pub between_none : (a : ℕ) (P : ℕ → ℕ → ℕ → Type 0) (b : List ℕ) → length b ≡ 32 → Lowered (Between a P a) b b
between_none a P b e = lowered_none (Between a P a) b e (λ q w x. let (i, l, m, y) = x in omega arith)

pub between_more : (a n : ℕ) (P : ℕ → ℕ → ℕ → Type 0) (b b' b'' : List ℕ) → a ≤ n → Lowered (Between a P n) b b' → Lowered (P n) b' b'' → Lowered (Between a P (n + 1)) b b''
between_more a n P b b' b'' l L M = lowered_then (Between a P n) (P n) (Between a P (n + 1)) b b' b'' L M split
    (λ q w x. (x.0, x.1, omega (arith, x.2), x.3)) (λ q w x. (n, l, omega arith, x))
  where
    split : (q w : ℕ) → Between a P (n + 1) q w → Between a P n q w ⊎ P n q w
    split q w (i, k, m, x) = go (ltb i n) refl
      where
        go : (c : Bool) → ltb i n ≡ c → Between a P n q w ⊎ P n q w
        go true e = inl (i, k, ltb-true i n e, x)
        go false e = let ge = ltb-false i n e in inr (subst (λ (j : ℕ). P j q w) (let z : i ≡ n = omega arith in z) x)

-- the offers of a number, said of an equal one
pub lowered_at : {i j : ℕ} {b b' : List ℕ} (P : ℕ → ℕ → ℕ → Type 0) → i ≡ j → Lowered (P i) b b' → Lowered (P j) b b'
lowered_at {b} {b'} P e L = subst (λ (k : ℕ). Lowered (P k) b b') e L

-- along a tie: nothing from a mark of which no state is alive
pub along-none : (T S W b : List ℕ) (live kinds : ℕ) → live ≡ 0 → length b ≡ 32 → Lowered (Along T S W live kinds) b b
along-none T S W b live kinds e size = lowered_none (Along T S W live kinds) b size never
  where
    never : (q w : ℕ) → Along T S W live kinds q w → ⊥
    never q w (k, _, _, (p, _, t, _)) =
        let (l, _) = and_in _ _ (sym (has-and live (get_or S k 0) p) ∙ t) in
        false≢true (sym (ap (λ (n : ℕ). has n p) e ∙ has-none p) ∙ l)
