-- The laws of the tests over numbers, of tables and of lists of numbers: what a test that passes says, and when it passes.
use Prim.Native.Nat.{ℕ, zero, suc, ◌+◌, ◌≤◌, ◌<◌, zero-le}
use mathlib.Core.Path.{◌≡◌, refl, sym, subst, ap, ap₂, ◌∙◌}
use mathlib.Core.Bool.{Bool, true, false, ◌||◌, false≢true, cond}
use mathlib.Core.List.{List, [], ◌∷◌}
use mathlib.Mathlib.Data.Bool.Basic.{or_inl, or_inr}
use mathlib.Core.Logic.{◌⊎◌, inl, inr, ⊎_elim}
use lib.ListN.{length, get_or}
use native.Mathlib.Nat.{not-suc-le-zero, le_of_suc-le-suc, eq-or-lt_of_le, lt-suc_self}
use native.Mathlib.Omega.{arith}
use lib.Dec.{eqb}
use borrow.Author.Tests.{eqb-true, eq-eqb}
use Rattle.walk.specs.Numbers.{◌and◌, any_below, least, table, tally, same}

abbrev pub Yes : Bool → Type 0
Yes b = b ≡ true

-- two constructors are at odds: `cc` makes 0 and 1 equal of them
pub clash {ℓ} : {A : Type ℓ} → ◌≡◌ {A = ℕ} 0 1 → A
clash e = absurd (omega arith)

pub and_in : (a b : Bool) → Yes (a and b) → Yes a × Yes b
unfolding ◌and◌
and_in true b t = (refl, t)
and_in false b t = absurd (false≢true t)

pub and_of : {a b : Bool} → Yes a → Yes b → Yes (a and b)
unfolding ◌and◌
and_of {a} {b} s t = rw (s, t)

pub or_in : (a b : Bool) → Yes (a || b) → Yes a ⊎ Yes b
or_in true b t = inl refl
or_in false b t = inr t

pub eqb_of : {m n : ℕ} → m ≡ n → Yes (eqb m n)
eqb_of {m} {n} e = eq-eqb m n e

pub any_below_in : (n : ℕ) (p : ℕ → Bool) → Yes (any_below n p) → (i : ℕ) × (i < n) × Yes (p i)
unfolding any_below
any_below_in zero p t = absurd (false≢true t)
any_below_in (suc n) p t =
    ⊎_elim (λ h. (n, lt-suc_self n, h)) (λ h. let r = any_below_in n p h in (r.0, omega (arith, r.1), r.2)) (or_in (p n) (any_below n p) t)

pub any_below_of : (n : ℕ) (p : ℕ → Bool) (i : ℕ) → i < n → Yes (p i) → Yes (any_below n p)
unfolding any_below
any_below_of zero p i h t = absurd (not-suc-le-zero h)
any_below_of (suc n) p i h t =
    ⊎_elim (λ e. or_inl (p n) (any_below n p) (subst (λ (k : ℕ). Yes (p k)) e t)) (λ l. or_inr (p n) (any_below n p) (any_below_of n p i l t)) (eq-or-lt_of_le (le_of_suc-le-suc h))

-- the least number: it passes if it is below b, and none before it passes
pub record Least (p : ℕ → Bool) (b k : ℕ) : Type 0 where
  pub passes : k < b → Yes (p k)
  pub none_before : (m : ℕ) → m < k → Yes (p m) → ⊥

pub least-is : (p : ℕ → Bool) (b : ℕ) → Least p b (least p b)
unfolding least
least-is p zero = record { passes = λ h. absurd (not-suc-le-zero h); none_before = λ m h. absurd (not-suc-le-zero h) }
least-is p (suc b) = go (p zero) refl (least-is (λ n. p (suc n)) b)
  where
    go : (t : Bool) → p zero ≡ t → Least (λ n. p (suc n)) b (least (λ n. p (suc n)) b)
        → Least p (suc b) (elim t [ true ↦ zero | false ↦ suc (least (λ n. p (suc n)) b) ])
    go true e r = record { passes = λ h. e; none_before = λ m h. absurd (not-suc-le-zero h) }
    go false e r = record { passes = λ h. r.passes (le_of_suc-le-suc h); none_before = nb }
      where
        nb : (m : ℕ) → m < suc (least (λ n. p (suc n)) b) → Yes (p m) → ⊥
        nb zero h t = false≢true (sym e ∙ t)
        nb (suc m) h t = r.none_before m (le_of_suc-le-suc h) t

least-le : (p : ℕ → Bool) (b : ℕ) → least p b ≤ b
unfolding least
least-le p zero = zero-le
least-le p (suc b) = go (p zero) (least-le (λ n. p (suc n)) b)
  where
    go : (t : Bool) → least (λ n. p (suc n)) b ≤ b → elim t [ true ↦ zero | false ↦ suc (least (λ n. p (suc n)) b) ] ≤ suc b
    go true h = zero-le
    go false h = omega arith

-- and it is known by that
pub least_one : (p : ℕ → Bool) (b k : ℕ) → k ≤ b → Least p b k → k ≡ least p b
least_one p b k l K =
    let L = least-is p b in
    let h = least-le p b in
    let x : ¬ (least p b < k) = λ m. K.none_before (least p b) m (L.passes (omega arith)) in
    let y : ¬ (k < least p b) = λ m. L.none_before k m (K.passes (omega arith)) in
    omega arith

-- d is the least number of all that passes
pub record FirstAt (p : ℕ → Bool) (d : ℕ) : Type 0 where
  pub met : Yes (p d)
  pub least : (m : ℕ) → m < d → Yes (p m) → ⊥

pub first_one : (p : ℕ → Bool) (d e : ℕ) → FirstAt p d → FirstAt p e → d ≡ e
first_one p d e D E =
    let x : ¬ (d < e) = λ h. E.least d h D.met in
    let y : ¬ (e < d) = λ h. D.least e h E.met in
    omega arith

-- where one number passes there is a least
pub first_below : (p : ℕ → Bool) (m : ℕ) → Yes (p m) → (d : ℕ) × (d ≤ m) × FirstAt p d
first_below p m t =
    let L = least-is p (suc m) in
    let b : least p (suc m) ≤ m = (let n : ¬ (m < least p (suc m)) = λ h. L.none_before m h t in omega arith) in
    (least p (suc m), b, record { met = L.passes (omega arith); least = L.none_before })

pub length-table {ℓ} : {A : Type ℓ} (n : ℕ) (f : ℕ → A) → length (table n f) ≡ n
unfolding table
length-table zero f = refl
length-table (suc n) f = ap suc (length-table n (λ i. f (suc i)))

pub getD-table {ℓ} : {A : Type ℓ} (n : ℕ) (f : ℕ → A) (i : ℕ) (d : A) → i < n → get_or (table n f) i d ≡ f i
unfolding table
getD-table zero f i d h = absurd (not-suc-le-zero h)
getD-table (suc n) f zero d h = refl
getD-table (suc n) f (suc i) d h = getD-table n (λ j. f (suc j)) i d (le_of_suc-le-suc h)

pub table-ext {ℓ} : {A : Type ℓ} (n : ℕ) (f g : ℕ → A) → ((i : ℕ) → i < n → f i ≡ g i) → table n f ≡ table n g
unfolding table
table-ext zero f g h = refl
table-ext (suc n) f g h = ap₂ ◌∷◌ (h 0 (omega arith)) (table-ext n (λ i. f (suc i)) (λ i. g (suc i)) (λ i l. h (suc i) (omega arith)))

pub yes_same : {a b : Bool} → (Yes a → Yes b) → (Yes b → Yes a) → a ≡ b
yes_same {a = true} {b} f g = sym (f refl)
yes_same {a = false} {b = true} f g = g refl
yes_same {a = false} {b = false} f g = refl

-- equal lists
pub same_refl : (c : List ℕ) → Yes (same c c)
unfolding same
same_refl [] = refl
same_refl (x ∷ xs) = and_of (eqb_of {m = x} refl) (same_refl xs)

pub same-eq : (c d : List ℕ) → Yes (same c d) → c ≡ d
unfolding same
same-eq [] [] t = refl
same-eq [] (y ∷ ys) t = absurd (false≢true t)
same-eq (x ∷ xs) [] t = absurd (false≢true t)
same-eq (x ∷ xs) (y ∷ ys) t = let (a, b) = and_in _ _ t in ap₂ ◌∷◌ (eqb-true _ _ a) (same-eq xs ys b)

pub same_of : {c d : List ℕ} → c ≡ d → Yes (same c d)
same_of {c} e = rw (← e) (same_refl c)

-- a tally is above 0 exactly where a number of the list passes
pub tally_in : (p : ℕ → Bool) (l : List ℕ) → 0 < tally p l → (i : ℕ) × (i < length l) × Yes (p (get_or l i 0))
unfolding tally
tally_in p [] h = absurd (not-suc-le-zero h)
tally_in p (x ∷ xs) h = go (p x) refl h (λ k. tally_in p xs k)
  where
    go : (t : Bool) → p x ≡ t → 0 < cond t 1 0 + tally p xs → (0 < tally p xs → (i : ℕ) × (i < length xs) × Yes (p (get_or xs i 0)))
        → (i : ℕ) × (i < suc (length xs)) × Yes (p (get_or (x ∷ xs) i 0))
    go true e h ih = (0, omega arith, e)
    go false e h ih = let (i, l, t) = ih (omega arith) in (suc i, omega arith, t)

pub tally_of : (p : ℕ → Bool) (l : List ℕ) (i : ℕ) → i < length l → Yes (p (get_or l i 0)) → 0 < tally p l
unfolding tally
tally_of p [] i h t = absurd (not-suc-le-zero h)
tally_of p (x ∷ xs) zero h t = rw t (omega arith)
tally_of p (x ∷ xs) (suc i) h t = let k = tally_of p xs i (le_of_suc-le-suc h) t in omega arith
