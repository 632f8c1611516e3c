-- The laws of a set held in a word. Membership in a union is an `||`; bit j of an intersection is the lesser of the two bits, so membership is an
-- `and`. A walk over the elements, lowest first, looks at the set from a place on, shifted down by it: the lowest bit that stands there says where
-- the next element is, that none lies between, and where nothing stands that none is left.
use mathlib.Core.Path.{◌≡◌, refl, sym, ap, subst, ◌∙◌}
use mathlib.Core.Bool.{false, ◌||◌}
use Prim.Native.Nat.{ℕ, zero, suc, ◌+◌, ◌-◌, ◌*◌, ◌/◌, ◌%◌, ◌^◌, ◌≤◌, ◌<◌, min}
use native.Mathlib.Nat.{one-mul, mod-lt, not-suc-le-zero, div-one, le_of_suc-le-suc, div-le_self, lt_of_le_of_lt, lt_trans}
use native.Mathlib.Numerals.{add-one}
use native.Mathlib.Omega.{arith}
use lib.Arith.{digits_mod}
use lib.Bits.{bit_or, bit_and, and_shr, and_step}
use lib.Count.{count_trailing_zeros, under}
use lib.Dec.{lit<, eqb}
use lib.Pow.{shl_exact, shr-shr, shr_lt}
use mathlib.Core.Logic.{⊎_elim}
use mathlib.Mathlib.Data.Bool.Basic.{or_inl, or_inr, eq-false_of_not-eq-true}
use borrow.Author.Tests.{eqb-true}
use Rattle.walk.specs.Numbers.{has, ◌and◌}
use Rattle.walk.proofs.Numbers.{Yes, or_in, eqb_of, yes_same}
use Rattle.walk.proofs.Sets.{or-has, pow-has, pow_in, zero_has, has-below}
use Rattle.tables.specs.Sets.{LowestFrom}

-- a union
pub has-or : (a b j : ℕ) → has (bit_or a b) j ≡ (has a j || has b j)
has-or a b j =
    let L = or-has a b j in
    yes_same (λ h. ⊎_elim (λ x. or_inl (has a j) (has b j) x) (λ x. or_inr (has a j) (has b j) x) (L.0 h)) (λ h. L.1 (or_in (has a j) (has b j) h))

-- an intersection
digit_and : (x y : ℕ) → x < 2 → y < 2 → eqb (min x y) 1 ≡ (eqb x 1 and eqb y 1)
unfolding ◌and◌
digit_and zero zero hx hy = refl
digit_and zero (suc zero) hx hy = refl
digit_and (suc zero) zero hx hy = refl
digit_and (suc zero) (suc zero) hx hy = refl
digit_and (suc (suc x)) y hx hy = absurd (omega arith)
digit_and zero (suc (suc y)) hx hy = absurd (omega arith)
digit_and (suc zero) (suc (suc y)) hx hy = absurd (omega arith)

and_digit : (a b j : ℕ) → bit_and a b / 2 ^ j % 2 ≡ min (a / 2 ^ j % 2) (b / 2 ^ j % 2)
and_digit a b j =
    let x = a / 2 ^ j in
    let y = b / 2 ^ j in
    ap (λ (n : ℕ). n % 2) (and_shr a b j ∙ and_step x y)
    ∙ digits_mod (bit_and (x / 2) (y / 2)) (let z : min (x % 2) (y % 2) < 2 = omega arith in z)

pub has-and : (a b j : ℕ) → has (bit_and a b) j ≡ (has a j and has b j)
unfolding has
has-and a b j = ap (λ (n : ℕ). eqb n 1) (and_digit a b j) ∙ digit_and _ _ (mod-lt (a / 2 ^ j) (lit< tt)) (mod-lt (b / 2 ^ j) (lit< tt))

-- one element
pub one_shl : (q : ℕ) → q < 32 → 1 * 2 ^ q % 4294967296 ≡ 2 ^ q
one_shl q lt = shl_exact 1 q 32 (lit< tt) (omega (arith, lt)) ∙ one-mul (2 ^ q)

pub one_is : (q j : ℕ) → has (2 ^ q) j ≡ eqb q j
one_is q j = yes_same (λ h. eqb_of (sym (pow-has q j h))) (λ e. subst (λ (n : ℕ). Yes (has (2 ^ q) n)) (eqb-true q j e) (pow_in q))

-- none, and those from k on
pub has-none : (j : ℕ) → has 0 j ≡ false
has-none j = eq-false_of_not-eq-true (zero_has j)

has-shr : (n k i : ℕ) → has (n / 2 ^ k) i ≡ has n (k + i)
unfolding has
has-shr n k i = ap (λ (m : ℕ). eqb (m % 2) 1) (shr-shr n k i)

-- the lowest element, below 2 ^ k
record Low (k n z : ℕ) : Type 0 where
  below : z < k
  stands : Yes (has n z)
  first : (i : ℕ) → i < z → has n i ≡ false

has-zero : (n : ℕ) → has n 0 ≡ eqb (n % 2) 1
unfolding has
has-zero n = ap (λ (m : ℕ). eqb (m % 2) 1) (div-one n)

has-suc : (n i : ℕ) → has n (suc i) ≡ has (n / 2) i
has-suc n i = sym (has-shr n 1 i ∙ ap (λ (m : ℕ). has n m) (let z : 1 + i ≡ suc i = omega arith in z))

low : (k n : ℕ) → 0 < n → n < 2 ^ k → Low k n (count_trailing_zeros k n)
unfolding count_trailing_zeros
low zero n h l = absurd (omega arith)
low (suc k) n h l = go (λ p. low k (n / 2) p (shr_lt k 1 (subst (λ (x : ℕ). n < 2 ^ x) (sym (add-one k)) l))) (n % 2) refl
  where
    firsts : n % 2 ≡ 0 → Low k (n / 2) (count_trailing_zeros k (n / 2)) → (i : ℕ) → i < suc (count_trailing_zeros k (n / 2)) → has n i ≡ false
    firsts e R zero h = has-zero n ∙ ap (λ (m : ℕ). eqb m 1) e
    firsts e R (suc i) h = has-suc n i ∙ R.first i (le_of_suc-le-suc h)

    go : (0 < n / 2 → Low k (n / 2) (count_trailing_zeros k (n / 2))) → (d : ℕ) → n % 2 ≡ d → Low (suc k) n (under d (count_trailing_zeros k (n / 2)))
    go rest zero e =
        let R = rest (omega arith) in
        record { below = omega (arith, R.below); stands = has-suc n _ ∙ R.stands; first = firsts e R }
    go rest (suc d) e =
        let one : n % 2 ≡ 1 = omega arith in
        record { below = omega arith; stands = has-zero n ∙ ap (λ (m : ℕ). eqb m 1) one; first = λ i h. absurd (not-suc-le-zero h) }

-- over a set from `at` on, as the code looks at it: the lowest element, or none
pub lowest_from : (set at : ℕ) → set < 2 ^ 32 → ¬ (set / 2 ^ at ≡ 0) → LowestFrom set at (at + count_trailing_zeros 64 (set / 2 ^ at))
lowest_from set at small ne = record { from = omega arith; below = has-below 32 set (at + z) small st; stands = st; between = bt }
  where
    rest : ℕ
    rest = set / 2 ^ at

    z : ℕ
    z = count_trailing_zeros 64 (set / 2 ^ at)

    L : Low 64 (set / 2 ^ at) (count_trailing_zeros 64 (set / 2 ^ at))
    L = low 64 (set / 2 ^ at) (let p : ¬ (set / 2 ^ at ≡ 0) = ne in omega arith) (lt_of_le_of_lt (div-le_self set (2 ^ at)) (lt_trans small (lit< tt)))

    st : Yes (has set (at + count_trailing_zeros 64 (set / 2 ^ at)))
    st = sym (has-shr set at (count_trailing_zeros 64 (set / 2 ^ at))) ∙ L.stands

    bt : (i : ℕ) → at ≤ i → i < at + count_trailing_zeros 64 (set / 2 ^ at) → has set i ≡ false
    bt i h l =
        let j = i - at in
        let x : i ≡ at + j = omega arith in
        rw x (sym (has-shr set at j) ∙ L.first j (omega arith))

pub none_from : (set at : ℕ) → set / 2 ^ at ≡ 0 → (i : ℕ) → at ≤ i → has set i ≡ false
none_from set at e i h =
    let j = i - at in
    let x : i ≡ at + j = omega arith in
    rw x (sym (has-shr set at j) ∙ ap (λ (n : ℕ). has n j) e ∙ has-none j)
