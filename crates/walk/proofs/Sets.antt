-- The laws of sets held in a number: which numbers are in a set that is made of a test, and that a set with none in it is 0.
use mathlib.Core.Path.{◌≡◌, refl, sym, subst, ap, ◌∙◌}
use mathlib.Core.Logic.{◌↔◌, ◌⊎◌, inl, inr, ⊎_elim}
use mathlib.Core.Bool.{Bool, true, false, not, false≢true, cond}
use Prim.Native.Nat.{ℕ, zero, suc, ◌+◌, ◌-◌, ◌*◌, ◌/◌, ◌%◌, ◌^◌, ◌≤◌, ◌<◌, max}
use native.Mathlib.Nat.{one-mul, div-eq_of_lt, le_of_suc-le-suc, eq-or-lt_of_le, lt-suc_self, pow-suc, lt_trans, lt_of_lt_of_le, lt_of_le_of_lt, le-div_iff_mul-le, div-le_self, not-suc-le-zero, div_self, zero-div, div-eq_of_lt-le, mod-lt, div-one}
use native.Mathlib.Omega.{arith, ne_cases, max_cases}
use lib.Arith.{digits_mod}
use lib.Dec.{lit<, eqb, ltb}
use lib.Count.{leading_top}
use lib.Pow.{pow_pos, pow-lt, pow_mono, pow-add, shl-shr, shr-shr}
use lib.Bits.{bit_or, or_lt, or_shr, or_step, shifted_even}
use mathlib.Mathlib.Data.Bool.Basic.{eq-true_of_not-eq-false}
use borrow.Author.Tests.{eqb-true, eqb-false, ltb-true, ltb-false, lt-ltb, ne_eqb}
use Rattle.walk.specs.Numbers.{has, ◌and◌, set_below}
use Rattle.walk.proofs.Numbers.{Yes, eqb_of, and_in, and_of, yes_same}

-- the set is not empty
unfoldable pub nonempty : ℕ → Bool
nonempty s = not (eqb s 0)

or_digit : (a b j : ℕ) → bit_or a b / 2 ^ j % 2 ≡ max (a / 2 ^ j % 2) (b / 2 ^ j % 2)
or_digit a b j =
    let x = a / 2 ^ j in
    let y = b / 2 ^ j in
    ap (λ (n : ℕ). n % 2) (or_shr a b j ∙ or_step x y)
    ∙ digits_mod (bit_or (x / 2) (y / 2)) (let z : max (x % 2) (y % 2) < 2 = omega arith in z)

pow_digit : (q : ℕ) → 2 ^ q / 2 ^ q % 2 ≡ 1
pow_digit q = ap (λ (n : ℕ). n % 2) (div_self (pow_pos q))

pow_other : (q j : ℕ) → (j ≡ q → ⊥) → 2 ^ q / 2 ^ j % 2 ≡ 0
pow_other q j ne = ne_cases j q (2 ^ q / 2 ^ j % 2 ≡ 0) ne (λ lt. below lt) (λ lt. ap (λ (n : ℕ). n % 2) (div-eq_of_lt (pow-lt lt)))
  where
    below : j < q → 2 ^ q / 2 ^ j % 2 ≡ 0
    below lt =
        let d = q - suc j in
        let e : q ≡ suc d + j = omega (arith, lt) in
        ap (λ (n : ℕ). n / 2 ^ j % 2) (ap (λ (n : ℕ). 2 ^ n) e ∙ pow-add 2 (suc d) j)
        ∙ ap (λ (n : ℕ). n % 2) (shl-shr (2 ^ suc d) j ∙ sym (one-mul (2 ^ suc d)))
        ∙ shifted_even 1 d

-- which numbers are in a set
has_digit : (s q : ℕ) → Yes (has s q) → s / 2 ^ q % 2 ≡ 1
unfolding has
has_digit s q h = eqb-true _ _ h

digit_has : (s q : ℕ) → s / 2 ^ q % 2 ≡ 1 → Yes (has s q)
unfolding has
digit_has s q h = eqb_of {n = 1} h

pub zero_has : (q : ℕ) → Yes (has 0 q) → ⊥
zero_has q h = let e = has_digit 0 q h in let z = zero-div (2 ^ q) in omega arith

pub or-has : (a b q : ℕ) → Yes (has (bit_or a b) q) ↔ (Yes (has a q) ⊎ Yes (has b q))
or-has a b q = (
  λ h. let e = has_digit (bit_or a b) q h in
      max_cases (a / 2 ^ q % 2) (b / 2 ^ q % 2) _ (λ le g. inr (digit_has b q (sym g ∙ sym f ∙ e))) (λ le g. inl (digit_has a q (sym g ∙ sym f ∙ e))),
  λ h. digit_has (bit_or a b) q (f ∙ ⊎_elim (λ k. let e = has_digit a q k in one e) (λ k. let e = has_digit b q k in other e) h),
)
  where
    f : bit_or a b / 2 ^ q % 2 ≡ max (a / 2 ^ q % 2) (b / 2 ^ q % 2)
    f = or_digit a b q

    one : a / 2 ^ q % 2 ≡ 1 → max (a / 2 ^ q % 2) (b / 2 ^ q % 2) ≡ 1
    one e = omega arith

    other : b / 2 ^ q % 2 ≡ 1 → max (a / 2 ^ q % 2) (b / 2 ^ q % 2) ≡ 1
    other e = omega arith

pub pow_in : (n : ℕ) → Yes (has (2 ^ n) n)
pow_in n = digit_has (2 ^ n) n (pow_digit n)

pub pow-has : (n q : ℕ) → Yes (has (2 ^ n) q) → q ≡ n
pow-has n q h = let w = has_digit (2 ^ n) q h in eqb-true q n (eq-true_of_not-eq-false (λ e. let z = pow_other n q (eqb-false q n e) in absurd (omega arith)))

-- a set that is made
pub set_in : (n : ℕ) (p : ℕ → Bool) (q : ℕ) → Yes (has (set_below n p) q) → (q < n) × Yes (p q)
unfolding set_below
set_in zero p q h = absurd (zero_has q h)
set_in (suc n) p q h = go (p n) refl h (λ k. set_in n p q k)
  where
    go : (t : Bool) → p n ≡ t → Yes (has (cond t (bit_or (set_below n p) (2 ^ n)) (set_below n p)) q)
        → (Yes (has (set_below n p) q) → (q < n) × Yes (p q)) → (q < suc n) × Yes (p q)
    go true e h ih =
        ⊎_elim (λ k. let r = ih k in let l : q < n = r.0 in (omega arith, r.1)) (λ k. let z : q ≡ n = pow-has n q k in (omega arith, rw z e)) ((or-has (set_below n p) (2 ^ n) q).0 h)
    go false e h ih = let r = ih h in let l : q < n = r.0 in (omega arith, r.1)

pub set_of : (n : ℕ) (p : ℕ → Bool) (q : ℕ) → q < n → Yes (p q) → Yes (has (set_below n p) q)
unfolding set_below
set_of zero p q l t = absurd (not-suc-le-zero l)
set_of (suc n) p q l t = go (p n) refl (eq-or-lt_of_le (le_of_suc-le-suc l)) (λ k. set_of n p q k t)
  where
    go : (b : Bool) → p n ≡ b → (q ≡ n) ⊎ (q < n) → (q < n → Yes (has (set_below n p) q)) → Yes (has (cond b (bit_or (set_below n p) (2 ^ n)) (set_below n p)) q)
    go true e (inl k) ih = (or-has (set_below n p) (2 ^ n) q).1 (inr (rw k (pow_in n)))
    go true e (inr k) ih = (or-has (set_below n p) (2 ^ n) q).1 (inl (ih k))
    go false e (inl k) ih = absurd (false≢true (sym e ∙ rw k at t))
    go false e (inr k) ih = ih k

pub set_same : (n : ℕ) (f g : ℕ → Bool) → ((q : ℕ) → q < n → f q ≡ g q) → set_below n f ≡ set_below n g
unfolding set_below
set_same zero f g h = refl
set_same (suc n) f g h = rw (h n (omega arith), set_same n f g (λ q l. h q (omega arith)))

-- the empty set
pub some_of : (s q : ℕ) → Yes (has s q) → Yes (nonempty s)
unfolding nonempty
some_of s q h = ap not (ne_eqb s 0 (λ z. zero_has q (rw z at h)))

-- a number that is not 0 has a digit 1 among as many as bound it
digit_of : (n s : ℕ) → s < 2 ^ n → (s ≡ 0 → ⊥) → (q : ℕ) × (q < n) × (s / 2 ^ q % 2 ≡ 1)
digit_of n s l ne =
    let (j, e, lo, hi) = leading_top n s (omega arith) l in
    let h = pow-suc 2 j in
    (j, omega arith, ap (λ (k : ℕ). k % 2) (div-eq_of_lt-le {k = 1} (2 ^ j) (omega arith) (omega arith)))

pub in_some : (n s : ℕ) → s < 2 ^ n → Yes (nonempty s) → (q : ℕ) × (q < n) × Yes (has s q)
unfolding nonempty
in_some n s l h =
    let ne : s ≡ 0 → ⊥ = λ e. false≢true (ap not (sym (eqb_of {n = 0} e)) ∙ h) in
    let (q, lq, d) = digit_of n s l ne in
    (q, lq, digit_has s q d)

pub set_small : (n : ℕ) (p : ℕ → Bool) → set_below n p < 2 ^ n
unfolding set_below
set_small zero p = lit< tt
set_small (suc n) p = go (p n) (set_small n p)
  where
    go : (t : Bool) → set_below n p < 2 ^ n → cond t (bit_or (set_below n p) (2 ^ n)) (set_below n p) < 2 ^ suc n
    go true h = or_lt (suc n) (set_below n p) (2 ^ n) (lt_trans h (pow-lt (lt-suc_self n))) (pow-lt (lt-suc_self n))
    go false h = lt_trans h (pow-lt (lt-suc_self n))

-- a set below 2 ^ n has no number from n on
pub has-below : (n s k : ℕ) → s < 2 ^ n → Yes (has s k) → k < n
has-below n s k l h = go (ltb k n) refl
  where
    go : (t : Bool) → ltb k n ≡ t → k < n
    go true e = ltb-true k n e
    go false e =
        let z : s / 2 ^ k ≡ 0 = div-eq_of_lt (lt_of_lt_of_le l (pow_mono (ltb-false k n e))) in
        let w : s / 2 ^ k % 2 ≡ 0 = ap (λ (i : ℕ). i % 2) z in
        let d = has_digit s k h in
        absurd (omega arith)

lt-pow : (n : ℕ) → n < 2 ^ n
lt-pow zero = lit< tt
lt-pow (suc n) = let h = lt-pow n in let e : 2 ^ suc n ≡ 2 ^ n * 2 = pow-suc 2 n in omega arith

-- and only such a set
pub below-has : (n s : ℕ) → ((k : ℕ) → Yes (has s k) → k < n) → s < 2 ^ n
below-has n s h = go (ltb s (2 ^ n)) refl
  where
    go : (t : Bool) → ltb s (2 ^ n) ≡ t → s < 2 ^ n
    go true e = ltb-true s (2 ^ n) e
    go false e =
        let m = s / 2 ^ n in
        let one : 1 ≤ m = (le-div_iff_mul-le (pow_pos n)).1 (rw one-mul (ltb-false s (2 ^ n) e)) in
        let small : m < 2 ^ s = lt_of_le_of_lt (div-le_self s (2 ^ n)) (lt-pow s) in
        let (q, _, d) = digit_of s m small (λ z. (let y : m ≡ 0 = z in omega arith)) in
        let k : n + q < n = h (n + q) (digit_has s (n + q) (ap (λ (i : ℕ). i % 2) (sym (shr-shr s n q)) ∙ d)) in
        absurd (omega arith)

-- two numbers with the same elements are equal, so what has the elements of a set that is made is that set
digit_one : (x y : ℕ) → x < 2 → y < 2 → eqb x 1 ≡ eqb y 1 → x ≡ y
digit_one x y hx hy e = go (eqb x 1) refl
  where
    go : (t : Bool) → eqb x 1 ≡ t → x ≡ y
    go true f = let a = eqb-true x 1 f in let b = eqb-true y 1 (sym e ∙ f) in omega arith
    go false f = let a : ¬ (x ≡ 1) = eqb-false x 1 f in let b : ¬ (y ≡ 1) = eqb-false y 1 (sym e ∙ f) in omega arith

same_set : (n a b : ℕ) → a < 2 ^ n → b < 2 ^ n → ((q : ℕ) → has a q ≡ has b q) → a ≡ b
unfolding has
same_set zero a b la lb h = let x : a < 1 = la in let y : b < 1 = lb in omega arith
same_set (suc n) a b la lb h =
    let x : a < 2 ^ n * 2 = subst (λ (k : ℕ). a < k) (pow-suc 2 n) la in
    let y : b < 2 ^ n * 2 = subst (λ (k : ℕ). b < k) (pow-suc 2 n) lb in
    let low : a % 2 ≡ b % 2 =
    digit_one (a % 2) (b % 2) (mod-lt a (lit< tt)) (mod-lt b (lit< tt)) (ap (λ (m : ℕ). eqb (m % 2) 1) (sym (div-one a)) ∙ h 0 ∙ ap (λ (m : ℕ). eqb (m % 2) 1) (div-one b)) in
    let high : a / 2 ≡ b / 2 =
    same_set n (a / 2) (b / 2) (omega arith) (omega arith)
    (λ q. ap (λ (m : ℕ). eqb (m % 2) 1) (shr-shr a 1 q) ∙ h (1 + q) ∙ ap (λ (m : ℕ). eqb (m % 2) 1) (sym (shr-shr b 1 q))) in
    omega arith

pub set_is : (n x : ℕ) (f : ℕ → Bool) → ((q : ℕ) → has x q ≡ (ltb q n and f q)) → x ≡ set_below n f
set_is n x f h =
    same_set n x (set_below n f)
    (below-has n x (λ q t. ltb-true q n (and_in _ _ (sym (h q) ∙ t)).0))
    (set_small n f)
    (λ q. yes_same
    (λ t. let (a, b) = and_in _ _ (sym (h q) ∙ t) in set_of n f q (ltb-true q n a) b)
    (λ t. let (a, b) = set_in n f q t in h q ∙ and_of (lt-ltb q n a) b))
