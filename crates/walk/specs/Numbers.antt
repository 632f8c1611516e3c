-- The words in which the rest is written: tests over numbers, sets of numbers held in a number, tables, lists that are looked through.
use Rattle.std.specs.Prelude.{ℕ, zero, suc, ◌+◌, ◌/◌, ◌%◌, ◌^◌, Bool, true, false, ◌||◌, cond, List, [], ◌∷◌, ltb, eqb}
use Rattle.std.specs.Int.Bits.{bit_or}

-- both tests pass
infixr 35 ◌and◌
unfoldable pub ◌and◌ : Bool → Bool → Bool
true and b = b
false and b = false

-- some number below n passes
unfoldable pub any_below : ℕ → (ℕ → Bool) → Bool
any_below zero p = false
any_below (suc n) p = p n || any_below n p

-- the least number below b that passes, or b
unfoldable pub least : (ℕ → Bool) → ℕ → ℕ
least p zero = zero
least p (suc b) = elim (p zero) [ true ↦ zero | false ↦ suc (least (λ n. p (suc n)) b) ]

-- the n values f 0, f 1, ..
unfoldable pub table {ℓ} : {A : Type ℓ} → ℕ → (ℕ → A) → List A
table zero f = []
table (suc n) f = f zero ∷ table n (λ i. f (suc i))

-- 01: "as a 32-bit set, bit k for kind k": k is in the set s
unfoldable pub has : ℕ → ℕ → Bool
has s k = eqb (s / 2 ^ k % 2) 1

-- no number from n on is in the set s
unfoldable pub only_below : ℕ → ℕ → Bool
only_below n s = ltb s (2 ^ n)

-- the set of the numbers below n that pass
unfoldable pub set_below : ℕ → (ℕ → Bool) → ℕ
set_below zero p = 0
set_below (suc n) p = cond (p n) (bit_or (set_below n p) (2 ^ n)) (set_below n p)

-- how many numbers of the list pass
unfoldable pub tally : (ℕ → Bool) → List ℕ → ℕ
tally p [] = 0
tally p (x ∷ xs) = cond (p x) 1 0 + tally p xs

-- the two lists are equal
unfoldable pub same : List ℕ → List ℕ → Bool
same [] [] = true
same [] (y ∷ ys) = false
same (x ∷ xs) [] = false
same (x ∷ xs) (y ∷ ys) = eqb x y and same xs ys
