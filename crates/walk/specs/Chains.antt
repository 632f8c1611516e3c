-- The list: all matching chains of one length, in the order.
use Rattle.std.specs.Prelude.{ℕ, zero, suc, Bool, false, ◌||◌, cond, ltb, eqb}
use mathlib.Core.List.{List, [], ◌∷◌, flat_map, head?}
use Rattle.std.proofs.Math.Option.{Option, none}
use Rattle.walk.specs.Numbers.{has, ◌and◌, any_below, table, set_below, same}
use Rattle.walk.specs.Network.{Network, ties, from_of, to_of}
use Rattle.walk.specs.Condition.{Condition, starts, accepts}
use Rattle.walk.specs.Area.{leads}

-- 01: "of two chains of equal length, look at the last place where they differ; the smaller tie number there comes first": c comes
-- before d
unfoldable pub before : List ℕ → List ℕ → Bool
before [] d = false
before (x ∷ xs) [] = false
before (x ∷ xs) (y ∷ ys) = before xs ys || (same xs ys and ltb x y)

-- all rows of n numbers below b in the order: each first number before each shorter row, the first number varying fastest
unfoldable pub rows : ℕ → ℕ → List (List ℕ)
rows b zero = [] ∷ []
rows b (suc n) = flat_map (λ c. table b (λ e. e ∷ c)) (rows b n)

-- those rows of a list that pass, in their order
unfoldable pub sieve : (List ℕ → Bool) → List (List ℕ) → List (List ℕ)
sieve p [] = []
sieve p (x ∷ xs) = cond (p x) (x ∷ sieve p xs) (sieve p xs)

-- c is a row of the list, and the row after c
unfoldable pub member : List ℕ → List (List ℕ) → Bool
member c [] = false
member c (x ∷ xs) = same x c || member c xs

unfoldable pub after_of : List ℕ → List (List ℕ) → Option (List ℕ)
after_of c [] = none
after_of c (x ∷ xs) = cond (same x c) (head? xs) (after_of c xs)

-- the chain c joins s to t
unfoldable pub joins : Network → ℕ → List ℕ → ℕ → Bool
joins N s [] t = eqb s t
joins N s (e ∷ c) t = ltb e (ties N) and eqb (from_of N e) s and joins N (to_of N e) c t

module _ (N : Network) (C : Condition) where
  -- the set of states that follow the set S along a tie, and along a chain
  unfoldable pub along : ℕ → ℕ → ℕ
  along S e = set_below C.states (λ q. any_below C.states (λ p. has S p and leads N C e p q))

  unfoldable pub reached : ℕ → List ℕ → ℕ
  reached S [] = S
  reached S (e ∷ c) = reached (along S e) c

  -- the chain c goes from s to t and matches: the start states carried along it hold an accepting one
  unfoldable pub fits : ℕ → ℕ → List ℕ → Bool
  fits s t c = joins N s c t and any_below C.states (λ q. accepts C q and has (reached (set_below C.states (starts C)) c) q)

  -- all matching chains of length n from s to t, in the order
  unfoldable pub list : ℕ → ℕ → ℕ → List (List ℕ)
  list s t n = sieve (fits s t) (rows (ties N) n)
