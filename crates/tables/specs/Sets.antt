-- A walk over a set held in a word, lowest element first.
use Rattle.std.specs.Prelude.{ℕ, ◌+◌, ◌≤◌, ◌<◌, true, false, ◌≡◌, Option}
use Rattle.std.specs.Option.{MatchOption}
use Rattle.walk.specs.Numbers.{has}

-- n is the lowest element of the set from `at` on
pub record LowestFrom (set at n : ℕ) : Type 0 where
  pub from : at ≤ n
  pub below : n < 32
  pub stands : has set n ≡ true
  pub between : (i : ℕ) → at ≤ i → i < n → has set i ≡ false

-- the next element r from `at` on; those after it are still to come, from at' on
abbrev pub Gives : ℕ → ℕ → Option ℕ → ℕ → Type 0
Gives set at r at' = MatchOption r ((i : ℕ) → at ≤ i → has set i ≡ false) (λ n. LowestFrom set at n × (at' ≡ n + 1))
