-- What the checked entry of a number answers.
use Rattle.std.specs.Prelude.{ℕ, ◌<◌, cond, ◌≡◌, ltb, Option, Some, None}
use Rattle.tables.specs.declared.numbers.Number.{Number}

-- the number n of a sort, if it is below the bound
abbrev pub entry : {S : Type 0} → ℕ → ℕ → Option (Number S)
entry n bound = cond (ltb n bound) (Some (record { 0 = n; 1 = record {} })) None

-- the entry of n succeeded and gave r
pub record Entered (r n bound : ℕ) : Type 0 where
  pub is : r ≡ n
  pub below : r < bound
