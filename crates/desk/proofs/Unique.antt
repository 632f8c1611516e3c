-- What meets the promise of a public call is one: two results of one call on one input, as the Rattle values that are handed back and as the words
-- that are left, are equal. What an answer says tells its cases apart, and the number of a refusal tells its name (`Unique` of `walk`).
use Prim.Native.Nat.{ℕ}
use mathlib.Core.Path.{◌≡◌, refl}
use mathlib.Core.List.{List}
use Rattle.std.specs.Prelude.{Result}
use Rattle.walk.specs.declared.Refused.{Refused}
use Rattle.walk.specs.declared.First.{First}
use Rattle.walk.specs.declared.Next.{Next}
use Rattle.walk.specs.Question.{Question}
use Rattle.walk.specs.Calls.{Progress, start, round, first, next}
use Rattle.walk.specs.Answers.{said_first, said_next, Meets}
use Rattle.walk.proofs.Unique.{unique_said, unique_first, unique_next}
use Rattle.desk.specs.declared.Prepared.{Prepared}
use Rattle.desk.specs.Answers.{progress_of, said_prepared}

abbrev prepared_of : Progress → Prepared
prepared_of a = record { rounds = record { done = a.done }; status = a.status }

prepared-back : (a : Prepared) → prepared_of (progress_of a) ≡ a
prepared-back a = refl

module _ (D : Question) where
  pub one_start : (area : List ℕ) (a b : Result Prepared Refused) (v w : List ℕ) → Meets (start D area) (said_prepared a) v → Meets (start D area) (said_prepared b) w → (a ≡ b) × (v ≡ w)
  one_start area = unique_said progress_of prepared_of prepared-back (start D area)

  pub one_round : (done : ℕ) (area : List ℕ) (a b : Result Prepared Refused) (v w : List ℕ) → Meets (round D done area) (said_prepared a) v → Meets (round D done area) (said_prepared b) w → (a ≡ b) × (v ≡ w)
  one_round done area = unique_said progress_of prepared_of prepared-back (round D done area)

  pub one_first : (done : ℕ) (area chain : List ℕ) (a b : Result First Refused) (v w : List ℕ) → Meets (first D done area chain) (said_first a) v → Meets (first D done area chain) (said_first b) w → (a ≡ b) × (v ≡ w)
  one_first done area chain = unique_first (List ℕ) (first D done area chain)

  pub one_next : (done : ℕ) (area chain : List ℕ) (a b : Result Next Refused) (v w : List ℕ) → Meets (next D done area chain) (said_next a) v → Meets (next D done area chain) (said_next b) w → (a ≡ b) × (v ≡ w)
  one_next done area chain = unique_next (List ℕ) (next D done area chain)
