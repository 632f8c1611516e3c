-- What the tests behind a list of rows answer: the first that is given.
use Rattle.std.specs.Prelude.{true, false, List, [], ◌∷◌, Result, Ok, Err}
use Rattle.walk.specs.declared.Refused.{Refused}
use Rattle.walk.specs.Refusals.{Row}

unfoldable pub first_given : List Row → Result (Unit {0}) Refused
first_given [] = Ok tt
first_given (x ∷ xs) = elim x.given [ true ↦ Err (record { refusal = x.name; place = x.place }) | false ↦ first_given xs ]
