-- The moves of a caller that holds them in an array.
use Rattle.std.specs.Prelude.{ℕ, List, get_or}
use Rattle.walk.specs.declared.Move.{Move}
use Rattle.walk.specs.Numbers.{table}
use Rattle.walk.specs.Condition.{no_move}

-- its first n rows, as a list. Past the array's end a row is all 0; so many are more than the ceiling, and then no call looks at a row
abbrev pub rows_of : ℕ → List Move → List Move
rows_of n rows = table n (λ j. get_or rows j no_move)
