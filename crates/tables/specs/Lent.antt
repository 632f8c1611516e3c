-- The moves as they are lent to the library's inner crates: their number, and one array with three numbers a move.
use Rattle.std.specs.Prelude.{ℕ, ◌+◌, ◌*◌, List, get_or}
use Rattle.walk.specs.declared.Move.{Move}
use Rattle.walk.specs.Numbers.{table}

-- move j
abbrev pub move_of : List ℕ → ℕ → Move
move_of numbers j = record { from = get_or numbers (3 * j) 0; kind = get_or numbers (3 * j + 1) 0; to = get_or numbers (3 * j + 2) 0 }

abbrev pub moves_of : ℕ → List ℕ → List Move
moves_of n numbers = table n (move_of numbers)
