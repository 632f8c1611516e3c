-- The numbers of a list of moves in one array, in the order of the list, as far as there is room.
use Rattle.std.specs.Prelude.{ℕ, zero, suc, ◌+◌, ◌*◌, min, List, length, get_or, set, replicate}
use Rattle.walk.specs.declared.Move.{Move}
use Rattle.walk.specs.Ceilings.{ceilings}
use Rattle.walk.specs.Condition.{no_move}
use Rattle.tables.specs.declared.gathered.Gathered.{Gathered}

-- the array with the numbers of move j written
abbrev pub put : List ℕ → ℕ → Move → List ℕ
put w j m = set (set (set w (3 * j) m.from) (3 * j + 1) m.kind) (3 * j + 2) m.to

unfoldable pub blank : List ℕ
blank = replicate (3 * ceilings.moves) 0

-- the array with the numbers of the first j moves, the rest being 0
unfoldable pub filled : ℕ → List Move → List ℕ
filled zero ms = blank
filled (suc j) ms = put (filled j ms) j (get_or ms j no_move)

abbrev pub gathered : List Move → Gathered
gathered ms = record { count = length ms; numbers = filled (min (length ms) ceilings.moves) ms }
