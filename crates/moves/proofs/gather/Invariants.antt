-- The loop's invariant: the count is told, and the numbers of the first j moves are written.
use Rattle.std.proofs.Common.{◌≡◌, length}
use Rattle.moves.specs.Gathering.{filled}
use Rattle.moves.proofs.gather.Given as goal

abbrev pub invariant-loop-j : goal.invariant-loop-j
invariant-loop-j l = (l.gathered.count ≡ length l.moves) × (l.gathered.numbers ≡ filled l.j l.moves)
