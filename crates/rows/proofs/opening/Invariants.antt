-- The loop's invariant: the words of the start states that were passed are 0, and the others 65535.
use Rattle.std.proofs.Common.{◌≡◌}
use Rattle.rows.proofs.RowLaws.{Started}
use Rattle.rows.proofs.opening.Given as goal

abbrev pub invariant-loop-q : goal.invariant-loop-q
invariant-loop-q l = (l.q-iterator.set ≡ l.fn.condition.start) × Started l.row l.fn.condition.start l.q-iterator.at
