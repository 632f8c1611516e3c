-- The loop's invariant: the set holds the states passed whose word lies in the range.
use Rattle.rows.specs.Rows.{AliveRow}
use Rattle.rows.proofs.alive.of_row.Given as goal

abbrev pub invariant-loop-p : goal.invariant-loop-p
invariant-loop-p l = AliveRow l.set l.words l.p l.lo l.hi
