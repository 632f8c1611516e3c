-- The loop's invariant: the rows of the marks before v are written, and nothing else.
use Rattle.rows.specs.Rows.{RowsTo, opening}
use Rattle.rows.proofs.open.Given as goal

abbrev pub invariant-loop-v : goal.invariant-loop-v
invariant-loop-v l = RowsTo l.initial.area l.area l.states l.v (opening l.s.0 l.condition.start)
