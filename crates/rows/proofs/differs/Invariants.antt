-- The loop's invariant: no word passed differs.
use Rattle.std.proofs.Common.{false, ◌≡◌}
use Rattle.rows.specs.Rows.{differ}
use Rattle.rows.proofs.differs.Given as goal

abbrev pub invariant-loop-q : goal.invariant-loop-q
invariant-loop-q l = differ l.words l.row l.q ≡ false
