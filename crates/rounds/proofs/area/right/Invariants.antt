-- The loop's invariant: the cursor stands where the ties into mark v begin, and the marks before v pass the local test, whatever moves the table
-- stands for.
use Rattle.std.proofs.Common.{length}
use Rattle.tables.specs.Runs.{Cut}
use Rattle.rounds.proofs.Judging.{Passed}
use Rattle.rounds.proofs.area.right.Given as goal

abbrev pub invariant-loop-v : goal.invariant-loop-v
invariant-loop-v l = Cut l.lent.question.to.now (length l.lent.question.to.now) l.v l.first × Passed l.lent.question l.lent.steps.now.table l.area l.r l.v
