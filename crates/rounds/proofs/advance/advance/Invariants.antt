-- The loop's invariant: the cursor stands where the ties into mark v begin, and the rows before v are those of the right area for r + 1, whatever
-- moves the table stands for.
use Rattle.std.proofs.Common.{length}
use Rattle.tables.specs.Runs.{Cut}
use Rattle.rounds.proofs.Advancing.{Sofar}
use Rattle.rounds.proofs.advance.advance.Given as goal

abbrev pub invariant-loop-v : goal.invariant-loop-v
invariant-loop-v l =
    Cut l.lent.question.to.now (length l.lent.question.to.now) l.v l.first × Sofar l.lent.question l.lent.steps.now.table l.fn.area l.r l.v l.area
