-- The loop's invariant: the table and its sources are those of the first j moves.
use Rattle.tables.proofs.StepLaws.{UpTo}
use Rattle.tables.proofs.steps.Steps.fill.Given as goal

abbrev pub invariant-loop-j : goal.invariant-loop-j
invariant-loop-j l = UpTo l.self.table l.self.sources l.moves.numbers l.j
