-- The loop's invariant: `found` holds the states that lead on, of those before the ones that are still to come.
use Rattle.std.proofs.Common.{◌≡◌}
use Rattle.back.specs.Over.{leads_into}
use Rattle.back.proofs.OverLaws.{UpTo}
use Rattle.back.proofs.step.Step.leading.Given as goal

abbrev pub invariant-loop-n : goal.invariant-loop-n
invariant-loop-n l = (l.n-iterator.set ≡ l.set) × UpTo l.found l.set (leads_into l.self.steps.now.table l.carried l.alive) l.n-iterator.at
