-- The loop's invariant: `all` holds what follows by the kinds before those that are still to come.
use Rattle.std.proofs.Common.{◌≡◌, ℕ}
use Rattle.walk.specs.Numbers.{has, any_below}
use Rattle.tables.proofs.StepLaws.{by}
use Rattle.tables.proofs.steps.Steps.nexts.Given as goal

abbrev pub invariant-loop-n : goal.invariant-loop-n
invariant-loop-n l = (l.n-iterator.set ≡ l.set) × ((q : ℕ) → has l.all q ≡ any_below l.n-iterator.at (by l.self.table l.set l.p.0 q))
