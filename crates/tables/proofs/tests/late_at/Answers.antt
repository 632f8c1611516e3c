-- `tables::tests::late_at` meets its contract: the first tie has none before it.
use Rattle.std.proofs.Common.{arith}
use Rattle.std.proofs.lemmas.Bool.Decides.{nat_tests}
use Rattle.walk.specs.Numbers.{◌and◌}
use Rattle.walk.specs.Refusals.{late_at}
use Rattle.tables.proofs.tests.late_at.Goals as goal

pub returns-then-e-gt0 : goal.returns-then-e-gt0
unfolding late_at ◌and◌
returns-then-e-gt0 c N e = grind (arith, nat_tests)

pub returns-else-e-gt0 : goal.returns-else-e-gt0
unfolding late_at ◌and◌
returns-else-e-gt0 c N e = grind (arith, nat_tests)
