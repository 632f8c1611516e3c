-- `tables::tests::bad_tie_at` meets its contract: the parts of the test are those of the row.
use Rattle.std.proofs.Common.{arith}
use Rattle.std.proofs.lemmas.Bool.Decides.{nat_tests}
use Rattle.walk.specs.Numbers.{◌and◌}
use Rattle.walk.specs.Refusals.{bad_tie_at}
use Rattle.tables.proofs.tests.bad_tie_at.Goals as goal

pub returns-then-from-network-2 : goal.returns-then-from-network-2
unfolding bad_tie_at ◌and◌
returns-then-from-network-2 c = grind (arith, nat_tests)

pub returns-else-from-network-2 : goal.returns-else-from-network-2
unfolding bad_tie_at ◌and◌
returns-else-from-network-2 c = grind (arith, nat_tests)
