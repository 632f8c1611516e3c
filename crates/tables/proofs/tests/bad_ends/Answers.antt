-- `tables::tests::bad_ends` meets its contract: the parts of the test are those of the row.
use Rattle.std.proofs.Common.{arith}
use Rattle.std.proofs.lemmas.Bool.Decides.{nat_tests}
use Rattle.walk.specs.Numbers.{◌and◌}
use Rattle.walk.specs.Refusals.{bad_ends}
use Rattle.tables.proofs.tests.bad_ends.Goals as goal

pub returns : goal.returns
unfolding bad_ends ◌and◌
returns c m = grind (arith, nat_tests)
