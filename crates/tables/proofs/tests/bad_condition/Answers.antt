-- `tables::tests::bad_condition` meets its contract: the parts of the test are those of the row.
use Rattle.std.proofs.Common.{arith}
use Rattle.std.proofs.lemmas.Bool.Decides.{nat_tests}
use Rattle.walk.specs.declared.Move.{Move}
use Rattle.walk.specs.Numbers.{◌and◌}
use Rattle.walk.specs.Refusals.{bad_states, bad_condition}
use Rattle.walk.proofs.Numbers.{length-table}
use Rattle.tables.proofs.tests.bad_condition.Goals as goal

pub returns : goal.returns
unfolding bad_condition bad_states ◌and◌
returns c = grind (arith, nat_tests, length-table {A = Move})
