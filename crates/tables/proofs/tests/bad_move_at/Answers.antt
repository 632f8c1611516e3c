-- `tables::tests::bad_move_at` meets its contract: the parts of the test are those of the row.
use Rattle.std.proofs.Common.{arith}
use Rattle.std.proofs.lemmas.Bool.Decides.{nat_tests}
use Rattle.walk.specs.declared.Move.{Move}
use Rattle.walk.specs.Numbers.{◌and◌}
use Rattle.walk.specs.Refusals.{bad_move_at}
use Rattle.walk.proofs.Numbers.{getD-table}
use Rattle.tables.proofs.tests.bad_move_at.Goals as goal

pub returns-then-from-question : goal.returns-then-from-question
unfolding bad_move_at ◌and◌
returns-then-from-question c = grind (arith, nat_tests, getD-table {A = Move})

pub returns-else-from-question : goal.returns-else-from-question
unfolding bad_move_at ◌and◌
returns-else-from-question c = grind (arith, nat_tests, getD-table {A = Move})
