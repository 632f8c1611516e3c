-- `tables::tests::bad_move` meets its contract: the test of each move is the row's.
use Rattle.std.proofs.Common.{rules}
use Rattle.walk.specs.Refusals.{bad_move}
use Rattle.walk.proofs.Numbers.{length-table}
use Rattle.tables.proofs.tests.bad_move.Goals as goal

pub returns : goal.returns
unfolding bad_move
returns c = rw length-table (c.unless_any.ensures _ (λ i x l f. search rules))
