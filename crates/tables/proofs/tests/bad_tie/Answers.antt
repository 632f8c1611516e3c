-- `tables::tests::bad_tie` meets its contract: the test of each tie is the row's.
use Rattle.std.proofs.Common.{rules}
use Rattle.walk.specs.Refusals.{bad_tie}
use Rattle.tables.proofs.tests.bad_tie.Goals as goal

pub returns : goal.returns
unfolding bad_tie
returns c m = c.unless_any.ensures _ (λ i x l f. search rules)
