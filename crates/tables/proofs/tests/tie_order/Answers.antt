-- `tables::tests::tie_order` meets its contract: the test of each tie is the row's.
use Rattle.std.proofs.Common.{rules}
use Rattle.walk.specs.Refusals.{tie_order}
use Rattle.tables.proofs.tests.tie_order.Goals as goal

pub returns : goal.returns
unfolding tie_order
returns c m = rw (← c.requires) (c.unless_any.ensures _ (λ i x l f. search rules))
