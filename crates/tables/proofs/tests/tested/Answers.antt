-- `tables::tests::tested` meets its contract: each row that is not given leaves the answer to the rows after it, and the first that is given
-- answers. What a test asks for is what an earlier one has left.
use Rattle.std.proofs.Common.{arith, []}
use Rattle.std.proofs.lemmas.Bool.Decides.{nat_tests}
use Rattle.walk.specs.declared.Move.{Move}
use Rattle.walk.specs.Numbers.{◌and◌}
use Rattle.walk.specs.Refusals.{bad_sizes, bad_states, sizes, bad_condition, lent_tests, start_tests}
use Rattle.walk.proofs.Numbers.{length-table}
use Rattle.tables.specs.Tests.{first_given}
use Rattle.tables.proofs.tests.tested.Goals as goal

pub returns-in_err-sizes : goal.returns-in_err-sizes
unfolding first_given start_tests lent_tests
returns-in_err-sizes c = grind arith

pub bad_tie-requires : goal.bad_tie-requires
unfolding first_given sizes bad_sizes ◌and◌
bad_tie-requires c = grind (arith, nat_tests, c.sizes.ensures [])

pub returns-in_err-bad_tie : goal.returns-in_err-bad_tie
unfolding first_given start_tests lent_tests
returns-in_err-bad_tie c = grind arith

pub tie_order-requires : goal.tie_order-requires
unfolding first_given sizes bad_sizes ◌and◌
tie_order-requires c = grind (arith, nat_tests, c.sizes.ensures [])

pub returns-in_err-tie_order : goal.returns-in_err-tie_order
unfolding first_given start_tests lent_tests
returns-in_err-tie_order c = grind arith

pub returns-in_err-bad_condition : goal.returns-in_err-bad_condition
unfolding first_given start_tests lent_tests
returns-in_err-bad_condition c = grind arith

pub bad_move-requires : goal.bad_move-requires
unfolding first_given bad_condition bad_states ◌and◌
bad_move-requires c = grind (arith, nat_tests, length-table {A = Move})

pub returns-in_err-bad_move : goal.returns-in_err-bad_move
unfolding first_given start_tests lent_tests
returns-in_err-bad_move c = grind arith

pub returns-in_err-bad_ends : goal.returns-in_err-bad_ends
unfolding first_given start_tests lent_tests
returns-in_err-bad_ends c = grind arith

pub short_area-requires : goal.short_area-requires
unfolding first_given sizes bad_sizes bad_condition bad_states ◌and◌
short_area-requires c = grind (arith, nat_tests, c.sizes.ensures [])

pub returns : goal.returns
unfolding first_given start_tests lent_tests
returns c = grind arith
