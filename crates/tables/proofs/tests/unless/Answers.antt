-- `tables::tests::unless` meets its contract: a row alone answers by whether it is given.
use Rattle.std.proofs.Common.{rules}
use Rattle.tables.specs.Tests.{first_given}
use Rattle.tables.proofs.tests.unless.Goals as goal

pub returns-then-given : goal.returns-then-given
unfolding first_given
returns-then-given c = search rules

pub returns : goal.returns
unfolding first_given
returns c = search rules
