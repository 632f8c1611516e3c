-- `tables::tests::short_area` meets its contract: the words asked for are the pairs of the question.
use Rattle.std.proofs.Common.{arith}
use Rattle.std.proofs.lemmas.Bool.Decides.{nat_tests}
use Rattle.walk.specs.Refusals.{short_area}
use Rattle.tables.proofs.tests.short_area.Goals as goal

pub returns : goal.returns
unfolding short_area
returns c m = grind (arith, nat_tests)
