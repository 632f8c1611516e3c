-- `tables::tests::unless_any` meets its contract: the bad place that it has come to is the first, and at the end none is bad.
use Rattle.std.proofs.Common.{arith, sym}
use Rattle.std.proofs.lemmas.Bool.Decides.{nat_tests}
use Rattle.tables.specs.Tests.{first_given}
use Rattle.tables.proofs.Searches.{none_more, found_first, found_none}
use Rattle.tables.proofs.tests.unless_any.Goals as goal

pub returns-then-bad : goal.returns-then-bad
unfolding first_given
returns-then-bad g c p h =
    let f = found_first p c.args.n _ (c.loop-place.invariant p h) c.loop-place-test.true (sym (h _ _ c.loop-place-test.true c.if-bad.ensures)) in
    grind (arith, nat_tests)

pub loop-place-preserved : goal.loop-place-preserved
loop-place-preserved g c p h = none_more p _ (c.loop-place.invariant p h) (sym (h _ _ c.loop-place-test.true c.if-bad.ensures))

pub returns : goal.returns
unfolding first_given
returns g c p h = let f = found_none p c.args.n _ (c.loop-place.invariant p h) c.loop-place-test.false in grind (arith, nat_tests)
