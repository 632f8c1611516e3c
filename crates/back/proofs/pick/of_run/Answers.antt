-- `pick::of_run` meets its contract: a tie before which a state is alive is the smallest, if none was passed; else one more is passed.
use Rattle.back.proofs.PickLaws.{passed_none, passed-more, passed_here, passed-all}
use Rattle.back.proofs.pick.of_run.Goals as goal

pub loop-j-init : goal.loop-j-init
loop-j-init c = passed_none _ _ _ _

pub returns-then-before-ne0 : goal.returns-then-before-ne0
returns-then-before-ne0 c =
    passed_here _ _ _ _ _ _ _ c.loop-j.invariant (rw c.fetched-u.ensures.is at c.over-before.ensures) c.if-before-ne0.true c.loop-j-test.true

pub loop-j-preserved : goal.loop-j-preserved
loop-j-preserved c = passed-more _ _ _ _ _ _ c.loop-j.invariant (rw c.fetched-u.ensures.is at c.over-before.ensures) c.if-before-ne0.false

pub returns : goal.returns
returns c = passed-all _ _ _ _ _ _ c.loop-j.invariant c.loop-j-test.false
