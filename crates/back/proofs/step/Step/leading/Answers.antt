-- `back::step::Step::leading` meets its contract: the state at hand is joined to the set if it leads on.
use Rattle.std.proofs.Common.{bit_or, ◌^◌, ◌∙◌, ◌≡◌}
use Rattle.rows.proofs.AliveLaws.{joined_yes, joined_no}
use Rattle.back.proofs.OverLaws.{up-to-none, up-to-more, up-to-end, leads_yes, leads_no}
use Rattle.back.proofs.step.Step.leading.Goals as goal

pub loop-n-init : goal.loop-n-init
loop-n-init c =
    let e = c.into_iter-n-iterator.ensures.into_iter_gives in
    (rw e c.of-n-items.ensures.set, rw (e, c.of-n-items.ensures.at) (up-to-none _ _))

pub loop-n-preserved-then-nexts-alive-ne0 : goal.loop-n-preserved-then-nexts-alive-ne0
loop-n-preserved-then-nexts-alive-ne0 c =
    let (s, (L, at)) = c.in-Some.ensures.steps in
    let e = c.tested-p.ensures.is in
    let x : c.with-found.result ≡ bit_or c.loop-n.found (2 ^ c.in-Some.n) = cc (c.with-found.ensures, c.index.ensures, e) in
    let joined = joined_yes _ _ _ _ (rw e at (leads_yes _ _ _ _ _ c.ranges.alive.fits c.nexts.ensures c.if-nexts-alive-ne0.true)) x in
    (s ∙ c.loop-n.invariant.0, rw at (up-to-more _ _ _ _ _ _ (rw c.loop-n.invariant.0 at L) c.loop-n.invariant.1 joined))

pub loop-n-preserved : goal.loop-n-preserved
loop-n-preserved c =
    let (s, (L, at)) = c.in-Some.ensures.steps in
    let joined = joined_no _ _ _ (rw c.tested-p.ensures.is at (leads_no _ _ _ _ _ c.nexts.ensures c.if-nexts-alive-ne0.false)) in
    (s ∙ c.loop-n.invariant.0, rw at (up-to-more _ _ _ _ _ _ (rw c.loop-n.invariant.0 at L) c.loop-n.invariant.1 joined))

pub returns : goal.returns
returns c = up-to-end _ _ _ _ (rw c.loop-n.invariant.0 at c.in-None.ensures.steps.1) c.loop-n.invariant.1
