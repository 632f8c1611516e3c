-- `Steps::nexts` meets its contract: a turn adds what follows under one kind more.
use Rattle.std.proofs.Common.{◌∙◌, ◌≡◌, ◌+◌, ◌*◌, get_or}
use Rattle.tables.proofs.StepLaws.{next_more, next-end, next-none}
use Rattle.tables.proofs.steps.Steps.nexts.Goals as goal

pub loop-n-init : goal.loop-n-init
loop-n-init c =
    let e = c.into_iter-n-iterator.ensures.into_iter_gives in
    (rw e c.of-n-items.ensures.set, rw (e, c.of-n-items.ensures.at) (next-none c.args.self.now.table _ c.args.p.0))

pub loop-n-preserved : goal.loop-n-preserved
loop-n-preserved c =
    let (s, (L, e)) = c.in-Some.ensures.steps in
    let word : c.follow-all.result ≡ get_or c.args.self.now.table (c.in-Some.n * 32 + c.args.p.0) 0 = cc (c.tested.ensures.is) in
    (s ∙ c.loop-n.invariant.0, rw (e, word) (next_more c.args.self.now.table _ _ _ _ _ (rw c.loop-n.invariant.0 at L) c.loop-n.invariant.1))

pub returns : goal.returns
returns c =
    next-end _ _ _ _ _ c.loop-n.n-iterator.in_word.1 (rw c.loop-n.invariant.0 at c.in-None.ensures.steps.1) c.loop-n.invariant.1
