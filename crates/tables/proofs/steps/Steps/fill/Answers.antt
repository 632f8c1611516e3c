-- `Steps::fill` meets its contract: every move is in range, so each of its numbers is let in, and `put` brings in one move more.
use Rattle.std.proofs.Common.{arith, ap, refl, ◌∙◌, ◌≡◌}
use Rattle.walk.specs.declared.Move.{Move}
use Rattle.tables.proofs.StepLaws.{up-to-none, up-to-more, up-to-all, move_in}
use Rattle.tables.proofs.steps.Steps.fill.Goals as goal

pub loop-j-init : goal.loop-j-init
loop-j-init c = up-to-none _ _ _ c.requires.0 c.requires.1

pub fetched-m-requires : goal.fetched-m-requires
fetched-m-requires c = (move_in _ _ _ refl c.requires.2 _ c.loop-j-test.true).few

pub tested-p-requires : goal.tested-p-requires
tested-p-requires c =
    rw (c.from.ensures, c.fetched-m.ensures) (move_in _ _ _ refl c.requires.2 _ c.loop-j-test.true).from_in

pub tested-k-requires : goal.tested-k-requires
tested-k-requires c =
    rw (c.from-in-loop-j.ensures, c.fetched-m.ensures) (move_in _ _ _ refl c.requires.2 _ c.loop-j-test.true).kind_in

pub tested-q-requires : goal.tested-q-requires
tested-q-requires c =
    rw (c.from-in-loop-j-2.ensures, c.fetched-m.ensures) (move_in _ _ _ refl c.requires.2 _ c.loop-j-test.true).to_in

pub loop-j-preserved : goal.loop-j-preserved
loop-j-preserved c =
    let m = c.fetched-m.ensures in
    up-to-more _ _ _ _ _ _ _ _ _
    (c.tested-p.ensures.is ∙ c.from.ensures ∙ ap (λ (x : Move). x.from) m)
    (c.tested-k.ensures.is ∙ c.from-in-loop-j.ensures ∙ ap (λ (x : Move). x.kind) m)
    (c.tested-q.ensures.is ∙ c.from-in-loop-j-2.ensures ∙ ap (λ (x : Move). x.to) m)
    (omega (arith, c.tested-p.ensures.below, c.requires.2.states))
    (omega (arith, c.tested-k.ensures.below, c.requires.2.kinds))
    c.put.ensures.table c.put.ensures.sources c.loop-j.invariant

pub returns : goal.returns
returns c =
    let e : c.loop-j.j ≡ c.args.moves.now.count = omega arith in
    up-to-all _ _ _ _ _ refl c.requires.2 (rw e at c.loop-j.invariant)
