-- `offers::along` meets its contract: a turn lowers the row by the offers under one kind more.
use Rattle.std.proofs.Common.{arith, bit_and, ℕ}
use Rattle.rows.specs.Offers.{ByKind}
use Rattle.rows.proofs.AliveLaws.{living_and}
use Rattle.rows.proofs.Lowering.{passed_more, lowered_at}
use Rattle.rows.proofs.offers.along.Invariants.{P}
use Rattle.rows.proofs.offers.along.Goals as goal

pub by_kind-requires : goal.by_kind-requires
by_kind-requires c =
    let p = c.requires in
    (omega (arith, c.tested-k.ensures.below), p.1, living_and c.args.words.now _ _ _ p.2, p.3)

pub loop-n-preserved : goal.loop-n-preserved
loop-n-preserved c =
    let a = c.args in
    let offers = P a.steps.now.table a.steps.now.sources a.words.now a.live in
    passed_more offers c.in-Some.ensures.steps c.loop-n.invariant
    (lowered_at offers c.tested-k.ensures.is
    (lowered_at (λ (s : ℕ). ByKind a.steps.now.table a.words.now (bit_and a.live s) c.tested-k.result.0) c.leave.ensures c.by_kind.ensures))
