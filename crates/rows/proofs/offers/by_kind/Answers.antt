-- `offers::by_kind` meets its contract: a turn lowers the row by the offers of one state more.
use Rattle.std.proofs.Common.{get_or, ℕ, ◌*◌, ◌+◌, ◌≡◌}
use Rattle.rows.specs.Offers.{One, Each}
use Rattle.rows.proofs.Lowering.{passed_more, lowered_at}
use Rattle.rows.proofs.offers.by_kind.Invariants.{P}
use Rattle.rows.proofs.offers.by_kind.Goals as goal

pub loop-n-preserved : goal.loop-n-preserved
loop-n-preserved c =
    let a = c.args in
    let w = get_or a.words.now c.in-Some.n 0 + 1 in
    let word : c.follow.result ≡ get_or a.steps.now.table (a.k.0 * 32 + c.in-Some.n) 0 = cc (c.follow.ensures, c.tested.ensures.is) in
    passed_more (P a.steps.now.table a.words.now a.k.0) c.in-Some.ensures.steps c.loop-n.invariant
    (lowered_at (λ (s : ℕ). Each s (One w) 32) word c.lower_all.ensures)
