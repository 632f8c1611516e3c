-- `offers::Offers::lower_row` meets its contract: a turn lowers the row by the offers along one tie more.
use Rattle.std.proofs.Common.{arith, ◌∙◌}
use Rattle.rows.specs.Offers.{OfTie}
use Rattle.rows.proofs.Lowering.{between_more, lowered_at}
use Rattle.rows.proofs.offers.Offers.lower_row.Goals as goal

pub loop-e-preserved : goal.loop-e-preserved
loop-e-preserved c =
    let O = c.args.self.now in
    let offers = OfTie O.steps.now.table O.steps.now.sources O.live.now O.words.area.now O.words.states O.from.now O.sets.now in
    let (end, (some, is, next)) = c.in-Some.ensures.steps in
    let (low, high, same, lowered) = c.loop-e.invariant in
    let more = between_more _ _ offers _ _ _ low lowered (lowered_at offers (c.tested.ensures.is ∙ is) c.of_tie.ensures) in
    rw (next, end) (omega arith, omega arith, same, more)
