-- A mark of which no state is alive offers nothing.
use Rattle.std.proofs.Common.{arith, get_or, sym, ◌∙◌, ◌≡◌}
use Rattle.rows.specs.Rows.{row}
use Rattle.rows.proofs.Lowering.{along-none}
use Rattle.rows.proofs.offers.Offers.of_tie.Goals as goal

pub returns-else-live-ne0 : goal.returns-else-live-ne0
returns-else-live-ne0 c =
    let O = c.args.self.now in
    let v = get_or O.from.now c.args.e.0 0 in
    let alive : get_or O.live.now c.index.result 0 ≡ get_or O.live.now v 0 = cc in
    along-none O.steps.now.table O.steps.now.sources (row O.words.area.now O.words.states v) _ _ _ (sym alive ∙ c.if-live-ne0.false) (omega arith)
