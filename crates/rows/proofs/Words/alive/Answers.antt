-- `Words::alive` meets its contract: the set of mark v is that of its row.
use Rattle.std.proofs.Common.{length-set}
use Rattle.rows.proofs.AliveLaws.{alive-more}
use Rattle.rows.proofs.Words.alive.Goals as goal

pub loop-v-preserved : goal.loop-v-preserved
loop-v-preserved c =
    let I = c.loop-v.invariant in
    let w = c.args.self.now in
    let row = rw c.tested.ensures.is at c.row.ensures.words in (
      simp length-set I.0,
      alive-more c.loop-v.live _ _ _ _ _ c.args.lo c.args.hi _ I.0 c.loop-v-test.true w.few.0 w.room row c.of_row.ensures I.1,
    )
