-- `alive::of_row` meets its contract: `join` adds the state at hand if its word lies in the range.
use Rattle.rows.proofs.AliveLaws.{alive-row-none, alive-row-more}
use Rattle.rows.proofs.alive.of_row.Goals as goal

pub loop-p-init : goal.loop-p-init
loop-p-init c = alive-row-none c.args.words.now _ _

pub loop-p-preserved : goal.loop-p-preserved
loop-p-preserved c =
    let S = c.args in
    alive-row-more S.words.now _ _ _ S.lo S.hi c.loop-p.invariant (rw c.tested.ensures.is at c.join-set.ensures)
