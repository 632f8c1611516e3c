-- `rows::differs` meets its contract: a word that differs is found, or one more is passed.
use Rattle.std.proofs.Common.{arith, get_or, refl, sym, ◌≡◌}
use borrow.Author.Tests.{eq-eqb, ne_eqb}
use Rattle.walk.proofs.Numbers.{any_below_of}
use Rattle.walk.specs.Numbers.{any_below}
use Rattle.rows.proofs.RowLaws.{any_none}
use Rattle.rows.proofs.differs.Goals as goal

pub loop-q-init : goal.loop-q-init
unfolding any_below
loop-q-init c = refl

pub returns-then-w-row : goal.returns-then-w-row
returns-then-w-row c =
    let t = c.if-w-row.true in
    sym (any_below_of _ _ c.loop-q.q c.loop-q-test.true (rw (ne_eqb _ _ (λ e. (let d : get_or c.args.words.now c.loop-q.q 0 ≡ get_or c.args.row.now c.loop-q.q 0 = e in omega arith)))))

pub loop-q-preserved : goal.loop-q-preserved
loop-q-preserved c =
    let e : get_or c.args.words.now c.loop-q.q 0 ≡ get_or c.args.row.now c.loop-q.q 0 = omega arith in
    any_none _ _ c.loop-q.invariant (rw (eq-eqb _ _ e))
