-- `rows::opening` meets its contract: the row of another mark than s is blank, and the row of s holds its start states.
use Rattle.std.proofs.Common.{◌∙◌}
use Rattle.tables.proofs.Entries.{same_number}
use Rattle.rows.proofs.RowLaws.{row-blank, row-started, started_none, started_more, started_all}
use Rattle.rows.proofs.opening.Goals as goal

pub loop-q-init : goal.loop-q-init
loop-q-init c =
    let e = c.into_iter-q-iterator.ensures.into_iter_gives in
    (rw e c.of-q-items.ensures.set, started_none _ _ (rw e c.of-q-items.ensures.at))

pub loop-q-preserved : goal.loop-q-preserved
loop-q-preserved c =
    let (s, (L, e)) = c.in-Some.ensures.steps in
    let I = c.loop-q.invariant in
    (s ∙ I.0, started_more _ _ _ _ _ _ I.0 L e I.1)

pub returns-in-None : goal.returns-in-None
returns-in-None c =
    let I = c.loop-q.invariant in
    let at-s = (same_number c.args.v.0 c.args.s.0 _ c.eq.ensures).0 c.if-eq.true in
    row-started _ _ c.args.s.0 _ c.args.v.0 at-s (started_all _ _ _ _ _ c.requires I.0 c.in-None.ensures.steps.1 I.1)

pub returns-else-eq : goal.returns-else-eq
returns-else-eq c = row-blank _ c.args.s.0 _ c.args.v.0 c.requires ((same_number c.args.v.0 c.args.s.0 _ c.eq.ensures).1 c.if-eq.false)
