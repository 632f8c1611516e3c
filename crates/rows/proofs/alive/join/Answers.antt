-- The three ways of the range.
use Rattle.rows.proofs.AliveLaws.{joined_yes, joined_no, between_yes, between_low, between_high}
use Rattle.rows.proofs.alive.join.Goals.{else-lo-d-via-then-lo-d+else-d-hi, else-lo-d-via-else-lo-d}
use Rattle.rows.proofs.alive.join.Goals as goal

pub returns-then-d-hi : goal.returns-then-d-hi
returns-then-d-hi c =
    joined_yes _ _ _ _ (between_yes _ _ _ c.if-lo-d.true c.if-d-hi.true) (rw c.index.ensures at c.with.ensures)

pub returns-else-lo-d : goal.returns-else-lo-d
returns-else-lo-d c =
    elim c.else-lo-d.branch [
      | else-lo-d-via-then-lo-d+else-d-hi w ↦ joined_no _ _ _ (between_high _ _ _ w.if-d-hi.false)
      | else-lo-d-via-else-lo-d w ↦ joined_no _ _ _ (between_low _ _ _ w.if-lo-d.false)
    ]
