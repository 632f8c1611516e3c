-- `Words::row` meets its contract: the part that is lent is the row of v.
use Rattle.std.proofs.Common.{ap, length, List, refl, ℕ, ◌∙◌}
use Rattle.rows.proofs.RowLaws.{row_is, row-length}
use Rattle.rows.proofs.Words.row.Goals as goal

pub returns-clause-words : goal.returns-clause-words
returns-clause-words c = row_is _ _ _ _ _ c.place-at.ensures.0 refl

pub returns-clause-size : goal.returns-clause-size
returns-clause-size c =
    let w = c.args.self.now in
    ap (λ (l : List ℕ). length l) (row_is w.area.now w.states c.args.v.0 _ _ c.place-at.ensures.0 refl) ∙ row-length w.area.now _ _ _ c.requires w.room
