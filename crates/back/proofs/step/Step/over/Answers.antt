-- The states with the word i in the row of u are those from which to look ahead.
use Rattle.std.proofs.Common.{sym, ◌∙◌}
use borrow.Author.Tests.{ltb-true}
use Rattle.walk.proofs.Numbers.{and_in}
use Rattle.back.proofs.OverLaws.{over-is}
use Rattle.back.proofs.step.Step.over.Goals as goal

pub leading-requires : goal.leading-requires
leading-requires c =
    let alive = rw c.row.ensures.size at c.of_row-set.ensures in
    (c.requires.1, λ p t. ltb-true p _ (and_in _ _ (sym (alive p) ∙ t)).0)

pub returns : goal.returns
returns c = over-is _ _ _ _ _ _ _ _ _ _ c.row.ensures.words (rw c.row.ensures.size at c.of_row-set.ensures) c.leading.ensures
