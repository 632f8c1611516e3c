-- What is alive at t are the states of its row with the word n.
use Rattle.back.proofs.OverLaws.{ends_is}
use Rattle.back.proofs.step.ends.Goals as goal

pub returns : goal.returns
returns c = ends_is _ _ _ _ _ _ _ c.row.ensures.words (rw c.row.ensures.size at c.of_row.ensures)
