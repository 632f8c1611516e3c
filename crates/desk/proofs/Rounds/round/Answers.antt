-- What is gathered of the moves stands for the list that is lent, and the call answers alike on both.
use Rattle.desk.proofs.Told.{advanced}
use Rattle.desk.proofs.Rounds.round.Goals as goal

pub returns : goal.returns
returns c = let A = c.args in advanced A.question.now A.moves.now _ c.gather.ensures _ _ _ _ (rw c.counted.ensures c.round.ensures)
