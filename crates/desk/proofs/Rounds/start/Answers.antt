-- What is gathered of the moves stands for the list that is lent, and the call answers alike on both.
use Rattle.desk.proofs.Told.{started}
use Rattle.desk.proofs.Rounds.start.Goals as goal

pub returns : goal.returns
returns c = let A = c.args in started A.question.now A.moves.now _ c.gather.ensures _ _ _ (rw c.counted.ensures c.start.ensures)
