-- What is gathered of the moves stands for the list that is lent, and the call answers alike on both.
use Rattle.desk.proofs.Told.{followed}
use Rattle.desk.proofs.Rounds.next.Goals as goal

pub returns : goal.returns
returns c = let A = c.args in followed A.question.now A.moves.now _ c.gather.ensures _ _ _ _ _ c.next.ensures
