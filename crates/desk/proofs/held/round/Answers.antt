-- `held::round` meets its contract: the rows that are lent stand for the first so many (`Rows.antt`). That the array has 257 rows is known from its type.
use Rattle.std.proofs.Common.{arith, length, sym, ◌≡◌}
use Rattle.walk.proofs.TooManyMoves.{round_alike}
use Rattle.rounds.proofs.Meeting.{meets_as}
use Rattle.desk.proofs.Rows.{lent_rows}
use Rattle.desk.proofs.held.round.Goals as goal

pub returns : goal.returns
returns c =
    let A = c.args in
    let len : length A.rows ≡ 257 = omega arith in
    meets_as _ _ _ _ (sym (round_alike _ _ _ _ _ _ (lent_rows _ A.moves A.rows c.lent.ensures len) _ _)) c.round.ensures
