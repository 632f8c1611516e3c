-- `rounds::round` meets its promise: where the tests refuse, their row answers; where they pass, `turn` does the rest on the question lent on.
use Rattle.std.proofs.lemmas.Result.{err_from_is_err_and}
use Rattle.tables.specs.Lent.{moves_of}
use Rattle.rounds.proofs.Lending.{accepted_right}
use Rattle.rounds.proofs.Meeting.{round-refused, round-passed}
use Rattle.rounds.proofs.Refusing.{every_list}
use Rattle.rounds.proofs.round.Goals as goal

pub returns-in_err-lent : goal.returns-in_err-lent
returns-in_err-lent c =
    let (_, is, same) = err_from_is_err_and c.from_residual.result c.from_residual.ensures.1 in
    rw (is, same) (round-refused _ _ _ _ c.in_err-lent.ensures)

pub turn-requires : goal.turn-requires
turn-requires c =
    let A = c.args in
    let T = c.in_ok-lent.lent.steps.now.table in
    let (passed, is, same, F) = c.in_ok-lent.ensures in
    let (a, room, few, _) = accepted_right _ _ _ passed in
    let (R, E) = every_list A.question.now (moves_of A.moves.now.count A.moves.now.numbers) A.done A.area.now T _ passed is F.tabled in
    rw same (room, a.ends.1, few, R, E)

pub returns : goal.returns
returns c =
    let (passed, _, same, F) = c.in_ok-lent.ensures in
    round-passed _ _ _ _ _ passed
    ((rw same at c.turn.ensures) (moves_of c.args.moves.now.count c.args.moves.now.numbers) F.tabled (accepted_right _ _ _ passed).0)
