-- `rounds::start` meets its promise: where the tests refuse, their row answers; where they pass, the rows of the right area for 0 rounds are written
-- and their status is reported.
use Rattle.std.proofs.Common.{arith, sym, ◌∙◌}
use Rattle.std.proofs.lemmas.Result.{err_from_is_err_and}
use Rattle.walk.specs.Answers.{asked}
use Rattle.tables.specs.Lent.{moves_of}
use Rattle.rounds.proofs.Beginning.{begun}
use Rattle.rounds.proofs.Lending.{accepted}
use Rattle.rounds.proofs.Meeting.{start-refused, start-passed, in_front}
use Rattle.rounds.proofs.Standing.{standing-is}
use Rattle.rounds.proofs.start.Goals as goal

pub returns-in_err-tested : goal.returns-in_err-tested
returns-in_err-tested c =
    let (_, is, same) = err_from_is_err_and c.from_residual.result c.from_residual.ensures.1 in
    rw (is, same) (start-refused _ _ _ (sym c.in_err-tested.ensures))

pub tested-s-requires : goal.tested-s-requires
tested-s-requires c = (accepted _ _ (sym c.in_ok-tested.ensures)).0.ends.0

pub open-requires : goal.open-requires
open-requires c =
    let (a, room) = accepted _ _ (sym c.in_ok-tested.ensures) in
    (a.sizes.marks.1, a.condition.states.1, room)

pub tested-t-requires : goal.tested-t-requires
tested-t-requires c = (accepted _ _ (sym c.in_ok-tested.ensures)).0.ends.1

pub of-words-requires : goal.of-words-requires
of-words-requires c =
    let (a, room) = accepted _ _ (sym c.in_ok-tested.ensures) in
    (a.sizes.marks.1, a.condition.states.1, omega (arith, room))

pub returns : goal.returns
returns c =
    let A = c.args in
    let D = asked A.question.now (moves_of A.moves.now.count A.moves.now.numbers) in
    let A' = c.open.new.area in
    let passed = sym c.in_ok-tested.ensures in
    let (a, room) = accepted D A.area.now passed in
    let w = begun D A.area.now A' c.tested-s.result.0 a c.tested-s.ensures.is room c.open.ensures in
    let standing =
    standing-is D 0 A' (in_front D 0 A.area.now A' w) (omega (arith, room)) c.tested-t.result.0 c.tested-t.ensures.is a.ends.1 in
    start-passed D A.area.now c.status.result A' passed (c.status.ensures ∙ rw c.of-words.ensures.2 standing) w
