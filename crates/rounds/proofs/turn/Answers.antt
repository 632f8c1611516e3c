-- `rounds::turn` meets its contract: with the status Found or None the area stays; else it is advanced, and the status of what then stands is
-- reported.
use Rattle.std.proofs.Common.{arith, suc, sym, take, ◌+◌, ◌∙◌, ◌≡◌}
use native.Mathlib.Numerals.{add-one}
use Rattle.walk.specs.Question.{pairs, right}
use Rattle.walk.specs.Answers.{asked}
use Rattle.rounds.proofs.Standing.{standing-is}
use Rattle.rounds.proofs.Meeting.{turned-stays, turned-goes, in_front}
use Rattle.rounds.proofs.turn.Goals as goal

pub returns-then-not-going : goal.returns-then-not-going
returns-then-not-going c m tab acc = turned-stays _ _ _ _ (c.requires.4 m tab acc) (sym c.going.ensures ∙ c.if-not-going.true)

pub returns : goal.returns
returns c m tab acc =
    let A = c.args in
    let P = c.requires in
    let D = asked A.lent.now.question m in
    let A' = c.advance.new.area in
    let w = c.advance.ensures m tab acc in
    let right' : take (pairs D) A' ≡ right D (A.done + 1) = rw add-one (in_front D (suc A.done) A.area.now A' w) in
    let standing = standing-is D (A.done + 1) A' right' (omega (arith, P.0)) c.tested-t.result.0 c.tested-t.ensures.is P.1 in
    turned-goes D A.area.now A.done A.found (P.4 m tab acc) c.status.result A' (sym c.going.ensures ∙ c.if-not-going.false)
    (c.status.ensures ∙ rw c.of-words.ensures.2 standing) w
