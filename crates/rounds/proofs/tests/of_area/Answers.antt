-- `rounds::tests::of_area` meets its contract: a count above V×Q or an area that the test refuses gives refusal 8; over any other the status found
-- is that of the definition.
use Rattle.std.proofs.Common.{arith, sym, ◌∙◌}
use mathlib.Core.Bool.{false≢true}
use Rattle.std.proofs.Math.Nat.{mul-le-mul_left}
use Rattle.walk.specs.Answers.{asked}
use Rattle.rounds.proofs.Refusing.{wrong_given, wrong_passed}
use Rattle.rounds.proofs.Standing.{standing-is}
use Rattle.rounds.proofs.tests.of_area.Goals.{then-done-pairs-via-then-done-pairs, then-done-pairs-via-else-done-pairs+then-not-right}
use Rattle.rounds.proofs.tests.of_area.Goals as goal

-- (with a bound on Q: the count refused here is above V×Q for any product that is at least V×Q)
pub returns-then-done-pairs : goal.returns-then-done-pairs
returns-then-done-pairs c m tab acc =
    wrong_given _ _ _
    (λ h e. elim c.then-done-pairs.branch [
      | then-done-pairs-via-then-done-pairs w ↦
          let L = c.args.lent.now in
          let wider = mul-le-mul_left L.question.network.marks L.few.2 in
          omega arith
      | then-done-pairs-via-else-done-pairs+then-not-right w ↦ false≢true (sym w.if-not-right.true ∙ (w.right.ensures m tab acc).1 e)
    ])

pub returns : goal.returns
returns c m tab acc =
    let L = c.args.lent.now in
    let D = asked L.question m in
    let is_right = (c.right.ensures m tab acc).0 c.if-not-right.false in
    let (room, _, to_in) = c.requires in
    let standing = standing-is D c.args.done c.args.area.now is_right room c.tested-t.result.0 c.tested-t.ensures.is to_in in
    (wrong_passed D c.args.done c.args.area.now (omega arith) is_right, c.status.ensures ∙ rw c.of-words.ensures.2 standing)
