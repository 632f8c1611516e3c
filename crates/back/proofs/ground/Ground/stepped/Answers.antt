-- A word that names no tie, a tie into another mark and a tie before which no state is alive stop; any other tie goes on.
use Rattle.std.proofs.Common.{ap, arith, get_or, length, sym, ℕ, ◌∙◌, ◌≡◌}
use mathlib.Core.Path.{ap₂}
use Rattle.tables.proofs.Entries.{entry_in, entry_out, other_number}
use Rattle.back.specs.Ground.{back}
use Rattle.back.specs.Over.{over}
use Rattle.back.proofs.LookLaws.{stops_out, stops_off, stops_dead, steps_on}
use Rattle.back.proofs.ground.Ground.stepped.Goals as goal
use Rattle.back.proofs.ground.Ground.stepped.Goals.{After-enters, After-over-alive}

-- the mark that the tie enters
enters_is : (c : After-enters) → c.in_ok-tie.tie.0 ≡ c.args.word → c.enters.result.0 ≡ get_or c.args.self.now.to.now c.args.word 0
enters_is c e = c.enters.ensures.is ∙ ap (λ (x : ℕ). get_or c.args.self.now.to.now x 0) e

-- what is alive before it
before_is : (c : After-over-alive) → c.in_ok-tie.tie.0 ≡ c.args.word → c.over-alive.result ≡ back c.args.self.now c.args.word c.args.i c.args.at.alive
before_is c e =
    let A = c.args in
    let g = A.self.now in
    c.over-alive.ensures
    ∙ ap₂ (λ (u k : ℕ). over g.step.steps.now.table g.step.words.area.now g.step.words.states u k A.i A.at.alive)
    (c.leaves-u.ensures.is ∙ ap (λ (x : ℕ). get_or g.from.now x 0) e)
    (c.kinds.ensures ∙ ap (λ (x : ℕ). get_or g.kinds.now x 0) e)

pub returns-in_err-tie : goal.returns-in_err-tie
returns-in_err-tie c =
    let h = entry_out c.from.result (length c.args.self.now.from.now) (sym c.checked.ensures ∙ c.in_err-tie.was) in
    c.from_residual.ensures ∙ stops_out _ _ _ _ _ _ (omega (arith, c.from.ensures))

pub returns-then-ne : goal.returns-then-ne
returns-then-ne c =
    let (_, e) = entry_in c.from.result _ c.in_ok-tie.tie (sym c.checked.ensures ∙ c.in_ok-tie.was) in
    let other = (other_number c.enters.result.0 c.args.at.mark.0 _ c.ne.ensures).0 c.if-ne.true in
    stops_off _ _ _ _ _ _ (λ h. other (enters_is (goal.at.returns-then-ne c).After-enters (e ∙ c.from.ensures) ∙ h))

pub returns-then-alive-eq0 : goal.returns-then-alive-eq0
returns-then-alive-eq0 c =
    let (_, e) = entry_in c.from.result _ c.in_ok-tie.tie (sym c.checked.ensures ∙ c.in_ok-tie.was) in
    stops_dead _ _ _ _ _ _ _ (before_is (goal.at.returns-then-alive-eq0 c).After-over-alive (e ∙ c.from.ensures)) c.if-alive-eq0.true

pub returns : goal.returns
returns c =
    let (l, e) = entry_in c.from.result _ c.in_ok-tie.tie (sym c.checked.ensures ∙ c.in_ok-tie.was) in
    let w = e ∙ c.from.ensures in
    let at = goal.at.returns c in
    let same = (other_number c.enters.result.0 c.args.at.mark.0 _ c.ne.ensures).1 c.if-ne.false in
    steps_on _ _ _ _ _ _ _ _ (rw c.from.ensures at l) (sym (enters_is at.After-enters w) ∙ same) w
    (before_is at.After-over-alive w) c.if-alive-eq0.false
