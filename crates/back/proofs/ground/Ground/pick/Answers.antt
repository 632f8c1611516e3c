-- The parts that are lent are those of the run of the mark, so the place found in them, counted from the run's first tie, is the tie that is picked.
use Rattle.std.proofs.Common.{arith, ap, sym, ◌∙◌, ◌≡◌, ℕ}
use Rattle.std.specs.Prelude.{Option, Some, None}
use Rattle.tables.proofs.RunLaws.{run-order}
use Rattle.back.specs.Ground.{net, back}
use Rattle.back.specs.Over.{over_tie}
use Rattle.back.specs.Picked.{taken}
use Rattle.back.proofs.PickLaws.{part, part_at, part_length, PickedBy, picked-by}
use Rattle.back.proofs.ground.Ground.pick.Goals as goal
use Rattle.back.proofs.ground.Ground.pick.Goals.{After-of_run}

-- what is picked, by what was found in the run
found : (c : After-of_run) (r : Option (ℕ × ℕ)) → c.of_run.result ≡ r
    → let A = c.args in PickedBy (net A.self.now) (back A.self.now) A.low A.at.mark.0 A.i A.at.alive c.run-run.result.first r
found c r e =
    let A = c.args in
    let g = A.self.now in
    let R = c.run-run.ensures in
    let a = c.run-run.result.first in
    let b = c.run-run.result.end in
    let over = over_tie g.step.steps.now.table g.step.words.area.now g.step.words.states in
    picked-by (net g) (back g) A.low A.at.mark.0 A.i A.at.alive a b (rw g.same at R) (over (part g.from.now a b) (part g.kinds.now a b))
    (λ j h. rw (part_at g.from.now a b j h, part_at g.kinds.now a b j h)) r
    (sym e ∙ rw (part_length g.from.now a b (omega (arith, R.ends.within, g.same)), c.saturating_sub-low.ensures) at c.of_run.ensures)

pub slice_bounds-of_run-count : goal.slice_bounds-of_run-count
slice_bounds-of_run-count c = run-order _ _ _ _ _ c.run-run.ensures

pub slice_bounds-of_run-start : goal.slice_bounds-of_run-start
slice_bounds-of_run-start c = run-order _ _ _ _ _ c.run-run.ensures

pub slice_bounds-of_run-count-2 : goal.slice_bounds-of_run-count-2
slice_bounds-of_run-count-2 c = run-order _ _ _ _ _ c.run-run.ensures

pub slice_bounds-of_run-start-2 : goal.slice_bounds-of_run-start-2
slice_bounds-of_run-start-2 c = run-order _ _ _ _ _ c.run-run.ensures

pub returns-in_err-j : goal.returns-in_err-j
returns-in_err-j c = c.from_residual.ensures ∙ found (goal.at.returns-in_err-j c).After-of_run None c.in_err-j.was

pub overflow_add-first : goal.overflow_add-first
overflow_add-first c =
    let F = found (goal.at.overflow_add-first c).After-of_run _ c.in_ok-j.was in
    omega (arith, F.0)

pub tested-tie-requires : goal.tested-tie-requires
tested-tie-requires c = (found (goal.at.tested-tie-requires c).After-of_run _ c.in_ok-j.was).0

pub returns : goal.returns
returns c =
    let F = found (goal.at.returns c).After-of_run _ c.in_ok-j.was in
    ap (λ (n : ℕ). Some (taken n c.in_ok-j.alive)) c.tested-tie.ensures.is ∙ F.1
