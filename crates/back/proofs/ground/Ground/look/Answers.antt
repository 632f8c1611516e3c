-- `Ground::look` meets its contract: a turn walks one place back, and a place that stops ends the walk.
use Rattle.std.proofs.Common.{arith, false, length, refl, sym, ◌∙◌, ◌<◌, ◌-◌, ◌≡◌}
use Rattle.std.proofs.lemmas.Result.{err_from_is_err_and}
use Rattle.walk.proofs.Back.{goes}
use Rattle.back.specs.Ground.{net, back}
use Rattle.back.proofs.LookLaws.{raised_at, nearer, steps_in, looked_none, looked_more, look_fails}
use Rattle.back.proofs.ground.Ground.look.Goals as goal
use Rattle.back.proofs.ground.Ground.look.Goals.{In_ok-taken, in-Some, in_default}

-- the tie at the place is one
tie_in : (c : In_ok-taken) → c.in_ok-taken.taken.tie.0 < length c.args.self.now.from.now
tie_in c = steps_in _ _ _ _ _ _ _ _ (sym c.stepped.ensures ∙ c.in_ok-taken.ensures.ok_part)

pub loop-i-init : goal.loop-i-init
loop-i-init c = (omega arith, c.requires.0, looked_none _ _ _ _ _ c.requires.2)

pub returns-in_err-taken : goal.returns-in_err-taken
returns-in_err-taken c =
    let L = c.loop-i in
    let g = c.args.self.now in
    let end = c.args.end in
    let fails : goes (net g) (back g) end.mark.0 end.alive 0 c.args.chain.now ≡ false =
    look_fails _ _ _ _ c.args.chain.now L.i (L.i - 1) _ _ _ _ (omega arith) (omega arith) refl L.invariant.2
    (sym c.stepped.ensures ∙ c.in_err-taken.ensures.ok_part) in
    let (_, e, _) = err_from_is_err_and _ c.from_residual.ensures.1 in
    e ∙ (rw fails refl)

pub overflow_add-index : goal.overflow_add-index
overflow_add-index c =
    let g = c.args.self.now in
    omega (arith, tie_in (goal.at.overflow_add-index c).In_ok-taken, g.few)

pub leaves-requires : goal.leaves-requires
leaves-requires c =
    let h = tie_in (goal.at.leaves-requires c).In_ok-taken in
    (h, c.args.self.now.columns.from_in _ h)

pub loop-i-preserved : goal.loop-i-preserved
loop-i-preserved c =
    let L = c.loop-i in
    let best : c.match-pick.best ≡ nearer (raised_at (L.i - 1) c.pick.result) L.best =
    elim c.match-pick.branch [
      | in-Some w ↦ rw w.in-Some.is w.best-is
      | in_default w ↦ rw w.in_default.is w.best-is
    ] in (
      omega arith,
      c.leaves.ensures.below,
      looked_more _ _ _ _ c.args.chain.now L.i (L.i - 1) _ _ _ _ (omega arith) (omega arith) refl L.invariant.2 c.in_ok-taken.taken.tie
          c.in_ok-taken.taken.alive _ _ _ _ _ (sym c.stepped.ensures ∙ c.in_ok-taken.ensures.ok_part) c.leaves.ensures.is c.index.ensures c.pick.ensures
          refl best,
    )
