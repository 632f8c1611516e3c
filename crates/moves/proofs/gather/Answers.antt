-- `moves::gather` meets its contract: one move more is written, as the definition writes it.
use Rattle.std.proofs.Common.{ap, refl, sym, ◌∙◌, ℕ, List, get_or}
use native.Mathlib.Numerals.{add-one}
use Rattle.moves.specs.Gathering.{blank, filled, put}
use Rattle.walk.specs.Condition.{no_move}
use Rattle.moves.proofs.gather.Goals as goal

pub loop-j-init : goal.loop-j-init
unfolding filled blank
loop-j-init c = (refl, refl)

pub loop-j-preserved : goal.loop-j-preserved
unfolding filled
loop-j-preserved c =
    let ys = c.args.moves.now in
    let j = c.loop-j.j in (
      c.loop-j.invariant.0,
      c.put.ensures ∙ ap (λ (w : List ℕ). put w j (get_or ys j no_move)) c.loop-j.invariant.1 ∙ ap (λ (k : ℕ). filled k ys) (sym (add-one j)),
    )
