-- The loop's invariant: what `fill` makes of the places still to fill and the words from there on is what it makes of the whole. The words from n on
-- are never looked at, so they stay.
use Rattle.std.proofs.Common.{drop, length, ◌<◌, ◌≡◌, ◌≤◌}
use Rattle.walk.proofs.Back.{fill}
use Rattle.back.specs.Ground.{net, back}
use Rattle.back.specs.Chain.{Fillable}
use Rattle.back.proofs.ground.Ground.before.Given as goal

abbrev pub invariant-loop-i : goal.invariant-loop-i
invariant-loop-i l =
    (l.i ≤ l.fn.n) × (length l.chain ≡ length l.fn.chain) × (l.at.mark.0 < l.self.step.words.marks)
    × Fillable (net l.self) (back l.self) l.i l.at.mark.0 l.at.alive
    × (fill (net l.self) (back l.self) l.i l.at.mark.0 l.at.alive (drop l.i l.chain)
    ≡ fill (net l.self) (back l.self) l.fn.n l.fn.from.mark.0 l.fn.from.alive (drop l.fn.n l.fn.chain))
