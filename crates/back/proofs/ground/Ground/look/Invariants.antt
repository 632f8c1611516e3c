-- The loop's invariant: the chain has been walked back to the place i, and all that is kept is that of the rest from there on.
use Rattle.std.proofs.Common.{length, ◌<◌, ◌≤◌}
use Rattle.back.specs.Ground.{net, back}
use Rattle.back.proofs.LookLaws.{Looked}
use Rattle.back.proofs.ground.Ground.look.Given as goal

abbrev pub invariant-loop-i : goal.invariant-loop-i
invariant-loop-i l =
    (l.i ≤ length l.chain) × (l.at.mark.0 < l.self.step.words.marks)
    × Looked (net l.self) (back l.self) l.fn.end.mark.0 l.fn.end.alive l.chain l.i l.at.mark.0 l.at.alive l.best
