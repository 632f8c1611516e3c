-- The loop's invariant: `best` is the least word of an accepting state passed, or r + 1.
use Rattle.std.proofs.Common.{◌+◌}
use Rattle.rounds.proofs.Standing.{Near}
use Rattle.rounds.proofs.status.nearest.Given as goal

abbrev pub invariant-loop-q : goal.invariant-loop-q
invariant-loop-q l = Near l.words l.accept l.q (l.r + 1) l.best
