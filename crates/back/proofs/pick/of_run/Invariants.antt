-- The loop's invariant: before no tie from low on, up to place j, a state is alive.
use Rattle.back.specs.Over.{over_tie}
use Rattle.back.proofs.PickLaws.{Passed}
use Rattle.back.proofs.pick.of_run.Given as goal

abbrev pub invariant-loop-j : goal.invariant-loop-j
invariant-loop-j l = Passed (over_tie l.step.steps.now.table l.step.words.area.now l.step.words.states l.from l.kinds) l.low l.i l.alive l.j
