-- The network that chains are found in, and the step back over a tie of it.
use Rattle.std.specs.Prelude.{ℕ}
use Rattle.walk.specs.Network.{Network}
use Rattle.back.specs.declared.ground.Ground.{Ground}
use Rattle.back.specs.Over.{over_tie}

abbrev pub net : Ground → Network
net g = record { marks = g.step.words.marks; kinds = g.step.kinds; froms = g.from.now; tos = g.to.now; sets = g.kinds.now }

abbrev pub back : Ground → ℕ → ℕ → ℕ → ℕ
back g = over_tie g.step.steps.now.table g.step.words.area.now g.step.words.states g.from.now g.kinds.now
