-- The loop's invariant: the sets of the marks before v are filled.
use Rattle.std.proofs.Common.{length, ◌≡◌}
use Rattle.rows.specs.Rows.{Alive}
use Rattle.rows.proofs.Words.alive.Given as goal

abbrev pub invariant-loop-v : goal.invariant-loop-v
invariant-loop-v l = (length l.live ≡ 1024) × Alive l.live l.self.area.now l.v l.self.states l.lo l.hi
