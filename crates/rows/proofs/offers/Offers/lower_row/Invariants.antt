-- The loop's invariant: the row is lowered by the offers along the ties of the part below e.
use Rattle.std.proofs.Common.{◌≡◌, ◌≤◌}
use Rattle.rows.specs.Offers.{Lowered, Between, OfTie}
use Rattle.rows.proofs.offers.Offers.lower_row.Given as goal

abbrev pub invariant-loop-e : goal.invariant-loop-e
invariant-loop-e l =
    (l.fn.ties.start ≤ l.e-iterator.start)
    × (l.e-iterator.start ≤ l.fn.ties.end)
    × (l.e-iterator.end ≡ l.fn.ties.end)
    × Lowered
    (Between l.fn.ties.start
    (OfTie l.self.steps.now.table l.self.steps.now.sources l.self.live.now l.self.words.area.now l.self.words.states l.self.from.now l.self.sets.now)
    l.e-iterator.start)
    l.initial.row
    l.row
