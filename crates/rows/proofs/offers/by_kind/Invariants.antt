-- The loop's invariant: the row is lowered by the offers of the states of the set that were passed.
use Rattle.std.proofs.Common.{List, ℕ, get_or, ◌+◌, ◌*◌}
use Rattle.rows.specs.Offers.{One, Each}
use Rattle.rows.proofs.Lowering.{Passed}
use Rattle.rows.proofs.offers.by_kind.Given as goal

-- the offers from state p
abbrev pub P : List ℕ → List ℕ → ℕ → ℕ → ℕ → ℕ → Type 0
P table words k p = Each (get_or table (k * 32 + p) 0) (One (get_or words p 0 + 1)) 32

abbrev pub invariant-loop-n : goal.invariant-loop-n
invariant-loop-n l = Passed l.n-iterator.set l.n-iterator.at l.set (P l.steps.table l.words l.k.0) l.initial.row l.row
