-- The loop's invariant: the row is lowered by the offers under the kinds of the tie that were passed.
use Rattle.std.proofs.Common.{List, ℕ, get_or, bit_and}
use Rattle.rows.specs.Offers.{ByKind}
use Rattle.rows.proofs.Lowering.{Passed}
use Rattle.rows.proofs.offers.along.Given as goal

-- the offers under kind k
abbrev pub P : List ℕ → List ℕ → List ℕ → ℕ → ℕ → ℕ → ℕ → Type 0
P table sources words live k = ByKind table words (bit_and live (get_or sources k 0)) k

abbrev pub invariant-loop-n : goal.invariant-loop-n
invariant-loop-n l =
    Passed l.n-iterator.set l.n-iterator.at l.set (P l.steps.table l.steps.sources l.words l.live) l.initial.row l.row
