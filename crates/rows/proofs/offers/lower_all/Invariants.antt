-- The loop's invariant: the row is lowered by the states of the set that were passed.
use Rattle.rows.specs.Offers.{One}
use Rattle.rows.proofs.Lowering.{Passed}
use Rattle.rows.proofs.offers.lower_all.Given as goal

abbrev pub invariant-loop-n : goal.invariant-loop-n
invariant-loop-n l = Passed l.n-iterator.set l.n-iterator.at l.set (One l.w) l.initial.row l.row
