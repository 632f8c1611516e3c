-- No place before the next is bad.
use Rattle.std.proofs.Common.{Bool, ℕ, ◌≡◌, ◌<◌}
use Rattle.tables.proofs.Searches.{NoneBefore}
use Rattle.tables.proofs.tests.unless_any.Given as goal

abbrev pub invariant-loop-place : goal.invariant-loop-place
invariant-loop-place g l =
    (is_bad : ℕ → Bool) → ((i : ℕ) (x : Bool) → i < l.n → goal.F-post g l.bad i x → x ≡ is_bad i) → NoneBefore is_bad l.place
