-- What start writes: the rows that have 0 at the start pairs and are unreached elsewhere are those of the right area for 0 rounds.
use Prim.Native.Nat.{ℕ, ◌≤◌}
use mathlib.Core.Path.{◌≡◌, refl, sym, ◌∙◌, subst}
use mathlib.Core.List.{List, ◌++◌}
use native.Mathlib.Omega.{arith}
use lib.ListN.{length, drop}
use Rattle.walk.specs.Condition.{starts}
use Rattle.walk.specs.Question.{Question, usable, pairs, right}
use Rattle.walk.specs.Demands.{Accepted}
use Rattle.walk.proofs.Words.{Right, word-zero}
use Rattle.walk.proofs.Areas.{area-right}
use Rattle.rows.specs.Rows.{opening, RowsTo}
use Rattle.rows.proofs.RowLaws.{whole}
use Rattle.rounds.proofs.Offered.{sound, at}

pub begun : (D : Question) (A A' : List ℕ) (s : ℕ) → Accepted D → s ≡ D.from → pairs D ≤ length A → RowsTo A A' D.condition.states
    D.network.marks (opening s D.condition.start)
    → A' ≡ right D 0 ++ drop (pairs D) A
unfolding right usable starts
begun D A A' s acc e room R =
    whole A A' (right D 0) (pairs D) R.size ((area-right D.network D.condition D.from 0 A' (omega (arith, R.size))).1 words) R.after
  where
    words : Right D.network D.condition D.from 0 (at D.condition A')
    words v q hv hq =
        R.before v q hv hq ∙ subst (λ (k : ℕ). opening k D.condition.start v q ≡ opening D.from D.condition.start v q) (sym e) refl
        ∙ sym (word-zero D.network D.condition D.from (sound D acc) v q)
