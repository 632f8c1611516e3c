-- What the tests leave: with refusals 1 to 7 passed, the question is accepted and there is room, so the columns, the moves and the area are as the
-- functions below the calls ask for them; with refusal 8 passed too, the area is the right one.
use Prim.Native.Nat.{ℕ, suc, ◌*◌, ◌≤◌}
use mathlib.Core.Path.{◌≡◌, refl}
use mathlib.Core.List.{List}
use native.Mathlib.Omega.{arith}
use lib.ListN.{length, take}
use Rattle.std.specs.Prelude.{Ok}
use Rattle.walk.specs.Ceilings.{ceilings}
use Rattle.walk.specs.declared.Question as lent
use Rattle.walk.specs.declared.Move.{Move}
use Rattle.walk.specs.Question.{Question, pairs, right}
use Rattle.walk.specs.Refusals.{start_tests, round_tests}
use Rattle.walk.specs.Demands.{NoneGiven, Accepted}
use Rattle.walk.specs.Answers.{condition_of, asked}
use Rattle.walk.proofs.Refusals.{accepted_law, start-passes, round-passes}
use Rattle.tables.specs.Tests.{first_given}
use Rattle.tables.specs.Runs.{Rising}
use Rattle.tables.specs.Steps.{InRange}
use Rattle.tables.proofs.Verdicts.{passed_none}
use Rattle.rows.specs.Rows.{Sized}
use Rattle.rows.specs.Offers.{TiesIn}

pub accepted : (D : Question) (w : List ℕ) → first_given (start_tests D w) ≡ Ok tt → Accepted D × (pairs D ≤ length w)
accepted D w e = let (a, b) = (start-passes D w).0 (passed_none _ e) in ((accepted_law D).0 a, b)

-- with refusal 8 passed too
abbrev AcceptedRight : Question → ℕ → List ℕ → Type 0
AcceptedRight D r w = Accepted D × (pairs D ≤ length w) × (r ≤ pairs D) × (take (pairs D) w ≡ right D r)

pub none_right : (D : Question) (r : ℕ) (w : List ℕ) → NoneGiven (round_tests D r w) → AcceptedRight D r w
none_right D r w h =
    let (s, (few, is_right)) = (round-passes D r w).0 h in
    let (a, b) = (start-passes D w).0 s in
    ((accepted_law D).0 a, b, few, is_right)

pub accepted_right : (D : Question) (r : ℕ) (w : List ℕ) → first_given (round_tests D r w) ≡ Ok tt → AcceptedRight D r w
accepted_right D r w e = none_right D r w (passed_none _ e)

module _ (Z : lent.Question) (m : List Move) (acc : Accepted (asked Z m)) where
  pub in_range : InRange Z.network.kinds (condition_of Z.condition m)
  in_range = record {
    kinds = acc.sizes.kinds.1;
    states = acc.condition.states.1;
    few = acc.condition.few;
    from_in = λ j h. (acc.move j h).from;
    kind_in = λ j h. (acc.move j h).kind;
    to_in = λ j h. (acc.move j h).to;
  }

  pub few : (Z.network.marks ≤ ceilings.marks) × (Z.network.kinds ≤ ceilings.kinds) × (Z.condition.states ≤ ceilings.states)
  few = (acc.sizes.marks.1, acc.sizes.kinds.1, acc.condition.states.1)

  pub ties_in : TiesIn Z.network.marks Z.network.kinds (length Z.from.now) Z.from.now Z.kinds.now
  ties_in = record { froms = refl; kind_sets = acc.sizes.columns.1; from_in = λ e h. (acc.tie e h).from; kind_in = λ e h. (acc.tie e h).kinds }

  pub rising : Rising Z.to.now (length Z.from.now) Z.network.marks
  rising = record { size = acc.sizes.columns.0; mark_in = λ e h. (acc.tie e h).to; rises = λ e h. acc.order (suc e) h e refl }

-- V, K and Q within their ceilings, and room for V×Q words
pub sized : (V K Q : ℕ) (A : List ℕ) → (V ≤ ceilings.marks) × (K ≤ ceilings.kinds) × (Q ≤ ceilings.states) → V * Q ≤ length A → Sized V K Q A
sized V K Q A few room = record { few = few.0; kinds_few = few.1; narrow = few.2; room = room }
