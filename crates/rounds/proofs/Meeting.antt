-- What start and a round answer and leave meets their definitions: where the tests refuse, the first row given answers; where they pass, the status
-- decides what a round does.
use Prim.Native.Nat.{ℕ, suc, ◌+◌}
use mathlib.Core.Path.{◌≡◌, refl, sym, ◌∙◌, ap}
use mathlib.Core.Bool.{Bool, true, false, cond}
use mathlib.Core.List.{List, ◌++◌}
use native.Mathlib.Numerals.{add-one}
use lib.ListN.{take, drop}
use lib.Seq.{take_at}
use Rattle.walk.specs.declared.Status.{Status}
use Rattle.walk.specs.Question.{Question, usable, pairs, right, status}
use Rattle.walk.specs.Refusals.{number, is_going, start_tests, round_tests}
use Rattle.walk.specs.Calls.{Answer, refused, gives, Progress, Done, leave, progress, prepared, start, round}
use Rattle.walk.specs.Answers.{Meets}
use Rattle.walk.proofs.Areas.{length-area}
use Rattle.walk.proofs.Refusals.{judged-none}
use Rattle.std.specs.Prelude.{Ok, Err}
use Rattle.walk.specs.declared.Refused.{Refused}
use Rattle.tables.specs.Tests.{first_given}
use Rattle.tables.proofs.Verdicts.{refused-answers, passed_none}
use Rattle.rounds.specs.Judged.{turned}

pub meets_as : {A B : Type 0} (d d' : Done A B) (x : Answer A) (w : B) → d ≡ d' → Meets d' x w → Meets d x w
meets_as d d' x w e M = rw e M

module _ (D : Question) (w : List ℕ) where
  -- the tests refuse
  pub start-refused : (e : Refused) → first_given (start_tests D w) ≡ Err e → Meets (start D w) (refused (number e.refusal) e.place) w
  unfolding start
  start-refused e f = meets_as _ _ _ w (refused-answers w _ (start_tests D w) e.refusal e.place f) (record { answers = refl; leaves = refl })

  pub round-refused : (r : ℕ) (e : Refused) → first_given (round_tests D r w) ≡ Err e → Meets (round D r w) (refused (number e.refusal) e.place) w
  unfolding round
  round-refused r e f = meets_as _ _ _ w (refused-answers w _ (round_tests D r w) e.refusal e.place f) (record { answers = refl; leaves = refl })

  -- the tests pass
  pub start-passed : (S : Status) (w' : List ℕ) → first_given (start_tests D w) ≡ Ok tt → S ≡ status D 0 → w' ≡ right D 0 ++ drop (pairs D) w → Meets
      (start D w) (gives (record { done = 0; status = S })) w'
  unfolding start prepared progress
  start-passed S w' e f g =
      meets_as _ _ _ w' (judged-none w _ (start_tests D w) (passed_none _ e))
      (record { answers = ap (λ (s : Status). gives (record { done = 0; status = s })) f; leaves = g })

  pub round-passed : (r : ℕ) (x : Answer Progress) (w' : List ℕ) → first_given (round_tests D r w) ≡ Ok tt → Meets (turned D r w) x w'
      → Meets (round D r w) x w'
  unfolding round turned
  round-passed r x w' e M = meets_as _ _ x w' (judged-none w _ (round_tests D r w) (passed_none _ e)) M

  -- a round over a right area whose status is S
  module _ (r : ℕ) (S : Status) (e : S ≡ status D r) where
    turned_by : (t : Bool) → is_going S ≡ t → turned D r w ≡ cond t (prepared D (suc r) w) (leave (progress D r) w)
    unfolding turned
    turned_by t f = ap (λ (b : Bool). cond b (prepared D (suc r) w) (leave (progress D r) w)) (ap is_going (sym e) ∙ f)

    pub turned-stays : is_going S ≡ false → Meets (turned D r w) (gives (record { done = r; status = S })) w
    unfolding progress
    turned-stays f =
        meets_as _ _ _ w (turned_by false f) (record { answers = ap (λ (s : Status). gives (record { done = r; status = s })) e; leaves = refl })

    pub turned-goes : (S' : Status) (w' : List ℕ) → is_going S ≡ true → S' ≡ status D (r + 1) → w' ≡ right D (suc r) ++ drop (pairs D) w → Meets
        (turned D r w) (gives (record { done = r + 1; status = S' })) w'
    unfolding prepared progress
    turned-goes S' w' f g h = meets_as _ _ _ w' (turned_by true f) (record { answers = rw (g, add-one) refl; leaves = h })

-- the words of a right area stand in front
pub in_front : (D : Question) (r : ℕ) (w w' : List ℕ) → w' ≡ right D r ++ drop (pairs D) w → take (pairs D) w' ≡ right D r
unfolding right usable
in_front D r w w' e = rw e (take_at (right D r) (drop (pairs D) w) (pairs D) (length-area (usable D) D.condition D.from r))
