-- Refusal 8. Its row is not given exactly where the count is at most V×Q and the area is the right one, and behind rows that are passed it alone
-- answers. Since the step table decides the right area, what passes for the moves lent passes for every list with the same table.
use Prim.Native.Nat.{ℕ, ◌≤◌}
use mathlib.Core.Path.{◌≡◌, refl, sym, ◌∙◌}
use mathlib.Core.Bool.{true}
use mathlib.Core.List.{List, [], ◌∷◌}
use mathlib.Mathlib.Data.Bool.Basic.{eq-true_of_not-eq-false}
use native.Mathlib.Omega.{arith}
use lib.ListN.{take}
use Rattle.walk.specs.declared.Question as lent
use Rattle.walk.specs.declared.Move.{Move}
use Rattle.walk.specs.declared.Refusal.TheVariants.{WrongArea}
use Rattle.walk.specs.declared.Status.{Status}
use Rattle.walk.specs.Question.{Question, pairs, right, status}
use Rattle.walk.specs.Refusals.{wrong_area, start_tests, round_tests}
use Rattle.walk.specs.Answers.{asked}
use Rattle.walk.proofs.Refusals.{ready, area_tested}
use Rattle.std.specs.Prelude.{Ok, Err}
use Rattle.walk.specs.declared.Refused.{Refused}
use Rattle.tables.specs.Steps.{Tabled, Filled}
use Rattle.tables.specs.Tests.{first_given}
use Rattle.tables.proofs.Verdicts.{at, passed_none, given-before, given_behind}
use Rattle.rounds.specs.Judged.{Every, IsRight, Stood}
use Rattle.rounds.proofs.Judging.{right-by-table}
use Rattle.rounds.proofs.Lending.{accepted, accepted_right, few, sized}
use Rattle.rounds.proofs.Standing.{standing-is}

module _ (D : Question) (r : ℕ) (w : List ℕ) where
  pub wrong_given : (r ≤ pairs D → take (pairs D) w ≡ right D r → ⊥) → first_given (wrong_area D r w ∷ []) ≡ at WrongArea 0
  unfolding first_given wrong_area
  wrong_given never =
      let g : (wrong_area D r w).given ≡ true = eq-true_of_not-eq-false (λ e. let (a, b) = (area_tested D r w).0 e in never a b) in
      rw g

  pub wrong_passed : r ≤ pairs D → take (pairs D) w ≡ right D r → first_given (wrong_area D r w ∷ []) ≡ Ok tt
  unfolding first_given
  wrong_passed few is_right = rw ((area_tested D r w).1 (few, is_right))

  -- the rows of a round are those of start with it behind them
  pub refused-before : (e : Refused) → first_given (start_tests D w) ≡ Err e → first_given (round_tests D r w) ≡ Err e
  unfolding round_tests
  refused-before e f = given-before (start_tests D w) _ e.refusal e.place f

  behind : first_given (start_tests D w) ≡ Ok tt → first_given (round_tests D r w) ≡ first_given (wrong_area D r w ∷ [])
  unfolding round_tests
  behind e = given_behind (start_tests D w) _ (passed_none _ e)

module _ (Z : lent.Question) (m : List Move) (r : ℕ) (A : List ℕ) where
  abbrev D : Question
  D = asked Z m

  -- what refusal 8 leaves after refusals 1 to 7 is what all eight leave
  pub all-refused : (T : List ℕ) (e : Refused) → first_given (start_tests D A) ≡ Ok tt → Tabled T D.condition → Stood Z T r A (Err e)
      → first_given (round_tests D r A) ≡ Err e
  all-refused T e f tab L = behind D r A f ∙ L m tab (accepted D A f).0

  pub all-passed : (T S : List ℕ) (s : Status) → first_given (start_tests D A) ≡ Ok tt → Filled T S D.condition → Stood Z T r A (Ok s)
      → (first_given (round_tests D r A) ≡ Ok tt) × (s ≡ status D r)
  all-passed T S s f F L = let (g, h) = L m F.tabled (accepted D A f).0 in (behind D r A f ∙ g, h)

  -- what they leave of the moves lent they leave of every list with the same step table
  pub every_list : (T : List ℕ) (s : Status) → first_given (round_tests D r A) ≡ Ok tt → s ≡ status D r → Tabled T D.condition
      → IsRight Z T r A × Every Z T (λ D. s ≡ status D r)
  every_list T s e f tab =
      let (acc, room, few_rounds, is_right) = accepted_right D r A e in
      let size = sized Z.network.marks Z.network.kinds Z.condition.states A (few Z m acc) room in
      let R = right-by-table Z T A r size (let k = (ready D acc).few in omega arith) m tab acc is_right in (
        R,
        λ m' tab' acc'. f ∙ sym (standing-is D r A is_right room Z.ask.to refl acc.ends.1)
            ∙ standing-is (asked Z m') r A (R m' tab' acc') room Z.ask.to refl acc'.ends.1,
      )
