-- Where more moves are lent than the ceiling, no call looks at one of them: refusals 1 to 3 do not speak of moves, and then 4 is given. So a list
-- of moves that is the one lent where that is within the ceiling, and is past the ceiling where that is, is as good for every call.
use Prim.Native.Nat.{ℕ, ◌<◌, ◌≤◌}
use mathlib.Core.Path.{◌≡◌, refl, sym, ◌∙◌, ap}
use mathlib.Core.Bool.{Bool, true, false}
use mathlib.Mathlib.Data.Bool.Basic.{eq-true-eq-not-eq-false}
use mathlib.Core.List.{List, [], ◌∷◌, ◌++◌}
use native.Mathlib.Omega.{arith}
use lib.Dec.{leb}
use lib.ListN.{length}
use borrow.Author.Tests.{leb-true, leb-false}
use Rattle.walk.specs.declared.Network as network
use Rattle.walk.specs.declared.Condition as condition
use Rattle.walk.specs.declared.Ask.{Ask}
use Rattle.walk.specs.declared.Move.{Move}
use Rattle.walk.specs.declared.Refusal.TheVariants.{BadCondition}
use Rattle.walk.specs.Ceilings.{ceilings}
use Rattle.walk.specs.Question.{Question}
use Rattle.walk.specs.Refusals.{Row, row, number, sizes, bad_tie, tie_order, bad_condition, lent_tests, start_tests, round_tests, list_tests, first_tests, next_tests}
use Rattle.walk.specs.Calls.{refused, Done, judged, start, round, first, next}
use Rattle.walk.specs.Answers.{question}
use Rattle.walk.proofs.Refusals.{row_4}

-- nothing that comes after a row that is given counts
cut : {A B : Type 0} (w : B) (l : List Row) (x : Row) (k k' : List Row) (d d' : Done A B) → x.given ≡ true → judged (l ++ (x ∷ k)) w d ≡ judged (l ++ (x ∷ k')) w d'
unfolding judged
cut w [] x k k' d d' e = rw e
cut {A} {B} w (y ∷ l) x k k' d d' e =
    ap (λ (rest : Done A B). elim y.given [ true ↦ record { answer = refused (number y.name) y.place; left = w } | false ↦ rest ]) (cut w l x k k' d d' e)

abbrev TooMany : List Move → Type 0
TooMany ms = ceilings.moves < length ms

is-given : (D : Question) → TooMany D.condition.moves → bad_condition D ≡ row BadCondition true 0
unfolding bad_condition
is-given D l = ap (λ t. row BadCondition t 0) ((eq-true-eq-not-eq-false _).0 (λ e. let few = ((row_4 D).passes.0 e).few in omega arith))

-- ms is as good as ms'
pub record StandsFor (ms ms' : List Move) : Type 0 where
  pub same : length ms' ≤ ceilings.moves → ms ≡ ms'
  pub many : TooMany ms' → TooMany ms

module _ (n : network.Network) (c : condition.Condition) (a : Ask) (froms tos sets : List ℕ) {ms ms' : List Move} (S : StandsFor ms ms') where
  abbrev Q : List Move → Question
  Q = question n c a froms tos sets

  abbrev before : List Row
  before = sizes (Q ms) ∷ bad_tie (Q ms) ∷ tie_order (Q ms) ∷ []

  -- both lists too long
  refused_alike : {A B : Type 0} (w : B) (k k' : List Row) (d d' : Done A B) → TooMany ms' → judged (before ++ (bad_condition (Q ms) ∷ k)) w d ≡ judged (before ++ (bad_condition (Q ms') ∷ k')) w d'
  refused_alike w k k' d d' l =
      ap (λ (x : Row). judged (before ++ (x ∷ k)) w d) (is-given (Q ms) (S.many l)) ∙ cut w before (row BadCondition true 0) k k' d d' refl
      ∙ ap (λ (x : Row). judged (before ++ (x ∷ k')) w d') (sym (is-given (Q ms') l))

  by_length : {X : Type 0} (call : Question → X) → (TooMany ms' → call (Q ms) ≡ call (Q ms')) → call (Q ms) ≡ call (Q ms')
  by_length call alike = go (leb (length ms') ceilings.moves) refl
    where
      go : (t : Bool) → leb (length ms') ceilings.moves ≡ t → call (Q ms) ≡ call (Q ms')
      go true e = ap (λ (l : List Move). call (Q l)) (S.same (leb-true (length ms') ceilings.moves e))
      go false e = alike (leb-false (length ms') ceilings.moves e)

  pub start_alike : (w : List ℕ) → start (Q ms) w ≡ start (Q ms') w
  unfolding start start_tests lent_tests sizes bad_tie tie_order
  start_alike w = by_length (λ D. start D w) (λ l. refused_alike w _ _ _ _ l)

  pub round_alike : (r : ℕ) (w : List ℕ) → round (Q ms) r w ≡ round (Q ms') r w
  unfolding round round_tests start_tests lent_tests sizes bad_tie tie_order
  round_alike r w = by_length (λ D. round D r w) (λ l. refused_alike w _ _ _ _ l)

  pub first_alike : (r : ℕ) (w b : List ℕ) → first (Q ms) r w b ≡ first (Q ms') r w b
  unfolding first first_tests list_tests round_tests start_tests lent_tests sizes bad_tie tie_order
  first_alike r w b = by_length (λ D. first D r w b) (λ l. refused_alike b _ _ _ _ l)

  pub next_alike : (r : ℕ) (w b : List ℕ) → next (Q ms) r w b ≡ next (Q ms') r w b
  unfolding next next_tests first_tests list_tests round_tests start_tests lent_tests sizes bad_tie tie_order
  next_alike r w b = by_length (λ D. next D r w b) (λ l. refused_alike b _ _ _ _ l)
