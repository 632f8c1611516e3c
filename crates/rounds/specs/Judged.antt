-- What the tests of a round answer. Then what the test of the area, refusal 8 and a round answer, for every list of moves that a step table stands
-- for: they are lent the table and no moves.
use Rattle.std.specs.Prelude.{ℕ, suc, ◌+◌, ◌*◌, get_or, Bool, true, cond, List, [], ◌∷◌, ◌++◌, ◌↔◌, ◌≡◌, take, drop, Result, Ok, Err}
use Rattle.walk.specs.declared.Question as lent
use Rattle.walk.specs.declared.Move.{Move}
use Rattle.walk.specs.declared.Refused.{Refused}
use Rattle.walk.specs.declared.Status.{Status}
use Rattle.walk.specs.Question.{Question, pairs, right, status}
use Rattle.walk.specs.Refusals.{is_going, wrong_area, round_tests}
use Rattle.walk.specs.Calls.{Progress, Done, gives, leave, progress, prepared}
use Rattle.walk.specs.Demands.{Accepted}
use Rattle.walk.specs.Answers.{asked, Meets}
use Rattle.tables.specs.Steps.{Tabled, Filled}
use Rattle.tables.specs.Tests.{first_given}
use Rattle.rows.specs.Rows.{Row}
use Rattle.rows.specs.Offers.{Lowered, Between, OfTie}
use Rattle.rounds.specs.declared.lent.Lent.{Lent}
use Rattle.rounds.specs.Answers.{progress_of}

-- refusals 1 to 8 on the question D that q asks: the first that is given, or the status, with what is lent on, its step table being that of the moves
abbrev pub Judges : lent.Question → Question → ℕ → List ℕ → Result (Lent × Status) Refused → Type 0
Judges q D r A (Err e) = first_given (round_tests D r A) ≡ Err e
Judges q D r A (Ok (l, s)) =
    (first_given (round_tests D r A) ≡ Ok tt) × (s ≡ status D r) × (l.question ≡ q) × Filled l.steps.now.table l.steps.now.sources D.condition

-- a round after refusals 1 to 8
unfoldable pub turned : Question → ℕ → List ℕ → Done Progress (List ℕ)
turned D r A = cond (is_going (status D r)) (prepared D (suc r) A) (leave (progress D r) A)

-- b is the row of mark v in the area A, lowered by what the ties from `first` on, up to `end`, offer
abbrev pub RowOffered : lent.Question → List ℕ → List ℕ → List ℕ → List ℕ → ℕ → ℕ → ℕ → List ℕ → Type 0
RowOffered q T S L A v first end b =
    (o : List ℕ) × Row o q.condition.states (λ i. get_or A (v * q.condition.states + i) 0)
    × Lowered (Between first (OfTie T S L A q.condition.states q.from.now q.kinds.now) end) o b

module _ (q : lent.Question) (T : List ℕ) where
  -- P holds of the question with any moves of which T is the step table, if refusals 1 to 6 have no reason
  abbrev pub Every : (Question → Type 0) → Type 0
  Every P = (m : List Move) → Tabled T (asked q m).condition → Accepted (asked q m) → P (asked q m)

  -- the area A is the right one for r rounds
  abbrev pub IsRight : ℕ → List ℕ → Type 0
  IsRight r A = Every (λ D. take (pairs D) A ≡ right D r)

  -- the test of the area answered x
  abbrev pub Tells : Bool → ℕ → List ℕ → Type 0
  Tells x r A = Every (λ D. (x ≡ true) ↔ (take (pairs D) A ≡ right D r))

  -- refusal 8 after refusals 1 to 7: it is given, or the status
  abbrev pub Stood : ℕ → List ℕ → Result Status Refused → Type 0
  Stood r A (Err e) = Every (λ D. first_given (wrong_area D r A ∷ []) ≡ Err e)
  Stood r A (Ok s) = Every (λ D. (first_given (wrong_area D r A ∷ []) ≡ Ok tt) × (s ≡ status D r))

  -- a round left A'
  abbrev pub Advances : ℕ → List ℕ → List ℕ → Type 0
  Advances r A A' = Every (λ D. A' ≡ right D (suc r) ++ drop (pairs D) A)

  abbrev pub Turns : ℕ → List ℕ → ℕ × Status → List ℕ → Type 0
  Turns r A x A' = Every (λ D. Meets (turned D r A) (gives (progress_of x)) A')
