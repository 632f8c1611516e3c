-- What the tests of first and next leave, for every chain buffer with the room that is told to them: the tests read its length and no word of it.
use Rattle.std.specs.Prelude.{ℕ, cond, List, ◌≡◌, ltb, length, Option, Some, None, Result, Ok, Err}
use Rattle.walk.specs.declared.Question as lent
use Rattle.walk.specs.declared.Refused.{Refused}
use Rattle.walk.specs.declared.Status.{Status}
use Rattle.walk.specs.declared.Status.TheVariants as status
use Rattle.walk.specs.declared.Refusal.TheVariants.{Unfinished, ShortChain}
use Rattle.walk.specs.Question.{Question}
use Rattle.walk.specs.Question as Question
use Rattle.walk.specs.Refusals.{first_tests}
use Rattle.tables.specs.Steps.{Filled}
use Rattle.tables.specs.Tests.{first_given}
use Rattle.rounds.specs.declared.lent.Lent.{Lent}

-- with any chain buffer of that room the first of refusals 1 to 10 that is given is v
abbrev pub Gives : Question → ℕ → List ℕ → ℕ → Result (Unit {0}) Refused → Type 0
Gives D r A room v = (c : List ℕ) → length c ≡ room → first_given (first_tests D r A c) ≡ v

-- what is lent on of the question D that q asks
abbrev pub OfQuestion : lent.Question → Question → Lent → Type 0
OfQuestion q D l = (l.question ≡ q) × Filled l.steps.now.table l.steps.now.sources D.condition

-- the tests answered so
abbrev pub Asks : lent.Question → Question → ℕ → List ℕ → ℕ → Result (Lent × Option ℕ) Refused → Type 0
Asks q D r A room (Err e) = Gives D r A room (Err e)
Asks q D r A room (Ok (l, None)) = Gives D r A room (Ok tt) × (Question.status D r ≡ status.None) × OfQuestion q D l
Asks q D r A room (Ok (l, Some n)) = Gives D r A room (Ok tt) × (Question.status D r ≡ status.Found n) × OfQuestion q D l

-- refusals 9 and 10, by the status
abbrev pub by_status : Status → ℕ → Result (Option ℕ) Refused
by_status status.Going room = Err (record { refusal = Unfinished; place = 0 })
by_status status.None room = Ok None
by_status (status.Found n) room = cond (ltb room n) (Err (record { refusal = ShortChain; place = n })) (Ok (Some n))
