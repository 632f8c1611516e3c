-- What the answer of start and of a round says, in the numbers and values of document 01.
use Rattle.std.specs.Prelude.{ℕ, Result}
use Rattle.walk.specs.declared.Refused.{Refused}
use Rattle.walk.specs.declared.Status.{Status}
use Rattle.walk.specs.Calls.{Answer, Progress}
use Rattle.walk.specs.Answers.{said}

abbrev pub progress_of : ℕ × Status → Progress
progress_of (r, s) = record { done = r; status = s }

abbrev pub said_prepared : Result (ℕ × Status) Refused → Answer Progress
said_prepared = said progress_of
