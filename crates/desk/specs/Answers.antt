-- What the answer of start and of a round says, in the numbers and values of document 01.
use Rattle.std.specs.Prelude.{Result}
use Rattle.walk.specs.declared.Refused.{Refused}
use Rattle.walk.specs.Calls.{Answer, Progress}
use Rattle.walk.specs.Answers.{said}
use Rattle.desk.specs.declared.Prepared.{Prepared}

abbrev pub progress_of : Prepared → Progress
progress_of p = record { done = p.rounds.done; status = p.status }

abbrev pub said_prepared : Result Prepared Refused → Answer Progress
said_prepared = said progress_of
