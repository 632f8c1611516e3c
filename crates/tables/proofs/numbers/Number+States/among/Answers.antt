-- The bit is read as the definition reads it.
use Rattle.std.proofs.Common.{rules}
use Rattle.walk.specs.Numbers.{has}
use Rattle.tables.proofs.numbers.Number+States.among.Goals as goal

pub returns : goal.returns
unfolding has
returns c = search rules
