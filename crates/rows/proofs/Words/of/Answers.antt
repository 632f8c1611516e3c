-- `Words::of` meets its contract: the area, the marks and the states are those that were given.
use Rattle.std.proofs.Common.{refl}
use Rattle.rows.proofs.Words.of.Goals as goal

pub returns : goal.returns
returns c = (_, _, refl)
