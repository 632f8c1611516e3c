-- `status::stands` meets its contract: `contains` asks the words one by one, as the definition does.
use Rattle.std.proofs.Common.{◌∙◌}
use Rattle.rounds.proofs.Standing.{stands_any}
use Rattle.rounds.proofs.status.stands.Goals as goal

pub returns : goal.returns
returns c = c.contains.ensures.value ∙ stands_any c.args.area.now c.args.n c.args.r c.requires
