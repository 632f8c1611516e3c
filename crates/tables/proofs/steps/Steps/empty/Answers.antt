-- `Steps::empty` meets its contract: new words are 0.
use Rattle.tables.proofs.StepLaws.{clear_new}
use Rattle.tables.proofs.steps.Steps.empty.Goals as goal

pub returns-clause-table : goal.returns-clause-table
returns-clause-table c = clear_new 1024

pub returns-clause-sources : goal.returns-clause-sources
returns-clause-sources c = clear_new 32
