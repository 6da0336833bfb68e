use Rattle.flash_nodes.proofs.DecidedCalls.{flash_opened, flash_reopened}
use Rattle.flash_nodes.proofs.laws.flash_openings_are_found.Goals as goal

pub returns-clause-opened : goal.returns-clause-opened
returns-clause-opened c = flash_opened

pub returns-clause-reopened : goal.returns-clause-reopened
returns-clause-reopened c = flash_reopened
