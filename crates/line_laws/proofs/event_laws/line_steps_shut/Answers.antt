-- The law, by the ways that events are made.
use Rattle.line_laws.proofs.FurtherGrowth.{line_steps_shut}
use Rattle.line_laws.proofs.FurtherRestarts.{line_kicks_shut}
use Rattle.line_laws.proofs.event_laws.line_steps_shut.Goals as goal

pub returns-clause-shut : goal.returns-clause-shut
returns-clause-shut c = line_steps_shut

pub returns-clause-kicks : goal.returns-clause-kicks
returns-clause-kicks c = line_kicks_shut
