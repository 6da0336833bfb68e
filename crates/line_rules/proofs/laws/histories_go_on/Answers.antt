-- The law, for the beginning and for each event.
use Rattle.line_rules.proofs.Histories.{start_reached, goes_on}
use Rattle.line_rules.proofs.laws.histories_go_on.Goals as goal

pub returns : goal.returns
returns c = record { first = start_reached; later = goes_on }
