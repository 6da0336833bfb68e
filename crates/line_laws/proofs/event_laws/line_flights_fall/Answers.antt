-- The law, by the ways that events are made.
use Rattle.line_laws.proofs.FurtherLive.{line_flights_fall}
use Rattle.line_laws.proofs.event_laws.line_flights_fall.Goals as goal

pub returns : goal.returns
returns c = line_flights_fall
