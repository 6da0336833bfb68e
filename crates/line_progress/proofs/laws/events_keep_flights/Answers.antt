-- The law, by the kinds of events.
use Rattle.line_progress.proofs.FlightsKept.{flights_kept}
use Rattle.line_progress.proofs.laws.events_keep_flights.Goals as goal

pub returns : goal.returns
returns c = flights_kept
