use Rattle.line_capture.proofs.Flights.{flights_captured}
use Rattle.line_capture.proofs.laws.flights_are_captured.Goals as goal

pub returns : goal.returns
returns c = flights_captured
