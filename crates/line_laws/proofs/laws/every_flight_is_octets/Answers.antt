-- The law, by an account of what nodes hold and send.
use Rattle.line_laws.proofs.FurtherOctets.{every_flight}
use Rattle.line_laws.proofs.laws.every_flight_is_octets.Goals as goal

pub returns : goal.returns
returns c = every_flight
