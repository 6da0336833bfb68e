-- The law, by flights that stay.
use Rattle.line_laws.proofs.LastFlights.{last_say_all}
use Rattle.line_laws.proofs.laws.the_last_flights_say_all.Goals as goal

pub returns : goal.returns
returns c = last_say_all
