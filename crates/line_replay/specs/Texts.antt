-- The texts of a report that the world gives.
use Rattle.std.specs.Prelude.{ℕ, zero, suc, ◌+◌, ◌-◌, Bool, List, [], ◌++◌, length, codes, Option, None, Some, if◌then◌else◌}
use Rattle.line_rules.specs.Worlds.{World, Flight, flight_at}
use Rattle.line_script.specs.declared.report.Totals.{Totals}
use Rattle.line_script.specs.Texts.{fly_text}

-- the line of a flight, if there is one
abbrev pub fly_by : ℕ → Option Flight → List ℕ
fly_by number None = []
fly_by number (Some f) = fly_text number f.from f.octets

unfoldable pub flight_text : World → ℕ → List ℕ
flight_text w number = fly_by number (flight_at w number)

-- the lines of this many flights from a number on
unfoldable pub flies_text : World → ℕ → ℕ → List ℕ
flies_text w first zero = []
flies_text w first (suc count) = flies_text w first count ++ flight_text w (first + count)

-- the lines of the flights from a number on, none in a quiet report
unfoldable pub sent_text : Bool → World → ℕ → List ℕ
sent_text quiet w first = if quiet then [] else flies_text w first (length w.flights + 1 - first)

-- the totals that the last line names
abbrev pub totals : World → Totals
totals w = record { events = w.events; flights = length w.flights; sends = w.sends; ups = w.ups; forged = w.forged }

abbrev pub usage_text : List ℕ
usage_text = codes "usage: line_replay replay [-q] | show | vectors | drill N\n"
