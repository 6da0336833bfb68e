-- How flights are kept, for the clauses of private functions. No public clause names what stands here.
use Rattle.std.specs.Prelude.{◌≡◌, ◌≤◌, ℕ, ◌+◌, List, [], ◌∷◌, length}
use Rattle.octet_log.specs.Logs.{Log}
use Rattle.line_flights.specs.Flights.{Flight}
use Rattle.line_flights.specs.declared.flights.Kept.{Kept}

-- a flight, by its octets and what is kept beside them
abbrev pub flight_of : List ℕ → Kept → Flight
flight_of octets kept =
    record { from = kept.from; octets = octets; key = kept.key; note = kept.note; lost = kept.lost }

-- flights, by their octets and what is kept beside them
abbrev pub flights_of : List (List ℕ) → List Kept → List Flight
flights_of [] items = []
flights_of (octets ∷ strings) [] = []
flights_of (octets ∷ strings) (kept ∷ items) = flight_of octets kept ∷ flights_of strings items

-- something is kept beside the octets of each flight, and there is a place for as many more as the log has places
pub record AreKept (log : Log) (items : List Kept) (most : ℕ) : Type 0 where
  pub each : length log.strings ≡ length items
  pub fit : length items + log.places ≤ most
