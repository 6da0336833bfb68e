-- One more octet string, and what is kept beside it, are one more flight.
use Rattle.std.proofs.Common.{◌≡◌, ◌-◌, false, [], ◌∷◌, ◌++◌, ap, ◌∙◌, arith, length}
use Rattle.octet_log.proofs.Lasts.{if_ok}
use Rattle.line_flights.specs.declared.flights.Kept.{Kept}
use Rattle.line_flights.specs.Flights.{flight_by}
use Rattle.line_flights.specs.Flown.{Flown}
use Rattle.line_flights.specs.KeptFlights.{flight_of, flights_of}
use Rattle.line_flights.proofs.FlightLists.{count_of, flights_push}
use Rattle.line_flights.proofs.flights.Flights.push.Goals as goal

pub push-requires-clause-numbers : goal.push-requires-clause-numbers
push-requires-clause-numbers c =
    omega (
      arith,
      c.requires.numbers,
      c.self.invariant.each,
      count_of c.self.inside.log.strings c.self.inside.items.items c.self.invariant.each,
      ap (λ (f : Flown). length f.flights) c.self.view_is,
    )

pub returns : goal.returns
returns c =
    let strings = c.self.inside.log.strings in
    let items = c.self.inside.items.items in
    let kept : Kept = record { from = c.args.from; key = c.args.frame.now.key; note = c.args.frame.now.note; lost = false } in
    let places : c.self.inside.log.places ≡ c.args.self.now.places = ap (λ (f : Flown). f.places) c.self.view_is in
    let octets : c.octets.result.now ≡ c.args.frame.now.octets = c.octets.ensures.value in
    let pushed : c.push-2.new.self.items ≡ items ++ kept ∷ [] =
    if_ok c.push-2.result (items ++ kept ∷ []) items c.push-2.new.self.items
    (c.push-2.ensures.succeeds (omega (arith, c.self.invariant.fit, c.requires.places, places))) c.push-2.ensures.items in
    let flights : flights_of (strings ++ c.octets.result.now ∷ []) (items ++ kept ∷ [])
    ≡ c.args.self.now.flights ++ flight_by c.args.from c.args.frame.now ∷ [] =
    flights_push strings items c.octets.result.now kept c.self.invariant.each ∙ (λ i. (c.self.view_is i).flights ++ flight_of (octets i) kept ∷ []) in
    rw (c.push.ensures, pushed) (λ i. record { flights = flights i; places = places i - 1; room = (c.self.view_is i).room - length (octets i) })
