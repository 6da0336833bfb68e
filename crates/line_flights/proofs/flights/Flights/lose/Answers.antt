-- What is kept beside the octets of a flight says then that it is lost.
use Rattle.std.proofs.Common.{◌≡◌, ◌-◌, ◌<◌, false, true, Some, sym, ap, ◌∙◌, arith}
use Rattle.std.specs.Prelude.{slice_get, slice_set}
use Rattle.std.proofs.lemmas.Option.{slice_get_within}
use Rattle.line_flights.specs.Flights.{Flight}
use Rattle.line_flights.specs.Flown.{Flown, flight_in}
use Rattle.line_flights.specs.KeptFlights.{flights_of}
use Rattle.line_flights.proofs.FlightLists.{count_of, item_at, in_flights, flights_lost, lost_so}
use Rattle.line_flights.proofs.flights.Flights.lose.Goals as goal

pub index_mut-requires : goal.index_mut-requires
index_mut-requires c =
    let some : 0 < c.args.number = omega (arith, c.if-number-eq0.false) in
    let there : slice_get (flights_of c.self.inside.log.strings c.self.inside.items.items) (c.args.number - 1) ≡ Some c.in-Some.flight =
    ap (λ (f : Flown). slice_get f.flights (c.args.number - 1)) c.self.view_is ∙ sym (in_flights c.args.self.now.flights c.args.number some)
    ∙ sym c.in-Some.ensures in
    let inside = slice_get_within (flights_of c.self.inside.log.strings c.self.inside.items.items) (c.args.number - 1) c.in-Some.flight there in
    omega (arith, inside, count_of c.self.inside.log.strings c.self.inside.items.items c.self.invariant.each, c.self.inside.items.ok)

pub returns : goal.returns
returns c =
    let strings = c.self.inside.log.strings in
    let items = c.self.inside.items.items in
    let number = c.args.number in
    let f = c.in-Some.flight in
    let kept = c.index_mut.result.now in
    let some : 0 < number = omega (arith, c.if-number-eq0.false) in
    let here : flight_in c.args.self.now.flights number ≡ Some f = sym c.in-Some.ensures in
    let there : slice_get (flights_of strings items) (number - 1) ≡ Some f =
    ap (λ (f : Flown). slice_get f.flights (number - 1)) c.self.view_is ∙ sym (in_flights c.args.self.now.flights number some) ∙ here in
    let inside = slice_get_within (flights_of strings items) (number - 1) f there in
    let item = item_at items (number - 1) kept (omega (arith, inside, count_of strings items c.self.invariant.each)) c.index_mut.ensures.value in
    let flies : f.lost ≡ false = ap (λ (f : Flight). f.lost) (sym c.flight.view_is) ∙ c.if-flight.false in
    let flights = flights_lost strings items (number - 1) kept f item there
    ∙ ap (λ (l : Flown). slice_set l.flights (number - 1) (record f { lost = true })) c.self.view_is in
    lost_so c.args.self.now _ number f here flies (λ i. record { flights = flights i; places = (c.self.view_is i).places; room = (c.self.view_is i).room })
