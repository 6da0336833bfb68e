-- The flight at a place, by its octets and what is kept beside them.
use Rattle.std.proofs.Common.{◌≡◌, ◌-◌, ◌<◌, Some, sym, ap, ◌∙◌, arith}
use Rattle.std.specs.Prelude.{slice_get}
use Rattle.std.proofs.lemmas.Option.{slice_get_within}
use Rattle.line_flights.specs.Flown.{Flown}
use Rattle.line_flights.specs.KeptFlights.{flight_of}
use Rattle.line_flights.proofs.FlightLists.{flight_at, none_at, item_at, in_flights}
use Rattle.line_flights.proofs.flights.Flights.get.Goals as goal

pub returns-in_default : goal.returns-in_default
returns-in_default c =
    let some : 0 < c.args.number = omega (arith, c.if-number-eq0.false) in
    let none = none_at c.self.inside.log.strings c.self.inside.items.items (c.args.number - 1) (sym c.in_default.ensures) in
    sym (in_flights c.args.self.now.flights c.args.number some ∙ ap (λ (f : Flown). slice_get f.flights (c.args.number - 1)) (sym c.self.view_is) ∙ none)

pub index-kept-requires : goal.index-kept-requires
index-kept-requires c =
    let inside = slice_get_within c.self.inside.log.strings (c.args.number - 1) c.in-Some.octets.now (sym c.in-Some.ensures) in
    omega (arith, inside, c.self.invariant.each, c.self.inside.items.ok)

pub returns : goal.returns
returns c =
    let strings = c.self.inside.log.strings in
    let items = c.self.inside.items.items in
    let some : 0 < c.args.number = omega (arith, c.if-number-eq0.false) in
    let inside = slice_get_within strings (c.args.number - 1) c.in-Some.octets.now (sym c.in-Some.ensures) in
    let kept = c.index-kept.result.now in
    let item = item_at items (c.args.number - 1) kept (omega (arith, inside, c.self.invariant.each)) c.index-kept.ensures in
    let there : slice_get c.args.self.now.flights (c.args.number - 1) ≡ Some (flight_of c.in-Some.octets.now kept) =
    ap (λ (f : Flown). slice_get f.flights (c.args.number - 1)) (sym c.self.view_is)
    ∙ flight_at strings items (c.args.number - 1) c.in-Some.octets.now kept (sym c.in-Some.ensures) item in
    let octets = c.new.ensures in
    (λ i. Some (flight_of (octets i) kept)) ∙ sym (in_flights c.args.self.now.flights c.args.number some ∙ there)
