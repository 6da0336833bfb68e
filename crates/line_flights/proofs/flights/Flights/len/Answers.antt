-- There are as many flights as octet strings.
use Rattle.std.proofs.Common.{arith, ap, length}
use Rattle.line_flights.specs.Flown.{Flown}
use Rattle.line_flights.proofs.FlightLists.{count_of}
use Rattle.line_flights.proofs.flights.Flights.len.Goals as goal

pub returns : goal.returns
returns c = omega (
  arith,
  c.len.ensures,
  c.self.invariant.each,
  count_of c.self.inside.log.strings c.self.inside.items.items c.self.invariant.each,
  ap (λ (f : Flown). length f.flights) c.self.view_is,
)
