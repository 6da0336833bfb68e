use Rattle.std.proofs.Common.{◌≡◌, ◌-◌, ◌<◌, ◌≤◌, length, drop, Some}
use Rattle.std.specs.Prelude.{slice_get}
use Rattle.line_flights.proofs.Origins.{origin_of}
use Rattle.line_flights.proofs.flights.Flights.origin.Given as goal

-- what the flights after a number tell; that of the number has the octets
abbrev pub invariant-loop-number : goal.invariant-loop-number
invariant-loop-number l = record {
  is_origin : l.origin ≡ origin_of (drop l.number l.self.flights) l.octets l.key;
  within : l.number ≤ length l.self-inside.log.strings;
  here : 0 < l.number → slice_get l.self-inside.log.strings (l.number - 1) ≡ Some l.octets;
}

abbrev pub decreases-loop-number : goal.decreases-loop-number
decreases-loop-number l = l.number
