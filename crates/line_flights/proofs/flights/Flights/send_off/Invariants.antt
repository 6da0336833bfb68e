use Rattle.std.proofs.Common.{◌≡◌, ◌+◌, ◌*◌, ◌-◌, ◌≤◌, ◌++◌, length, map, take}
use Rattle.line_flights.specs.Flights.{flight_by}
use Rattle.line_flights.proofs.flights.Flights.send_off.Given as goal

-- the frames so far fly
abbrev pub invariant-loop-frame : goal.invariant-loop-frame
invariant-loop-frame l = record {
  flights : l.self.flights ≡ l.initial.self.flights ++ map (flight_by l.from) (take l.frame-index l.frames);
  count : length l.self.flights ≡ length l.initial.self.flights + l.frame-index;
  places : l.self.places ≡ l.initial.self.places - l.frame-index;
  room : l.initial.self.room ≤ l.self.room + 400 * l.frame-index;
}
