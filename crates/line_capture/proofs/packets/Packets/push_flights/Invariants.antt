use Rattle.std.proofs.Common.{◌≡◌, ◌-◌, ℕ, List}
use Rattle.line_capture.specs.Captures.{Adds, flights_packets, run_of}
use Rattle.line_capture.proofs.packets.Packets.push_flights.Given as goal

-- whatever the rest of the flights adds, all of them add from the beginning on
abbrev pub invariant-loop-nth : goal.invariant-loop-nth
invariant-loop-nth l =
    record {
      adds : (new : List ℕ)
          → Adds l.self.out.items new (flights_packets l.self.tap (run_of l.run) l.fates l.place l.recorded l.nth (l.recorded.flights - l.nth))
          → Adds l.fn.self.out.items new (flights_packets l.fn.self.tap (run_of l.run) l.fates l.place l.recorded 0 l.recorded.flights);
      tap : l.self.tap ≡ l.fn.self.tap;
    }
