use Rattle.std.proofs.Common.{◌≡◌, ◌+◌, ℕ, List, drop}
use Rattle.line_capture.specs.Captures.{Adds, packets_from, run_of}
use Rattle.line_capture.specs.Places.{IsPlace, start}
use Rattle.line_capture.proofs.packets.Packets.push_each.Given as goal

-- whatever the rest of the events adds, all of them add from the beginning on
abbrev pub invariant-loop-recorded : goal.invariant-loop-recorded
invariant-loop-recorded l =
    record {
      adds : (new : List ℕ) → Adds l.self.out.items new (packets_from l.self.tap (run_of l.run) l.fates l.place (drop l.recorded-index l.events))
          → Adds l.fn.self.out.items new (packets_from l.fn.self.tap (run_of l.run) l.fates start l.events);
      tap : l.self.tap ≡ l.fn.self.tap;
      place : IsPlace l.place;
      number : l.place.number ≡ l.recorded-index + 1;
    }
