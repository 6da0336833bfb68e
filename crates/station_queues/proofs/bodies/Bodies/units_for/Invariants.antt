use Rattle.std.proofs.Common.{◌≡◌, ℕ, ◌≤◌, ◌*◌, length, take}
use Rattle.fragment_buffers.specs.WaitingBodies.{leaving}
use Rattle.station_queues.proofs.bodies.Bodies.units_for.Given as goal

abbrev pub invariant-loop-index : goal.invariant-loop-index
invariant-loop-index l = record {
  few : l.units ≤ 4 * l.index;
  units : (own hop : ℕ) → l.units ≡ length (leaving own l.dest hop (take l.index l.self.waiting));
}
