use Rattle.std.proofs.Common.{◌≡◌, ◌-◌, ◌≤◌, not, length}
use Rattle.std.specs.List.{filter}
use Rattle.fragment_buffers.specs.WaitingBodies.{Body}
use Rattle.fragment_buffers.specs.WaitingBodies.{waits_for}
use Rattle.station_queues.proofs.DroppedItems.{kept_so_far}
use Rattle.station_queues.proofs.bodies.Bodies.drop_for.Given as goal

abbrev pub invariant-loop-index : goal.invariant-loop-index
invariant-loop-index l = record {
  within : l.index ≤ length l.self.waiting;
  gathered : l.self.reassemblies ≡ l.fn.self.reassemblies;
  kept : filter (λ (b : Body). not (waits_for l.dest b)) l.fn.self.waiting ≡ kept_so_far (λ (b : Body). not (waits_for l.dest b)) l.self.waiting l.index;
}

abbrev pub decreases-loop-index : goal.decreases-loop-index
decreases-loop-index l = length l.self.waiting - l.index
