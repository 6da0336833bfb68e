use Rattle.std.proofs.Common.{◌≡◌, ◌-◌, ◌≤◌, length}
use Rattle.std.specs.List.{filter}
use Rattle.fragment_buffers.specs.WaitingBodies.{Body}
use Rattle.plc_base.specs.Times.{is_within}
use Rattle.station_queues.proofs.DroppedItems.{kept_so_far}
use Rattle.station_queues.proofs.bodies.Bodies.expire_waiting.Given as goal
use Rattle.fragment_buffers.specs.declared.times.TheConstants.{WAITING_TIME}

abbrev pub invariant-loop-index : goal.invariant-loop-index
invariant-loop-index l = record {
  within : l.index ≤ length l.self.waiting;
  gathered : l.self.reassemblies ≡ l.fn.self.reassemblies;
  kept : filter (λ (b : Body). is_within WAITING_TIME l.now b.since) l.fn.self.waiting
      ≡ kept_so_far (λ (b : Body). is_within WAITING_TIME l.now b.since) l.self.waiting l.index;
}

abbrev pub decreases-loop-index : goal.decreases-loop-index
decreases-loop-index l = length l.self.waiting - l.index
