-- How many units the bodies that wait are.
use Rattle.std.proofs.Common.{ℕ, ◌≤◌}
pub use Rattle.fragment_buffers.specs.Loads.{units_in}
pub use Rattle.fragment_buffers.specs.WaitingBodies.{pending_in}
pub use Rattle.fragment_buffers.proofs.Sizes.{length-units_of, length-all_go, leaving_units, load_bound}
use Rattle.fragment_buffers.proofs.Sizes.{few_pending}
use Rattle.node_rules.specs.Memory.{StationMemory}
use Rattle.node_rules.specs.Laws.{WaitingFits}

abbrev pub pending : StationMemory → ℕ
pending l = pending_in l.waiting

pub pending_bound : (l : StationMemory) → WaitingFits l → pending l ≤ 21
pending_bound l w = few_pending l.waiting w.bodies w.blocks w.datagrams
