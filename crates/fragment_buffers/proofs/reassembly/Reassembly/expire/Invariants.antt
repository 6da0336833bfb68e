use Rattle.std.proofs.Common.{◌≡◌, ◌-◌, ◌≤◌, ◌++◌, length, take, drop}
use Rattle.fragment_buffers.specs.PieceIntake.{unexpired}
use Rattle.fragment_buffers.specs.Entries.{reassemblies_in, Keeps, Moves}
use Rattle.fragment_buffers.proofs.reassembly.Reassembly.expire.Given as goal

abbrev pub invariant-loop-index : goal.invariant-loop-index
invariant-loop-index l = record {
  keeps : Keeps l.pool l.self;
  moves : Moves l.fn.pool l.pool l.fn.self l.self;
  within : l.index ≤ length l.self;
  gathered : unexpired (reassemblies_in l.fn.pool l.fn.self) l.now
      ≡ take l.index (reassemblies_in l.pool l.self) ++ unexpired (drop l.index (reassemblies_in l.pool l.self)) l.now;
}

abbrev pub decreases-loop-index : goal.decreases-loop-index
decreases-loop-index l = length l.self - l.index
