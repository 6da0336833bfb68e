use Rattle.block_pool.specs.Region.{spot_of, WritesRun, IsAt}
use Rattle.std.proofs.Common.{◌+◌, ◌-◌, ◌≤◌, length}
use Rattle.block_pool.proofs.region.Blocks.write_run.Given as goal

abbrev pub invariant-loop-done : goal.invariant-loop-done
invariant-loop-done l = record {
  within : l.done ≤ length l.piece;
  written : WritesRun l.initial.self l.self (spot_of l.fn.first) l.fn.at l.done l.piece;
  stands : IsAt l.self (spot_of l.fn.first) (spot_of l.place) l.offset (l.fn.at + l.done);
}

abbrev pub decreases-loop-done : goal.decreases-loop-done
decreases-loop-done l = length l.piece - l.done
