use Rattle.block_pool.specs.Region.{spot_of, octet_at, IsAt}
use Rattle.std.proofs.Common.{◌≡◌, ℕ, ◌+◌, ◌-◌, ◌<◌, ◌≤◌, get_or, length}
use Rattle.block_pool.proofs.region.Blocks.read_run.Given as goal

abbrev pub invariant-loop-done : goal.invariant-loop-done
invariant-loop-done l = record {
  within : l.done ≤ length l.out;
  read : (k : ℕ) → k < l.done → get_or l.out k 0 ≡ octet_at l.self (spot_of l.fn.first) (l.fn.at + k);
  stands : IsAt l.self (spot_of l.fn.first) (spot_of l.place) l.offset (l.fn.at + l.done);
}

abbrev pub decreases-loop-done : goal.decreases-loop-done
decreases-loop-done l = length l.out - l.done
