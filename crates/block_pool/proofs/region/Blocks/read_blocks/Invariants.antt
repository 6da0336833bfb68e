use Rattle.block_pool.specs.Region.{spot_of, octet_at, IsAt}
use Rattle.std.proofs.Common.{◌≡◌, ℕ, ◌+◌, ◌-◌, ◌<◌, ◌≤◌, get_or, length}
use Rattle.block_pool.proofs.region.Blocks.read_blocks.Given as goal

abbrev pub invariant-loop-out : goal.invariant-loop-out
invariant-loop-out l = record {
  within : l.done ≤ length l.out;
  read : (k : ℕ) → k < l.done → get_or l.out k 0 ≡ octet_at l.self (spot_of l.fn.first) (l.fn.at + k);
  stands : IsAt l.self (spot_of l.fn.first) (spot_of l.place) 0 (l.fn.at + l.done);
}

abbrev pub decreases-loop-out : goal.decreases-loop-out
decreases-loop-out l = length l.out - l.done
