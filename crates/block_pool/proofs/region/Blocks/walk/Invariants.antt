use Rattle.std.proofs.Common.{◌≡◌}
use Rattle.block_pool.specs.Hops.{hop}
use Rattle.block_pool.specs.Region.{spot_of, next_of}
use Rattle.block_pool.proofs.region.Blocks.walk.Given as goal

abbrev pub invariant-loop : goal.invariant-loop
invariant-loop l = spot_of l.at ≡ hop (next_of l.self) (spot_of l.fn.first) l.counter
