use Rattle.std.proofs.Common.{◌≡◌}
use Rattle.block_pool.specs.Hops.{hop}
use Rattle.block_pool.specs.Region.{spot_of, next_of, ClearsRun}
use Rattle.block_pool.proofs.region.Blocks.clear_run.Given as goal

abbrev pub invariant-loop : goal.invariant-loop
invariant-loop l = record {
  cleared : ClearsRun l.initial.self l.self (spot_of l.fn.first) l.counter;
  after : spot_of l.at ≡ hop (next_of l.initial.self) (spot_of l.fn.first) l.counter;
}
