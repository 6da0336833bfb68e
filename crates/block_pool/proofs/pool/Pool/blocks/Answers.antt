use Rattle.std.proofs.Common.{subst}
use Rattle.block_pool.specs.Pool.{PoolState, HasBlocks}
use Rattle.block_pool.proofs.BlockCounts.{has_blocks}
use Rattle.block_pool.proofs.pool.Pool.blocks.Goals as goal

pub returns : goal.returns
returns c = subst (λ (p : PoolState). HasBlocks p c.self.inside.count) c.self.view_is (has_blocks c.self.inside c.self.invariant)
