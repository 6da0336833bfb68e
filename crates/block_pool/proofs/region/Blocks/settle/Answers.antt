use Rattle.block_pool.proofs.Strings.{at_next}
use Rattle.block_pool.proofs.region.Blocks.settle.Goals as goal

pub returns-then-offset-eq-BLOCK-clause-same : goal.returns-then-offset-eq-BLOCK-clause-same
returns-then-offset-eq-BLOCK-clause-same c first p is = at_next _ _ _ _ _ _ is c.if-offset-eq-BLOCK.true c.next.ensures
