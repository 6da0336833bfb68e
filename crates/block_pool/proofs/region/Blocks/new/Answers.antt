use Rattle.block_pool.specs.Region.{no_block}
use Rattle.block_pool.proofs.Rows.{bare}
use Rattle.block_pool.proofs.region.Blocks.new.Goals as goal

pub returns : goal.returns
returns c = bare _ _ no_block (c.in_ok-cells.ensures.0, c.in_ok-cells.ensures.2)
