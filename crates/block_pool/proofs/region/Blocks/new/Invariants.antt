use Rattle.block_pool.specs.Region.{no_block}
use Rattle.block_pool.proofs.region.Blocks.new.Given as goal

abbrev pub ghost-allocate : goal.ghost-allocate
ghost-allocate a = no_block
