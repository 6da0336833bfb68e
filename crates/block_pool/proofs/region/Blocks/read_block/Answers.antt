use Rattle.std.proofs.Common.{get_or, ap}
use Rattle.block_pool.specs.Region.{spot_of, IsSpot, octet_of}
use Rattle.block_pool.proofs.Rows.{block_is}
use Rattle.block_pool.proofs.region.Blocks.read_block.Goals as goal

pub get-requires : goal.get-requires
unfolding spot_of IsSpot
get-requires c = c.requires.spot

pub returns : goal.returns
unfolding spot_of IsSpot octet_of
returns c = λ k lt. ap (λ b. get_or b.octets k 0) (block_is c.args.self.now.cells _ _ c.requires.spot c.get.ensures)
