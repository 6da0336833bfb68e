use Rattle.std.proofs.Common.{ap}
use Rattle.block_pool.specs.Region.{spot_of, IsSpot, next_of}
use Rattle.block_pool.proofs.Rows.{block_is}
use Rattle.block_pool.proofs.region.Blocks.next.Goals as goal

pub get-requires : goal.get-requires
unfolding spot_of IsSpot
get-requires c = c.requires

pub returns : goal.returns
unfolding spot_of IsSpot next_of
returns c = ap (λ b. b.next) (block_is c.args.self.now.cells _ _ c.requires c.get.ensures)
