use Rattle.std.proofs.Common.{refl, ap, get_or}
use Rattle.block_pool.specs.Region.{spot_of, IsSpot, octet_of}
use Rattle.block_pool.proofs.Rows.{block_is, links_by}
use Rattle.block_pool.proofs.region.Blocks.link.Goals as goal

pub get_mut-requires : goal.get_mut-requires
unfolding spot_of IsSpot
get_mut-requires c = c.requires

pub returns : goal.returns
unfolding spot_of IsSpot octet_of
returns c = links_by _ _ _ _ c.requires refl (λ j. ap (λ b. get_or b.octets j 0) (block_is c.args.self.now.cells _ _ c.requires c.get_mut.ensures.value))
