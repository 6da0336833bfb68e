use Rattle.std.proofs.Common.{refl, ◌∙◌}
use Rattle.block_pool.specs.Region.{spot_of, IsSpot}
use Rattle.block_pool.proofs.Rows.{clears_by}
use Rattle.block_pool.proofs.region.Blocks.clear.Goals as goal

pub get_mut-requires : goal.get_mut-requires
unfolding spot_of IsSpot
get_mut-requires c = c.requires

pub returns : goal.returns
unfolding spot_of
returns c = clears_by _ _ _ c.empty.result c.requires refl (c.empty.ensures.0 ∙ c.next-next.ensures) c.empty.ensures.1
