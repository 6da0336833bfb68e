use Rattle.block_pool.specs.Region.{spot_of}
use Rattle.block_pool.proofs.Rows.{adds_by, within, filled_at}
use Rattle.block_pool.proofs.region.Blocks.add.Goals as goal

pub write-requires : goal.write-requires
write-requires c = within c.args.self.now c.args.index c.requires

pub place-requires : goal.place-requires
place-requires c =
    filled_at c.args.self.now.cells _ c.args.index _ (within c.args.self.now c.args.index c.requires) c.write.ensures.filled c.write.ensures.places.1

pub returns : goal.returns
unfolding spot_of
returns c = adds_by c.args.self.now _ _ _ c.args.index _ c.requires c.write.ensures.items c.write.ensures.filled c.write.ensures.places c.empty.ensures.0
    c.place.ensures
