use Rattle.std.proofs.Common.{sym, subst, refl}
use Rattle.block_pool.specs.Region.{IsSpot}
use Rattle.block_pool.proofs.Hops.{hop-zero}
use Rattle.block_pool.proofs.Strings.{hop_more}
use Rattle.block_pool.proofs.region.Blocks.walk.Goals as goal

pub loop-init : goal.loop-init
loop-init c = sym (hop-zero _ _)

pub next-at-requires : goal.next-at-requires
next-at-requires c = subst (IsSpot c.args.self.now) (sym c.loop.invariant) (c.requires _ c.loop-test.true)

pub loop-preserved : goal.loop-preserved
loop-preserved c = hop_more _ _ _ _ _ _ c.loop.invariant c.next-at.ensures refl
