use Rattle.std.proofs.Common.{◌≡◌, ◌+◌, ◌-◌, refl, subst, arith}
use Rattle.block_pool.specs.Region.{IsFresh}
use Rattle.block_pool.proofs.Contents.{grows_none, grows_more}
use Rattle.block_pool.proofs.free_blocks.link_fresh.Goals as goal

pub loop-linked-init : goal.loop-linked-init
loop-linked-init c = record { all = refl; fresh = c.requires.fresh; grows = grows_none _ _ _ }

pub add-first-requires : goal.add-first-requires
add-first-requires c =
    let one : c.loop-linked.fresh ≡ c.loop-linked.fresh - 1 + 1 = omega (arith, c.loop-linked.invariant.all, c.loop-linked-test.true, c.requires.enough) in
    subst (IsFresh c.loop-linked.blocks) one c.loop-linked.invariant.fresh

pub loop-linked-preserved : goal.loop-linked-preserved
loop-linked-preserved c = record {
  all = omega (arith, c.loop-linked.invariant.all, c.loop-linked-test.true, c.requires.enough);
  fresh = c.add-first.ensures.fresh;
  grows = grows_more _ _ _ _ _ _ _ _ _ c.loop-linked.invariant.grows c.add-first.ensures;
}
