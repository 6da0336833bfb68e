use Rattle.std.proofs.Common.{sym, subst, refl, ◌∙◌}
use Rattle.block_pool.specs.Region.{IsSpot}
use Rattle.block_pool.proofs.Hops.{hop-zero}
use Rattle.block_pool.proofs.Strings.{hop_more, cleared_none, cleared_more}
use Rattle.block_pool.proofs.region.Blocks.clear_run.Goals as goal

pub loop-init : goal.loop-init
loop-init c = record { cleared = cleared_none _ _; after = sym (hop-zero _ _) }

pub clear-requires : goal.clear-requires
clear-requires c = subst (IsSpot c.loop.self) (sym c.loop.invariant.after) (c.loop.invariant.cleared.links.spots _ (c.requires.1 _ c.loop-test.true).0)

pub next-at-requires : goal.next-at-requires
next-at-requires c = c.clear.ensures.links.spots _
    (subst (IsSpot c.loop.self) (sym c.loop.invariant.after) (c.loop.invariant.cleared.links.spots _ (c.requires.1 _ c.loop-test.true).0))

pub loop-preserved : goal.loop-preserved
loop-preserved c =
    let cleared = cleared_more _ _ _ _ _ _ _ c.requires c.loop-test.true c.loop.invariant.cleared c.loop.invariant.after c.clear.ensures in
    let spot = subst (IsSpot c.args.self.now) (sym c.loop.invariant.after) (c.requires.1 _ c.loop-test.true).0 in
    record { cleared = cleared; after = hop_more _ _ _ _ _ _ c.loop.invariant.after (c.next-at.ensures ∙ cleared.links.next _ spot) refl }
