use Rattle.std.proofs.Common.{◌≡◌, ◌+◌, ◌-◌}
use Rattle.block_pool.specs.Region.{spot_of, IsFresh}
use Rattle.block_pool.specs.Table.{Grows}
use Rattle.block_pool.proofs.free_blocks.link_fresh.Given as goal

abbrev pub invariant-loop-linked : goal.invariant-loop-linked
invariant-loop-linked l = record {
  all : l.linked + l.fresh ≡ l.fn.free.linked + l.fn.free.fresh;
  fresh : IsFresh l.blocks l.fresh;
  grows : Grows l.initial.blocks l.blocks (spot_of l.fn.free.first) l.fn.free.linked (spot_of l.first) l.linked;
}

abbrev pub decreases-loop-linked : goal.decreases-loop-linked
decreases-loop-linked l = l.fresh
