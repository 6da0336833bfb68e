use Rattle.std.proofs.Common.{ap, ◌∙◌, remove, arith}
use Rattle.fragment_buffers.proofs.OneList.{cut_none, cut_more, cut_length}
use Rattle.fragment_buffers.proofs.buffers.cut.Goals as goal

pub loop-init : goal.loop-init
loop-init c = cut_none c.args.places.now c.args.start

pub remove-requires : goal.remove-requires
remove-requires c =
    (omega arith, cut_length c.args.places.now c.loop.places c.args.start c.loop.counter (omega (arith, c.loop-test.true, c.requires)) c.loop.invariant)

pub loop-preserved : goal.loop-preserved
loop-preserved c =
    c.remove.ensures.items ∙ ap (λ l. remove l c.args.start) c.loop.invariant
    ∙ cut_more c.args.places.now c.args.start c.loop.counter (omega (arith, c.loop-test.true, c.requires))
