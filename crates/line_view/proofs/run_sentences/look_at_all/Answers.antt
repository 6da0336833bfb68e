use Rattle.std.proofs.Common.{◌∙◌}
use Rattle.line_view.proofs.ShownNodes.{look_more}
use Rattle.line_view.proofs.run_sentences.look_at_all.Goals as goal

pub loop-node-preserved : goal.loop-node-preserved
loop-node-preserved c =
    record {
      looked = look_more c.args.event c.loop-node.node c.args.world.now _ _ _ _ c.loop-node.invariant.same c.loop-node.invariant.looked
          c.in_ok-look.ensures.watches;
      same = c.in_ok-look.ensures.same ∙ c.loop-node.invariant.same;
    }
