use Rattle.line_view.proofs.Paged.{look_more}
use Rattle.line_view.proofs.page.Page.look_at_all.Goals as goal

pub loop-node-preserved : goal.loop-node-preserved
loop-node-preserved c = look_more c.args.event c.loop-node.node c.args.self.now _ _ c.loop-node.invariant c.in_ok-look.ensures
