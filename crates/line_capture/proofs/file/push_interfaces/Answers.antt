use Rattle.std.proofs.Common.{arith}
use Rattle.line_capture.proofs.Steps.{no_node, node_added}
use Rattle.line_capture.proofs.file.push_interfaces.Goals as goal

pub loop-node-preserved : goal.loop-node-preserved
loop-node-preserved c =
    λ new h. c.loop-node.invariant new
    (node_added c.loop-node.out.items c.push_interface.new.out.items new c.args.tap c.loop-node.node c.args.euis.now _ (omega arith)
    c.in_ok-push_interface.ensures h)

pub returns : goal.returns
returns c = c.loop-node.invariant c.loop-node.out.items (no_node c.loop-node.out.items c.args.tap c.loop-node.node c.args.euis.now c.loop-node-test.false)
