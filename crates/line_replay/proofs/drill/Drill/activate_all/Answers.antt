use Rattle.std.proofs.Common.{◌≡◌, ◌+◌, arith}
use Rattle.line_replay.specs.Drills.{activate}
use Rattle.line_replay.proofs.DrillLoops.{each_none, each_more, each_all}
use Rattle.line_replay.proofs.drill.Drill.activate_all.Goals as goal

pub loop-node-init : goal.loop-node-init
loop-node-init c = each_none (activate c.args.meters) _

pub loop-node-preserved : goal.loop-node-preserved
loop-node-preserved c = each_more (activate c.args.meters) c.loop-node.node _ _ _ c.loop-node.auto.node c.loop-node.invariant c.in_ok-activate.ensures

pub returns : goal.returns
returns c =
    let until = c.loop-node.auto.node-end (omega arith) in
    let at : c.loop-node.node ≡ c.args.meters + 1 = omega (arith, until, c.loop-node-test.false, c.from-node-end.ensures) in
    each_all (activate c.args.meters) c.loop-node.node (c.args.meters) _ _ at c.loop-node.invariant
