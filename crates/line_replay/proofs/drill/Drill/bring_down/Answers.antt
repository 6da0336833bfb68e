use Rattle.std.proofs.Common.{◌≡◌, ◌+◌, min, arith}
use Rattle.line_replay.specs.Drills.{bring}
use Rattle.line_replay.proofs.DrillLoops.{each_none, each_more, each_all}
use Rattle.line_replay.proofs.drill.Drill.bring_down.Goals as goal

pub loop-node-init : goal.loop-node-init
loop-node-init c = each_none (λ node. bring c.args.flight 0 node) _

pub loop-node-preserved : goal.loop-node-preserved
loop-node-preserved c = each_more (λ node. bring c.args.flight 0 node) c.loop-node.node _ _ _ c.loop-node.auto.node c.loop-node.invariant c.in_ok-bring.ensures

pub returns : goal.returns
returns c =
    let until = c.loop-node.auto.node-end (omega arith) in
    let at : c.loop-node.node ≡ min c.args.meters 20 + 1 = omega (arith, until, c.loop-node-test.false, c.min-node-end.ensures, c.from.ensures) in
    each_all (λ node. bring c.args.flight 0 node) c.loop-node.node (min c.args.meters 20) _ _ at c.loop-node.invariant
