use Rattle.std.proofs.Common.{◌≡◌, ◌+◌, ◌∙◌, ap, arith}
use Rattle.line_replay.specs.Drills.{each, send, read}
use Rattle.line_replay.proofs.DrillLoops.{each_none, each_more, each_all}
use Rattle.line_replay.proofs.drill.Drill.read.Goals as goal

pub loop-node-init : goal.loop-node-init
loop-node-init c = each_none (send c.args.meters c.args.round c.args.zeros) _

pub loop-node-preserved : goal.loop-node-preserved
loop-node-preserved c =
    each_more (send c.args.meters c.args.round c.args.zeros) c.loop-node.node _ _ _ c.loop-node.auto.node c.loop-node.invariant c.in_ok-send.ensures

pub returns : goal.returns
unfolding read
returns c =
    let until = c.loop-node.auto.node-end (omega arith) in
    let at : c.loop-node.node ≡ c.args.meters + 1 = omega (arith, until, c.loop-node-test.false, c.from-node-end.ensures) in
    each_all (send c.args.meters c.args.round c.args.zeros) c.loop-node.node (c.args.meters) _ _ at c.loop-node.invariant
    ∙ ap (λ d. each (send c.args.meters c.args.round c.args.zeros) c.args.meters d) c.in_ok-take.ensures
