use Rattle.std.proofs.Common.{◌≡◌, ◌+◌, ◌∙◌, ap, arith}
use Rattle.line_replay.specs.Drills.{each, make_meter, make}
use Rattle.line_replay.proofs.DrillLoops.{each_none, each_more, each_all}
use Rattle.line_replay.proofs.drill.Drill.make.Goals as goal

pub loop-node-init : goal.loop-node-init
loop-node-init c = each_none (make_meter) _

pub loop-node-preserved : goal.loop-node-preserved
loop-node-preserved c = each_more (make_meter) c.loop-node.node _ _ _ c.loop-node.auto.node c.loop-node.invariant c.in_ok-make_meter.ensures

pub returns : goal.returns
unfolding make
returns c =
    let until = c.loop-node.auto.node-end (omega arith) in
    let at : c.loop-node.node ≡ c.args.meters + 1 = omega (arith, until, c.loop-node-test.false, c.from-node-end.ensures) in
    each_all (make_meter) c.loop-node.node (c.args.meters) _ _ at c.loop-node.invariant
    ∙ ap (λ d. each make_meter c.args.meters d) c.in_ok-make_coordinator.ensures
