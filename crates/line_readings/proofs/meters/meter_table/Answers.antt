use Rattle.std.proofs.Common.{◌≤◌, length, take_all, subst, arith}
use Rattle.line_readings.specs.Readings.{HasRows}
use Rattle.line_readings.proofs.Tabling.{no_meter, one_meter_more}
use Rattle.line_readings.proofs.meters.meter_table.Goals as goal

pub loop-node-init : goal.loop-node-init
loop-node-init c = no_meter c.args.readings.now _ c.in_ok-out.ensures.items

pub loop-node-preserved : goal.loop-node-preserved
loop-node-preserved c =
    one_meter_more c.args.readings.now c.args.meters.now c.loop-node.node-index _ _ _ c.loop-node-test.true c.loop-node.invariant c.in_ok-push_meter.ensures

pub returns : goal.returns
returns c =
    let finished : length c.args.meters.now ≤ c.loop-node.node-index = omega (arith, c.loop-node-test.false) in
    subst (λ meters. HasRows c.args.readings.now meters c.loop-node.out.items) (take_all c.loop-node.node-index c.args.meters.now finished)
    c.loop-node.invariant
