use Rattle.std.proofs.Common.{◌∙◌, arith}
use Rattle.line_simulation.proofs.Walks.{each_goes, each_stops, each_all}
use Rattle.line_simulation.proofs.simulation.Simulation.deliver_all.Goals as goal

pub loop-node-preserved : goal.loop-node-preserved
loop-node-preserved g c =
    each_goes g.R.Recording.recorder c.args.from c.args.flight c.args.came.now c.loop-node.node-index _ _ _ _ _ (omega (arith, c.loop-node-test.true))
    c.loop-node.invariant c.in-Ok.ensures

pub returns-in-Err : goal.returns-in-Err
returns-in-Err g c =
    each_stops g.R.Recording.recorder c.args.from c.args.flight c.args.came.now c.loop-node.node-index _ _ _ c.in-Err.stop _
    (omega (arith, c.loop-node-test.true)) c.loop-node.invariant c.in-Err.ensures

pub returns : goal.returns
returns g c =
    c.loop-node.invariant
    ∙ each_all g.R.Recording.recorder c.args.from c.args.flight c.args.came.now c.loop-node.node-index _ _ (omega (arith, c.loop-node-test.false))
