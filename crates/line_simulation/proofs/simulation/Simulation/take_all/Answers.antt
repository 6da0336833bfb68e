use Rattle.std.proofs.Common.{rules, ◌<◌, ◌≤◌, length}
use Rattle.line_simulation.proofs.Walks.{brought_none, brought_more, brought_all}
use Rattle.line_simulation.proofs.simulation.Simulation.take_all.Goals as goal

pub loop-nth-init : goal.loop-nth-init
loop-nth-init g c = brought_none c.args.hops c.args.brought.now _

pub loop-nth-preserved : goal.loop-nth-preserved
loop-nth-preserved g c =
    let within : c.loop-nth.nth < length c.args.brought.now = search rules in
    brought_more c.args.hops c.args.brought.now c.loop-nth.nth _ _ _ _ within c.loop-nth.invariant c.in_ok-take_one.ensures

pub returns : goal.returns
returns g c =
    let past : length c.args.brought.now ≤ c.loop-nth.nth = search rules in
    brought_all c.args.hops c.args.brought.now c.loop-nth.nth _ _ past c.loop-nth.invariant
