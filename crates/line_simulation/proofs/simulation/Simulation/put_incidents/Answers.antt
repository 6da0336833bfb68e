use Rattle.std.proofs.Common.{rules, ◌<◌, ◌≤◌, length, ◌∙◌}
use Rattle.line_simulation.proofs.Walks.{put_goes, put_stops, put_all}
use Rattle.line_simulation.proofs.simulation.Simulation.put_incidents.Goals as goal

pub loop-nth-preserved : goal.loop-nth-preserved
loop-nth-preserved g c =
    let within : c.loop-nth.nth < length c.args.times.now = search rules in
    put_goes c.args.times.now c.loop-nth.nth _ _ _ within c.loop-nth.invariant c.in-Ok.ensures

pub returns-in-Err : goal.returns-in-Err
returns-in-Err g c =
    let within : c.loop-nth.nth < length c.args.times.now = search rules in
    put_stops c.args.times.now c.loop-nth.nth _ _ c.in-Err.stop _ within c.loop-nth.invariant c.in-Err.ensures

pub returns : goal.returns
returns g c =
    let past : length c.args.times.now ≤ c.loop-nth.nth = search rules in
    c.loop-nth.invariant ∙ put_all c.args.times.now c.loop-nth.nth _ past
