use Rattle.std.proofs.Common.{rules, ◌<◌, ◌≤◌, length}
use Rattle.line_simulation.proofs.Walks.{releases_none, releases_more, releases_all}
use Rattle.line_simulation.proofs.simulation.Simulation.push_releases.Goals as goal

pub loop-nth-init : goal.loop-nth-init
loop-nth-init g c = releases_none c.args.node c.args.kept.now _

pub loop-nth-preserved : goal.loop-nth-preserved
loop-nth-preserved g c =
    let within : c.loop-nth.nth < length c.args.kept.now = search rules in
    releases_more c.args.node c.args.kept.now c.loop-nth.nth _ _ _ _ within c.loop-nth.invariant c.in_ok-push_release.ensures

pub returns : goal.returns
returns g c =
    let past : length c.args.kept.now ≤ c.loop-nth.nth = search rules in
    releases_all c.args.node c.args.kept.now c.loop-nth.nth _ _ past c.loop-nth.invariant
