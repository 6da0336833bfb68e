use Rattle.std.proofs.Common.{rules, ◌<◌, length}
use Rattle.line_simulation.proofs.Walks.{all_delivered}
use Rattle.line_simulation.proofs.simulation.Simulation.deliver.Goals as goal

pub returns : goal.returns
returns g c =
    let some : 0 < length c.args.came.now = search rules in
    all_delivered g.R.Recording.recorder c.args.from c.args.flight c.args.came.now _ _ _ c.flown-hops.result _ _ _ _ some c.in_ok-keep_time.ensures
    c.new-brought.ensures.items c.in_ok-deliver_all.ensures c.flown-hops.ensures c.as_slice.ensures.value c.in_ok-take_all.ensures
