use Rattle.std.proofs.Common.{◌+◌, ◌≡◌, length, take, ap, arith, ◌∙◌}
use Rattle.std.proofs.lemmas.List.{length-append}
use Rattle.neighbour_checks.specs.Neighbours.{newly_listed}
use Rattle.neighbour_checks.proofs.Histories.{newly_within}
use Rattle.neighbour_checks.proofs.tables.ListedNeighbours.list.Goals as goal

pub list_one-requires : goal.list_one-requires
list_one-requires c =
    let before = newly_listed c.args.now (take c.loop-check.check-index c.args.checks.now) in
    let long : length c.loop-check.self ≡ length c.args.self.now + length before =
    ap length c.loop-check.invariant ∙ length-append c.args.self.now before in
    let room = newly_within c.args.now c.args.checks.now c.loop-check.check-index c.check-item.result c.loop-check-test.true c.check-item.is in
    omega (arith, long, room, c.requires)
