use Rattle.std.proofs.Common.{sym, ◌∙◌}
use Rattle.plc_station.proofs.Shows.{never_none, route_is}
use Rattle.plc_station.proofs.showing.route_shown.Goals as goal

pub unreachable-requires : goal.unreachable-requires
unreachable-requires c = never_none c.args.routing.now c.args.dest c.requires.kept (sym c.in_default.is ∙ c.rank.ensures)

pub returns : goal.returns
returns c = route_is c.args.routing.now c.args.dest c.in-Some.rank _ (sym c.in-Some.is ∙ c.rank.ensures) c.next_number.ensures
