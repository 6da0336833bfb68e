use Rattle.std.proofs.Common.{sym, ap, ◌∙◌}
use Rattle.routing_set.specs.declared.rank.Rank.{Rank}
use Rattle.plc_station.specs.StationViews.{station_in}
use Rattle.plc_station.proofs.CarriedPlans.{on_memory}
use Rattle.plc_station.proofs.Shows.{no_route, has_route}
use Rattle.plc_station.proofs.station.Station.valid.Goals as goal

pub returns-in_default-route-clause-route : goal.returns-in_default-route-clause-route
returns-in_default-route-clause-route g c =
    rw (← c.self.view_is) (on_memory c.self.inside.halted _ _ (λ running. no_route (station_in c.self.inside.parts c.self.inside.bodies) c.in-Some.field-0
    c.args.dest (sym c.in-Some.is ∙ c.grant.ensures) (sym c.in_default-route.is ∙ c.route.ensures)))

pub returns-clause-route : goal.returns-clause-route
returns-clause-route g c =
    rw (← c.self.view_is) (on_memory c.self.inside.halted _ _ (λ running. has_route (station_in c.self.inside.parts c.self.inside.bodies) c.in-Some.field-0
    c.args.dest c.in-Some-route.hop _ (sym c.in-Some.is ∙ c.grant.ensures) (sym c.in-Some-route.is ∙ c.route.ensures)
    (ap (λ (r : Rank). r.cost) c.held.ensures)))
