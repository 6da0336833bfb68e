use Rattle.std.proofs.Common.{Option, ℕ, sym, subst}
use Rattle.node_rules.specs.Calls as calls
use Rattle.plc_station.specs.NextEnds.{IsFirstEnd}
use Rattle.plc_station.specs.StationViews.{station_in}
use Rattle.plc_station.proofs.CarriedPlans.{on_memory}
use Rattle.plc_station.proofs.NextEnds.{is_first}
use Rattle.plc_station.proofs.station.Station.next_end.Goals as goal

pub returns-clause-first : goal.returns-clause-first
returns-clause-first g c =
    let l = station_in c.self.inside.parts c.self.inside.bodies in
    let routes = c.next_end-routes.ensures in
    let bodies = c.next_end-bodies.ensures in
    rw (← c.self.view_is) (on_memory c.self.inside.halted l _ (λ running. subst (λ (end : Option ℕ). IsFirstEnd calls.tick l end) (sym c.end_given.ensures)
    (rw c.min.ensures (is_first l c.next_end-routes.result c.next_end-bodies.result routes.waits routes.ends bodies.waits bodies.ends))))
