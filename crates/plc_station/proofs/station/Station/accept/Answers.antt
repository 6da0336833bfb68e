use Rattle.node_rules.specs.Laws.{WaitingFits}
use Rattle.plc_station.specs.StationViews.{station_in}
use Rattle.plc_station.proofs.CarriedPlans.{on_memory}
use Rattle.plc_station.proofs.HeldSizes.{waiting_fits}
use Rattle.plc_station.proofs.station.Station.accept.Goals as goal

pub returns-clause-waits : goal.returns-clause-waits
returns-clause-waits g c =
    rw (← c.self.view_is)
    (on_memory c.self.inside.halted (station_in c.self.inside.parts c.self.inside.bodies) WaitingFits
    (λ _. waiting_fits (station_in c.self.inside.parts c.self.inside.bodies) c.count-waiting.ensures.sized))
