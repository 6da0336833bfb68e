use Rattle.std.proofs.Common.{None}
use Rattle.plc_station.specs.StationViews.{station_in}
use Rattle.plc_station.proofs.CarriedPlans.{on_memory, at_some}
use Rattle.plc_station.proofs.SentReplies.{of_fresh}
use Rattle.plc_station.proofs.station.Station.hear.Goals as goal

pub returns-clause-carries : goal.returns-clause-carries
returns-clause-carries g c =
    rw (← c.self.view_is) (on_memory c.self.inside.halted _ _
    (λ running. of_fresh _ _ None _ _ _ (at_some _ _ (station_in c.self.inside.parts c.self.inside.bodies) running c.hear_frame.ensures.hears).carries))

pub returns-clause-replied : goal.returns-clause-replied
returns-clause-replied g c =
    rw (← c.self.view_is) (on_memory c.self.inside.halted _ _
    (λ running. (at_some _ _ (station_in c.self.inside.parts c.self.inside.bodies) running c.hear_frame.ensures.hears).replied))
