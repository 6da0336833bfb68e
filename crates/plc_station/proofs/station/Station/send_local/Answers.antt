use Rattle.std.proofs.Common.{refl}
use Rattle.plc_station.specs.StationViews.{station_in}
use Rattle.plc_station.proofs.CarriedPlans.{on_memory, at_some}
use Rattle.plc_station.proofs.RingCases.{no_ring, a_ring}
use Rattle.plc_station.proofs.station.Station.send_local.Goals as goal

pub returns-in_default-clause-unjoined : goal.returns-in_default-clause-unjoined
returns-in_default-clause-unjoined g c = rw (← c.self.view_is) (on_memory c.self.inside.halted _ _ (λ running none. (refl, refl, refl)))

pub returns-in_default-clause-carries : goal.returns-in_default-clause-carries
returns-in_default-clause-carries g c =
    rw (← c.self.view_is) (on_memory c.self.inside.halted _ _ (λ running joined. no_ring c.self.inside.parts.ring c.in_default.ensures joined))

pub returns-clause-unjoined : goal.returns-clause-unjoined
returns-clause-unjoined g c =
    rw (← c.self.view_is) (on_memory c.self.inside.halted _ _ (λ running none. a_ring c.self.inside.parts.ring _ c.in-Some.ensures none))

pub returns-clause-carries : goal.returns-clause-carries
returns-clause-carries g c =
    rw (← c.self.view_is) (on_memory c.self.inside.halted _ _ (λ running joined.
    at_some _ _ (station_in c.self.inside.parts c.self.inside.bodies) running (rw (← c.self.view_is) at c.local_from.ensures.carries)))
