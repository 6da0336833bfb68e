use Rattle.std.proofs.Common.{refl}
use Rattle.plc_station.specs.StationViews.{station_in}
use Rattle.plc_station.proofs.CarriedPlans.{on_memory, lines_are}
use Rattle.plc_station.proofs.Acceptance.{admit_refused, admit_failed, admit_done}
use Rattle.plc_station.proofs.station.Station.admit.Goals as goal

pub returns-in-Err-clause-carries : goal.returns-in-Err-clause-carries
returns-in-Err-clause-carries g c =
    rw (← c.self.view_is) (on_memory c.self.inside.halted _ _ (λ running. admit_refused _ _ _ _ _ _ _ running c.in-Err.ensures c.mark_refusal.ensures))

pub returns-in_default-keep-clause-carries : goal.returns-in_default-keep-clause-carries
returns-in_default-keep-clause-carries g c =
    rw (← c.self.view_is)
    (on_memory c.self.inside.halted _ _ (λ running. admit_failed _ _ (station_in c.self.inside.parts c.self.inside.bodies) c.args.from c.args.counter
    (record { path = c.args.path; payload = c.args.payload.now }) _ c.in_default.ensures c.in_default-keep.ensures.store refl))

pub returns-clause-carries : goal.returns-clause-carries
returns-clause-carries g c =
    rw (← c.self.view_is)
    (on_memory c.self.inside.halted _ _ (λ running. admit_done _ _ (station_in c.self.inside.parts c.self.inside.bodies) c.args.from c.args.counter
    (record { path = c.args.path; payload = c.args.payload.now }) _ c.in_default.ensures c.in-Ok.ensures.store
    (lines_are _ _ _ _ refl refl c.in-Ok.ensures.table refl refl refl refl refl)))
