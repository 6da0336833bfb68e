use Rattle.std.proofs.Common.{inl, refl}
use Rattle.node_rules.specs.declared.refusal.RingRefusal.TheVariants.{NotHeld}
use Rattle.node_rules.specs.Calls.{ringing_ends}
use Rattle.plc_station.specs.StationViews.{station_in}
use Rattle.plc_station.proofs.CarriedPlans.{on_memory, at_some}
use Rattle.plc_station.proofs.EndedSteps.{refusal, carried_by}
use Rattle.plc_station.proofs.RingCases.{not_held, held}
use Rattle.plc_station.proofs.station.Station.seal_with.Goals as goal

pub returns-in_default-clause-carries : goal.returns-in_default-clause-carries
returns-in_default-clause-carries g c =
    rw (← c.self.view_is) (on_memory c.self.inside.halted _ _ (λ running. refusal ringing_ends _ (station_in c.self.inside.parts c.self.inside.bodies) NotHeld _
    _ running (not_held (station_in c.self.inside.parts c.self.inside.bodies) c.args.index c.in_default.ensures) refl))

pub returns-clause-carries : goal.returns-clause-carries
returns-clause-carries g c =
    rw (← c.self.view_is) (on_memory c.self.inside.halted _ _ (λ running. carried_by _ _ _ _ _ _
    (held (station_in c.self.inside.parts c.self.inside.bodies) c.args.index _ c.in-Some.ensures)
    (at_some _ _ (station_in c.self.inside.parts c.self.inside.bodies) running (rw (← c.self.view_is) at c.set_active.ensures.carries))))

pub returns-in_default-clause-either : goal.returns-in_default-clause-either
returns-in_default-clause-either g c = rw (← c.self.view_is) (on_memory c.self.inside.halted _ _ (λ running. inl refl))

pub returns-clause-either : goal.returns-clause-either
returns-clause-either g c =
    rw (← c.self.view_is) (on_memory c.self.inside.halted _ _
    (λ running. at_some _ _ (station_in c.self.inside.parts c.self.inside.bodies) running (rw (← c.self.view_is) at c.set_active.ensures.either)))
