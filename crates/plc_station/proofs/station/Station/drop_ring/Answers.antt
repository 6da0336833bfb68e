use Rattle.std.proofs.Common.{None, refl, ap}
use Rattle.std.specs.Prelude.{IfSome}
use Rattle.store_tables.specs.Writes.{puts_of}
use Rattle.store_tables.proofs.WritesLemmas.{wrote_one}
use Rattle.group_keys.specs.KeyRing.{ring_write}
use Rattle.node_rules.specs.Drafts.{empty_draft, with_ring}
use Rattle.node_rules.specs.Calls.{ringing_ends, without_ring}
use Rattle.station_queues.specs.Bodies.{Held}
use Rattle.node_rules.specs.Agreement.{AgreesWith}
use Rattle.plc_station.specs.StationViews.{station_in}
use Rattle.node_rules.specs.States.{unless_halted}
use Rattle.plc_station.proofs.CarriedPlans.{at_some, on_memory, of_some, lines_are}
use Rattle.plc_station.proofs.Agreement.{agrees_ringed, agrees_routed, agrees_holding}
use Rattle.plc_station.proofs.EndedSteps.{settled, stopped}
use Rattle.plc_station.proofs.station.Station.drop_ring.Goals as goal

pub returns-in_default-clause-carries : goal.returns-in_default-clause-carries
unfolding with_ring empty_draft
returns-in_default-clause-carries g c =
    rw (← c.self.view_is) (on_memory c.self.inside.halted _ _ (λ running. stopped ringing_ends _ _
    (without_ring (empty_draft (station_in c.self.inside.parts c.self.inside.bodies)))
    (without_ring (empty_draft (station_in c.self.inside.parts c.self.inside.bodies))) tt _ refl (wrote_one _ _ (ring_write None) _ c.in_default.ensures.store)
    refl refl))

pub returns-clause-carries : goal.returns-clause-carries
unfolding with_ring empty_draft
returns-clause-carries g c =
    let before = rw (← c.self.view_is) at c.requires.ready.agrees in
    rw (← c.self.view_is) (on_memory c.self.inside.halted _ _ (λ running. settled ringing_ends _ _ (puts_of (ring_write None))
    (without_ring (empty_draft (station_in c.self.inside.parts c.self.inside.bodies))).memory
    (without_ring (empty_draft (station_in c.self.inside.parts c.self.inside.bodies))) tt _ refl
    (wrote_one _ _ (ring_write None) _ c.in-Ok.ensures.store) (at_some _ (λ l. AgreesWith l (g.K.Keeper.store c.self.inside.keeper).records)
    (station_in c.self.inside.parts c.self.inside.bodies) running before).counter.below refl
    (lines_are _ _ _ _ c.in-Ok.ensures.ring refl refl c.invalidate_all.ensures.routing refl refl
    (ap (λ (h : Held). h.reassemblies) c.clear.ensures) (ap (λ (h : Held). h.waiting) c.clear.ensures))))

pub returns-clause-after : goal.returns-clause-after
returns-clause-after g c = record {
  agrees =
      let before : IfSome (unless_halted c.self.inside.halted (station_in c.self.inside.parts c.self.inside.bodies))
      (λ l. AgreesWith l (g.K.Keeper.store c.self.inside.keeper).records) = rw (← c.self.view_is) at c.requires.ready.agrees in
      let running = rw (← c.self.view_is) at c.requires.ready.running in
      agrees_holding _ c.self.inside.bodies c.clear.new.self _ (agrees_routed _ _ _
      (agrees_ringed (station_in c.self.inside.parts c.self.inside.bodies) _ _ _ (of_some _ _ _ running before) c.in-Ok.ensures.kept
      c.in-Ok.ensures.elsewhere) c.invalidate_all.ensures.kept);
  replied = rw (← c.self.view_is) refl;
}
