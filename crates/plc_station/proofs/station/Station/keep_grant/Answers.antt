use Rattle.std.proofs.Common.{Some, refl}
use Rattle.std.specs.Prelude.{IfSome}
use Rattle.store_tables.specs.Writes.{puts_of}
use Rattle.store_tables.proofs.WritesLemmas.{wrote_one}
use Rattle.group_keys.specs.KeyRing.{ring_write}
use Rattle.node_rules.specs.Drafts.{empty_draft, with_ring}
use Rattle.node_rules.specs.Calls.{ringing_ends}
use Rattle.node_rules.specs.Agreement.{AgreesWith}
use Rattle.plc_station.specs.StationViews.{station_in}
use Rattle.node_rules.specs.States.{unless_halted}
use Rattle.plc_station.proofs.CarriedPlans.{at_some, on_memory, of_some, lines_are}
use Rattle.plc_station.proofs.Agreement.{agrees_ringed}
use Rattle.plc_station.proofs.EndedSteps.{settled, stopped}
use Rattle.plc_station.proofs.station.Station.keep_grant.Goals as goal

pub returns-in_default-clause-carries : goal.returns-in_default-clause-carries
unfolding with_ring empty_draft
returns-in_default-clause-carries g c =
    rw (← c.self.view_is) (on_memory c.self.inside.halted _ _ (λ running. stopped ringing_ends _ _
    (with_ring (Some c.args.grant.now) (empty_draft (station_in c.self.inside.parts c.self.inside.bodies)))
    (with_ring (Some c.args.grant.now) (empty_draft (station_in c.self.inside.parts c.self.inside.bodies))) tt _ refl
    (wrote_one _ _ (ring_write (Some c.args.grant.now)) _ c.in_default.ensures.store) refl refl))

pub returns-clause-carries : goal.returns-clause-carries
unfolding with_ring empty_draft
returns-clause-carries g c =
    let before = rw (← c.self.view_is) at c.requires.ready.agrees in
    rw (← c.self.view_is) (on_memory c.self.inside.halted _ _ (λ running. settled ringing_ends _ _ (puts_of (ring_write (Some c.args.grant.now)))
    (record (station_in c.self.inside.parts c.self.inside.bodies) { ring = Some c.args.grant.now })
    (with_ring (Some c.args.grant.now) (empty_draft (station_in c.self.inside.parts c.self.inside.bodies))) tt _ refl
    (wrote_one _ _ (ring_write (Some c.args.grant.now)) _ c.in-Ok.ensures.store)
    (at_some _ (λ l. AgreesWith l (g.K.Keeper.store c.self.inside.keeper).records) (station_in c.self.inside.parts c.self.inside.bodies) running
    before).counter.below refl
    (lines_are _ _ _ _ c.in-Ok.ensures.ring refl refl refl refl refl refl refl)))

pub returns-clause-after : goal.returns-clause-after
returns-clause-after g c = record {
  agrees =
      let before : IfSome (unless_halted c.self.inside.halted (station_in c.self.inside.parts c.self.inside.bodies))
      (λ l. AgreesWith l (g.K.Keeper.store c.self.inside.keeper).records) = rw (← c.self.view_is) at c.requires.ready.agrees in
      let running = rw (← c.self.view_is) at c.requires.ready.running in
      agrees_ringed (station_in c.self.inside.parts c.self.inside.bodies) _ _ _ (of_some _ _ _ running before) c.in-Ok.ensures.kept
      c.in-Ok.ensures.elsewhere;
  replied = rw (← c.self.view_is) refl;
}
