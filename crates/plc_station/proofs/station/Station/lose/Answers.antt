use Rattle.std.proofs.Common.{Some, refl, ap, ◌∙◌}
use Rattle.std.specs.Prelude.{IfSome}
use Rattle.node_rules.specs.declared.heard.Heard.TheVariants.{Broken}
use Rattle.node_rules.specs.Drafts.{empty_draft, with_routing_by}
use Rattle.node_rules.specs.HearingRules.{dropped, loses}
use Rattle.node_rules.specs.Agreement.{AgreesWith}
use Rattle.plc_station.specs.StationViews.{station_in}
use Rattle.node_rules.specs.States.{unless_halted}
use Rattle.plc_station.proofs.CarriedPlans.{at_some, on_memory, of_some, station_is}
use Rattle.plc_station.proofs.Agreement.{agrees_routed}
use Rattle.plc_station.proofs.EndedSteps.{unsealed}
use Rattle.plc_station.proofs.GatheredPieces.{still}
use Rattle.plc_station.proofs.station.Station.lose.Goals as goal

pub returns-clause-carries : goal.returns-clause-carries
unfolding empty_draft with_routing_by
returns-clause-carries g c =
    let before = rw (← c.self.view_is) at c.requires.ready.agrees in
    rw (← c.self.view_is) (on_memory c.self.inside.halted _ _
    (λ running. unsealed dropped _ _ (loses c.args.lost c.args.by (station_in c.self.inside.parts c.self.inside.bodies)).memory
    (loses c.args.lost c.args.by (station_in c.self.inside.parts c.self.inside.bodies)) Broken _ refl refl refl
    (still c.self.inside.halted _ _ running ∙ ap Some (station_is _ _ refl refl refl c.invalidate.ensures.routing refl refl refl refl))
    (at_some _ (λ l. AgreesWith l (g.K.Keeper.store c.self.inside.keeper).records) (station_in c.self.inside.parts c.self.inside.bodies) running
    before).counter.below c.requires.ready.empty))

pub returns-clause-after : goal.returns-clause-after
returns-clause-after g c = record {
  agrees =
      let before : IfSome (unless_halted c.self.inside.halted (station_in c.self.inside.parts c.self.inside.bodies))
      (λ l. AgreesWith l (g.K.Keeper.store c.self.inside.keeper).records) = rw (← c.self.view_is) at c.requires.ready.agrees in
      let running = rw (← c.self.view_is) at c.requires.ready.running in
      on_memory c.self.inside.halted _ _ (λ _. agrees_routed (station_in c.self.inside.parts c.self.inside.bodies) _ _
      (of_some _ _ (λ l. AgreesWith l (g.K.Keeper.store c.self.inside.keeper).records) running before) c.invalidate.ensures.kept);
  replied = rw (← c.self.view_is) refl;
}
