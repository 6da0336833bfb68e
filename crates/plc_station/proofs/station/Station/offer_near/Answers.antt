use Rattle.std.proofs.Common.{refl, ap, ◌∙◌}
use Rattle.node_rules.specs.declared.refusal.PresetFault.TheVariants as presets
use Rattle.routing_set.specs.RoutingSet.{is_better}
use Rattle.node_rules.specs.Calls.{presetting_ends, near_rank}
use Rattle.plc_station.specs.StationViews.{station_in}
use Rattle.plc_station.proofs.CarriedPlans.{on_memory, at_some}
use Rattle.plc_station.proofs.EndedSteps.{refusal, carried_by}
use Rattle.plc_station.proofs.RingCases.{near_worse, near_full, near_kept}
use Rattle.plc_station.proofs.station.Station.offer_near.Goals as goal

pub returns-then-not-is_better-clause-carries : goal.returns-then-not-is_better-clause-carries
returns-then-not-is_better-clause-carries g c =
    rw (← c.self.view_is) (on_memory c.self.inside.halted _ _ (λ running. refusal presetting_ends _ (station_in c.self.inside.parts c.self.inside.bodies)
    presets.NotBetter _ _ running (near_worse (station_in c.self.inside.parts c.self.inside.bodies) c.args.to c.args.cost _ c.args.now
    (c.from.ensures ∙ c.from-cost.ensures ∙ c.number.ensures.value) c.if-not-is_better.ensures) refl))

pub returns-then-full-clause-carries : goal.returns-then-full-clause-carries
returns-then-full-clause-carries g c =
    rw (← c.self.view_is) (on_memory c.self.inside.halted _ _ (λ running. refusal presetting_ends _ (station_in c.self.inside.parts c.self.inside.bodies)
    presets.RoutesFull _ _ running (near_full (station_in c.self.inside.parts c.self.inside.bodies) c.args.to c.args.cost _ c.args.now
    (c.from.ensures ∙ c.from-cost.ensures ∙ c.number.ensures.value) c.if-not-is_better.ensures c.if-full.ensures) refl))

pub returns-clause-carries : goal.returns-clause-carries
returns-clause-carries g c =
    rw (← c.self.view_is) (on_memory c.self.inside.halted _ _ (λ running. carried_by _ _ _ _ _ _
    (near_kept (station_in c.self.inside.parts c.self.inside.bodies) c.args.to c.args.cost _ c.args.now (c.from-cost.ensures ∙ c.number.ensures.value)
    (c.if-not-is_better.ensures ∙ ap (λ k. is_better c.self.inside.parts.routing c.args.to (near_rank k)) c.from.ensures) c.if-full.ensures)
    (at_some _ _ (station_in c.self.inside.parts c.self.inside.bodies) running (rw (← c.self.view_is) at c.keep_near.ensures.carries))))
