use Rattle.std.proofs.Common.{sym, ap, ◌∙◌}
use Rattle.node_rules.specs.Memory.{StationMemory}
use Rattle.node_rules.specs.States.{State}
use Rattle.plc_station.specs.Offers.{offered_rank}
use Rattle.plc_station.specs.StationViews.{station_in}
use Rattle.plc_station.proofs.CarriedPlans.{if_some, on_memory, at_some}
use Rattle.plc_station.proofs.OfferCases.{no_better, costs_more, no_place, no_fault, big, small}
use Rattle.plc_station.proofs.station.Station.take_offer.Goals as goal

pub returns-then-is_no_better-clause-fault : goal.returns-then-is_no_better-clause-fault
returns-then-is_no_better-clause-fault g c =
    if_some c.args.self.now.memory _
    (λ l m. no_better l c.args.grant.now.address c.args.offered.now.origin (offered_rank c.args.offered.now) c.args.last.now.time
    (at_some c.args.self.now.memory _ l m c.if-is_no_better.ensures))

pub returns-in_default-clause-fault : goal.returns-in_default-clause-fault
returns-in_default-clause-fault g c =
    if_some c.args.self.now.memory _
    (λ l m. costs_more l c.args.grant.now.address c.args.offered.now.origin (offered_rank c.args.offered.now) c.args.last.now.time
    (at_some c.args.self.now.memory _ l m c.if-is_no_better.ensures) (big _ c.in_default.ensures))

pub returns-then-full-clause-fault : goal.returns-then-full-clause-fault
returns-then-full-clause-fault g c =
    rw (← c.self.view_is) (on_memory c.self.inside.halted _ _ (λ running. no_place (station_in c.self.inside.parts c.self.inside.bodies)
    c.args.grant.now.address c.args.offered.now.origin (offered_rank c.args.offered.now) c.args.last.now.time
    (at_some c.args.self.now.memory _ (station_in c.self.inside.parts c.self.inside.bodies)
    (ap (λ (s : State StationMemory). s.memory) (sym c.self.view_is) ∙ running) c.if-is_no_better.ensures) (small _ c.in-Ok.ensures.0) c.if-full.ensures))

pub returns-clause-fault : goal.returns-clause-fault
returns-clause-fault g c =
    rw (← c.self.view_is) (on_memory c.self.inside.halted _ _ (λ running. no_fault (station_in c.self.inside.parts c.self.inside.bodies)
    c.args.grant.now.address c.args.offered.now.origin (offered_rank c.args.offered.now) c.args.last.now.time
    (at_some c.args.self.now.memory _ (station_in c.self.inside.parts c.self.inside.bodies)
    (ap (λ (s : State StationMemory). s.memory) (sym c.self.view_is) ∙ running) c.if-is_no_better.ensures) (small _ c.in-Ok.ensures.0) c.if-full.ensures))
