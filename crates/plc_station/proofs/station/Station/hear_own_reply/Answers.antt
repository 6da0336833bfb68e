use Rattle.std.proofs.Common.{Some, sym, ap, ◌∙◌, arith}
use Rattle.std.proofs.lemmas.Result.{err_from_is_err_and}
use Rattle.node_rules.specs.declared.heard.Heard.TheVariants.{Learned}
use Rattle.node_rules.specs.declared.refusal.Dropped.TheVariants.{CounterSpent}
use Rattle.node_rules.specs.Memory.{StationMemory}
use Rattle.node_rules.specs.HearingRules.{dropped, offers, learns}
use Rattle.plc_station.specs.Offers.{offered_rank}
use Rattle.plc_station.specs.StationViews.{station_in}
use Rattle.node_rules.specs.States.{State}
use Rattle.plc_station.proofs.CarriedPlans.{if_some, on_memory, at_some}
use Rattle.plc_station.proofs.EndedSteps.{refusal, carried_by, answered, failed}
use Rattle.plc_station.proofs.Ways.{too_few, enough}
use Rattle.plc_station.proofs.OfferCases.{not_taken}
use Rattle.plc_station.proofs.ReplyCases.{learn_spent, learning}
use Rattle.plc_station.proofs.station.Station.hear_own_reply.Goals as goal

pub returns-in_err-offer-clause-carries : goal.returns-in_err-offer-clause-carries
returns-in_err-offer-clause-carries g c =
    let p = err_from_is_err_and c.from_residual.result c.from_residual.ensures.1 in
    rw p.1 (if_some c.args.self.now.memory _ (λ l m. refusal dropped c.args.self.now l p.0 _ _ m
    (not_taken l c.args.grant.now.address c.args.offered.now.origin (offered_rank c.args.offered.now) c.args.last.now.time
    (learns l c.args.grant.now.address c.args.last.now.by c.args.offered.now.origin (offered_rank c.args.offered.now) c.args.last.now.time) p.0
    (at_some c.args.self.now.memory _ l m c.in_err-offer.ensures.fault ∙ ap Some (sym p.2))) c.requires.ready.empty))

pub returns-then-left-units-clause-carries : goal.returns-then-left-units-clause-carries
returns-then-left-units-clause-carries g c =
    rw (← c.self.view_is) (on_memory c.self.inside.halted _ _
    (λ running. refusal dropped _ (station_in c.self.inside.parts c.self.inside.bodies) CounterSpent _ _ running
    (learn_spent (station_in c.self.inside.parts c.self.inside.bodies) c.args.grant.now.address c.args.last.now.by c.args.offered.now.origin
    (offered_rank c.args.offered.now) c.args.last.now.time (at_some c.args.self.now.memory _ (station_in c.self.inside.parts c.self.inside.bodies)
    (ap (λ (s : State StationMemory). s.memory) (sym c.self.view_is) ∙ running) c.in_ok-offer.ensures.fault)
    (too_few _ _ _ c.left-left.ensures (omega (arith, c.if-left-units.true, c.units_for-units.ensures.units c.args.grant.now.address c.args.last.now.by))))
    c.requires.ready.empty))

pub returns-in-Ok-clause-carries : goal.returns-in-Ok-clause-carries
returns-in-Ok-clause-carries g c =
    rw (← c.self.view_is) (on_memory c.self.inside.halted _ _ (λ running. carried_by _ _ _ _ _ _
    (learning (station_in c.self.inside.parts c.self.inside.bodies) c.args.grant.now.address c.args.last.now.by c.args.offered.now.origin
    (offered_rank c.args.offered.now) c.args.last.now.time (at_some c.args.self.now.memory _ (station_in c.self.inside.parts c.self.inside.bodies)
    (ap (λ (s : State StationMemory). s.memory) (sym c.self.view_is) ∙ running) c.in_ok-offer.ensures.fault)
    (enough _ _ _ c.left-left.ensures (omega (arith, c.if-left-units.false, c.units_for-units.ensures.units c.args.grant.now.address c.args.last.now.by))))
    (answered dropped _ _ (offers c.args.grant.now.address c.args.offered.now.origin (offered_rank c.args.offered.now) c.args.last.now.by c.args.last.now.time
    (station_in c.self.inside.parts c.self.inside.bodies)) _ Learned _
    (at_some _ _ (station_in c.self.inside.parts c.self.inside.bodies) running
    (rw c.in_ok-offer.ensures.offer at (rw (← c.self.view_is) at c.in-Ok.ensures.carries))))))

pub returns-in-Err-clause-carries : goal.returns-in-Err-clause-carries
returns-in-Err-clause-carries g c =
    rw (← c.self.view_is) (on_memory c.self.inside.halted _ _ (λ running. carried_by _ _ _ _ _ _
    (learning (station_in c.self.inside.parts c.self.inside.bodies) c.args.grant.now.address c.args.last.now.by c.args.offered.now.origin
    (offered_rank c.args.offered.now) c.args.last.now.time (at_some c.args.self.now.memory _ (station_in c.self.inside.parts c.self.inside.bodies)
    (ap (λ (s : State StationMemory). s.memory) (sym c.self.view_is) ∙ running) c.in_ok-offer.ensures.fault)
    (enough _ _ _ c.left-left.ensures (omega (arith, c.if-left-units.false, c.units_for-units.ensures.units c.args.grant.now.address c.args.last.now.by))))
    (failed dropped _ _ (offers c.args.grant.now.address c.args.offered.now.origin (offered_rank c.args.offered.now) c.args.last.now.by c.args.last.now.time
    (station_in c.self.inside.parts c.self.inside.bodies)) _ Learned _
    (at_some _ _ (station_in c.self.inside.parts c.self.inside.bodies) running
    (rw c.in_ok-offer.ensures.offer at (rw (← c.self.view_is) at c.in-Err.ensures.carries))))))
