use Rattle.std.proofs.Common.{Some, sym, ap, ◌∙◌, arith}
use Rattle.std.proofs.lemmas.Result.{err_from_is_err_and}
use Rattle.loadng_messages.specs.declared.message.Message.TheVariants.{Rrep}
use Rattle.node_rules.specs.declared.heard.Heard.TheVariants.{Relayed}
use Rattle.node_rules.specs.declared.refusal.Dropped.TheVariants.{CounterSpent}
use Rattle.node_rules.specs.Memory.{StationMemory}
use Rattle.node_rules.specs.Drafts.{send_message}
use Rattle.node_rules.specs.HearingRules.{dropped, offers, passes_on}
use Rattle.plc_station.specs.Offers.{offered_rank}
use Rattle.plc_station.specs.StationViews.{station_in}
use Rattle.node_rules.specs.States.{State}
use Rattle.plc_station.proofs.CarriedPlans.{if_some, on_memory, at_some}
use Rattle.plc_station.proofs.SentReplies.{refusal_heard, heard_by, answered_heard, failed_heard}
use Rattle.plc_station.proofs.Ways.{too_few, enough}
use Rattle.plc_station.proofs.OfferCases.{not_taken}
use Rattle.plc_station.proofs.ReplyCases.{pass_spent, passing}
use Rattle.plc_station.proofs.station.Station.hear_reply_for.Goals as goal

pub returns-in_err-offer-clause-hears : goal.returns-in_err-offer-clause-hears
returns-in_err-offer-clause-hears g c =
    let p = err_from_is_err_and c.from_residual.result c.from_residual.ensures.1 in
    rw p.1 (if_some c.args.self.now.memory _ (λ l m. refusal_heard dropped c.args.self.now l p.0 _ _ m
    (not_taken l c.args.grant.now.address c.args.offered.now.origin (offered_rank c.args.offered.now) c.args.last.now.time
    (passes_on l c.args.grant.now.address c.args.last.now.by c.args.offered.now.origin c.args.to c.args.hop (offered_rank c.args.offered.now)
    c.args.last.now.time) p.0 (at_some c.args.self.now.memory _ l m c.in_err-offer.ensures.fault ∙ ap Some (sym p.2))) c.requires.ready.empty c.requires.fresh))

pub returns-then-left-units-clause-hears : goal.returns-then-left-units-clause-hears
returns-then-left-units-clause-hears g c =
    rw (← c.self.view_is) (on_memory c.self.inside.halted _ _
    (λ running. refusal_heard dropped _ (station_in c.self.inside.parts c.self.inside.bodies) CounterSpent _ _ running
    (pass_spent (station_in c.self.inside.parts c.self.inside.bodies) c.args.grant.now.address c.args.last.now.by c.args.offered.now.origin c.args.to c.args.hop
    (offered_rank c.args.offered.now) c.args.last.now.time (at_some c.args.self.now.memory _ (station_in c.self.inside.parts c.self.inside.bodies)
    (ap (λ (s : State StationMemory). s.memory) (sym c.self.view_is) ∙ running) c.in_ok-offer.ensures.fault)
    (too_few _ _ _ c.left-left.ensures (omega (arith, c.if-left-units.true, c.units_for-units.ensures.units c.args.grant.now.address c.args.last.now.by))))
    c.requires.ready.empty (rw (← c.self.view_is) at c.requires.fresh)))

pub returns-in-Ok-clause-hears : goal.returns-in-Ok-clause-hears
returns-in-Ok-clause-hears g c =
    rw (← c.self.view_is) (on_memory c.self.inside.halted _ _ (λ running. heard_by _ _ _ _ _ _
    (passing (station_in c.self.inside.parts c.self.inside.bodies) c.args.grant.now.address c.args.last.now.by c.args.offered.now.origin c.args.to c.args.hop
    (offered_rank c.args.offered.now) c.args.last.now.time (at_some c.args.self.now.memory _ (station_in c.self.inside.parts c.self.inside.bodies)
    (ap (λ (s : State StationMemory). s.memory) (sym c.self.view_is) ∙ running) c.in_ok-offer.ensures.fault)
    (enough _ _ _ c.left-left.ensures (omega (arith, c.if-left-units.false, c.units_for-units.ensures.units c.args.grant.now.address c.args.last.now.by))))
    (answered_heard dropped _ _ (send_message c.args.hop (Rrep c.args.offered.now.number c.args.offered.now.cost c.args.offered.now.origin c.args.to)
    (offers c.args.grant.now.address c.args.offered.now.origin (offered_rank c.args.offered.now) c.args.last.now.by c.args.last.now.time
    (station_in c.self.inside.parts c.self.inside.bodies))) _ Relayed _
    (at_some _ _ (station_in c.self.inside.parts c.self.inside.bodies) running
    (rw c.in_ok-offer.ensures.offer at (rw (← c.self.view_is) at c.in-Ok.ensures.carries)))
    (at_some _ _ (station_in c.self.inside.parts c.self.inside.bodies) running
    (rw c.in_ok-offer.ensures.offer at (rw (← c.self.view_is) at c.in-Ok.ensures.replied))))))

pub returns-in-Err-clause-hears : goal.returns-in-Err-clause-hears
returns-in-Err-clause-hears g c =
    rw (← c.self.view_is) (on_memory c.self.inside.halted _ _ (λ running. heard_by _ _ _ _ _ _
    (passing (station_in c.self.inside.parts c.self.inside.bodies) c.args.grant.now.address c.args.last.now.by c.args.offered.now.origin c.args.to c.args.hop
    (offered_rank c.args.offered.now) c.args.last.now.time (at_some c.args.self.now.memory _ (station_in c.self.inside.parts c.self.inside.bodies)
    (ap (λ (s : State StationMemory). s.memory) (sym c.self.view_is) ∙ running) c.in_ok-offer.ensures.fault)
    (enough _ _ _ c.left-left.ensures (omega (arith, c.if-left-units.false, c.units_for-units.ensures.units c.args.grant.now.address c.args.last.now.by))))
    (failed_heard dropped _ _ (send_message c.args.hop (Rrep c.args.offered.now.number c.args.offered.now.cost c.args.offered.now.origin c.args.to)
    (offers c.args.grant.now.address c.args.offered.now.origin (offered_rank c.args.offered.now) c.args.last.now.by c.args.last.now.time
    (station_in c.self.inside.parts c.self.inside.bodies))) _ Relayed _
    (at_some _ _ (station_in c.self.inside.parts c.self.inside.bodies) running
    (rw c.in_ok-offer.ensures.offer at (rw (← c.self.view_is) at c.in-Err.ensures.carries)))
    (at_some _ _ (station_in c.self.inside.parts c.self.inside.bodies) running
    (rw c.in_ok-offer.ensures.offer at (rw (← c.self.view_is) at c.in-Err.ensures.replied))))))
