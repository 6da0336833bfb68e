use Rattle.std.proofs.Common.{Some, ◌+◌, sym, ap, ◌∙◌, arith}
use Rattle.std.proofs.lemmas.Bool.Decides.{nat_tests}
use Rattle.std.proofs.lemmas.Result.{err_from_is_err_and}
use Rattle.plc_base.specs.Grant.{Granted}
use Rattle.loadng_messages.specs.declared.message.Message.TheVariants.{Rreq, Rrep}
use Rattle.node_rules.specs.declared.heard.Heard.TheVariants.{Answered, Relayed}
use Rattle.node_rules.specs.declared.refusal.Dropped.TheVariants.{SeqSpent, CounterSpent}
use Rattle.node_rules.specs.Memory.{StationMemory}
use Rattle.node_rules.specs.Drafts.{choose, send_message, numbers_spent}
use Rattle.node_rules.specs.HearingRules.{answers, drop_it, dropped, offers, offers_numbered, sends_on}
use Rattle.std.specs.Prelude.{◌==◌}
use Rattle.plc_station.specs.Offers.{offered_rank}
use Rattle.plc_station.specs.StationViews.{station_in}
use Rattle.node_rules.specs.States.{State}
use Rattle.plc_station.proofs.CarriedPlans.{if_some, on_memory, at_some}
use Rattle.plc_station.proofs.SentReplies.{refusal_heard, heard_by, answered_heard, failed_heard, sent_on_kept}
use Rattle.plc_station.proofs.Ways.{too_few, enough}
use Rattle.plc_station.proofs.OfferCases.{not_taken}
use Rattle.plc_station.proofs.Requests.{seq_spent, answer_spent, answering, relay_spent, relaying}
use Rattle.plc_station.proofs.station.Station.hear_request.Goals as goal

pub returns-in_err-offer-clause-hears : goal.returns-in_err-offer-clause-hears
returns-in_err-offer-clause-hears g c =
    let p = err_from_is_err_and c.from_residual.result c.from_residual.ensures.1 in
    rw p.1 (if_some c.args.self.now.memory _ (λ l m. refusal_heard dropped c.args.self.now l p.0 _ _ m
    (not_taken l c.args.grant.now.address c.args.offered.now.origin (offered_rank c.args.offered.now) c.args.last.now.time
    (choose (c.args.dest == c.args.grant.now.address)
    (choose (numbers_spent l) (drop_it l SeqSpent)
    (answers l c.args.grant.now.address c.args.last.now.by c.args.offered.now.origin (offered_rank c.args.offered.now) c.args.last.now.time))
    (sends_on l c.args.grant.now.address c.args.last.now.by c.args.offered.now.origin c.args.dest (offered_rank c.args.offered.now) c.args.last.now.time)) p.0
    (at_some c.args.self.now.memory _ l m c.in_err-offer.ensures.fault ∙ ap Some (sym p.2))) c.requires.ready.empty c.requires.fresh))

pub returns-then-last-clause-hears : goal.returns-then-last-clause-hears
returns-then-last-clause-hears g c =
    rw (← c.self.view_is) (on_memory c.self.inside.halted _ _
    (λ running. refusal_heard dropped _ (station_in c.self.inside.parts c.self.inside.bodies) SeqSpent _ _ running
    (seq_spent (station_in c.self.inside.parts c.self.inside.bodies) c.args.grant.now.address c.args.last.now.by c.args.offered.now.origin c.args.dest
    (offered_rank c.args.offered.now) c.args.last.now.time (at_some c.args.self.now.memory _ (station_in c.self.inside.parts c.self.inside.bodies)
    (ap (λ (s : State StationMemory). s.memory) (sym c.self.view_is) ∙ running) c.in_ok-offer.ensures.fault)
    (grind (arith, nat_tests, c.if-number.true, c.number.ensures.value, c.number-2.ensures.value, ap (λ (g : Granted). g.address) c.grant.view_is))
    (grind (arith, nat_tests, c.last.ensures, c.if-last.true))) c.requires.ready.empty (rw (← c.self.view_is) at c.requires.fresh)))

pub returns-then-left-units-clause-hears : goal.returns-then-left-units-clause-hears
returns-then-left-units-clause-hears g c =
    rw (← c.self.view_is) (on_memory c.self.inside.halted _ _
    (λ running. refusal_heard dropped _ (station_in c.self.inside.parts c.self.inside.bodies) CounterSpent _ _ running
    (answer_spent (station_in c.self.inside.parts c.self.inside.bodies) c.args.grant.now.address c.args.last.now.by c.args.offered.now.origin c.args.dest
    (offered_rank c.args.offered.now) c.args.last.now.time (at_some c.args.self.now.memory _ (station_in c.self.inside.parts c.self.inside.bodies)
    (ap (λ (s : State StationMemory). s.memory) (sym c.self.view_is) ∙ running) c.in_ok-offer.ensures.fault)
    (grind (arith, nat_tests, c.if-number.true, c.number.ensures.value, c.number-2.ensures.value, ap (λ (g : Granted). g.address) c.grant.view_is))
    (grind (arith, nat_tests, c.last.ensures, c.if-last.false)) (too_few _ _ _ c.left-left.ensures
    (omega (arith, c.if-left-units.true, c.units_for-units.ensures.units c.args.grant.now.address c.args.last.now.by)))) c.requires.ready.empty
    (rw (← c.self.view_is) at c.requires.fresh)))

pub returns-then-left-units-2-clause-hears : goal.returns-then-left-units-2-clause-hears
returns-then-left-units-2-clause-hears g c =
    rw (← c.self.view_is) (on_memory c.self.inside.halted _ _
    (λ running. refusal_heard dropped _ (station_in c.self.inside.parts c.self.inside.bodies) CounterSpent _ _ running
    (relay_spent (station_in c.self.inside.parts c.self.inside.bodies) c.args.grant.now.address c.args.last.now.by c.args.offered.now.origin c.args.dest
    (offered_rank c.args.offered.now) c.args.last.now.time (at_some c.args.self.now.memory _ (station_in c.self.inside.parts c.self.inside.bodies)
    (ap (λ (s : State StationMemory). s.memory) (sym c.self.view_is) ∙ running) c.in_ok-offer.ensures.fault)
    (grind (arith, nat_tests, c.if-number.false, c.number.ensures.value, c.number-2.ensures.value, ap (λ (g : Granted). g.address) c.grant.view_is))
    (too_few _ _ _ c.left-left.ensures (omega (arith, c.if-left-units-2.true, c.units_for-units.ensures.units c.args.grant.now.address c.args.last.now.by))))
    c.requires.ready.empty (rw (← c.self.view_is) at c.requires.fresh)))

pub returns-in-Ok-clause-hears : goal.returns-in-Ok-clause-hears
returns-in-Ok-clause-hears g c =
    rw (← c.self.view_is) (on_memory c.self.inside.halted _ _ (λ running. heard_by _ _ _ _ _ _
    (answering (station_in c.self.inside.parts c.self.inside.bodies) c.args.grant.now.address c.args.last.now.by c.args.offered.now.origin c.args.dest
    (offered_rank c.args.offered.now) c.args.last.now.time (at_some c.args.self.now.memory _ (station_in c.self.inside.parts c.self.inside.bodies)
    (ap (λ (s : State StationMemory). s.memory) (sym c.self.view_is) ∙ running) c.in_ok-offer.ensures.fault)
    (grind (arith, nat_tests, c.if-number.true, c.number.ensures.value, c.number-2.ensures.value, ap (λ (g : Granted). g.address) c.grant.view_is))
    (grind (arith, nat_tests, c.last.ensures, c.if-last.false))
    (enough _ _ _ c.left-left.ensures (omega (arith, c.if-left-units.false, c.units_for-units.ensures.units c.args.grant.now.address c.args.last.now.by))))
    (answered_heard dropped _ _ (send_message c.args.last.now.by
    (Rrep (c.self.inside.parts.own_number.last + 1) 0 c.args.grant.now.address c.args.offered.now.origin)
    (offers_numbered c.args.grant.now.address c.args.offered.now.origin (offered_rank c.args.offered.now) c.args.last.now.by c.args.last.now.time
    (station_in c.self.inside.parts c.self.inside.bodies))) _ Answered _
    (at_some _ _ (station_in c.self.inside.parts c.self.inside.bodies) running
    (rw c.in_ok-offer.ensures.offer at (rw (← c.self.view_is) at c.in-Ok.ensures.carries)))
    (at_some _ _ (station_in c.self.inside.parts c.self.inside.bodies) running
    (rw c.in_ok-offer.ensures.offer at (rw (← c.self.view_is) at c.in-Ok.ensures.replied))))))

pub returns-in-Err-clause-hears : goal.returns-in-Err-clause-hears
returns-in-Err-clause-hears g c =
    rw (← c.self.view_is) (on_memory c.self.inside.halted _ _ (λ running. heard_by _ _ _ _ _ _
    (answering (station_in c.self.inside.parts c.self.inside.bodies) c.args.grant.now.address c.args.last.now.by c.args.offered.now.origin c.args.dest
    (offered_rank c.args.offered.now) c.args.last.now.time (at_some c.args.self.now.memory _ (station_in c.self.inside.parts c.self.inside.bodies)
    (ap (λ (s : State StationMemory). s.memory) (sym c.self.view_is) ∙ running) c.in_ok-offer.ensures.fault)
    (grind (arith, nat_tests, c.if-number.true, c.number.ensures.value, c.number-2.ensures.value, ap (λ (g : Granted). g.address) c.grant.view_is))
    (grind (arith, nat_tests, c.last.ensures, c.if-last.false))
    (enough _ _ _ c.left-left.ensures (omega (arith, c.if-left-units.false, c.units_for-units.ensures.units c.args.grant.now.address c.args.last.now.by))))
    (failed_heard dropped _ _ (send_message c.args.last.now.by
    (Rrep (c.self.inside.parts.own_number.last + 1) 0 c.args.grant.now.address c.args.offered.now.origin)
    (offers_numbered c.args.grant.now.address c.args.offered.now.origin (offered_rank c.args.offered.now) c.args.last.now.by c.args.last.now.time
    (station_in c.self.inside.parts c.self.inside.bodies))) _ Answered _
    (at_some _ _ (station_in c.self.inside.parts c.self.inside.bodies) running
    (rw c.in_ok-offer.ensures.offer at (rw (← c.self.view_is) at c.in-Err.ensures.carries)))
    (at_some _ _ (station_in c.self.inside.parts c.self.inside.bodies) running
    (rw c.in_ok-offer.ensures.offer at (rw (← c.self.view_is) at c.in-Err.ensures.replied))))))

pub returns-in-Ok-send_on-clause-hears : goal.returns-in-Ok-send_on-clause-hears
returns-in-Ok-send_on-clause-hears g c =
    rw (← c.self.view_is) (on_memory c.self.inside.halted _ _ (λ running. heard_by _ _ _ _ _ _
    (relaying (station_in c.self.inside.parts c.self.inside.bodies) c.args.grant.now.address c.args.last.now.by c.args.offered.now.origin c.args.dest
    (offered_rank c.args.offered.now) c.args.last.now.time (at_some c.args.self.now.memory _ (station_in c.self.inside.parts c.self.inside.bodies)
    (ap (λ (s : State StationMemory). s.memory) (sym c.self.view_is) ∙ running) c.in_ok-offer.ensures.fault)
    (grind (arith, nat_tests, c.if-number.false, c.number.ensures.value, c.number-2.ensures.value, ap (λ (g : Granted). g.address) c.grant.view_is))
    (enough _ _ _ c.left-left.ensures (omega (arith, c.if-left-units-2.false, c.units_for-units.ensures.units c.args.grant.now.address c.args.last.now.by))))
    (answered_heard dropped _ _ (send_message 0xFFFF (Rreq c.args.offered.now.number c.args.offered.now.cost c.args.offered.now.origin c.args.dest)
    (offers c.args.grant.now.address c.args.offered.now.origin (offered_rank c.args.offered.now) c.args.last.now.by c.args.last.now.time
    (station_in c.self.inside.parts c.self.inside.bodies))) _ Relayed _
    (at_some _ _ (station_in c.self.inside.parts c.self.inside.bodies) running
    (rw c.in_ok-offer.ensures.offer at (rw (← c.self.view_is) at c.in-Ok-send_on.ensures.carries)))
    (sent_on_kept _ _ _ (station_in c.self.inside.parts c.self.inside.bodies) c.args.grant.now.address c.args.last.now.by c.args.offered.now.origin c.args.dest
    (offered_rank c.args.offered.now) c.args.last.now.time (rw (← c.self.view_is) at c.requires.fresh)
    (rw (← c.self.view_is) at c.in-Ok-send_on.ensures.after.replied)))))

pub returns-in-Err-send_on-clause-hears : goal.returns-in-Err-send_on-clause-hears
returns-in-Err-send_on-clause-hears g c =
    rw (← c.self.view_is) (on_memory c.self.inside.halted _ _ (λ running. heard_by _ _ _ _ _ _
    (relaying (station_in c.self.inside.parts c.self.inside.bodies) c.args.grant.now.address c.args.last.now.by c.args.offered.now.origin c.args.dest
    (offered_rank c.args.offered.now) c.args.last.now.time (at_some c.args.self.now.memory _ (station_in c.self.inside.parts c.self.inside.bodies)
    (ap (λ (s : State StationMemory). s.memory) (sym c.self.view_is) ∙ running) c.in_ok-offer.ensures.fault)
    (grind (arith, nat_tests, c.if-number.false, c.number.ensures.value, c.number-2.ensures.value, ap (λ (g : Granted). g.address) c.grant.view_is))
    (enough _ _ _ c.left-left.ensures (omega (arith, c.if-left-units-2.false, c.units_for-units.ensures.units c.args.grant.now.address c.args.last.now.by))))
    (failed_heard dropped _ _ (send_message 0xFFFF (Rreq c.args.offered.now.number c.args.offered.now.cost c.args.offered.now.origin c.args.dest)
    (offers c.args.grant.now.address c.args.offered.now.origin (offered_rank c.args.offered.now) c.args.last.now.by c.args.last.now.time
    (station_in c.self.inside.parts c.self.inside.bodies))) _ Relayed _
    (at_some _ _ (station_in c.self.inside.parts c.self.inside.bodies) running
    (rw c.in_ok-offer.ensures.offer at (rw (← c.self.view_is) at c.in-Err-send_on.ensures.carries)))
    (sent_on_kept _ _ _ (station_in c.self.inside.parts c.self.inside.bodies) c.args.grant.now.address c.args.last.now.by c.args.offered.now.origin c.args.dest
    (offered_rank c.args.offered.now) c.args.last.now.time (rw (← c.self.view_is) at c.requires.fresh)
    (rw (← c.self.view_is) at c.in-Err-send_on.ensures.after.replied)))))
