use Rattle.std.proofs.Common.{ℕ, List, [], Some, Ok, Err, length, sym, ap, subst, refl, ◌∙◌}
use Rattle.std.specs.Option.{option_map}
use Rattle.std.proofs.lemmas.Result.{err_from_is_err_and}
use Rattle.joining_messages.specs.declared.message.JoinBody.TheVariants as body
use Rattle.node_rules.specs.HearingRules.{dropped, dropped_for}
use Rattle.node_rules.specs.Calls as calls
use Rattle.node_rules.specs.Calls.{command_fault}
use Rattle.node_rules.specs.CarriedPlans.{Carries}
use Rattle.node_rules.specs.ComposedPlans.{HasRoom}
use Rattle.node_rules.specs.Memory as memory
use Rattle.node_rules.specs.JoiningPackets.{command_of, message}
use Rattle.node_rules.specs.Meters as meters
use Rattle.plc_station.proofs.CarriedPlans.{at_some}
use Rattle.meter_node.specs.Sessions.{session_of}
use Rattle.meter_node.specs.MeterStates.{MeterState, memory_with, identity_of}
use Rattle.meter_node.proofs.Carried.{on_node, refuses, untagged}
use Rattle.meter_node.proofs.ChallengeRules.{reply_refused}
use Rattle.meter_node.proofs.ChallengeSteps.{command_replied, command_failed, reply_lacks}
use Rattle.meter_node.proofs.meter.Meter.reply_by_command.Goals as goal

pub returns-in_err-peer-clause-carries : goal.returns-in_err-peer-clause-carries
returns-in_err-peer-clause-carries g c =
    let p = err_from_is_err_and c.from_residual.result c.from_residual.ensures.1 in
    rw p.1 (on_node c.args.self.now _ (λ l running.
    refuses dropped c.args.self.now c.args.self.now l p.0
    (meters.reply (identity_of c.args.self.now) (memory_with c.args.self.now l) memory.ByCommand c.args.packet.now c.args.now) _ running refl
    (reply_refused c.args.self.now l memory.ByCommand c.args.packet.now c.args.now p.0 (c.in_err-peer.ensures.exact ∙ ap Some (sym p.2)))
    (untagged c.args.out.now _ c.requires.ready.empty c.in_err-peer.ensures.untagged)))

pub returns-in-Err-clause-carries : goal.returns-in-Err-clause-carries
returns-in-Err-clause-carries g c =
    on_node c.args.self.now _ (λ l running.
    refuses dropped c.args.self.now c.args.self.now l c.in-Err.reason
    (meters.reply (identity_of c.args.self.now) (memory_with c.args.self.now l) memory.ByCommand c.args.packet.now c.args.now) _ running refl
    (reply_lacks c.args.self.now l c.args.packet.now c.args.now c.in_ok-peer.peer c.in_ok-peer.ensures.exact c.in_ok-peer.ensures.value
    c.in_ok-peer.ensures.peer c.in-Err.reason (at_some _ _ l running c.requires.joined)
    (ap (λ (k : List ℕ). command_fault dropped dropped_for l 0 (length (command_of (message c.args.self.now.station.eui (body.Join k)))))
    (sym c.in_ok-peer.ensures.written) ∙ at_some _ _ l running c.in-Err.ensures))
    (λ i. record { frames = (c.requires.ready.empty i).frames; tags = c.clear.ensures i }))

pub returns-in_default-clause-carries : goal.returns-in_default-clause-carries
returns-in_default-clause-carries g c =
    let joined = rw (← c.self.view_is) at c.requires.joined in
    let fine = rw (← c.self.view_is) at c.in_ok-peer.ensures.exact in
    let value = rw (← c.self.view_is) at c.in_ok-peer.ensures.value in
    let is = rw (← c.self.view_is) at c.in_ok-peer.ensures.peer in
    let written = rw (← c.self.view_is) at c.in_ok-peer.ensures.written in
    let room = rw (← c.self.view_is) at c.in-Ok.ensures in
    let x : MeterState = record {
      station = c.self.inside.station;
      psk = c.self.inside.pair_key;
      randoms = c.self.inside.randoms;
      session = option_map session_of c.self.inside.session;
    } in
    let b = c.in_default.ensures.sent in
    rw (← c.self.view_is) (on_node x _ (λ l running.
    command_failed x l c.args.packet.now c.args.now c.in_ok-peer.peer fine value is c.send_answer.new.station c.drop_oldest.new.self c.drop_oldest.ensures
    b.sent (at_some _ _ l running joined)
    (subst (λ (k : List ℕ). HasRoom l 0 (length (command_of (message x.station.eui (body.Join k))))) written (at_some _ _ l running room)) _ _
    (subst (λ (k : List ℕ). Carries x.station (calls.send_command l 0 (command_of (message x.station.eui (body.Join k))) c.args.now)
    (Err c.in_default.field-0) b.sent c.send_answer.new.station) written (at_some _ _ l running b.carries))
    (b.given ∙ (λ i. record b.sent { tags = record { made = []; opened = (c.in_ok-peer.ensures.tags i).opened } }))))

pub returns-clause-carries : goal.returns-clause-carries
returns-clause-carries g c =
    let joined = rw (← c.self.view_is) at c.requires.joined in
    let fine = rw (← c.self.view_is) at c.in_ok-peer.ensures.exact in
    let value = rw (← c.self.view_is) at c.in_ok-peer.ensures.value in
    let is = rw (← c.self.view_is) at c.in_ok-peer.ensures.peer in
    let written = rw (← c.self.view_is) at c.in_ok-peer.ensures.written in
    let room = rw (← c.self.view_is) at c.in-Ok.ensures in
    let x : MeterState = record {
      station = c.self.inside.station;
      psk = c.self.inside.pair_key;
      randoms = c.self.inside.randoms;
      session = option_map session_of c.self.inside.session;
    } in
    let b = c.in-Ok-send_answer.ensures.sent in
    rw (← c.self.view_is) (on_node x _ (λ l running.
    command_replied x l c.args.packet.now c.args.now c.in_ok-peer.peer fine value is c.send_answer.new.station c.drop_oldest.new.self c.drop_oldest.ensures
    b.sent (at_some _ _ l running joined)
    (subst (λ (k : List ℕ). HasRoom l 0 (length (command_of (message x.station.eui (body.Join k))))) written (at_some _ _ l running room)) _ _
    (subst (λ (k : List ℕ). Carries x.station (calls.send_command l 0 (command_of (message x.station.eui (body.Join k))) c.args.now)
    (Ok c.in-Ok-send_answer.field-0) b.sent c.send_answer.new.station) written (at_some _ _ l running b.carries))
    (b.given ∙ (λ i. record b.sent { tags = c.in_ok-peer.ensures.tags i }))))
