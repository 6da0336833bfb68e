use Rattle.std.proofs.Common.{ℕ, Bool, List, [], Some, Ok, Err, length, sym, ap, subst, refl, ◌∙◌}
use Rattle.std.specs.Prelude.{IfSome}
use Rattle.std.specs.Option.{option_map}
use Rattle.plc_base.specs.Faults.{◌then◌, ◌unless◌}
use Rattle.joining_messages.specs.declared.message.JoinBody.TheVariants as body
use Rattle.eap_psk.specs.Keys.{keys_of}
use Rattle.node_rules.specs.HearingRules.{dropped, dropped_for}
use Rattle.node_rules.specs.Calls as calls
use Rattle.node_rules.specs.Calls.{command_fault}
use Rattle.node_rules.specs.CarriedPlans.{Carries}
use Rattle.node_rules.specs.States.{State}
use Rattle.node_rules.specs.ComposedPlans.{HasRoom}
use Rattle.node_rules.specs.Memory as memory
use Rattle.node_rules.specs.JoiningPackets.{command_of, message}
use Rattle.node_rules.specs.Meters as meters
use Rattle.node_rules.specs.declared.refusal.Dropped.TheVariants.{NoSession}
use Rattle.plc_station.proofs.CarriedPlans.{at_some}
use Rattle.meter_node.specs.Sessions.{session_of}
use Rattle.meter_node.specs.MeterAnswers.{third_refusal}
use Rattle.meter_node.specs.MeterStates.{MeterState, memory_with, identity_of}
use Rattle.meter_node.proofs.Carried.{on_node, refuses, untagged}
use Rattle.meter_node.proofs.ChallengeRules.{take_refused}
use Rattle.meter_node.proofs.ChallengeSteps.{command_took, command_cut, ring_cut, take_lacks}
use Rattle.meter_node.proofs.meter.Meter.take_by_command.Goals as goal

pub returns-then-not-has_session-clause-carries : goal.returns-then-not-has_session-clause-carries
returns-then-not-has_session-clause-carries g c =
    on_node c.args.self.now _ (λ l running.
    refuses dropped c.args.self.now c.args.self.now l NoSession
    (meters.take (identity_of c.args.self.now) (memory_with c.args.self.now l) memory.ByCommand c.args.packet.now c.args.now) c.args.out.now running refl
    (take_refused c.args.self.now l memory.ByCommand c.args.packet.now c.args.now NoSession
    (ap (λ (b : Bool). (Some NoSession unless b) then third_refusal (keys_of c.args.self.now.psk.0) c.args.self.now.session c.args.packet.now)
    (sym (c.if-not-has_session.ensures l)))) c.requires.ready.empty)

pub returns-in-Err-clause-carries : goal.returns-in-Err-clause-carries
returns-in-Err-clause-carries g c =
    on_node c.args.self.now _ (λ l running.
    refuses dropped c.args.self.now c.args.self.now l c.in-Err.reason
    (meters.take (identity_of c.args.self.now) (memory_with c.args.self.now l) memory.ByCommand c.args.packet.now c.args.now) _ running refl
    (take_refused c.args.self.now l memory.ByCommand c.args.packet.now c.args.now c.in-Err.reason
    (ap (λ (b : Bool). (Some NoSession unless b) then third_refusal (keys_of c.args.self.now.psk.0) c.args.self.now.session c.args.packet.now)
    (sym (c.if-not-has_session.ensures l)) ∙ (rw c.in-Err.is at c.fourth-fourth.ensures.exact)))
    (untagged c.args.out.now _ c.requires.ready.empty (rw c.in-Err.is at c.fourth-fourth.ensures.untagged)))

pub returns-in-Err-answer_room-clause-carries : goal.returns-in-Err-answer_room-clause-carries
returns-in-Err-answer_room-clause-carries g c =
    on_node c.args.self.now _ (λ l running.
    refuses dropped c.args.self.now c.args.self.now l c.in-Err-answer_room.reason
    (meters.take (identity_of c.args.self.now) (memory_with c.args.self.now l) memory.ByCommand c.args.packet.now c.args.now) _ running refl
    (take_lacks c.args.self.now l c.args.packet.now c.args.now c.in-Ok.taken.peer c.in-Ok.taken.grant (rw c.in-Ok.is at c.fourth-fourth.ensures.grant)
    (rw c.in-Ok.is at c.fourth-fourth.ensures.peer) (rw c.in-Ok.is at c.fourth-fourth.ensures.exact) c.in-Err-answer_room.reason
    (ap (λ (b : Bool). Some NoSession unless b) (sym (c.if-not-has_session.ensures l)))
    (ap (λ (k : List ℕ). command_fault dropped dropped_for l 0 (length (command_of (message c.args.self.now.station.eui (body.Join k)))))
    (sym (rw c.in-Ok.is at c.fourth-fourth.ensures.written)) ∙ at_some _ _ l running c.in-Err-answer_room.ensures))
    (λ i. record { frames = (c.requires.ready.empty i).frames; tags = c.clear.ensures i }))

pub returns-in_default-clause-carries : goal.returns-in_default-clause-carries
returns-in_default-clause-carries g c =
    let agrees = rw (← c.self.view_is) at c.requires.ready.agrees in
    let fine = rw (← c.self.view_is) at (rw c.in-Ok.is at c.fourth-fourth.ensures.exact) in
    let held = rw (← c.self.view_is) at (rw c.in-Ok.is at c.fourth-fourth.ensures.peer) in
    let is = rw (← c.self.view_is) at (rw c.in-Ok.is at c.fourth-fourth.ensures.grant) in
    let written = rw (← c.self.view_is) at (rw c.in-Ok.is at c.fourth-fourth.ensures.written) in
    let has = rw (← c.self.view_is) at c.if-not-has_session.ensures in
    let room = rw (← c.self.view_is) at c.in-Ok-answer_room.ensures in
    let x : MeterState = record {
      station = c.self.inside.station;
      psk = c.self.inside.pair_key;
      randoms = c.self.inside.randoms;
      session = option_map session_of c.self.inside.session;
    } in
    rw (← c.self.view_is) (on_node x _ (λ l running.
    ring_cut x l c.args.packet.now c.args.now c.in-Ok.taken.peer c.in-Ok.taken.grant is held fine c.install.new.self c.install.new.self
    c.args.out.now _ running agrees (ap (λ (b : Bool). Some NoSession unless b) (sym (has l)))
    (subst (λ (k : List ℕ). HasRoom l 0 (length (command_of (message x.station.eui (body.Join k))))) written (at_some _ _ l running room)) _
    (at_some _ _ l running c.in_default.ensures.carries)
    (λ i. record {
      frames = (c.requires.ready.empty i).frames;
      tags = record { made = c.clear-in_default.ensures i; opened = ((rw c.in-Ok.is at c.fourth-fourth.ensures.tags) i).opened };
    })))

pub returns-in_default-send_answer-clause-carries : goal.returns-in_default-send_answer-clause-carries
returns-in_default-send_answer-clause-carries g c =
    let agrees = rw (← c.self.view_is) at c.requires.ready.agrees in
    let fine = rw (← c.self.view_is) at (rw c.in-Ok.is at c.fourth-fourth.ensures.exact) in
    let held = rw (← c.self.view_is) at (rw c.in-Ok.is at c.fourth-fourth.ensures.peer) in
    let is = rw (← c.self.view_is) at (rw c.in-Ok.is at c.fourth-fourth.ensures.grant) in
    let written = rw (← c.self.view_is) at (rw c.in-Ok.is at c.fourth-fourth.ensures.written) in
    let has = rw (← c.self.view_is) at c.if-not-has_session.ensures in
    let room = rw (← c.self.view_is) at c.in-Ok-answer_room.ensures in
    let x : MeterState = record {
      station = c.self.inside.station;
      psk = c.self.inside.pair_key;
      randoms = c.self.inside.randoms;
      session = option_map session_of c.self.inside.session;
    } in
    let b = c.in_default-send_answer.ensures.sent in
    rw (← c.self.view_is) (on_node x _ (λ l running.
    command_cut x l c.args.packet.now c.args.now c.in-Ok.taken.peer c.in-Ok.taken.grant is held fine c.install.new.self c.send_answer.new.station
    b.sent _ running agrees (ap (λ (b : Bool). Some NoSession unless b) (sym (has l)))
    (subst (λ (k : List ℕ). HasRoom l 0 (length (command_of (message x.station.eui (body.Join k))))) written (at_some _ _ l running room)) tt _
    (at_some _ _ l running c.in-Ok-install.ensures.carries)
    (subst (λ (o : List ℕ). IfSome c.install.new.self.memory (λ k. Carries c.install.new.self (calls.send_command k 0 o c.args.now)
    (Err c.in_default-send_answer.field-0) b.sent c.send_answer.new.station))
    (λ i. command_of (message (ap (λ (k : State memory.StationMemory). k.eui) (at_some _ _ l running c.in-Ok-install.ensures.carries).new_is i)
    (body.Join (written i)))) b.carries)
    (b.given ∙ (λ i. record b.sent { tags = record { made = []; opened = ((rw c.in-Ok.is at c.fourth-fourth.ensures.tags) i).opened } }))))

pub returns-clause-carries : goal.returns-clause-carries
returns-clause-carries g c =
    let agrees = rw (← c.self.view_is) at c.requires.ready.agrees in
    let fine = rw (← c.self.view_is) at (rw c.in-Ok.is at c.fourth-fourth.ensures.exact) in
    let held = rw (← c.self.view_is) at (rw c.in-Ok.is at c.fourth-fourth.ensures.peer) in
    let is = rw (← c.self.view_is) at (rw c.in-Ok.is at c.fourth-fourth.ensures.grant) in
    let written = rw (← c.self.view_is) at (rw c.in-Ok.is at c.fourth-fourth.ensures.written) in
    let has = rw (← c.self.view_is) at c.if-not-has_session.ensures in
    let room = rw (← c.self.view_is) at c.in-Ok-answer_room.ensures in
    let x : MeterState = record {
      station = c.self.inside.station;
      psk = c.self.inside.pair_key;
      randoms = c.self.inside.randoms;
      session = option_map session_of c.self.inside.session;
    } in
    let b = c.in-Ok-send_answer.ensures.sent in
    rw (← c.self.view_is) (on_node x _ (λ l running.
    command_took x l c.args.packet.now c.args.now c.in-Ok.taken.peer c.in-Ok.taken.grant is held fine c.install.new.self c.send_answer.new.station
    b.sent _ running agrees (ap (λ (b : Bool). Some NoSession unless b) (sym (has l)))
    (subst (λ (k : List ℕ). HasRoom l 0 (length (command_of (message x.station.eui (body.Join k))))) written (at_some _ _ l running room))
    c.in-Ok.taken.agreed tt _ (rw c.in-Ok.is at c.fourth-fourth.ensures.agreed) (at_some _ _ l running c.in-Ok-install.ensures.carries)
    (subst (λ (o : List ℕ). IfSome c.install.new.self.memory (λ k. Carries c.install.new.self (calls.send_command k 0 o c.args.now)
    (Ok c.in-Ok-send_answer.field-0) b.sent c.send_answer.new.station))
    (λ i. command_of (message (ap (λ (k : State memory.StationMemory). k.eui) (at_some _ _ l running c.in-Ok-install.ensures.carries).new_is i)
    (body.Join (written i)))) b.carries)
    (b.given ∙ (λ i. record b.sent { tags = (rw c.in-Ok.is at c.fourth-fourth.ensures.tags) i }))))
