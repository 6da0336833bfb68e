use Rattle.std.proofs.Common.{Some, [], ◌∷◌, ◌++◌, sym, ap, refl, ◌∙◌}
use Rattle.std.specs.Option.{option_map}
use Rattle.std.proofs.lemmas.Result.{err_from_is_err_and}
use Rattle.plc_base.specs.Faults.{◌then◌}
use Rattle.plc_base.specs.declared.out_frame.Out.{Out}
use Rattle.joining_messages.specs.declared.message.JoinBody.TheVariants as body
use Rattle.eap_psk.specs.Keys.{keys_of}
use Rattle.node_rules.specs.Ciphers.{network}
use Rattle.node_rules.specs.Frames.{Up, spelled}
use Rattle.node_rules.specs.HearingRules.{dropped}
use Rattle.node_rules.specs.Memory as memory
use Rattle.node_rules.specs.JoiningPackets.{message}
use Rattle.node_rules.specs.Meters as meters
use Rattle.node_rules.specs.States.{State}
use Rattle.plc_station.proofs.CarriedPlans.{at_some}
use Rattle.meter_node.specs.Sessions.{session_of}
use Rattle.meter_node.specs.MeterAnswers.{third_refusal}
use Rattle.meter_node.specs.MeterStates.{MeterState, memory_with, identity_of}
use Rattle.meter_node.proofs.Carried.{on_node, refuses, untagged}
use Rattle.meter_node.proofs.ChallengeRules.{take_refused}
use Rattle.meter_node.proofs.ChallengeSteps.{agent_took, agent_cut}
use Rattle.meter_node.proofs.meter.Meter.take_by_agent.Goals as goal

pub returns-in_err-awaits-clause-carries : goal.returns-in_err-awaits-clause-carries
returns-in_err-awaits-clause-carries g c =
    let p = err_from_is_err_and c.from_residual.result c.from_residual.ensures.1 in
    rw p.1 (on_node c.args.self.now _ (λ l running.
    refuses dropped c.args.self.now c.args.self.now l p.0 (meters.take (identity_of c.args.self.now) (memory_with c.args.self.now l)
    (memory.ByAgent c.args.agent) c.args.packet.now c.args.now) c.args.out.now running refl
    (take_refused c.args.self.now l (memory.ByAgent c.args.agent) c.args.packet.now c.args.now p.0
    (ap (λ f. f then third_refusal (keys_of c.args.self.now.psk.0) c.args.self.now.session c.args.packet.now)
    (at_some _ _ l running c.in_err-awaits.ensures ∙ ap Some (sym p.2)))) c.requires.ready.empty))

pub returns-in-Err-clause-carries : goal.returns-in-Err-clause-carries
returns-in-Err-clause-carries g c =
    on_node c.args.self.now _ (λ l running.
    refuses dropped c.args.self.now c.args.self.now l c.in-Err.reason (meters.take (identity_of c.args.self.now) (memory_with c.args.self.now l)
    (memory.ByAgent c.args.agent) c.args.packet.now c.args.now) _ running refl
    (take_refused c.args.self.now l (memory.ByAgent c.args.agent) c.args.packet.now c.args.now c.in-Err.reason
    (ap (λ f. f then third_refusal (keys_of c.args.self.now.psk.0) c.args.self.now.session c.args.packet.now) (at_some _ _ l running c.in_ok-awaits.ensures)
    ∙ (rw c.in-Err.is at c.fourth-fourth.ensures.exact)))
    (untagged c.args.out.now _ c.requires.ready.empty (rw c.in-Err.is at c.fourth-fourth.ensures.untagged)))

pub returns-in_default-clause-carries : goal.returns-in_default-clause-carries
returns-in_default-clause-carries g c =
    let agrees = rw (← c.self.view_is) at c.requires.ready.agrees in
    let fine = rw (← c.self.view_is) at (rw c.in-Ok.is at c.fourth-fourth.ensures.exact) in
    let held = rw (← c.self.view_is) at (rw c.in-Ok.is at c.fourth-fourth.ensures.peer) in
    let is = rw (← c.self.view_is) at (rw c.in-Ok.is at c.fourth-fourth.ensures.grant) in
    let written = rw (← c.self.view_is) at (rw c.in-Ok.is at c.fourth-fourth.ensures.written) in
    let free = rw (← c.self.view_is) at c.in_ok-awaits.ensures in
    let x : MeterState = record {
      station = c.self.inside.station;
      psk = c.self.inside.pair_key;
      randoms = c.self.inside.randoms;
      session = option_map session_of c.self.inside.session;
    } in
    rw (← c.self.view_is) (on_node x _ (λ l running.
    agent_cut x l c.args.packet.now c.args.now c.in-Ok.taken.peer c.in-Ok.taken.grant is held fine c.args.agent c.install.new.self _ running agrees
    (at_some _ _ l running free) _
    (at_some _ _ l running c.in_default.ensures.carries)
    (λ i. record {
      frames = (c.requires.ready.empty i).frames;
      tags = record { made = c.clear.ensures i; opened = ((rw c.in-Ok.is at c.fourth-fourth.ensures.tags) i).opened };
    })))

pub returns-clause-carries : goal.returns-clause-carries
returns-clause-carries g c =
    let agrees = rw (← c.self.view_is) at c.requires.ready.agrees in
    let fine = rw (← c.self.view_is) at (rw c.in-Ok.is at c.fourth-fourth.ensures.exact) in
    let held = rw (← c.self.view_is) at (rw c.in-Ok.is at c.fourth-fourth.ensures.peer) in
    let is = rw (← c.self.view_is) at (rw c.in-Ok.is at c.fourth-fourth.ensures.grant) in
    let written = rw (← c.self.view_is) at (rw c.in-Ok.is at c.fourth-fourth.ensures.written) in
    let free = rw (← c.self.view_is) at c.in_ok-awaits.ensures in
    let x : MeterState = record {
      station = c.self.inside.station;
      psk = c.self.inside.pair_key;
      randoms = c.self.inside.randoms;
      session = option_map session_of c.self.inside.session;
    } in
    rw (← c.self.view_is) (on_node x _ (λ l running.
    let eui = c.eui.ensures ∙ ap (λ (k : State memory.StationMemory). k.eui) (at_some _ _ l running c.in-Ok-install.ensures.carries).new_is in
    agent_took x l c.args.packet.now c.args.now c.in-Ok.taken.peer c.in-Ok.taken.grant is held fine c.args.agent c.install.new.self _ running agrees
    (at_some _ _ l running free)
    c.in-Ok.taken.agreed tt (rw c.in-Ok.is at c.fourth-fourth.ensures.agreed) (at_some _ _ l running c.in-Ok-install.ensures.carries)
    (λ i. record {
      frames = (ap (λ (o : Out). o.frames) c.push_answer.ensures
          ∙ (λ j. (c.requires.ready.empty j).frames ++ spelled network
          (Up c.args.agent c.in-Ok.taken.peer.eui (message (eui j) (body.Join (written j)))) ∷ [])) i;
      tags = (ap (λ (o : Out). o.tags) c.push_answer.ensures ∙ (rw c.in-Ok.is at c.fourth-fourth.ensures.tags)) i;
    })))
