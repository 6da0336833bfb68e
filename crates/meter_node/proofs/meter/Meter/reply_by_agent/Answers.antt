use Rattle.std.proofs.Common.{Some, [], ◌∷◌, ◌++◌, sym, ap, refl, ◌∙◌}
use Rattle.std.specs.Option.{option_map}
use Rattle.std.proofs.lemmas.Result.{err_from_is_err_and}
use Rattle.plc_base.specs.Faults.{◌then◌}
use Rattle.plc_base.specs.declared.out_frame.Out.{Out}
use Rattle.joining_messages.specs.declared.message.JoinBody.TheVariants as body
use Rattle.node_rules.specs.Ciphers.{network}
use Rattle.node_rules.specs.Frames.{Up, spelled}
use Rattle.node_rules.specs.HearingRules.{dropped}
use Rattle.node_rules.specs.Memory as memory
use Rattle.node_rules.specs.JoiningPackets.{message}
use Rattle.node_rules.specs.Meters as meters
use Rattle.plc_station.proofs.CarriedPlans.{at_some}
use Rattle.meter_node.specs.Sessions.{session_of}
use Rattle.meter_node.specs.MeterAnswers.{first_refusal}
use Rattle.meter_node.specs.MeterStates.{MeterState, memory_with, identity_of}
use Rattle.meter_node.proofs.Carried.{on_node, refuses, untagged}
use Rattle.meter_node.proofs.ChallengeRules.{reply_refused}
use Rattle.meter_node.proofs.ChallengeSteps.{agent_replied}
use Rattle.meter_node.proofs.meter.Meter.reply_by_agent.Goals as goal

pub returns-in_err-awaits-clause-carries : goal.returns-in_err-awaits-clause-carries
returns-in_err-awaits-clause-carries g c =
    let p = err_from_is_err_and c.from_residual.result c.from_residual.ensures.1 in
    rw p.1 (on_node c.args.self.now _ (λ l running.
    refuses dropped c.args.self.now c.args.self.now l p.0 (meters.reply (identity_of c.args.self.now) (memory_with c.args.self.now l)
    (memory.ByAgent c.args.agent) c.args.packet.now c.args.now) c.args.out.now running refl
    (reply_refused c.args.self.now l (memory.ByAgent c.args.agent) c.args.packet.now c.args.now p.0
    (ap (λ f. f then first_refusal c.args.self.now.randoms c.args.packet.now) (at_some _ _ l running c.in_err-awaits.ensures ∙ ap Some (sym p.2))))
    c.requires.ready.empty))

pub returns-in_err-peer-clause-carries : goal.returns-in_err-peer-clause-carries
returns-in_err-peer-clause-carries g c =
    let p = err_from_is_err_and c.from_residual-in_err-peer.result c.from_residual-in_err-peer.ensures.1 in
    rw p.1 (on_node c.args.self.now _ (λ l running.
    refuses dropped c.args.self.now c.args.self.now l p.0 (meters.reply (identity_of c.args.self.now) (memory_with c.args.self.now l)
    (memory.ByAgent c.args.agent) c.args.packet.now c.args.now) _ running refl
    (reply_refused c.args.self.now l (memory.ByAgent c.args.agent) c.args.packet.now c.args.now p.0
    (ap (λ f. f then first_refusal c.args.self.now.randoms c.args.packet.now) (at_some _ _ l running c.in_ok-awaits.ensures) ∙ c.in_err-peer.ensures.exact
    ∙ ap Some (sym p.2))) (untagged c.args.out.now _ c.requires.ready.empty c.in_err-peer.ensures.untagged)))

pub returns-clause-carries : goal.returns-clause-carries
returns-clause-carries g c =
    let agrees = rw (← c.self.view_is) at c.requires.ready.agrees in
    let free = rw (← c.self.view_is) at c.in_ok-awaits.ensures in
    let fine = rw (← c.self.view_is) at c.in_ok-peer.ensures.exact in
    let value = rw (← c.self.view_is) at c.in_ok-peer.ensures.value in
    let is = rw (← c.self.view_is) at c.in_ok-peer.ensures.peer in
    let written = rw (← c.self.view_is) at c.in_ok-peer.ensures.written in
    let x : MeterState = record {
      station = c.self.inside.station;
      psk = c.self.inside.pair_key;
      randoms = c.self.inside.randoms;
      session = option_map session_of c.self.inside.session;
    } in
    rw (← c.self.view_is) (on_node x _ (λ l running.
    agent_replied x l c.args.packet.now c.args.now c.in_ok-peer.peer fine value is c.args.agent c.drop_oldest.new.self _ running agrees
    (at_some _ _ l running free) c.drop_oldest.ensures
    (λ i. record {
      frames = (ap (λ (o : Out). o.frames) c.push_answer.ensures
          ∙ (λ j. (c.requires.ready.empty j).frames ++ spelled network (Up c.args.agent (c.eui-eui.ensures j)
          (message (c.eui-eui.ensures j) (body.Join (written j)))) ∷ [])) i;
      tags = (ap (λ (o : Out). o.tags) c.push_answer.ensures ∙ c.in_ok-peer.ensures.tags) i;
    })))
