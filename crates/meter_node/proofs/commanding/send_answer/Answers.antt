use Rattle.std.proofs.Common.{◌∙◌}
use Rattle.joining_messages.specs.declared.message.JoinBody.TheVariants as body
use Rattle.node_rules.specs.JoiningPackets.{command_of, message}
use Rattle.meter_node.proofs.CommandRules.{sent_zero}
use Rattle.meter_node.proofs.commanding.send_answer.Goals as goal

pub returns-in-Ok-clause-sent : goal.returns-in-Ok-clause-sent
returns-in-Ok-clause-sent g c = record {
  sent = c.send_command.new.out;
  carries =
      sent_zero c.args.station.now c.send_command.new.self _ _ (command_of (message c.args.station.now.eui (body.Join c.args.eap.now))) c.args.now _
      c.send_command.new.out c.coordinator.ensures
      (c.octets.ensures.value ∙ c.write_answer.ensures.command
      ∙ (λ i. command_of (message (c.eui.ensures i) (body.Join c.args.eap.now)))) c.in-Ok.ensures.carries;
  given = λ i. record c.send_command.new.out { tags = c.take-tags.ensures.value i };
}

pub returns-in-Err-clause-sent : goal.returns-in-Err-clause-sent
returns-in-Err-clause-sent g c = record {
  sent = c.send_command.new.out;
  carries =
      sent_zero c.args.station.now c.send_command.new.self _ _ (command_of (message c.args.station.now.eui (body.Join c.args.eap.now))) c.args.now _
      c.send_command.new.out c.coordinator.ensures
      (c.octets.ensures.value ∙ c.write_answer.ensures.command
      ∙ (λ i. command_of (message (c.eui.ensures i) (body.Join c.args.eap.now)))) c.in-Err.ensures.carries;
  given = λ i. record c.send_command.new.out { tags = record { made = c.clear.ensures i; opened = (c.take-tags.ensures.value i).opened } };
}
