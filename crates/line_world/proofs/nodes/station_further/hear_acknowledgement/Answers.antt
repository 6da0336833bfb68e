-- An acknowledgement that is heard.
use Rattle.std.proofs.Common.{ap, sym, ◌∙◌}
use Rattle.neighbour_checks.specs.Acks.{ack_in}
use Rattle.line_world.specs.FurtherOutcomes.{command_of}
use Rattle.line_world.proofs.FurtherPlans.{ends_all, ends_unread}
use Rattle.line_world.proofs.PathPlans.{awaited_ends, unawaited_ends}
use Rattle.line_world.proofs.nodes.station_further.hear_acknowledgement.Goals as goal

pub returns-then-command : goal.returns-then-command
returns-then-command c = ends_all c.args.checks.now (command_of c.args.command.now) c.if-command.true

pub returns-in_default : goal.returns-in_default
returns-in_default c = ends_unread c.args.checks.now (command_of c.args.command.now) c.if-command.false (cc)

pub returns-then-is_err : goal.returns-then-is_err
returns-then-is_err c =
    unawaited_ends c.args.checks.now c.acked.new.self (command_of c.args.command.now) c.in-Some.ack.0 c.in-Some.ack.1 c.acked.result c.if-command.false
    (ap ack_in (sym c.octets.ensures) ∙ c.read_ack.ensures.value ∙ c.in-Some.is) (sym c.is_err.ensures.value ∙ c.if-is_err.true) c.acked.ensures.answer
    c.acked.ensures.same

pub returns : goal.returns
returns c =
    awaited_ends c.args.checks.now c.acked.new.self (command_of c.args.command.now) c.in-Some.ack.0 c.in-Some.ack.1 c.acked.result c.if-command.false
    (ap ack_in (sym c.octets.ensures) ∙ c.read_ack.ensures.value ∙ c.in-Some.is) (sym c.is_err.ensures.value ∙ c.if-is_err.false) c.acked.ensures.answer
    c.acked.ensures.value
