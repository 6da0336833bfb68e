-- A command of code 04 is heard.
use Rattle.std.proofs.Common.{◌∙◌, Some, Err, true, false, sym, ap}
use Rattle.node_rules.specs.Drafts.{alone}
use Rattle.broadcast_log.specs.Reader.{broadcast_in}
use Rattle.node_rules.specs.declared.refusal.Dropped.TheVariants as drops
use Rattle.reach_rules.specs.declared.refusal.ReachDropped.TheVariants.{Known}
use Rattle.reach_rules.specs.Broadcasts.{hear_broadcast, hear_broadcast_in}
use Rattle.line_world.specs.FurtherOutcomes.{broadcast_of, handed_up}
use Rattle.line_world.proofs.FurtherPlans.{held_by}
use Rattle.line_world.proofs.BroadcastPlans.{dropped_command, is_broadcast, no_broadcast, same_after, to_one}
use Rattle.line_world.proofs.nodes.station_broadcasts.broadcast_command.Goals as goal

pub returns-then-not-command-clause-reaches : goal.returns-then-not-command-clause-reaches
returns-then-not-command-clause-reaches c =
    let s = c.args.station.now in
    let b = c.args.beside.now in
    let h = held_by s.memory c.requires.running in
    rw c.commanded_of.ensures (dropped_command s b (λ y. hear_broadcast alone y c.args.own c.args.command.now.to_all c.args.command.now.body) c.args.number h.0
    c.args.out.now h.1
    (to_one h.0 b c.args.own c.args.command.now.to_all c.args.command.now.body c.if-not-command.true))

pub returns-in_default-clause-reaches : goal.returns-in_default-clause-reaches
returns-in_default-clause-reaches c =
    let s = c.args.station.now in
    let b = c.args.beside.now in
    let h = held_by s.memory c.requires.running in
    rw c.commanded_of-in_default.ensures
    (dropped_command s b (λ y. hear_broadcast alone y c.args.own c.args.command.now.to_all c.args.command.now.body) c.args.number
    h.0 c.args.out.now h.1
    (no_broadcast h.0 b c.args.own c.args.command.now.to_all c.args.command.now.body c.if-not-command.false
    (ap broadcast_in (sym c.octets.ensures) ∙ sym c.in_default.ensures.value)))

pub returns-clause-reaches : goal.returns-clause-reaches
returns-clause-reaches c =
    let s = c.args.station.now in
    let b = c.args.beside.now in
    let y = broadcast_of c.in-Some.broadcast in
    let h = held_by s.memory c.requires.running in
    record {
      answer = handed_up y c.hear_broadcast-heard.result;
      reports = c.broadcast_reported.ensures;
      reaches = same_after s c.hear_broadcast-heard.new.station b c.hear_broadcast-heard.new.beside (Err (Known drops.Store))
          (handed_up y c.hear_broadcast-heard.result) (λ x. hear_broadcast_in alone x c.args.own (Some y))
          (λ x. hear_broadcast alone x c.args.own c.args.command.now.to_all c.args.command.now.body) h.0 h.1
          (is_broadcast h.0 b c.args.own c.args.command.now.to_all c.args.command.now.body y c.if-not-command.false
          (ap broadcast_in (sym c.octets.ensures) ∙ sym c.in-Some.ensures.value)) c.args.out.now c.hear_broadcast-heard.new.out
          c.hear_broadcast-heard.ensures.reaches;
    }
