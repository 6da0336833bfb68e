-- A command that is heard at an address.
use Rattle.node_rules.specs.declared.refusal.Dropped.TheVariants.{BadUnit}
use Rattle.node_rules.specs.Drafts.{alone}
use Rattle.reach_rules.specs.declared.refusal.ReachDropped.TheVariants.{Known}
use Rattle.reach_rules.specs.ReachingNodes.{Beside}
use Rattle.reach_rules.specs.FurtherReceptions.{hear_command_at}
use Rattle.line_world.specs.FurtherOutcomes.{answer_as, command_of, path_heard}
use Rattle.line_world.proofs.FurtherPlans.{held_by}
use Rattle.line_world.proofs.PathPlans.{broadcast_command, by_none, dropped_after, ended_command, path_command}
use Rattle.line_world.proofs.nodes.station_further.hear_command.Goals as goal

pub returns-then-command-eq3-clause-reaches : goal.returns-then-command-eq3-clause-reaches
returns-then-command-eq3-clause-reaches c =
    let s = c.args.station.now in
    let m = held_by s.memory c.requires.running in
    let b : Beside = record { checks = c.beside.inside.checks; log = c.beside.inside.log; scan = c.beside.inside.scan } in
    rw (← c.beside.view_is)
    (ended_command s b (command_of c.args.command.now) c.args.own c.args.number m.0 c.acknowledgement_reported.result c.hear_acknowledgement-heard.result
    c.hear_acknowledgement-heard.new.checks c.args.out.now m.1
    c.if-command-eq3.true c.hear_acknowledgement-heard.ensures c.acknowledgement_reported.ensures)

pub returns-then-command-eq4-clause-reaches : goal.returns-then-command-eq4-clause-reaches
returns-then-command-eq4-clause-reaches c =
    broadcast_command c.args.station.now c.broadcast_command.new.station c.args.beside.now c.broadcast_command.new.beside (command_of c.args.command.now)
    c.args.own c.args.number c.broadcast_command.result c.args.out.now c.broadcast_command.new.out
    c.if-command-eq4.true c.broadcast_command.ensures.reaches

pub returns-then-command-eq5-clause-reaches : goal.returns-then-command-eq5-clause-reaches
returns-then-command-eq5-clause-reaches c =
    path_command c.args.station.now c.hear_path-heard.new.station c.args.beside.now c.hear_path-heard.new.beside (command_of c.args.command.now) c.args.own
    c.args.number c.path_reported.result (answer_as path_heard c.hear_path-heard.result) c.args.out.now c.hear_path-heard.new.out
    c.if-command-eq5.true c.hear_path-heard.ensures.reaches c.path_reported.ensures

pub returns-clause-reaches : goal.returns-clause-reaches
returns-clause-reaches c =
    let s = c.args.station.now in
    let b = c.args.beside.now in
    let m = held_by s.memory c.requires.running in
    dropped_after s b (λ y. hear_command_at alone y c.args.own (command_of c.args.command.now)) m.0 (Known BadUnit) c.commanded_of.result c.args.number
    c.args.out.now
    m.1
    (by_none (record { memory = m.0; beside = b }) c.args.own (command_of c.args.command.now) c.if-command-eq3.false c.if-command-eq4.false
    c.if-command-eq5.false) c.commanded_of.ensures
