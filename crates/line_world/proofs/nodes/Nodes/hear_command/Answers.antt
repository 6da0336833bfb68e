-- What the station of a node did, the node of its number did.
use Rattle.std.proofs.Common.{ℕ, sym, subst, arith}
use Rattle.node_rules.specs.Drafts.{alone}
use Rattle.reach_rules.specs.FurtherReceptions.{hear_command}
use Rattle.line_world.specs.FurtherOutcomes.{ReachesCommand, command_of}
use Rattle.line_world.proofs.LentNodes.{commanded, commanded_sound, coordinator_lends, lent_agrees, log_lent, meter_lends}
use Rattle.line_world.proofs.nodes.Nodes.hear_command.Goals as goal

pub hear_command_at-requires-clause-agrees : goal.hear_command_at-requires-clause-agrees
hear_command_at-requires-clause-agrees c =
    let its = meter_lends c.self.inside.coordinator c.self.inside.meters.items _ c.args.number c.index_mut.result.now c.station.result.now c.self.view_is
    c.self.invariant
    c.if-number-gt0.true c.requires.there c.index_mut.ensures.value c.station.ensures.value in lent_agrees its

pub hear_command_at-requires-clause-kept : goal.hear_command_at-requires-clause-kept
hear_command_at-requires-clause-kept c =
    let its = meter_lends c.self.inside.coordinator c.self.inside.meters.items _ c.args.number c.index_mut.result.now c.station.result.now c.self.view_is
    c.self.invariant
    c.if-number-gt0.true c.requires.there c.index_mut.ensures.value c.station.ensures.value in log_lent its c.args.beside.now c.requires.log

pub returns-then-number-gt0 : goal.returns-then-number-gt0
returns-then-number-gt0 c =
    let its = meter_lends c.self.inside.coordinator c.self.inside.meters.items _ c.args.number c.index_mut.result.now c.station.result.now c.self.view_is
    c.self.invariant
    c.if-number-gt0.true c.requires.there c.index_mut.ensures.value c.station.ensures.value in
    commanded its c.hear_command_at.new.station c.args.beside.now c.hear_command_at.new.beside (command_of c.args.command.now)
    c.hear_command_at.result c.args.out.now c.hear_command_at.new.out (log_lent its c.args.beside.now c.requires.log)
    c.hear_command_at.ensures.reaches

pub invariant_of-self : goal.invariant_of-self
invariant_of-self c =
    let its = meter_lends c.self.inside.coordinator c.self.inside.meters.items _ c.args.number c.index_mut.result.now c.station.result.now c.self.view_is
    c.self.invariant
    c.if-number-gt0.true c.requires.there c.index_mut.ensures.value c.station.ensures.value in
    commanded_sound its c.hear_command_at.new.station c.args.beside.now c.hear_command_at.new.beside (command_of c.args.command.now)
    c.hear_command_at.result c.args.out.now c.hear_command_at.new.out (log_lent its c.args.beside.now c.requires.log)
    c.hear_command_at.ensures.reaches c.hear_command_at.ensures.agrees

pub hear_command_at-requires-2-clause-agrees : goal.hear_command_at-requires-2-clause-agrees
hear_command_at-requires-2-clause-agrees c =
    let its = coordinator_lends c.self.inside.coordinator c.self.inside.meters.items _ c.args.number c.in-Some.coordinator c.station-2.result.now c.self.view_is
    c.self.invariant c.in-Some.is
    (omega (arith, c.if-number-gt0.false)) c.station-2.ensures.value in lent_agrees its

pub hear_command_at-requires-2-clause-kept : goal.hear_command_at-requires-2-clause-kept
hear_command_at-requires-2-clause-kept c =
    let its = coordinator_lends c.self.inside.coordinator c.self.inside.meters.items _ c.args.number c.in-Some.coordinator c.station-2.result.now c.self.view_is
    c.self.invariant c.in-Some.is
    (omega (arith, c.if-number-gt0.false)) c.station-2.ensures.value in log_lent its c.args.beside.now c.requires.log

pub returns : goal.returns
returns c =
    let its = coordinator_lends c.self.inside.coordinator c.self.inside.meters.items _ c.args.number c.in-Some.coordinator c.station-2.result.now c.self.view_is
    c.self.invariant c.in-Some.is
    (omega (arith, c.if-number-gt0.false)) c.station-2.ensures.value in
    commanded its c.hear_command_at-2.new.station c.args.beside.now c.hear_command_at-2.new.beside (command_of c.args.command.now)
    c.hear_command_at-2.result c.args.out.now c.hear_command_at-2.new.out (log_lent its c.args.beside.now c.requires.log)
    (subst (λ (n : ℕ). ReachesCommand c.station-2.result.now c.args.beside.now (λ y. hear_command alone y (command_of c.args.command.now))
    c.hear_command_at-2.result n c.args.out.now c.hear_command_at-2.new.out c.hear_command_at-2.new.station c.hear_command_at-2.new.beside)
    (sym (omega (arith, c.if-number-gt0.false))) c.hear_command_at-2.ensures.reaches)

pub invariant_of-self-2 : goal.invariant_of-self-2
invariant_of-self-2 c =
    let its = coordinator_lends c.self.inside.coordinator c.self.inside.meters.items _ c.args.number c.in-Some.coordinator c.station-2.result.now c.self.view_is
    c.self.invariant c.in-Some.is
    (omega (arith, c.if-number-gt0.false)) c.station-2.ensures.value in
    commanded_sound its c.hear_command_at-2.new.station c.args.beside.now c.hear_command_at-2.new.beside (command_of c.args.command.now)
    c.hear_command_at-2.result c.args.out.now c.hear_command_at-2.new.out (log_lent its c.args.beside.now c.requires.log)
    (subst (λ (n : ℕ). ReachesCommand c.station-2.result.now c.args.beside.now (λ y. hear_command alone y (command_of c.args.command.now))
    c.hear_command_at-2.result n c.args.out.now c.hear_command_at-2.new.out c.hear_command_at-2.new.station c.hear_command_at-2.new.beside)
    (sym (omega (arith, c.if-number-gt0.false))) c.hear_command_at-2.ensures.reaches) c.hear_command_at-2.ensures.agrees
