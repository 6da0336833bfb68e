-- A node that accepted a frame may hear it.
use Rattle.std.proofs.Common.{Err, arith}
use Rattle.node_rules.specs.Acceptance as acceptance
use Rattle.node_rules.specs.CarriedPlans.{nothing}
use Rattle.node_rules.specs.Ciphers.{network}
use Rattle.node_rules.specs.Frames.{arrived}
use Rattle.node_rules.specs.declared.refusal.FrameRefusal.TheVariants as frames
use Rattle.line_world.proofs.AcceptingSteps.{meter_may_hear}
use Rattle.line_world.proofs.NodeActs.{gives_nothing}
use Rattle.line_world.proofs.CoordinatorReceptions.{may_hear}
use Rattle.line_world.proofs.LentNodes.{coordinator_lends, hears, lent_agrees, meter_lends, station_did, station_sound}
use Rattle.line_world.proofs.LentStations.{accepts_own}
use Rattle.line_world.proofs.nodes.Nodes.accept.Goals as goal

pub accept-requires : goal.accept-requires
accept-requires c =
    let its = meter_lends c.self.inside.coordinator c.self.inside.meters.items _ c.args.number c.index_mut.result.now c.station.result.now c.self.view_is
    c.self.invariant
    c.if-number-gt0.true c.requires.there c.index_mut.ensures.value c.station.ensures.value in
    record { agrees = lent_agrees its }

pub returns-then-number-gt0-clause-did : goal.returns-then-number-gt0-clause-did
returns-then-number-gt0-clause-did c =
    let its = meter_lends c.self.inside.coordinator c.self.inside.meters.items _ c.args.number c.index_mut.result.now c.station.result.now c.self.view_is
    c.self.invariant
    c.if-number-gt0.true c.requires.there c.index_mut.ensures.value c.station.ensures.value in
    station_did its (Err frames.Halted) (λ own l. acceptance.accept l own (arrived network c.args.octets.now)) c.accept.new.self c.accept.result nothing
    (gives_nothing c.station.result.now.memory _ _ c.accept.ensures.halted) c.accept.ensures.carries

pub returns-then-number-gt0-clause-hears : goal.returns-then-number-gt0-clause-hears
returns-then-number-gt0-clause-hears c =
    let its = meter_lends c.self.inside.coordinator c.self.inside.meters.items _ c.args.number c.index_mut.result.now c.station.result.now c.self.view_is
    c.self.invariant
    c.if-number-gt0.true c.requires.there c.index_mut.ensures.value c.station.ensures.value in
    hears its c.accept.new.self c.accept.result
    (meter_may_hear c.index_mut.result.now c.station.result.now c.accept.new.self (arrived network c.args.octets.now) c.accept.result nothing
    c.accept.ensures.halted c.accept.ensures.carries c.accept.ensures.running c.accept.ensures.waits)

pub invariant_of-self : goal.invariant_of-self
invariant_of-self c =
    let its = meter_lends c.self.inside.coordinator c.self.inside.meters.items _ c.args.number c.index_mut.result.now c.station.result.now c.self.view_is
    c.self.invariant
    c.if-number-gt0.true c.requires.there c.index_mut.ensures.value c.station.ensures.value in
    station_sound its (Err frames.Halted) (λ own l. acceptance.accept l own (arrived network c.args.octets.now)) c.accept.new.self c.accept.result nothing
    (gives_nothing c.station.result.now.memory _ _ c.accept.ensures.halted) c.accept.ensures.carries
    (accepts_own _ (arrived network c.args.octets.now)) c.accept.ensures.after.agrees

pub accept-requires-2 : goal.accept-requires-2
accept-requires-2 c =
    let its = coordinator_lends c.self.inside.coordinator c.self.inside.meters.items _ c.args.number c.in-Some.coordinator c.station-2.result.now c.self.view_is
    c.self.invariant c.in-Some.is
    (omega (arith, c.if-number-gt0.false)) c.station-2.ensures.value in
    record { agrees = lent_agrees its }

pub returns-clause-did : goal.returns-clause-did
returns-clause-did c =
    let its = coordinator_lends c.self.inside.coordinator c.self.inside.meters.items _ c.args.number c.in-Some.coordinator c.station-2.result.now c.self.view_is
    c.self.invariant c.in-Some.is
    (omega (arith, c.if-number-gt0.false)) c.station-2.ensures.value in
    station_did its (Err frames.Halted) (λ own l. acceptance.accept l own (arrived network c.args.octets.now)) c.accept-2.new.self c.accept-2.result nothing
    (gives_nothing c.station-2.result.now.memory _ _ c.accept-2.ensures.halted) c.accept-2.ensures.carries

pub returns-clause-hears : goal.returns-clause-hears
returns-clause-hears c =
    let its = coordinator_lends c.self.inside.coordinator c.self.inside.meters.items _ c.args.number c.in-Some.coordinator c.station-2.result.now c.self.view_is
    c.self.invariant c.in-Some.is
    (omega (arith, c.if-number-gt0.false)) c.station-2.ensures.value in
    hears its c.accept-2.new.self c.accept-2.result
    (may_hear c.in-Some.coordinator c.station-2.result.now c.accept-2.new.self (arrived network c.args.octets.now) c.accept-2.result nothing
    c.accept-2.ensures.halted c.accept-2.ensures.carries c.accept-2.ensures.running c.accept-2.ensures.waits)

pub invariant_of-self-2 : goal.invariant_of-self-2
invariant_of-self-2 c =
    let its = coordinator_lends c.self.inside.coordinator c.self.inside.meters.items _ c.args.number c.in-Some.coordinator c.station-2.result.now c.self.view_is
    c.self.invariant c.in-Some.is
    (omega (arith, c.if-number-gt0.false)) c.station-2.ensures.value in
    station_sound its (Err frames.Halted) (λ own l. acceptance.accept l own (arrived network c.args.octets.now)) c.accept-2.new.self c.accept-2.result nothing
    (gives_nothing c.station-2.result.now.memory _ _ c.accept-2.ensures.halted) c.accept-2.ensures.carries
    (accepts_own _ (arrived network c.args.octets.now)) c.accept-2.ensures.after.agrees
