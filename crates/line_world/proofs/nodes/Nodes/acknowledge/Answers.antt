-- What the station of a node did, the node of its number did.
use Rattle.std.proofs.Common.{Err, arith}
use Rattle.node_rules.specs.declared.refusal.LocalRefusal.TheVariants as locals
use Rattle.node_rules.specs.Drafts.{alone}
use Rattle.reach_rules.specs.CheckedReplies.{acknowledges}
use Rattle.line_world.proofs.LentReaches.{acknowledges_own}
use Rattle.line_world.proofs.LentNodes.{coordinator_lends, meter_lends, alone_sound, did_alone, joined, lent_agrees}
use Rattle.line_world.proofs.nodes.Nodes.acknowledge.Goals as goal

pub acknowledge_at-requires-clause-agrees : goal.acknowledge_at-requires-clause-agrees
acknowledge_at-requires-clause-agrees c =
    let its = meter_lends c.self.inside.coordinator c.self.inside.meters.items _ c.args.number c.index_mut.result.now c.station.result.now c.self.view_is
    c.self.invariant
    c.if-number-gt0.true c.requires.there c.index_mut.ensures.value c.station.ensures.value in lent_agrees its

pub acknowledge_at-requires-clause-joined : goal.acknowledge_at-requires-clause-joined
acknowledge_at-requires-clause-joined c =
    let its = meter_lends c.self.inside.coordinator c.self.inside.meters.items _ c.args.number c.index_mut.result.now c.station.result.now c.self.view_is
    c.self.invariant
    c.if-number-gt0.true c.requires.there c.index_mut.ensures.value c.station.ensures.value in joined its c.requires.joined

pub returns-then-number-gt0 : goal.returns-then-number-gt0
returns-then-number-gt0 c =
    let its = meter_lends c.self.inside.coordinator c.self.inside.meters.items _ c.args.number c.index_mut.result.now c.station.result.now c.self.view_is
    c.self.invariant
    c.if-number-gt0.true c.requires.there c.index_mut.ensures.value c.station.ensures.value in
    did_alone its c.acknowledge_at.new.station (Err locals.Store) c.acknowledge_at.result
    (λ _ l. acknowledges alone c.args.reply.to c.args.reply.number c.args.reply.origin l) c.args.out.now c.acknowledge_at.new.out
    c.acknowledge_at.ensures.stayed c.acknowledge_at.ensures.carries

pub invariant_of-self : goal.invariant_of-self
invariant_of-self c =
    let its = meter_lends c.self.inside.coordinator c.self.inside.meters.items _ c.args.number c.index_mut.result.now c.station.result.now c.self.view_is
    c.self.invariant
    c.if-number-gt0.true c.requires.there c.index_mut.ensures.value c.station.ensures.value in
    alone_sound its c.acknowledge_at.new.station (Err locals.Store) c.acknowledge_at.result
    (λ _ l. acknowledges alone c.args.reply.to c.args.reply.number c.args.reply.origin l) c.args.out.now c.acknowledge_at.new.out
    c.acknowledge_at.ensures.stayed c.acknowledge_at.ensures.carries
    (acknowledges_own c.args.reply.to c.args.reply.number c.args.reply.origin _) c.acknowledge_at.ensures.agrees

pub acknowledge_at-requires-2-clause-agrees : goal.acknowledge_at-requires-2-clause-agrees
acknowledge_at-requires-2-clause-agrees c =
    let its = coordinator_lends c.self.inside.coordinator c.self.inside.meters.items _ c.args.number c.in-Some.coordinator c.station-2.result.now c.self.view_is
    c.self.invariant c.in-Some.is
    (omega (arith, c.if-number-gt0.false)) c.station-2.ensures.value in lent_agrees its

pub acknowledge_at-requires-2-clause-joined : goal.acknowledge_at-requires-2-clause-joined
acknowledge_at-requires-2-clause-joined c =
    let its = coordinator_lends c.self.inside.coordinator c.self.inside.meters.items _ c.args.number c.in-Some.coordinator c.station-2.result.now c.self.view_is
    c.self.invariant c.in-Some.is
    (omega (arith, c.if-number-gt0.false)) c.station-2.ensures.value in joined its c.requires.joined

pub returns : goal.returns
returns c =
    let its = coordinator_lends c.self.inside.coordinator c.self.inside.meters.items _ c.args.number c.in-Some.coordinator c.station-2.result.now c.self.view_is
    c.self.invariant c.in-Some.is
    (omega (arith, c.if-number-gt0.false)) c.station-2.ensures.value in
    did_alone its c.acknowledge_at-2.new.station (Err locals.Store) c.acknowledge_at-2.result
    (λ _ l. acknowledges alone c.args.reply.to c.args.reply.number c.args.reply.origin l) c.args.out.now c.acknowledge_at-2.new.out
    c.acknowledge_at-2.ensures.stayed c.acknowledge_at-2.ensures.carries

pub invariant_of-self-2 : goal.invariant_of-self-2
invariant_of-self-2 c =
    let its = coordinator_lends c.self.inside.coordinator c.self.inside.meters.items _ c.args.number c.in-Some.coordinator c.station-2.result.now c.self.view_is
    c.self.invariant c.in-Some.is
    (omega (arith, c.if-number-gt0.false)) c.station-2.ensures.value in
    alone_sound its c.acknowledge_at-2.new.station (Err locals.Store) c.acknowledge_at-2.result
    (λ _ l. acknowledges alone c.args.reply.to c.args.reply.number c.args.reply.origin l) c.args.out.now c.acknowledge_at-2.new.out
    c.acknowledge_at-2.ensures.stayed c.acknowledge_at-2.ensures.carries
    (acknowledges_own c.args.reply.to c.args.reply.number c.args.reply.origin _) c.acknowledge_at-2.ensures.agrees
