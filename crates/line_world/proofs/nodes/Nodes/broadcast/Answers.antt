-- What the station of a node did, the node of its number did.
use Rattle.std.proofs.Common.{Err, arith}
use Rattle.node_rules.specs.Drafts.{alone}
use Rattle.node_rules.specs.MemoryDrafts.{in_memory}
use Rattle.reach_rules.specs.declared.refusal.BroadcastRefusal.TheVariants as broadcasts
use Rattle.reach_rules.specs.Broadcasts.{broadcast}
use Rattle.line_world.proofs.LentFurther.{broadcast_lent}
use Rattle.line_world.proofs.LentNodes.{coordinator_lends, meter_lends, first_sound_still, lent_agrees, log_lent, reached_first}
use Rattle.line_world.proofs.nodes.Nodes.broadcast.Goals as goal

pub broadcast_at-requires-clause-agrees : goal.broadcast_at-requires-clause-agrees
broadcast_at-requires-clause-agrees c =
    let its = meter_lends c.self.inside.coordinator c.self.inside.meters.items _ c.args.number c.index_mut.result.now c.station.result.now c.self.view_is
    c.self.invariant
    c.if-number-gt0.true c.requires.there c.index_mut.ensures.value c.station.ensures.value in lent_agrees its

pub broadcast_at-requires-clause-kept : goal.broadcast_at-requires-clause-kept
broadcast_at-requires-clause-kept c =
    let its = meter_lends c.self.inside.coordinator c.self.inside.meters.items _ c.args.number c.index_mut.result.now c.station.result.now c.self.view_is
    c.self.invariant
    c.if-number-gt0.true c.requires.there c.index_mut.ensures.value c.station.ensures.value in log_lent its c.args.beside.now c.requires.log

pub returns-then-number-gt0 : goal.returns-then-number-gt0
returns-then-number-gt0 c =
    let its = meter_lends c.self.inside.coordinator c.self.inside.meters.items _ c.args.number c.index_mut.result.now c.station.result.now c.self.view_is
    c.self.invariant
    c.if-number-gt0.true c.requires.there c.index_mut.ensures.value c.station.ensures.value in
    reached_first its c.broadcast_at.new.station c.args.beside.now c.broadcast_at.new.beside (Err broadcasts.Halted) c.broadcast_at.result
    (λ y. broadcast in_memory y c.args.datagram.now) (λ y. broadcast alone y c.args.datagram.now)
    (λ _ m. broadcast_lent c.args.beside.now m c.args.datagram.now) c.broadcast_at.new.out
    c.broadcast_at.ensures.reaches

pub invariant_of-self : goal.invariant_of-self
invariant_of-self c =
    let its = meter_lends c.self.inside.coordinator c.self.inside.meters.items _ c.args.number c.index_mut.result.now c.station.result.now c.self.view_is
    c.self.invariant
    c.if-number-gt0.true c.requires.there c.index_mut.ensures.value c.station.ensures.value in
    first_sound_still its c.broadcast_at.new.station c.args.beside.now c.broadcast_at.new.beside (Err broadcasts.Halted) c.broadcast_at.result
    (λ y. broadcast in_memory y c.args.datagram.now) (λ y. broadcast alone y c.args.datagram.now)
    (λ _ m. broadcast_lent c.args.beside.now m c.args.datagram.now) c.broadcast_at.new.out
    c.broadcast_at.ensures.reaches c.broadcast_at.ensures.agrees

pub broadcast_at-requires-2-clause-agrees : goal.broadcast_at-requires-2-clause-agrees
broadcast_at-requires-2-clause-agrees c =
    let its = coordinator_lends c.self.inside.coordinator c.self.inside.meters.items _ c.args.number c.in-Some.coordinator c.station-2.result.now c.self.view_is
    c.self.invariant c.in-Some.is
    (omega (arith, c.if-number-gt0.false)) c.station-2.ensures.value in lent_agrees its

pub broadcast_at-requires-2-clause-kept : goal.broadcast_at-requires-2-clause-kept
broadcast_at-requires-2-clause-kept c =
    let its = coordinator_lends c.self.inside.coordinator c.self.inside.meters.items _ c.args.number c.in-Some.coordinator c.station-2.result.now c.self.view_is
    c.self.invariant c.in-Some.is
    (omega (arith, c.if-number-gt0.false)) c.station-2.ensures.value in log_lent its c.args.beside.now c.requires.log

pub returns : goal.returns
returns c =
    let its = coordinator_lends c.self.inside.coordinator c.self.inside.meters.items _ c.args.number c.in-Some.coordinator c.station-2.result.now c.self.view_is
    c.self.invariant c.in-Some.is
    (omega (arith, c.if-number-gt0.false)) c.station-2.ensures.value in
    reached_first its c.broadcast_at-2.new.station c.args.beside.now c.broadcast_at-2.new.beside (Err broadcasts.Halted) c.broadcast_at-2.result
    (λ y. broadcast in_memory y c.args.datagram.now) (λ y. broadcast alone y c.args.datagram.now)
    (λ _ m. broadcast_lent c.args.beside.now m c.args.datagram.now) c.broadcast_at-2.new.out
    c.broadcast_at-2.ensures.reaches

pub invariant_of-self-2 : goal.invariant_of-self-2
invariant_of-self-2 c =
    let its = coordinator_lends c.self.inside.coordinator c.self.inside.meters.items _ c.args.number c.in-Some.coordinator c.station-2.result.now c.self.view_is
    c.self.invariant c.in-Some.is
    (omega (arith, c.if-number-gt0.false)) c.station-2.ensures.value in
    first_sound_still its c.broadcast_at-2.new.station c.args.beside.now c.broadcast_at-2.new.beside (Err broadcasts.Halted) c.broadcast_at-2.result
    (λ y. broadcast in_memory y c.args.datagram.now) (λ y. broadcast alone y c.args.datagram.now)
    (λ _ m. broadcast_lent c.args.beside.now m c.args.datagram.now) c.broadcast_at-2.new.out
    c.broadcast_at-2.ensures.reaches c.broadcast_at-2.ensures.agrees
