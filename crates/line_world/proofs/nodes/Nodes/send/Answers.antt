-- What the station of a node did, the node of its number did.
use Rattle.std.proofs.Common.{Err, arith}
use Rattle.node_rules.specs.Calls as calls
use Rattle.node_rules.specs.declared.refusal.SendRefusal.TheVariants as sends
use Rattle.line_world.proofs.LentStations.{sends_own}
use Rattle.line_world.proofs.LentNodes.{coordinator_lends, lent_agrees, meter_lends, station_did, station_sound}
use Rattle.line_world.proofs.nodes.Nodes.send.Goals as goal

pub send-requires : goal.send-requires
send-requires c =
    let its = meter_lends c.self.inside.coordinator c.self.inside.meters.items _ c.args.number c.index_mut.result.now c.station.result.now c.self.view_is
    c.self.invariant
    c.if-number-gt0.true c.requires.there c.index_mut.ensures.value c.station.ensures.value in
    record { agrees = lent_agrees its }

pub returns-then-number-gt0 : goal.returns-then-number-gt0
returns-then-number-gt0 c =
    let its = meter_lends c.self.inside.coordinator c.self.inside.meters.items _ c.args.number c.index_mut.result.now c.station.result.now c.self.view_is
    c.self.invariant
    c.if-number-gt0.true c.requires.there c.index_mut.ensures.value c.station.ensures.value in
    station_did its (Err sends.Halted) (λ _ l. calls.send l c.args.to c.args.datagram.now c.args.note c.args.now) c.send.new.self c.send.result c.send.new.out
    c.send.ensures.halted
    c.send.ensures.carries

pub invariant_of-self : goal.invariant_of-self
invariant_of-self c =
    let its = meter_lends c.self.inside.coordinator c.self.inside.meters.items _ c.args.number c.index_mut.result.now c.station.result.now c.self.view_is
    c.self.invariant
    c.if-number-gt0.true c.requires.there c.index_mut.ensures.value c.station.ensures.value in
    station_sound its (Err sends.Halted) (λ _ l. calls.send l c.args.to c.args.datagram.now c.args.note c.args.now) c.send.new.self c.send.result c.send.new.out
    c.send.ensures.halted
    c.send.ensures.carries (sends_own _ c.args.to c.args.datagram.now c.args.note c.args.now) c.send.ensures.after.agrees

pub send-requires-2 : goal.send-requires-2
send-requires-2 c =
    let its = coordinator_lends c.self.inside.coordinator c.self.inside.meters.items _ c.args.number c.in-Some.coordinator c.station-2.result.now c.self.view_is
    c.self.invariant c.in-Some.is
    (omega (arith, c.if-number-gt0.false)) c.station-2.ensures.value in
    record { agrees = lent_agrees its }

pub returns : goal.returns
returns c =
    let its = coordinator_lends c.self.inside.coordinator c.self.inside.meters.items _ c.args.number c.in-Some.coordinator c.station-2.result.now c.self.view_is
    c.self.invariant c.in-Some.is
    (omega (arith, c.if-number-gt0.false)) c.station-2.ensures.value in
    station_did its (Err sends.Halted) (λ _ l. calls.send l c.args.to c.args.datagram.now c.args.note c.args.now) c.send-2.new.self c.send-2.result
    c.send-2.new.out c.send-2.ensures.halted
    c.send-2.ensures.carries

pub invariant_of-self-2 : goal.invariant_of-self-2
invariant_of-self-2 c =
    let its = coordinator_lends c.self.inside.coordinator c.self.inside.meters.items _ c.args.number c.in-Some.coordinator c.station-2.result.now c.self.view_is
    c.self.invariant c.in-Some.is
    (omega (arith, c.if-number-gt0.false)) c.station-2.ensures.value in
    station_sound its (Err sends.Halted) (λ _ l. calls.send l c.args.to c.args.datagram.now c.args.note c.args.now) c.send-2.new.self c.send-2.result
    c.send-2.new.out c.send-2.ensures.halted
    c.send-2.ensures.carries (sends_own _ c.args.to c.args.datagram.now c.args.note c.args.now) c.send-2.ensures.after.agrees
