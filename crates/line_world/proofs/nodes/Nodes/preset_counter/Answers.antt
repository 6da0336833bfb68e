-- What the station of a node did, the node of its number did.
use Rattle.std.proofs.Common.{Ok, arith}
use Rattle.node_rules.specs.Calls as calls
use Rattle.node_rules.specs.CarriedPlans.{nothing}
use Rattle.line_world.proofs.LentStations.{counter_own}
use Rattle.line_world.proofs.NodeActs.{gives_nothing}
use Rattle.line_world.proofs.LentNodes.{coordinator_lends, lent_agrees, meter_lends, station_did, station_sound}
use Rattle.line_world.proofs.nodes.Nodes.preset_counter.Goals as goal

pub set_counter-requires : goal.set_counter-requires
set_counter-requires c =
    let its = meter_lends c.self.inside.coordinator c.self.inside.meters.items _ c.args.number c.index_mut.result.now c.station.result.now c.self.view_is
    c.self.invariant
    c.if-number-gt0.true c.requires.there c.index_mut.ensures.value c.station.ensures.value in
    record { agrees = lent_agrees its }

pub returns-then-number-gt0 : goal.returns-then-number-gt0
returns-then-number-gt0 c =
    let its = meter_lends c.self.inside.coordinator c.self.inside.meters.items _ c.args.number c.index_mut.result.now c.station.result.now c.self.view_is
    c.self.invariant
    c.if-number-gt0.true c.requires.there c.index_mut.ensures.value c.station.ensures.value in
    station_did its (Ok tt) (λ _ l. calls.preset_counter l c.args.value) c.set_counter.new.station c.set_counter.result nothing
    (gives_nothing c.station.result.now.memory _ _ c.set_counter.ensures.halted)
    c.set_counter.ensures.carries

pub invariant_of-self : goal.invariant_of-self
invariant_of-self c =
    let its = meter_lends c.self.inside.coordinator c.self.inside.meters.items _ c.args.number c.index_mut.result.now c.station.result.now c.self.view_is
    c.self.invariant
    c.if-number-gt0.true c.requires.there c.index_mut.ensures.value c.station.ensures.value in
    station_sound its (Ok tt) (λ _ l. calls.preset_counter l c.args.value) c.set_counter.new.station c.set_counter.result nothing
    (gives_nothing c.station.result.now.memory _ _ c.set_counter.ensures.halted)
    c.set_counter.ensures.carries (counter_own _ c.args.value) c.set_counter.ensures.agrees

pub set_counter-requires-2 : goal.set_counter-requires-2
set_counter-requires-2 c =
    let its = coordinator_lends c.self.inside.coordinator c.self.inside.meters.items _ c.args.number c.in-Some.coordinator c.station-2.result.now c.self.view_is
    c.self.invariant c.in-Some.is
    (omega (arith, c.if-number-gt0.false)) c.station-2.ensures.value in
    record { agrees = lent_agrees its }

pub returns : goal.returns
returns c =
    let its = coordinator_lends c.self.inside.coordinator c.self.inside.meters.items _ c.args.number c.in-Some.coordinator c.station-2.result.now c.self.view_is
    c.self.invariant c.in-Some.is
    (omega (arith, c.if-number-gt0.false)) c.station-2.ensures.value in
    station_did its (Ok tt) (λ _ l. calls.preset_counter l c.args.value) c.set_counter-2.new.station c.set_counter-2.result nothing
    (gives_nothing c.station-2.result.now.memory _ _ c.set_counter-2.ensures.halted)
    c.set_counter-2.ensures.carries

pub invariant_of-self-2 : goal.invariant_of-self-2
invariant_of-self-2 c =
    let its = coordinator_lends c.self.inside.coordinator c.self.inside.meters.items _ c.args.number c.in-Some.coordinator c.station-2.result.now c.self.view_is
    c.self.invariant c.in-Some.is
    (omega (arith, c.if-number-gt0.false)) c.station-2.ensures.value in
    station_sound its (Ok tt) (λ _ l. calls.preset_counter l c.args.value) c.set_counter-2.new.station c.set_counter-2.result nothing
    (gives_nothing c.station-2.result.now.memory _ _ c.set_counter-2.ensures.halted)
    c.set_counter-2.ensures.carries (counter_own _ c.args.value) c.set_counter-2.ensures.agrees
