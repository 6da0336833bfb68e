-- What is looked up at the station of a node.
use Rattle.std.proofs.Common.{refl, arith}
use Rattle.node_rules.specs.ShownNodes.{shown_station, nothing_shown}
use Rattle.line_world.proofs.LentStations.{shows}
use Rattle.line_world.proofs.LentNodes.{coordinator_lends, meter_lends, says, sound_back, unchanged}
use Rattle.line_world.proofs.nodes.Nodes.show.Goals as goal

pub returns-then-number-gt0-clause-shown : goal.returns-then-number-gt0-clause-shown
returns-then-number-gt0-clause-shown c =
    let its = meter_lends c.self.inside.coordinator c.self.inside.meters.items _ c.args.number c.index_mut.result.now c.station.result.now c.self.view_is
    c.self.invariant
    c.if-number-gt0.true c.requires.there c.index_mut.ensures.value c.station.ensures.value in
    says its shown_station nothing_shown _ (shows c.station.result.now.memory c.shown.new.out c.shown.ensures.halted c.shown.ensures.shown)

pub returns-then-number-gt0-clause-same : goal.returns-then-number-gt0-clause-same
returns-then-number-gt0-clause-same c =
    let its = meter_lends c.self.inside.coordinator c.self.inside.meters.items _ c.args.number c.index_mut.result.now c.station.result.now c.self.view_is
    c.self.invariant
    c.if-number-gt0.true c.requires.there c.index_mut.ensures.value c.station.ensures.value in unchanged its c.station.result.now refl

pub invariant_of-self : goal.invariant_of-self
invariant_of-self c =
    let its = meter_lends c.self.inside.coordinator c.self.inside.meters.items _ c.args.number c.index_mut.result.now c.station.result.now c.self.view_is
    c.self.invariant
    c.if-number-gt0.true c.requires.there c.index_mut.ensures.value c.station.ensures.value in sound_back its c.station.result.now refl

pub returns-clause-shown : goal.returns-clause-shown
returns-clause-shown c =
    let its = coordinator_lends c.self.inside.coordinator c.self.inside.meters.items _ c.args.number c.in-Some.coordinator c.station-2.result.now c.self.view_is
    c.self.invariant c.in-Some.is
    (omega (arith, c.if-number-gt0.false)) c.station-2.ensures.value in
    says its shown_station nothing_shown _ (shows c.station-2.result.now.memory c.shown-2.new.out c.shown-2.ensures.halted c.shown-2.ensures.shown)

pub returns-clause-same : goal.returns-clause-same
returns-clause-same c =
    let its = coordinator_lends c.self.inside.coordinator c.self.inside.meters.items _ c.args.number c.in-Some.coordinator c.station-2.result.now c.self.view_is
    c.self.invariant c.in-Some.is
    (omega (arith, c.if-number-gt0.false)) c.station-2.ensures.value in unchanged its c.station-2.result.now refl

pub invariant_of-self-2 : goal.invariant_of-self-2
invariant_of-self-2 c =
    let its = coordinator_lends c.self.inside.coordinator c.self.inside.meters.items _ c.args.number c.in-Some.coordinator c.station-2.result.now c.self.view_is
    c.self.invariant c.in-Some.is
    (omega (arith, c.if-number-gt0.false)) c.station-2.ensures.value in sound_back its c.station-2.result.now refl
