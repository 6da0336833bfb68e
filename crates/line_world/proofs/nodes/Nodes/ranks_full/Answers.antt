-- What is looked up at the station of a node.
use Rattle.std.proofs.Common.{false, length, refl, arith}
use Rattle.std.specs.Prelude.{nat_lt}
use Rattle.line_world.proofs.LentNodes.{coordinator_lends, meter_lends, says, sound_back, unchanged}
use Rattle.line_world.proofs.nodes.Nodes.ranks_full.Goals as goal

pub returns-then-number-gt0-clause-value : goal.returns-then-number-gt0-clause-value
returns-then-number-gt0-clause-value c =
    let its = meter_lends c.self.inside.coordinator c.self.inside.meters.items _ c.args.number c.index_mut.result.now c.station.result.now c.self.view_is
    c.self.invariant
    c.if-number-gt0.true c.requires.there c.index_mut.ensures.value c.station.ensures.value in
    says its (λ l. nat_lt 63 (length l.routing.entries)) false _ c.is_full.ensures

pub returns-then-number-gt0-clause-same : goal.returns-then-number-gt0-clause-same
returns-then-number-gt0-clause-same c =
    let its = meter_lends c.self.inside.coordinator c.self.inside.meters.items _ c.args.number c.index_mut.result.now c.station.result.now c.self.view_is
    c.self.invariant
    c.if-number-gt0.true c.requires.there c.index_mut.ensures.value c.station.ensures.value in unchanged its c.station.result.now refl

pub invariant_of-self : goal.invariant_of-self
invariant_of-self c =
    let its = meter_lends c.self.inside.coordinator c.self.inside.meters.items _ c.args.number c.index_mut.result.now c.station.result.now c.self.view_is
    c.self.invariant
    c.if-number-gt0.true c.requires.there c.index_mut.ensures.value c.station.ensures.value in sound_back its c.station.result.now refl

pub returns-clause-value : goal.returns-clause-value
returns-clause-value c =
    let its = coordinator_lends c.self.inside.coordinator c.self.inside.meters.items _ c.args.number c.in-Some.coordinator c.station-2.result.now c.self.view_is
    c.self.invariant c.in-Some.is
    (omega (arith, c.if-number-gt0.false)) c.station-2.ensures.value in
    says its (λ l. nat_lt 63 (length l.routing.entries)) false _ c.is_full-2.ensures

pub returns-clause-same : goal.returns-clause-same
returns-clause-same c =
    let its = coordinator_lends c.self.inside.coordinator c.self.inside.meters.items _ c.args.number c.in-Some.coordinator c.station-2.result.now c.self.view_is
    c.self.invariant c.in-Some.is
    (omega (arith, c.if-number-gt0.false)) c.station-2.ensures.value in unchanged its c.station-2.result.now refl

pub invariant_of-self-2 : goal.invariant_of-self-2
invariant_of-self-2 c =
    let its = coordinator_lends c.self.inside.coordinator c.self.inside.meters.items _ c.args.number c.in-Some.coordinator c.station-2.result.now c.self.view_is
    c.self.invariant c.in-Some.is
    (omega (arith, c.if-number-gt0.false)) c.station-2.ensures.value in sound_back its c.station-2.result.now refl
