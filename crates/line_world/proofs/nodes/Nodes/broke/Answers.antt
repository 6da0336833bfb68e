-- What the station of a node did, the node of its number did.
use Rattle.std.proofs.Common.{arith}
use Rattle.node_rules.specs.CarriedPlans.{nothing}
use Rattle.node_rules.specs.Plans.{resting}
use Rattle.line_events.specs.declared.event.Answer.TheVariants as answers
use Rattle.line_world.proofs.LentStations.{breaking, breaks_own}
use Rattle.line_world.proofs.NodeActs.{gives_nothing}
use Rattle.line_world.proofs.LentNodes.{coordinator_lends, lent_agrees, meter_lends, station_did, station_sound}
use Rattle.line_world.proofs.nodes.Nodes.broke.Goals as goal

pub break_at-requires : goal.break_at-requires
break_at-requires c =
    let its = meter_lends c.self.inside.coordinator c.self.inside.meters.items _ c.args.number c.index_mut.result.now c.station.result.now c.self.view_is
    c.self.invariant
    c.if-number-gt0.true c.requires.there c.index_mut.ensures.value c.station.ensures.value in
    record { agrees = lent_agrees its }

pub returns-then-number-gt0 : goal.returns-then-number-gt0
unfolding resting
returns-then-number-gt0 c =
    let its = meter_lends c.self.inside.coordinator c.self.inside.meters.items _ c.args.number c.index_mut.result.now c.station.result.now c.self.view_is
    c.self.invariant
    c.if-number-gt0.true c.requires.there c.index_mut.ensures.value c.station.ensures.value in
    station_did its answers.Halted (breaking c.args.next) c.break_at.new.station c.break_at.result nothing
    (gives_nothing c.station.result.now.memory _ _ c.break_at.ensures.halted)
    c.break_at.ensures.carries

pub invariant_of-self : goal.invariant_of-self
unfolding resting
invariant_of-self c =
    let its = meter_lends c.self.inside.coordinator c.self.inside.meters.items _ c.args.number c.index_mut.result.now c.station.result.now c.self.view_is
    c.self.invariant
    c.if-number-gt0.true c.requires.there c.index_mut.ensures.value c.station.ensures.value in
    station_sound its answers.Halted (breaking c.args.next) c.break_at.new.station c.break_at.result nothing
    (gives_nothing c.station.result.now.memory _ _ c.break_at.ensures.halted)
    c.break_at.ensures.carries (breaks_own _ c.args.next) c.break_at.ensures.agrees

pub break_at-requires-2 : goal.break_at-requires-2
break_at-requires-2 c =
    let its = coordinator_lends c.self.inside.coordinator c.self.inside.meters.items _ c.args.number c.in-Some.coordinator c.station-2.result.now c.self.view_is
    c.self.invariant c.in-Some.is
    (omega (arith, c.if-number-gt0.false)) c.station-2.ensures.value in
    record { agrees = lent_agrees its }

pub returns : goal.returns
unfolding resting
returns c =
    let its = coordinator_lends c.self.inside.coordinator c.self.inside.meters.items _ c.args.number c.in-Some.coordinator c.station-2.result.now c.self.view_is
    c.self.invariant c.in-Some.is
    (omega (arith, c.if-number-gt0.false)) c.station-2.ensures.value in
    station_did its answers.Halted (breaking c.args.next) c.break_at-2.new.station c.break_at-2.result nothing
    (gives_nothing c.station-2.result.now.memory _ _ c.break_at-2.ensures.halted)
    c.break_at-2.ensures.carries

pub invariant_of-self-2 : goal.invariant_of-self-2
unfolding resting
invariant_of-self-2 c =
    let its = coordinator_lends c.self.inside.coordinator c.self.inside.meters.items _ c.args.number c.in-Some.coordinator c.station-2.result.now c.self.view_is
    c.self.invariant c.in-Some.is
    (omega (arith, c.if-number-gt0.false)) c.station-2.ensures.value in
    station_sound its answers.Halted (breaking c.args.next) c.break_at-2.new.station c.break_at-2.result nothing
    (gives_nothing c.station-2.result.now.memory _ _ c.break_at-2.ensures.halted)
    c.break_at-2.ensures.carries (breaks_own _ c.args.next) c.break_at-2.ensures.agrees
