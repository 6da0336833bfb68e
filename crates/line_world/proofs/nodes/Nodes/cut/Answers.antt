-- A loss of power of a node is set.
use Rattle.std.proofs.Common.{Some, arith}
use Rattle.line_events.specs.declared.event.Answer.TheVariants as answers
use Rattle.node_rules.specs.CarriedPlans.{nothing}
use Rattle.node_rules.specs.Memory.{Coordinator, Meter}
use Rattle.node_rules.specs.NodeSteps.{stays}
use Rattle.line_world.proofs.CoordinatorActs as coordinators
use Rattle.line_world.proofs.LentStations.{cut_sound, cut_took, over}
use Rattle.line_world.proofs.MeterActs as meters
use Rattle.line_world.proofs.NumberedNodes.{coordinator_at, did_at, its_did_at, its_sound, its_sound_with, meter_at, sound_at, sound_with}
use Rattle.line_world.proofs.nodes.Nodes.cut.Goals as goal

pub returns-then-number-gt0 : goal.returns-then-number-gt0
returns-then-number-gt0 c =
    let at = meter_at c.self.inside.coordinator c.self.inside.meters.items _ c.args.number c.index_mut.result.now c.self.view_is c.self.invariant
    c.if-number-gt0.true
    c.requires.there c.index_mut.ensures.value in
    did_at at (λ n. stays (record n { store = record n.store { cut = Some (record { nth = c.args.nth; keeps_new = c.args.keeps_new }) } }) answers.Set)
    (meters.with_its (over c.cut.new.self c.station.result.now) c.index_mut.result.now) answers.Set nothing
    (cut_took (Meter c.index_mut.result.now.psk) (meters.beside c.index_mut.result.now) c.index_mut.result.now.station c.station.result.now
    c.keeper_mut.result.now c.cut.new.self
    (record { nth = c.args.nth; keeps_new = c.args.keeps_new }) c.station.ensures.value c.keeper_mut.ensures.value c.cut.ensures)

pub invariant_of-self : goal.invariant_of-self
invariant_of-self c =
    let at = meter_at c.self.inside.coordinator c.self.inside.meters.items _ c.args.number c.index_mut.result.now c.self.view_is c.self.invariant
    c.if-number-gt0.true
    c.requires.there c.index_mut.ensures.value in
    sound_with at (meters.with_its (over c.cut.new.self c.station.result.now) c.index_mut.result.now)
    (cut_sound (Meter c.index_mut.result.now.psk) (meters.beside c.index_mut.result.now) c.index_mut.result.now.station c.station.result.now
    c.keeper_mut.result.now c.cut.new.self
    (record { nth = c.args.nth; keeps_new = c.args.keeps_new }) c.station.ensures.value c.keeper_mut.ensures.value c.cut.ensures (sound_at at))

pub returns : goal.returns
returns c =
    let at = coordinator_at c.self.inside.coordinator c.self.inside.meters.items _ c.args.number c.in-Some.coordinator c.self.view_is c.self.invariant
    c.in-Some.is (omega (arith, c.if-number-gt0.false)) in
    its_did_at at (λ n. stays (record n { store = record n.store { cut = Some (record { nth = c.args.nth; keeps_new = c.args.keeps_new }) } }) answers.Set)
    (coordinators.with_its (over c.cut-2.new.self c.station-2.result.now) c.in-Some.coordinator) answers.Set nothing
    (cut_took Coordinator (coordinators.beside c.in-Some.coordinator) c.in-Some.coordinator.station c.station-2.result.now c.keeper_mut-2.result.now
    c.cut-2.new.self
    (record { nth = c.args.nth; keeps_new = c.args.keeps_new }) c.station-2.ensures.value c.keeper_mut-2.ensures.value c.cut-2.ensures)

pub invariant_of-self-2 : goal.invariant_of-self-2
invariant_of-self-2 c =
    let at = coordinator_at c.self.inside.coordinator c.self.inside.meters.items _ c.args.number c.in-Some.coordinator c.self.view_is c.self.invariant
    c.in-Some.is (omega (arith, c.if-number-gt0.false)) in
    its_sound_with at (coordinators.with_its (over c.cut-2.new.self c.station-2.result.now) c.in-Some.coordinator)
    (cut_sound Coordinator (coordinators.beside c.in-Some.coordinator) c.in-Some.coordinator.station c.station-2.result.now c.keeper_mut-2.result.now
    c.cut-2.new.self
    (record { nth = c.args.nth; keeps_new = c.args.keeps_new }) c.station-2.ensures.value c.keeper_mut-2.ensures.value c.cut-2.ensures (its_sound at))
