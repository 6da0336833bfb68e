-- A node restarted.
use Rattle.std.proofs.Common.{arith}
use Rattle.node_rules.specs.CarriedPlans.{nothing}
use Rattle.line_rules.specs.Steps.{restarts}
use Rattle.line_world.proofs.CoordinatorActs as coordinators
use Rattle.line_world.proofs.MeterActs as meters
use Rattle.line_world.proofs.NumberedNodes.{coordinator_at, did_at, its_did_at, its_sound, its_sound_with, meter_at, sound_at, sound_with}
use Rattle.line_world.proofs.nodes.Nodes.restart.Goals as goal

pub returns-then-number-gt0 : goal.returns-then-number-gt0
returns-then-number-gt0 c =
    let at = meter_at c.self.inside.coordinator c.self.inside.meters.items _ c.args.number c.index_mut.result.now c.self.view_is c.self.invariant
    c.if-number-gt0.true
    c.requires.there c.index_mut.ensures.value in
    did_at at (λ n. restarts n) c.restart.new.self c.restart_word.result nothing
    (meters.restarted c.index_mut.result.now c.restart.new.self c.restart.result c.restart_word.result c.restart_word.ensures c.restart.ensures.answer
    c.restart.ensures.memory c.restart.ensures.store c.restart.ensures.eui c.restart.ensures.psk)

pub invariant_of-self : goal.invariant_of-self
invariant_of-self c =
    let at = meter_at c.self.inside.coordinator c.self.inside.meters.items _ c.args.number c.index_mut.result.now c.self.view_is c.self.invariant
    c.if-number-gt0.true
    c.requires.there c.index_mut.ensures.value in
    let sound = sound_at at in
    sound_with at c.restart.new.self
    (meters.stored_sound c.index_mut.result.now c.restart.new.self sound c.restart.ensures.store
    c.restart.ensures.agrees)

pub returns : goal.returns
returns c =
    let at = coordinator_at c.self.inside.coordinator c.self.inside.meters.items _ c.args.number c.in-Some.coordinator c.self.view_is c.self.invariant
    c.in-Some.is (omega (arith, c.if-number-gt0.false)) in
    its_did_at at (λ n. restarts n) c.restart-2.new.self c.restart_word-2.result nothing
    (coordinators.restarted c.in-Some.coordinator c.restart-2.new.self c.restart-2.result c.restart_word-2.result c.restart_word-2.ensures
    c.restart-2.ensures.answer c.restart-2.ensures.memory c.restart-2.ensures.store c.restart-2.ensures.eui)

pub invariant_of-self-2 : goal.invariant_of-self-2
invariant_of-self-2 c =
    let at = coordinator_at c.self.inside.coordinator c.self.inside.meters.items _ c.args.number c.in-Some.coordinator c.self.view_is c.self.invariant
    c.in-Some.is (omega (arith, c.if-number-gt0.false)) in
    let sound = its_sound at in
    its_sound_with at c.restart-2.new.self
    (coordinators.stored_sound c.in-Some.coordinator c.restart-2.new.self sound c.restart-2.ensures.store
    (c.restart-2.ensures.holds sound.home))
