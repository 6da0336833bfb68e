-- What a node did.
use Rattle.std.proofs.Common.{Err, arith}
use Rattle.coordinator.specs.CoordinatorStates.{node_of}
use Rattle.meter_node.specs.MeterStates.{identity_of}
use Rattle.node_rules.specs.CarriedPlans.{nothing}
use Rattle.node_rules.specs.declared.refusal.RandomFault.TheVariants as randoms
use Rattle.node_rules.specs.MemoryDrafts as drafts
use Rattle.node_rules.specs.NodeSteps.{acts}
use Rattle.node_rules.proofs.TablePlans.{meters_in_place}
use Rattle.line_world.proofs.NodeActs.{gives_nothing}
use Rattle.line_world.proofs.CoordinatorActs.{holds, own_took, random_in_place, random_no_ring, ringless_sound}
use Rattle.line_world.proofs.MeterActs.{meter_agrees, meter_sound, meter_stayed, meter_took}
use Rattle.line_world.proofs.NumberedNodes.{coordinator_at, did_at, its_did_at, its_sound, its_sound_with, meter_at, sound_at, sound_with}
use Rattle.line_world.proofs.nodes.Nodes.give_random.Goals as goal

pub give_random-requires : goal.give_random-requires
give_random-requires c =
    let at = meter_at c.self.inside.coordinator c.self.inside.meters.items _ c.args.number c.index_mut.result.now c.self.view_is c.self.invariant
    c.if-number-gt0.true
    c.requires.there c.index_mut.ensures.value in
    record { agrees = meter_agrees c.index_mut.result.now (sound_at at) }

pub returns-then-number-gt0 : goal.returns-then-number-gt0
returns-then-number-gt0 c =
    let at = meter_at c.self.inside.coordinator c.self.inside.meters.items _ c.args.number c.index_mut.result.now c.self.view_is c.self.invariant
    c.if-number-gt0.true
    c.requires.there c.index_mut.ensures.value in
    did_at at (λ n. acts n (Err randoms.Halted) (λ m. drafts.give_random m c.args.value)) c.give_random.new.self c.give_random.result nothing
    (meter_took c.index_mut.result.now c.give_random.new.self (Err randoms.Halted) (λ m. drafts.give_random m c.args.value) c.give_random.result nothing
    (sound_at at) c.give_random.ensures.after.psk
    (meter_stayed c.index_mut.result.now c.give_random.new.self (Err randoms.Halted) c.give_random.result nothing
    (gives_nothing c.index_mut.result.now.station.memory _ _ c.give_random.ensures.halted)) c.give_random.ensures.carries)

pub invariant_of-self : goal.invariant_of-self
invariant_of-self c =
    let at = meter_at c.self.inside.coordinator c.self.inside.meters.items _ c.args.number c.index_mut.result.now c.self.view_is c.self.invariant
    c.if-number-gt0.true
    c.requires.there c.index_mut.ensures.value in
    sound_with at c.give_random.new.self
    (meter_sound c.index_mut.result.now c.give_random.new.self (Err randoms.Halted) (λ m. drafts.give_random m c.args.value) c.give_random.result nothing
    (λ m short. (meters_in_place (identity_of c.index_mut.result.now) m short).takes_random c.args.value) (sound_at at)
    (meter_stayed c.index_mut.result.now c.give_random.new.self (Err randoms.Halted) c.give_random.result nothing
    (gives_nothing c.index_mut.result.now.station.memory _ _ c.give_random.ensures.halted)) c.give_random.ensures.carries c.give_random.ensures.after.agrees)

pub give_random-requires-2 : goal.give_random-requires-2
give_random-requires-2 c =
    let at = coordinator_at c.self.inside.coordinator c.self.inside.meters.items _ c.args.number c.in-Some.coordinator c.self.view_is c.self.invariant
    c.in-Some.is (omega (arith, c.if-number-gt0.false)) in
    record { holds = holds c.in-Some.coordinator (its_sound at) }

pub returns : goal.returns
returns c =
    let at = coordinator_at c.self.inside.coordinator c.self.inside.meters.items _ c.args.number c.in-Some.coordinator c.self.view_is c.self.invariant
    c.in-Some.is (omega (arith, c.if-number-gt0.false)) in
    its_did_at at (λ n. acts n (Err randoms.Halted) (λ m. drafts.give_random m c.args.value)) c.give_random-2.new.self c.give_random-2.result nothing
    (own_took c.in-Some.coordinator c.give_random-2.new.self (Err randoms.Halted) (λ m. drafts.give_random m c.args.value) c.give_random-2.result nothing
    (its_sound at)
    (gives_nothing (node_of c.in-Some.coordinator).memory _ _ c.give_random-2.ensures.halted) c.give_random-2.ensures.carries)

pub invariant_of-self-2 : goal.invariant_of-self-2
invariant_of-self-2 c =
    let at = coordinator_at c.self.inside.coordinator c.self.inside.meters.items _ c.args.number c.in-Some.coordinator c.self.view_is c.self.invariant
    c.in-Some.is (omega (arith, c.if-number-gt0.false)) in
    its_sound_with at c.give_random-2.new.self
    (ringless_sound c.in-Some.coordinator c.give_random-2.new.self (Err randoms.Halted) (λ m. drafts.give_random m c.args.value) c.give_random-2.result nothing
    (random_in_place c.in-Some.coordinator c.args.value) (λ m. random_no_ring m c.args.value) (its_sound at)
    (gives_nothing (node_of c.in-Some.coordinator).memory _ _ c.give_random-2.ensures.halted) c.give_random-2.ensures.carries c.give_random-2.ensures.holds)
