-- What the coordinator did.
use Rattle.std.proofs.Common.{Err, refl}
use Rattle.coordinator.specs.CoordinatorStates.{identity_of, node_of}
use Rattle.node_rules.proofs.TablePlans.{coordinators_in_place}
use Rattle.node_rules.specs.CarriedPlans.{nothing}
use Rattle.node_rules.specs.Coordinators as rules
use Rattle.node_rules.specs.declared.refusal.CoordinatorRefusal.TheVariants as orders
use Rattle.node_rules.specs.NodeSteps.{acts}
use Rattle.line_world.proofs.NodeActs.{gives_nothing}
use Rattle.line_world.proofs.CoordinatorActs.{holds, own_took, own_sound}
use Rattle.line_world.proofs.NumberedNodes.{coordinator_at, its_did_at, its_sound, its_sound_with}
use Rattle.line_world.proofs.nodes.Nodes.activate_self.Goals as goal

pub activate_self-requires : goal.activate_self-requires
activate_self-requires c =
    let at = coordinator_at c.self.inside.coordinator c.self.inside.meters.items _ 0 c.in-Some.coordinator c.self.view_is c.self.invariant c.in-Some.is refl in
    record { holds = holds c.in-Some.coordinator (its_sound at) }

pub returns : goal.returns
returns c =
    let at = coordinator_at c.self.inside.coordinator c.self.inside.meters.items _ 0 c.in-Some.coordinator c.self.view_is c.self.invariant c.in-Some.is refl in
    its_did_at at (λ n. acts n (Err orders.Halted) (λ m. rules.activate_self m c.args.index)) c.activate_self.new.self c.activate_self.result nothing
    (own_took c.in-Some.coordinator c.activate_self.new.self (Err orders.Halted) (λ m. rules.activate_self m c.args.index) c.activate_self.result nothing
    (its_sound at)
    (gives_nothing (node_of c.in-Some.coordinator).memory _ _ c.activate_self.ensures.halted) c.activate_self.ensures.carries)

pub invariant_of-self-2 : goal.invariant_of-self-2
invariant_of-self-2 c =
    let at = coordinator_at c.self.inside.coordinator c.self.inside.meters.items _ 0 c.in-Some.coordinator c.self.view_is c.self.invariant c.in-Some.is refl in
    its_sound_with at c.activate_self.new.self
    (own_sound c.in-Some.coordinator c.activate_self.new.self (Err orders.Halted) (λ m. rules.activate_self m c.args.index) c.activate_self.result nothing
    (λ m short. (coordinators_in_place (identity_of c.in-Some.coordinator) m short).seals_with c.args.index) (its_sound at)
    (gives_nothing (node_of c.in-Some.coordinator).memory _ _ c.activate_self.ensures.halted) c.activate_self.ensures.carries
    (c.activate_self.ensures.home (its_sound at).home) c.activate_self.ensures.holds)
