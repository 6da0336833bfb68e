-- What the coordinator did.
use Rattle.std.proofs.Common.{Err, refl}
use Rattle.coordinator.specs.CoordinatorStates.{identity_of}
use Rattle.node_rules.proofs.RingPuts.{coordinators_write_no_ring}
use Rattle.node_rules.proofs.TablePlans.{coordinators_in_place}
use Rattle.node_rules.specs.Coordinators as rules
use Rattle.node_rules.specs.declared.refusal.CoordinatorRefusal.TheVariants as orders
use Rattle.node_rules.specs.NodeSteps.{acts}
use Rattle.line_world.proofs.CoordinatorActs.{holds, own_took, ringless_sound}
use Rattle.line_world.proofs.NumberedNodes.{coordinator_at, its_did_at, its_sound, its_sound_with}
use Rattle.line_world.proofs.nodes.Nodes.activate.Goals as goal

pub activate-requires : goal.activate-requires
activate-requires c =
    let at = coordinator_at c.self.inside.coordinator c.self.inside.meters.items _ 0 c.in-Some.coordinator c.self.view_is c.self.invariant c.in-Some.is refl in
    record { holds = holds c.in-Some.coordinator (its_sound at) }

pub returns : goal.returns
returns c =
    let at = coordinator_at c.self.inside.coordinator c.self.inside.meters.items _ 0 c.in-Some.coordinator c.self.view_is c.self.invariant c.in-Some.is refl in
    its_did_at at (λ n. acts n (Err orders.Halted) (λ m. rules.activate m c.args.eui c.args.index c.args.now)) c.activate.new.self c.activate.result
    c.activate.new.out
    (own_took c.in-Some.coordinator c.activate.new.self (Err orders.Halted) (λ m. rules.activate m c.args.eui c.args.index c.args.now) c.activate.result
    c.activate.new.out (its_sound at)
    c.activate.ensures.halted c.activate.ensures.carries)

pub invariant_of-self-2 : goal.invariant_of-self-2
invariant_of-self-2 c =
    let at = coordinator_at c.self.inside.coordinator c.self.inside.meters.items _ 0 c.in-Some.coordinator c.self.view_is c.self.invariant c.in-Some.is refl in
    its_sound_with at c.activate.new.self
    (ringless_sound c.in-Some.coordinator c.activate.new.self (Err orders.Halted) (λ m. rules.activate m c.args.eui c.args.index c.args.now) c.activate.result
    c.activate.new.out
    (λ m short. (coordinators_in_place (identity_of c.in-Some.coordinator) m short).activates c.args.eui c.args.index c.args.now)
    (λ m. (coordinators_write_no_ring (identity_of c.in-Some.coordinator) m).activates c.args.eui c.args.index c.args.now) (its_sound at)
    c.activate.ensures.halted c.activate.ensures.carries c.activate.ensures.holds)
