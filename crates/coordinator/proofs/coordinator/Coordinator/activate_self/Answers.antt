use Rattle.std.proofs.Common.{refl}
use Rattle.node_rules.specs.declared.refusal.CoordinatorRefusal.TheVariants.{NotHeld}
use Rattle.node_rules.specs.Coordinators.{orders}
use Rattle.node_rules.specs.CarriedPlans.{nothing}
use Rattle.plc_station.proofs.CarriedPlans.{if_some, at_some}
use Rattle.coordinator.specs.CoordinatorStates.{node_of}
use Rattle.coordinator.proofs.StoredChanges.{refusal, carried_by}
use Rattle.coordinator.proofs.RingOrders.{key_missing, activated}
use Rattle.coordinator.proofs.coordinator.Coordinator.activate_self.Goals as goal

pub returns-then-not-has_key-clause-carries : goal.returns-then-not-has_key-clause-carries
returns-then-not-has_key-clause-carries g c =
    if_some (node_of c.args.self.now).memory _ (λ m running. refusal orders (node_of c.args.self.now) m NotHeld _ nothing running
    (key_missing m c.args.index (at_some (node_of c.args.self.now).memory _ m running c.if-not-has_key.ensures)) refl)

pub returns-clause-carries : goal.returns-clause-carries
returns-clause-carries g c =
    if_some (node_of c.args.self.now).memory _ (λ m running. carried_by _ _ _ _ _ _
    (activated m c.args.index (at_some (node_of c.args.self.now).memory _ m running c.if-not-has_key.ensures))
    (at_some (node_of c.args.self.now).memory _ m running c.set_active.ensures.carries))
