use Rattle.std.proofs.Common.{refl}
use Rattle.node_rules.specs.declared.refusal.CoordinatorRefusal.TheVariants.{IndexActive}
use Rattle.node_rules.specs.Coordinators.{orders}
use Rattle.node_rules.specs.CarriedPlans.{nothing}
use Rattle.plc_station.proofs.CarriedPlans.{if_some, at_some}
use Rattle.coordinator.specs.CoordinatorStates.{node_of}
use Rattle.coordinator.proofs.StoredChanges.{refusal, carried_by}
use Rattle.coordinator.proofs.RingOrders.{index_active, drawn}
use Rattle.coordinator.proofs.coordinator.Coordinator.rekey.Goals as goal

pub returns-then-is_active-clause-carries : goal.returns-then-is_active-clause-carries
returns-then-is_active-clause-carries g c =
    if_some (node_of c.args.self.now).memory _ (λ m running. refusal orders (node_of c.args.self.now) m IndexActive _ nothing running
    (index_active m c.args.index c.args.key.now (at_some (node_of c.args.self.now).memory _ m running c.if-is_active.ensures)) refl)

pub returns-clause-carries : goal.returns-clause-carries
returns-clause-carries g c =
    if_some (node_of c.args.self.now).memory _ (λ m running. carried_by _ _ _ _ _ _
    (drawn m c.args.index c.args.key.now (at_some (node_of c.args.self.now).memory _ m running c.if-is_active.ensures))
    (at_some (node_of c.args.self.now).memory _ m running c.draw.ensures.carries))
