use Rattle.plc_station.proofs.CarriedPlans.{if_some, at_some}
use Rattle.coordinator.specs.CoordinatorStates.{node_of}
use Rattle.coordinator.proofs.ReplyRules.{mesh_said, mesh_unsaid}
use Rattle.coordinator.proofs.coordinator.Coordinator.say_over_mesh.Goals as goal

pub returns-in_default-clause-carries : goal.returns-in_default-clause-carries
returns-in_default-clause-carries g c =
    if_some (node_of c.args.self.now).memory _ (λ m running. mesh_unsaid m c.args.to c.args.message.now c.args.now (node_of c.args.self.now) _
    c.args.out.now.tags c.send_join_message.new.out _ (at_some (node_of c.args.self.now).memory _ m running c.requires.ready.holds).home _
    (at_some (node_of c.args.self.now).memory _ m running c.in_default.ensures.carries)
    (λ i. record c.send_join_message.new.out { tags = record { made = c.clear.ensures i; opened = (c.take-tags.ensures.value i).opened } }))

pub returns-clause-carries : goal.returns-clause-carries
returns-clause-carries g c =
    if_some (node_of c.args.self.now).memory _ (λ m running. mesh_said m c.args.to c.args.message.now c.args.now (node_of c.args.self.now) _
    c.args.out.now.tags c.send_join_message.new.out _ (at_some (node_of c.args.self.now).memory _ m running c.requires.ready.holds).home _
    (at_some (node_of c.args.self.now).memory _ m running c.in-Ok.ensures.carries)
    (λ i. record c.send_join_message.new.out { tags = c.take-tags.ensures.value i }))
