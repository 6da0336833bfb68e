use Rattle.std.proofs.Common.{Some, sym, subst}
use Rattle.std.specs.Prelude.{◌≡◌, IfSome, IfOk, IfErr}
use Rattle.plc_station.proofs.CarriedPlans.{if_some}
use Rattle.coordinator.specs.CoordinatorStates.{node_of}
use Rattle.coordinator.specs.JoiningReplies.{RoomToSay, say_fault}
use Rattle.coordinator.proofs.coordinator.Coordinator.say_room.Goals as goal

pub returns-in-Air-clause-room : goal.returns-in-Air-clause-room
returns-in-Air-clause-room g c =
    if_some (node_of c.args.self.now).memory _ (λ m running. subst (λ w. RoomToSay m w c.args.message.now) (sym c.in-Air.is) tt)

pub returns-in-Near-clause-room : goal.returns-in-Near-clause-room
returns-in-Near-clause-room g c =
    if_some (node_of c.args.self.now).memory _ (λ m running. subst (λ w. RoomToSay m w c.args.message.now) (sym c.in-Near.is) tt)

pub returns-in-Mesh-clause-room : goal.returns-in-Mesh-clause-room
returns-in-Mesh-clause-room g c =
    subst (λ w. IfOk c.mesh_room.result (λ _. IfSome (node_of c.args.self.now).memory (λ m. RoomToSay m w c.args.message.now))) (sym c.in-Mesh.is)
    c.mesh_room.ensures.room

pub returns-in-Mesh-clause-refused : goal.returns-in-Mesh-clause-refused
returns-in-Mesh-clause-refused g c =
    subst (λ w. IfErr c.mesh_room.result (λ reason. IfSome (node_of c.args.self.now).memory (λ m. say_fault m w c.args.message.now ≡ Some reason)))
    (sym c.in-Mesh.is) c.mesh_room.ensures.refused
