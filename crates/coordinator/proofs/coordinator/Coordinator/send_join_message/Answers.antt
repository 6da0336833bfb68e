use Rattle.std.proofs.Common.{ℕ, List, length, sym, subst}
use Rattle.std.specs.Prelude.{IfSome}
use Rattle.node_rules.specs.ComposedPlans.{HasRoom}
use Rattle.node_rules.specs.CarriedPlans.{Carries}
use Rattle.coordinator.specs.CoordinatorStates.{node_of}
use Rattle.coordinator.specs.MeshCommands.{command_sent}
use Rattle.coordinator.proofs.coordinator.Coordinator.send_join_message.Goals as goal

pub send_in_room-requires-clause-room : goal.send_in_room-requires-clause-room
send_in_room-requires-clause-room g c =
    subst (λ (k : List ℕ). IfSome (node_of c.args.self.now).memory (λ m. HasRoom m.station c.args.to (length k))) (sym c.write_command.ensures.command)
    c.requires.room

pub returns-clause-carries : goal.returns-clause-carries
returns-clause-carries g c =
    subst (λ (k : List ℕ). IfSome (node_of c.args.self.now).memory (λ m. Carries (node_of c.args.self.now) (command_sent m c.args.to k c.args.now)
    c.send_in_room.result c.send_in_room.new.out (node_of c.send_in_room.new.self))) c.write_command.ensures.command c.send_in_room.ensures.carries
