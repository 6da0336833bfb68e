use Rattle.std.proofs.Common.{ℕ, List, length, sym, subst}
use Rattle.std.specs.Prelude.{IfSome}
use Rattle.node_rules.specs.CarriedPlans.{Carries}
use Rattle.node_rules.specs.ComposedPlans.{HasRoom}
use Rattle.plc_station.proofs.CarriedPlans.{if_some, at_some}
use Rattle.coordinator.specs.CoordinatorStates.{node_of}
use Rattle.coordinator.specs.Kicks.{shut_out}
use Rattle.coordinator.specs.MeshCommands.{command_sent}
use Rattle.coordinator.proofs.StoredChanges.{by_some}
use Rattle.coordinator.proofs.DepotJoins.{runs}
use Rattle.coordinator.proofs.Kicks.{ordered_done, ordered_stopped, room_left}
use Rattle.coordinator.proofs.coordinator.Coordinator.kick_by_command.Goals as goal

pub returns-in_default-clause-carries : goal.returns-in_default-clause-carries
returns-in_default-clause-carries g c =
    if_some (node_of c.args.self.now).memory _ (λ m running. ordered_stopped (node_of c.args.self.now) m c.args.entry _ c.args.to _
    (at_some (node_of c.args.self.now).memory _ m running c.requires.ready.holds) (at_some (node_of c.args.self.now).memory _ m running c.requires.reached)
    c.requires.ready.empty (at_some (node_of c.args.self.now).memory _ m running c.in_default.ensures.does))

pub send_in_room-requires-clause-ready : goal.send_in_room-requires-clause-ready
send_in_room-requires-clause-ready g c =
    record {
      running =
          by_some (node_of c.args.self.now).memory _ c.requires.ready.running
          (λ m running. runs (node_of c.args.self.now) _ (shut_out m c.args.entry) (at_some (node_of c.args.self.now).memory _ m running c.in-Ok.ensures.does));
      holds = c.in-Ok.ensures.holds;
    }

pub send_in_room-requires-clause-room : goal.send_in_room-requires-clause-room
send_in_room-requires-clause-room g c =
    subst (λ (k : List ℕ). IfSome (node_of c.shut_out.new.self).memory (λ m. HasRoom m.station c.args.to (length k))) (sym c.write_kick.ensures.command)
    (by_some (node_of c.args.self.now).memory _ c.requires.ready.running (λ m running. room_left (node_of c.args.self.now) m c.args.entry _ c.args.to
    (at_some (node_of c.args.self.now).memory _ m running c.requires.reached) (at_some (node_of c.args.self.now).memory _ m running c.in-Ok.ensures.does)))

pub returns-clause-carries : goal.returns-clause-carries
returns-clause-carries g c =
    if_some (node_of c.args.self.now).memory _ (λ m running. ordered_done (node_of c.args.self.now) m c.args.entry _ _ c.args.to _ _
    (at_some (node_of c.args.self.now).memory _ m running c.requires.ready.holds) (at_some (node_of c.args.self.now).memory _ m running c.requires.reached)
    (at_some (node_of c.args.self.now).memory _ m running c.in-Ok.ensures.does)
    (subst (λ (k : List ℕ). IfSome (node_of c.shut_out.new.self).memory (λ m. Carries (node_of c.shut_out.new.self) (command_sent m c.args.to k 0)
    c.send_in_room.result c.send_in_room.new.out (node_of c.send_in_room.new.self))) c.write_kick.ensures.command c.send_in_room.ensures.carries))
