use Rattle.std.proofs.Common.{ℕ, List, length, Some, sym, ap, subst, ◌∙◌}
use Rattle.std.proofs.lemmas.Result.{err_from_is_err_and}
use Rattle.node_rules.specs.declared.heard.Way.TheVariants.{Mesh}
use Rattle.node_rules.specs.ComposedPlans.{HasRoom}
use Rattle.node_rules.specs.Coordinators.{orders}
use Rattle.plc_station.proofs.CarriedPlans.{if_some, at_some}
use Rattle.coordinator.specs.CoordinatorStates.{node_of}
use Rattle.coordinator.specs.MeshCommands.{lacks}
use Rattle.coordinator.proofs.StoredChanges.{refusal, by_some}
use Rattle.coordinator.proofs.Challenges.{ordered_done, lacking_plan, session_runs, session_room}
use Rattle.coordinator.proofs.coordinator.Coordinator.open_by.Goals as goal

pub returns-in_err-room_for-clause-carries : goal.returns-in_err-room_for-clause-carries
returns-in_err-room_for-clause-carries g c =
    let p = err_from_is_err_and c.from_residual.result c.from_residual.ensures.1 in
    rw p.1 (if_some (node_of c.args.self.now).memory _ (λ m running. refusal orders (node_of c.args.self.now) m p.0 _ _ running
    (lacking_plan c.args.self.now.station.eui m c.args.to c.args.now c.args.server p.0
    (at_some (node_of c.args.self.now).memory _ m running c.requires.ready.holds).home
    (ap (λ (k : List ℕ). lacks m c.args.to (length k)) (sym c.requires.packet)
    ∙ ap (λ (n : ℕ). lacks m c.args.to n) (sym c.len.ensures.value)
    ∙ at_some (node_of c.args.self.now).memory _ m running c.in_err-room_for.ensures.refused ∙ ap Some (sym p.2))) c.requires.ready.empty))

pub send_in_room-requires-clause-ready : goal.send_in_room-requires-clause-ready
send_in_room-requires-clause-ready g c =
    record {
      running =
          by_some (node_of c.args.self.now).memory _ c.requires.ready.running
          (λ m running. session_runs (node_of c.args.self.now) _ _ (at_some (node_of c.args.self.now).memory _ m running c.begin_session.ensures.state));
      holds = c.begin_session.ensures.holds;
    }

pub send_in_room-requires-clause-room : goal.send_in_room-requires-clause-room
send_in_room-requires-clause-room g c =
    by_some (node_of c.args.self.now).memory _ c.requires.ready.running (λ m running. session_room (node_of c.args.self.now) _ m
    (record { server = c.args.server; way = Mesh c.args.to; since = c.args.now }) c.args.to (length c.args.command.now)
    (subst (λ (n : ℕ). HasRoom m.station c.args.to n) c.len.ensures.value
    (at_some (node_of c.args.self.now).memory _ m running c.in_ok-room_for.ensures.room))
    (at_some (node_of c.args.self.now).memory _ m running c.begin_session.ensures.state))

pub returns-clause-carries : goal.returns-clause-carries
returns-clause-carries g c =
    if_some (node_of c.args.self.now).memory _ (λ m running. ordered_done c.args.self.now.station.eui m c.args.to c.args.now c.args.server c.args.command.now
    (node_of c.args.self.now) _ _ _ _ c.requires.packet (at_some (node_of c.args.self.now).memory _ m running c.requires.ready.holds)
    (subst (λ (n : ℕ). HasRoom m.station c.args.to n) c.len.ensures.value
    (at_some (node_of c.args.self.now).memory _ m running c.in_ok-room_for.ensures.room))
    (at_some (node_of c.args.self.now).memory _ m running c.begin_session.ensures.state) c.send_in_room.ensures.carries)
