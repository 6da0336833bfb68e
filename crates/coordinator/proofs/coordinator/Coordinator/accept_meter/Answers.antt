use Rattle.plc_station.proofs.CarriedPlans.{if_some, at_some}
use Rattle.node_rules.specs.Memory.{CoordinatorSession}
use Rattle.coordinator.specs.CoordinatorStates.{node_of}
use Rattle.node_rules.specs.HearingRules.{dropped}
use Rattle.coordinator.proofs.StoredChanges.{refusal, by_some}
use Rattle.std.proofs.Common.{Ok, Err}
use Rattle.coordinator.proofs.PacketRules.{accept_lacks, ended_runs, ended_room, accepted}
use Rattle.coordinator.proofs.coordinator.Coordinator.accept_meter.Goals as goal

pub returns-in-Err-clause-carries : goal.returns-in-Err-clause-carries
returns-in-Err-clause-carries g c =
    let s : CoordinatorSession = record { server = c.session.inside.server; way = c.session.inside.way; since = c.session.inside.since } in
    rw (← c.session.view_is) (if_some (node_of c.args.self.now).memory _
    (λ m running. refusal dropped (node_of c.args.self.now) m _ _ _ running
    (accept_lacks m s c.args.agreed c.args.out.now.tags c.args.now (node_of c.args.self.now)
    (at_some (node_of c.args.self.now).memory _ m running c.requires.ready.holds) _ _
    c.acceptance-message.ensures.value (at_some (node_of c.args.self.now).memory _ m running c.in-Err.ensures.refused))
    (λ i. record { frames = c.requires.quiet i; tags = c.clear.ensures i })))

pub say-requires-clause-ready : goal.say-requires-clause-ready
say-requires-clause-ready g c =
    record {
      running =
          let s : CoordinatorSession = record { server = c.session.inside.server; way = c.session.inside.way; since = c.session.inside.since } in
          by_some (node_of c.args.self.now).memory _ c.requires.ready.running
          (λ m running. ended_runs m s c.args.agreed c.args.out.now.tags c.args.now (node_of c.args.self.now)
          (at_some (node_of c.args.self.now).memory _ m running c.requires.ready.holds) _
          (at_some (node_of c.args.self.now).memory _ m running c.end_session.ensures.state));
      holds = c.end_session.ensures.holds;
    }

pub say-requires-clause-room : goal.say-requires-clause-room
say-requires-clause-room g c =
    let s : CoordinatorSession = record { server = c.session.inside.server; way = c.session.inside.way; since = c.session.inside.since } in
    by_some (node_of c.args.self.now).memory _ c.requires.ready.running
    (λ m running. ended_room m s c.args.agreed c.args.out.now.tags c.args.now (node_of c.args.self.now)
    (at_some (node_of c.args.self.now).memory _ m running c.requires.ready.holds) _ _
    (at_some (node_of c.args.self.now).memory _ m running c.end_session.ensures.state)
    (at_some (node_of c.args.self.now).memory _ m running c.in-Ok.ensures.room))

pub returns-in_default-clause-carries : goal.returns-in_default-clause-carries
returns-in_default-clause-carries g c =
    let s : CoordinatorSession = record { server = c.session.inside.server; way = c.session.inside.way; since = c.session.inside.since } in
    rw (← c.session.view_is) (if_some (node_of c.args.self.now).memory _
    (λ m running. accepted m s c.args.agreed c.args.out.now.tags c.args.now (node_of c.args.self.now)
    (at_some (node_of c.args.self.now).memory _ m running c.requires.ready.holds) _ _ _ (Err _) _ c.acceptance-message.ensures.value
    (at_some (node_of c.args.self.now).memory _ m running c.in-Ok.ensures.room)
    (at_some (node_of c.args.self.now).memory _ m running c.end_session.ensures.state) c.in_default.ensures.carries))

pub returns-clause-carries : goal.returns-clause-carries
returns-clause-carries g c =
    let s : CoordinatorSession = record { server = c.session.inside.server; way = c.session.inside.way; since = c.session.inside.since } in
    rw (← c.session.view_is) (if_some (node_of c.args.self.now).memory _
    (λ m running. accepted m s c.args.agreed c.args.out.now.tags c.args.now (node_of c.args.self.now)
    (at_some (node_of c.args.self.now).memory _ m running c.requires.ready.holds) _ _ _ (Ok _) _ c.acceptance-message.ensures.value
    (at_some (node_of c.args.self.now).memory _ m running c.in-Ok.ensures.room)
    (at_some (node_of c.args.self.now).memory _ m running c.end_session.ensures.state) c.in-Ok-say.ensures.carries))
