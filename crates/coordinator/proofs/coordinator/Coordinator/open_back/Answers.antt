use Rattle.plc_station.proofs.CarriedPlans.{if_some, at_some}
use Rattle.node_rules.specs.Memory.{CoordinatorSession}
use Rattle.coordinator.specs.CoordinatorStates.{node_of}
use Rattle.node_rules.specs.HearingRules.{dropped}
use Rattle.coordinator.proofs.StoredChanges.{refusal, by_some}
use Rattle.std.proofs.Common.{Ok, Err, sym, ◌∙◌}
use Rattle.coordinator.proofs.Challenges.{session_runs}
use Rattle.coordinator.proofs.RequestRules.{challenge_lacks, opened_room_by, challenged_by}
use Rattle.coordinator.proofs.coordinator.Coordinator.open_back.Goals as goal

pub returns-in-Err-clause-carries : goal.returns-in-Err-clause-carries
returns-in-Err-clause-carries g c =
    let s : CoordinatorSession = record { server = c.session.inside.server; way = c.session.inside.way; since = c.session.inside.since } in
    rw (← c.session.view_is) (if_some (node_of c.args.self.now).memory _ (λ m running. refusal dropped (node_of c.args.self.now) m _ _ _ running
    (challenge_lacks m s.way s.server s.since (node_of c.args.self.now) c.args.message.now _
    (at_some (node_of c.args.self.now).memory _ m running c.requires.ready.holds) (rw (← c.session.view_is) at c.requires.packet)
    (at_some (node_of c.args.self.now).memory _ m running c.in-Err.ensures.refused)) c.requires.ready.empty))

pub say-requires-clause-ready : goal.say-requires-clause-ready
say-requires-clause-ready g c =
    record {
      running =
          by_some (node_of c.args.self.now).memory _ c.requires.ready.running
          (λ m running. session_runs (node_of c.args.self.now) _ _ (at_some (node_of c.args.self.now).memory _ m running c.begin_session.ensures.state));
      holds = c.begin_session.ensures.holds;
    }

pub say-requires-clause-room : goal.say-requires-clause-room
say-requires-clause-room g c =
    let s : CoordinatorSession = record { server = c.session.inside.server; way = c.session.inside.way; since = c.session.inside.since } in
    by_some (node_of c.args.self.now).memory _ c.requires.ready.running (λ m running. opened_room_by m s.way s.server s.since
    (record { server = c.session-2.inside.server; way = c.session-2.inside.way; since = c.session-2.inside.since })
    (c.session.view_is ∙ sym c.session-2.view_is) (node_of c.args.self.now) _ c.args.message.now
    (at_some (node_of c.args.self.now).memory _ m running (rw (← c.session.view_is) at c.begin_session.ensures.state))
    (at_some (node_of c.args.self.now).memory _ m running c.in-Ok.ensures.room))

pub returns-in_default-clause-carries : goal.returns-in_default-clause-carries
returns-in_default-clause-carries g c =
    let s : CoordinatorSession = record { server = c.session.inside.server; way = c.session.inside.way; since = c.session.inside.since } in
    rw (← c.session.view_is) (if_some (node_of c.args.self.now).memory _
    (λ m running. challenged_by m s.way s.server s.since (record {
      server = c.session-2.inside.server;
      way = c.session-2.inside.way;
      since = c.session-2.inside.since;
    }) (c.session.view_is ∙ sym c.session-2.view_is) (node_of c.args.self.now) _ _ c.args.message.now c.args.out.now.tags (Err _) _
    (at_some (node_of c.args.self.now).memory _ m running c.requires.ready.holds) (rw (← c.session.view_is) at c.requires.packet)
    (λ i. (c.requires.ready.empty i).tags)
    (at_some (node_of c.args.self.now).memory _ m running c.in-Ok.ensures.room)
    (at_some (node_of c.args.self.now).memory _ m running (rw (← c.session.view_is) at c.begin_session.ensures.state)) c.in_default.ensures.carries))

pub returns-clause-carries : goal.returns-clause-carries
returns-clause-carries g c =
    let s : CoordinatorSession = record { server = c.session.inside.server; way = c.session.inside.way; since = c.session.inside.since } in
    rw (← c.session.view_is) (if_some (node_of c.args.self.now).memory _
    (λ m running. challenged_by m s.way s.server s.since (record {
      server = c.session-2.inside.server;
      way = c.session-2.inside.way;
      since = c.session-2.inside.since;
    }) (c.session.view_is ∙ sym c.session-2.view_is) (node_of c.args.self.now) _ _ c.args.message.now c.args.out.now.tags (Ok _) _
    (at_some (node_of c.args.self.now).memory _ m running c.requires.ready.holds) (rw (← c.session.view_is) at c.requires.packet)
    (λ i. (c.requires.ready.empty i).tags)
    (at_some (node_of c.args.self.now).memory _ m running c.in-Ok.ensures.room)
    (at_some (node_of c.args.self.now).memory _ m running (rw (← c.session.view_is) at c.begin_session.ensures.state)) c.in-Ok-say.ensures.carries))

pub say-requires-clause-quiet : goal.say-requires-clause-quiet
say-requires-clause-quiet g c = λ i. (c.requires.ready.empty i).frames
