use Rattle.plc_station.proofs.CarriedPlans.{if_some, at_some}
use Rattle.coordinator.specs.CoordinatorStates.{node_of, identity_of}
use Rattle.node_rules.specs.HearingRules.{dropped}
use Rattle.coordinator.proofs.StoredChanges.{refusal, carried_by}
use Rattle.node_rules.specs.declared.refusal.Dropped.TheVariants.{SessionsFull, NoRandom}
use Rattle.coordinator.proofs.RequestRules.{full, no_random, opens}
use Rattle.coordinator.proofs.coordinator.Coordinator.open_session.Goals as goal

pub returns-then-sessions_full-clause-carries : goal.returns-then-sessions_full-clause-carries
returns-then-sessions_full-clause-carries g c =
    if_some (node_of c.args.self.now).memory _ (λ m running. refusal dropped (node_of c.args.self.now) m SessionsFull _ _ running
    (full (identity_of c.args.self.now) m c.args.way.now c.args.eui c.args.now
    (at_some (node_of c.args.self.now).memory _ m running c.if-sessions_full.ensures)) c.requires.ready.empty)

pub returns-in_default-clause-carries : goal.returns-in_default-clause-carries
returns-in_default-clause-carries g c =
    if_some (node_of c.args.self.now).memory _ (λ m running. refusal dropped (node_of c.args.self.now) m NoRandom _ _ running
    (no_random (identity_of c.args.self.now) m c.args.way.now c.args.eui c.args.now
    (at_some (node_of c.args.self.now).memory _ m running c.if-sessions_full.ensures)
    (at_some (node_of c.args.self.now).memory _ m running c.in_default.ensures)) c.requires.ready.empty)

pub returns-clause-carries : goal.returns-clause-carries
returns-clause-carries g c =
    if_some (node_of c.args.self.now).memory _ (λ m running. carried_by _ _ _ _ _ _
    (opens (identity_of c.args.self.now) m c.args.way.now c.args.eui c.args.now _
    (at_some (node_of c.args.self.now).memory _ m running c.if-sessions_full.ensures) (at_some (node_of c.args.self.now).memory _ m running c.in-Some.ensures))
    (at_some (node_of c.args.self.now).memory _ m running c.challenge_back.ensures.carries))
