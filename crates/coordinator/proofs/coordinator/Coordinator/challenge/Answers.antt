use Rattle.node_rules.specs.declared.refusal.CoordinatorRefusal.TheVariants.{NotAllowed, SessionsFull, NoRandom}
use Rattle.node_rules.specs.Coordinators.{orders}
use Rattle.plc_station.proofs.CarriedPlans.{if_some, at_some}
use Rattle.coordinator.specs.CoordinatorStates.{node_of}
use Rattle.coordinator.proofs.StoredChanges.{refusal, carried_by}
use Rattle.coordinator.proofs.Challenges.{not_allowed, full, no_random, challenges}
use Rattle.coordinator.proofs.coordinator.Coordinator.challenge.Goals as goal

pub returns-in_default-clause-carries : goal.returns-in_default-clause-carries
returns-in_default-clause-carries g c =
    if_some (node_of c.args.self.now).memory _ (λ m running. refusal orders (node_of c.args.self.now) m NotAllowed _ _ running
    (not_allowed c.args.self.now.station.eui m c.args.eui c.args.now (at_some (node_of c.args.self.now).memory _ m running c.in_default.ensures))
    c.clear.ensures)

pub returns-then-sessions_full-clause-carries : goal.returns-then-sessions_full-clause-carries
returns-then-sessions_full-clause-carries g c =
    if_some (node_of c.args.self.now).memory _ (λ m running. refusal orders (node_of c.args.self.now) m SessionsFull _ _ running
    (full c.args.self.now.station.eui m c.args.eui c.args.now _ (at_some (node_of c.args.self.now).memory _ m running c.in-Some.ensures)
    (at_some (node_of c.args.self.now).memory _ m running c.if-sessions_full.ensures)) c.clear.ensures)

pub returns-in_default-oldest-clause-carries : goal.returns-in_default-oldest-clause-carries
returns-in_default-oldest-clause-carries g c =
    if_some (node_of c.args.self.now).memory _ (λ m running. refusal orders (node_of c.args.self.now) m NoRandom _ _ running
    (no_random c.args.self.now.station.eui m c.args.eui c.args.now _ (at_some (node_of c.args.self.now).memory _ m running c.in-Some.ensures)
    (at_some (node_of c.args.self.now).memory _ m running c.if-sessions_full.ensures)
    (at_some (node_of c.args.self.now).memory _ m running c.in_default-oldest.ensures)) c.clear.ensures)

pub returns-clause-carries : goal.returns-clause-carries
returns-clause-carries g c =
    if_some (node_of c.args.self.now).memory _ (λ m running. carried_by _ _ _ _ _ _
    (challenges c.args.self.now.station.eui m c.args.eui c.args.now _ _ (at_some (node_of c.args.self.now).memory _ m running c.in-Some.ensures)
    (at_some (node_of c.args.self.now).memory _ m running c.if-sessions_full.ensures)
    (at_some (node_of c.args.self.now).memory _ m running c.in-Some-oldest.ensures))
    (at_some (node_of c.args.self.now).memory _ m running c.challenge_by.ensures.carries))
