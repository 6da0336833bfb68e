use Rattle.plc_station.proofs.CarriedPlans.{if_some, at_some}
use Rattle.coordinator.specs.CoordinatorStates.{node_of, identity_of}
use Rattle.coordinator.proofs.StoredChanges.{carried_by}
use Rattle.coordinator.proofs.RequestRules.{let_in, kept_out}
use Rattle.coordinator.proofs.coordinator.Coordinator.asked.Goals as goal

pub returns-then-not-is_allowed-clause-carries : goal.returns-then-not-is_allowed-clause-carries
returns-then-not-is_allowed-clause-carries g c =
    if_some (node_of c.args.self.now).memory _ (λ m running. carried_by _ _ _ _ _ _
    (kept_out (identity_of c.args.self.now) m c.args.way.now c.args.eui c.args.now
    (at_some (node_of c.args.self.now).memory _ m running c.if-not-is_allowed.ensures))
    (at_some (node_of c.args.self.now).memory _ m running c.decline.ensures.carries))

pub returns-clause-carries : goal.returns-clause-carries
returns-clause-carries g c =
    if_some (node_of c.args.self.now).memory _ (λ m running. carried_by _ _ _ _ _ _
    (let_in (identity_of c.args.self.now) m c.args.way.now c.args.eui c.args.now
    (at_some (node_of c.args.self.now).memory _ m running c.if-not-is_allowed.ensures))
    (at_some (node_of c.args.self.now).memory _ m running c.open_session.ensures.carries))
