use Rattle.plc_station.proofs.CarriedPlans.{if_some, at_some}
use Rattle.coordinator.specs.CoordinatorStates.{node_of}
use Rattle.coordinator.proofs.Kicks.{silent_done, silent_stopped}
use Rattle.coordinator.proofs.coordinator.Coordinator.kick_silently.Goals as goal

pub returns-in_default-clause-carries : goal.returns-in_default-clause-carries
returns-in_default-clause-carries g c =
    if_some (node_of c.args.self.now).memory _ (λ m running. silent_stopped (node_of c.args.self.now) m c.args.entry.now _
    (at_some (node_of c.args.self.now).memory _ m running c.in_default.ensures.does))

pub returns-clause-carries : goal.returns-clause-carries
returns-clause-carries g c =
    if_some (node_of c.args.self.now).memory _ (λ m running. silent_done (node_of c.args.self.now) m c.args.entry.now _
    (at_some (node_of c.args.self.now).memory _ m running c.requires.ready.holds) (at_some (node_of c.args.self.now).memory _ m running c.in-Ok.ensures.does))
