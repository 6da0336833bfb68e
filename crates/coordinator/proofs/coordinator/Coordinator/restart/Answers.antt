-- A coordinator whose store has no reading is halted.
use Rattle.std.proofs.Common.{ap}
use Rattle.node_rules.specs.Memory.{StationMemory}
use Rattle.node_rules.specs.States.{State}
use Rattle.coordinator.proofs.Restarts.{unread_holds}
use Rattle.coordinator.proofs.coordinator.Coordinator.restart.Goals as goal

pub returns-in_err-restart-clause-holds : goal.returns-in_err-restart-clause-holds
returns-in_err-restart-clause-holds g c _ =
    unread_holds c.self.inside.station.store.records _ c.restart.new.self.memory _ _ c.in_err-restart.ensures.answer
    (ap (λ (s : State StationMemory). s.memory) c.restart.ensures.state)
