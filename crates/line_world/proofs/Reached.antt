-- A world that has a history has one after an event, which is one entry longer where the event was taken.
use Rattle.std.proofs.Common.{◌<◌, ◌∷◌, [], ◌++◌, ◌+◌, Result, Ok, Err, sym, subst}
use Rattle.node_rules.specs.Ciphers.{network}
use Rattle.line_events.specs.declared.event.Event.{Event}
use Rattle.line_events.specs.declared.event.TheConstants.{MAX_EVENTS}
use Rattle.line_events.specs.declared.event.StepFault.{StepFault}
use Rattle.line_events.specs.declared.event.StepFault.TheVariants as faults
use Rattle.line_events.specs.declared.happenings.Happenings.{Happenings}
use Rattle.line_events.specs.Events.{IsEvent}
use Rattle.line_rules.specs.Worlds.{World}
use Rattle.line_rules.specs.Further.{line_step}
use Rattle.line_rules.specs.Runs.{IsReached}
use Rattle.line_rules.proofs.Histories.{goes_on}
use Rattle.line_world.specs.Steps.{Gives}

pub still_reached : (w v : World) (event : Event) (result : Result Happenings StepFault) → IsReached w → w.events < MAX_EVENTS → IsEvent event
    → Gives w result v (line_step network w event) → IsReached v
still_reached w v event (Ok h) r few is gives = record {
  entries = r.entries ++ record { number = w.events + 1; event = event; trace = gives.trace; after = v } ∷ [];
  history = goes_on r.entries w v event gives.trace r.history few is gives.taken;
}
still_reached w v event (Err faults.Memory) r few is gives = subst IsReached (sym gives.1) r
still_reached w v event (Err faults.Setup) r few is gives = subst IsReached (sym gives.1) r
still_reached w v event (Err faults.Node) r few is gives = subst IsReached (sym gives.1) r
still_reached w v event (Err faults.Flight) r few is gives = subst IsReached (sym gives.1) r
