-- What an event does to a check, from the step of the world.
use Rattle.std.proofs.Common.{◌≡◌, ℕ, ◌<◌, List, None, Some, ap, ◌∙◌, refl}
use Rattle.std.proofs.lemmas.Bool.{lt-ltb}
use Rattle.line_events.specs.declared.event.Event.{Event}
use Rattle.line_events.specs.declared.happenings.Happenings.{Happenings}
use Rattle.line_events.specs.declared.event.TheConstants.{MAX_EVENTS}
use Rattle.node_rules.specs.Ciphers.{network}
use Rattle.line_rules.specs.Worlds.{World}
use Rattle.line_rules.specs.Further.{line_step}
use Rattle.line_world.specs.Steps.{Takes}
use Rattle.line_script.specs.declared.report.Reason.{Reason}
use Rattle.line_record.specs.declared.recorded.RecordedEvent.{RecordedEvent}
use Rattle.line_record.specs.RunRecords.{recorded_event}
use Rattle.script_runs.specs.TakenLines.{event_taking}
use Rattle.line_view.specs.CheckRuns.{CheckRun, kept, in_world}
use Rattle.line_view.specs.Checked.{Stepped}

-- an event was taken and kept
pub stepped : (c0 c1 : CheckRun) (number : ℕ) (line : List ℕ) (e : Event) (next : World) (h : Happenings) (t : RecordedEvent) → c0.world.events < MAX_EVENTS
    → Takes h next (line_step network c0.world e) → t ≡ recorded_event number e h next.clock 0 → c1 ≡ kept number line e t (in_world next c0)
    → Stepped c0 c1 number line (event_taking c0.world e) None
stepped c0 c1 number line e next h t room is recorded keeps =
    rw (lt-ltb c0.world.events MAX_EVENTS room, is.taken) (
      refl,
      keeps ∙ ap (λ (x : RecordedEvent). kept number line e x (in_world next c0))
          (recorded ∙ ap (λ (x : Happenings). recorded_event number e x next.clock 0) is.reported),
    )

no_reason : (why : Reason) → None ≡ Some why → ⊥
no_reason why is = cc

same_reason : (reason why : Reason) → Some reason ≡ Some why → reason ≡ why
same_reason reason why is = cc

some_reason : (reason : Reason) → Some reason ≡ None → ⊥
some_reason reason is = cc
