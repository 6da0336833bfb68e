-- The entries of a script are a run.
use Rattle.std.proofs.Common.{◌≡◌, ℕ, ◌+◌, ◌<◌, Bool, true, false, List, [], ◌∷◌, nat_lt, if◌then◌else◌, Ok, Err, refl}
use Rattle.std.proofs.lemmas.Bool.{ltb-true}
use Rattle.std.proofs.lemmas.List.Elements.{All-nil, All-cons}
use Rattle.script_lines.specs.Lines.{Content, Text, Long, TooMuch, Line, lines}
use Rattle.line_events.specs.declared.event.Event.{Event}
use Rattle.line_events.specs.declared.event.StepFault.TheVariants as faults
use Rattle.line_events.specs.declared.event.TheConstants.{MAX_EVENTS}
use Rattle.line_events.specs.Events.{IsEvent, AreEvents}
use Rattle.node_rules.specs.Ciphers.{network}
use Rattle.line_rules.specs.Worlds.{World, start}
use Rattle.line_rules.specs.Steps.{Step}
use Rattle.line_rules.specs.Further.{line_step}
use Rattle.line_rules.specs.Runs.{Entry, IsRun, events_of, IsLineRun}
use Rattle.line_script.specs.declared.reading.Reading.{Reading}
use Rattle.line_script.specs.declared.reading.Reading.TheVariants.{Quiet, NoForm, Reads}
use Rattle.line_script.specs.declared.report.Reason.TheVariants as reasons
use Rattle.line_script.specs.Lines.{IsInRange}
use Rattle.line_script.specs.LineReader.{reading}
use Rattle.line_script.proofs.Ranges.{reading_fits}
use Rattle.script_runs.specs.TakenLines.{Taking, Skipped, Taken, Refused, step_taking, reading_taking, taking, entries_by, entries_from, entries}

-- what a taking says of the run that goes on
abbrev GoesOn : World → Taking → Type 0
GoesOn w Skipped = Unit {0}
GoesOn w (Taken x) = IsEvent x.event × (w.events < MAX_EVENTS) × (x.number ≡ w.events + 1) × (line_step network w x.event ≡ Ok (x.after, x.trace))
GoesOn w (Refused reason) = Unit {0}

step_goes : (w : World) (event : Event) (r : Step) → IsEvent event → w.events < MAX_EVENTS → line_step network w event ≡ r → GoesOn w (step_taking w event r)
step_goes w event (Ok q) said room is = (said, room, refl, is)
step_goes w event (Err faults.Memory) said room is = tt
step_goes w event (Err faults.Setup) said room is = tt
step_goes w event (Err faults.Node) said room is = tt
step_goes w event (Err faults.Flight) said room is = tt

room_goes : (w : World) (event : Event) (b : Bool) → IsEvent event → nat_lt w.events MAX_EVENTS ≡ b
    → GoesOn w (if b then step_taking w event (line_step network w event) else Refused reasons.Events)
room_goes w event true said room = step_goes w event (line_step network w event) said (ltb-true w.events MAX_EVENTS room) refl
room_goes w event false said room = tt

-- what is read is an event that a line can say
reading_goes : (w : World) (r : Reading) → IsInRange r → GoesOn w (reading_taking w r)
reading_goes w Quiet said = tt
reading_goes w NoForm said = tt
reading_goes w (Reads event) said = room_goes w event (nat_lt w.events MAX_EVENTS) said refl

taking_goes : (w : World) (content : Content) → GoesOn w (taking w content)
unfolding taking
taking_goes w TooMuch = tt
taking_goes w Long = tt
taking_goes w (Text octets) = reading_goes w (reading octets) (reading_fits octets)

run_by : (w : World) (t : Taking) (rest : World → List Entry) → GoesOn w t → ((next : World) → IsRun network next (rest next))
    → IsRun network w (entries_by w t rest)
run_by w Skipped rest on all = all w
run_by w (Taken x) rest on all = (on.1, on.2, on.3, all x.after)
run_by w (Refused reason) rest on all = tt

run_from : (ls : List Line) (w : World) → IsRun network w (entries_from w ls)
run_from [] w = tt
run_from (line ∷ ls) w = run_by w (taking w line.content) (λ next. entries_from next ls) (taking_goes w line.content) (run_from ls)

events_by : (w : World) (t : Taking) (rest : World → List Entry) → GoesOn w t → ((next : World) → AreEvents (events_of (rest next)))
    → AreEvents (events_of (entries_by w t rest))
events_by w Skipped rest on all = all w
events_by w (Taken x) rest on all = All-cons IsEvent x.event (events_of (rest x.after)) on.0 (all x.after)
events_by w (Refused reason) rest on all = All-nil IsEvent

events_from : (ls : List Line) (w : World) → AreEvents (events_of (entries_from w ls))
events_from [] w = All-nil IsEvent
events_from (line ∷ ls) w = events_by w (taking w line.content) (λ next. entries_from next ls) (taking_goes w line.content) (events_from ls)

-- the entries of a script are a run of the line
pub entries_run : (octets : List ℕ) (ended : Bool) → IsLineRun network (entries octets ended)
entries_run octets ended = record { events = events_from (lines octets ended) start; run = run_from (lines octets ended) start }
