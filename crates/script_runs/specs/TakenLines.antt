-- What a line of a script does to the world, and the run that a script makes.
use Rattle.std.specs.Prelude.{ℕ, ◌+◌, Bool, List, [], ◌∷◌, Option, None, Some, if◌then◌else◌, nat_lt, Ok, Err}
use Rattle.script_lines.specs.Lines.{Content, Text, Long, TooMuch, Line, lines}
use Rattle.line_events.specs.declared.event.Event.{Event}
use Rattle.line_events.specs.declared.event.StepFault.TheVariants as faults
use Rattle.line_events.specs.declared.event.TheConstants.{MAX_EVENTS}
use Rattle.node_rules.specs.Ciphers.{network}
use Rattle.line_rules.specs.Worlds.{World, start}
use Rattle.line_rules.specs.Steps.{Step}
use Rattle.line_rules.specs.Further.{line_step}
use Rattle.line_rules.specs.Runs.{Entry}
use Rattle.line_script.specs.declared.reading.Reading.{Reading}
use Rattle.line_script.specs.declared.reading.Reading.TheVariants.{Quiet, NoForm, Reads}
use Rattle.line_script.specs.declared.report.Reason.{Reason}
use Rattle.line_script.specs.declared.report.Reason.TheVariants as reasons
use Rattle.line_script.specs.LineReader.{reading}

-- What a line does: nothing, or it is an event that is taken, or it is bad.
pub data Taking : Type 0 where
  Skipped : Taking
  Taken : (entry : Entry) → Taking
  Refused : (reason : Reason) → Taking

-- an event's step; that memory runs out is no step of the definition
abbrev pub step_taking : World → Event → Step → Taking
step_taking w event (Ok r) = Taken (record { number = w.events + 1; event = event; trace = r.1; after = r.0 })
step_taking w event (Err faults.Setup) = Refused reasons.Setup
step_taking w event (Err faults.Node) = Refused reasons.Node
step_taking w event (Err faults.Flight) = Refused reasons.Flight
step_taking w event (Err faults.Memory) = Skipped

-- an event, whose step is that of the network
abbrev pub event_taking : World → Event → Taking
event_taking w event =
    if nat_lt w.events MAX_EVENTS then step_taking w event (line_step network w event) else Refused reasons.Events

abbrev pub reading_taking : World → Reading → Taking
reading_taking w Quiet = Skipped
reading_taking w NoForm = Refused reasons.Form
reading_taking w (Reads event) = event_taking w event

-- the reasons of a bad line, in their order
unfoldable pub taking : World → Content → Taking
taking w TooMuch = Refused reasons.Input
taking w Long = Refused reasons.Long
taking w (Text octets) = reading_taking w (reading octets)

-- # The run of a script

abbrev pub entries_by : World → Taking → (World → List Entry) → List Entry
entries_by w Skipped rest = rest w
entries_by w (Taken entry) rest = entry ∷ rest entry.after
entries_by w (Refused reason) rest = []

-- the entries of lines, up to the first bad one
abbrev pub entries_from : World → List Line → List Entry
entries_from w [] = []
entries_from w (line ∷ lines) = entries_by w (taking w line.content) (λ next. entries_from next lines)

-- the run of a script
abbrev pub entries : List ℕ → Bool → List Entry
entries octets ended = entries_from start (lines octets ended)

-- # The first bad line

-- a bad line, by its number, and why it is bad
pub record BadLine : Type 0 where
  pub number : ℕ
  pub reason : Reason

abbrev pub bad_by : World → ℕ → Taking → (World → Option BadLine) → Option BadLine
bad_by w number Skipped rest = rest w
bad_by w number (Taken entry) rest = rest entry.after
bad_by w number (Refused reason) rest = Some (record { number = number; reason = reason })

abbrev pub first_bad_from : World → List Line → Option BadLine
first_bad_from w [] = None
first_bad_from w (line ∷ lines) = bad_by w line.number (taking w line.content) (λ next. first_bad_from next lines)

-- the line at which the run of a script ends, where one is bad
abbrev pub first_bad : List ℕ → Bool → Option BadLine
first_bad octets ended = first_bad_from start (lines octets ended)
