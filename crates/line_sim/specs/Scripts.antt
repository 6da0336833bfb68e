-- The script of a run, and the world to which it leads.
use Rattle.std.specs.Prelude.{◌≡◌, ℕ, Bool, true, false, List, [], ◌∷◌, ◌++◌, map, All, Option, None, Some}
use Rattle.script_lines.specs.Lines.{Content, Text, Long, TooMuch, Line, lines}
use Rattle.line_events.specs.declared.event.Event.{Event}
use Rattle.line_events.specs.declared.event.Event.TheVariants as events
use Rattle.line_rules.specs.Worlds.{World, start}
use Rattle.line_rules.specs.Runs.{one_of}
use Rattle.line_script.specs.declared.reading.Reading.{Reading}
use Rattle.line_script.specs.declared.reading.Reading.TheVariants.{Quiet, NoForm, Reads}
use Rattle.line_script.specs.LineReader.{reading}
use Rattle.script_runs.specs.TakenLines.{Taking, Skipped, Taken, Refused, taking}

-- # Where a script leads

-- the world after a line, and after the lines behind it; None where the line is bad
abbrev pub world_by : World → Taking → (World → Option World) → Option World
world_by w Skipped rest = rest w
world_by w (Taken entry) rest = rest entry.after
world_by w (Refused reason) rest = None

-- the world after lines; None where one of them is bad
abbrev pub world_after : World → List Content → Option World
world_after w [] = Some w
world_after w (content ∷ contents) = world_by w (taking w content) (λ next. world_after next contents)

-- what the lines of a text hold, at the end of input
abbrev pub contents_of : List ℕ → List Content
contents_of text = map (λ (l : Line). l.content) (lines text true)

-- the text is a script without a bad line, whose run ends in this world
abbrev pub LeadsTo : List ℕ → World → Type 0
LeadsTo text w = world_after start (contents_of text) ≡ Some w

-- # What lines say

abbrev pub read_event : Reading → Option Event
read_event Quiet = None
read_event NoForm = None
read_event (Reads event) = Some event

-- the event of a line, if it has one
abbrev pub event_in : Content → Option Event
event_in (Text octets) = read_event (reading octets)
event_in Long = None
event_in TooMuch = None

abbrev pub said_by : {A : Type 0} → World → Taking → (World → List A) → List A
said_by w Skipped rest = rest w
said_by w (Taken entry) rest = rest entry.after
said_by w (Refused reason) rest = []

-- what lines say one after the other, each in the world to which those before it lead
abbrev pub said : {A : Type 0} → (World → Content → Option A) → World → List Content → List A
said one w [] = []
said one w (content ∷ contents) = one_of (one w content) ++ said_by w (taking w content) (λ next. said one next contents)

-- # Octets that nobody sent

abbrev pub is_injection : Event → Bool
is_injection (events.Inject node cost octets) = true
is_injection _ = false

abbrev pub is_injection_if : Option Event → Bool
is_injection_if None = false
is_injection_if (Some event) = is_injection event

-- whether a line injects octets
abbrev pub injects : Content → Bool
injects content = is_injection_if (event_in content)

-- no line of the text injects octets
abbrev pub InjectsNothing : List ℕ → Type 0
InjectsNothing text = All (λ content. injects content ≡ false) (contents_of text)
