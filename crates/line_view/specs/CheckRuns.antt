-- What `check` makes of a script, line by line, and what it writes.
use Rattle.std.specs.Prelude.{ℕ, ◌+◌, ◌-◌, ◌==◌, ◌∷◌, ◌++◌, [], Bool, true, false, List, Option, None, Some, codes, length, take, min, if◌then◌else◌}
use Rattle.std.specs.Prelude.{nat_lt, unwrap_or}
use Rattle.std.specs.Option.{option_map}
use Rattle.line_events.specs.declared.event.Event.{Event}
use Rattle.line_events.specs.declared.event.Event.TheVariants as events
use Rattle.line_rules.specs.Worlds.{World, start, flight_at}
use Rattle.line_rules.specs.Runs.{Entry}
use Rattle.line_script.specs.declared.reading.Reading.{Reading}
use Rattle.line_script.specs.declared.reading.Reading.TheVariants.{Quiet, NoForm, Reads}
use Rattle.line_script.specs.declared.report.Reason.{Reason}
use Rattle.line_script.specs.declared.report.Reason.TheVariants as reasons
use Rattle.line_script.specs.LineReader.{reading}
use Rattle.line_script.specs.Texts.{reason_word}
use Rattle.line_record.specs.declared.recorded.RecordedEvent.{RecordedEvent}
use Rattle.line_record.specs.Acts.{act_of}
use Rattle.line_record.specs.Kinds.{is_setup}
use Rattle.line_record.specs.RunRecords.{recorded_event}
use Rattle.sentence_parts.specs.declared.part.Part.TheVariants.{Words, Number, Count}
use Rattle.sentence_parts.specs.Parts.{parts_text}
use Rattle.script_faults.specs.Findings.{FindingParts, finding_at, noted}
use Rattle.script_faults.specs.Texts.{finding_text, unseen_text, object_text}
use Rattle.script_faults.specs.LineFindings.{line_finding}
use Rattle.script_faults.specs.declared.run.Made.{Made}
use Rattle.script_faults.specs.Runs.{Other}
use Rattle.script_faults.specs.EventFindings.{Bad, event_finding}
use Rattle.script_lines.specs.Lines.{Content, Text, Long, TooMuch}
use Rattle.script_lines.specs.Clauses.{IsStop}
use Rattle.script_lines.specs.Outcomes.{Turn, Takes, Stops, Outcome, outcome as outcome_of}
use Rattle.script_runs.specs.TakenLines.{Taking, Skipped, Taken, Refused, event_taking}

-- Where a check stands: whether it writes JSON, the world up to the first bad line, the nodes that were made and the events that were taken,
-- with their lines, the first event that is not part of the setup, the lines so far, how many of them are bad, and the first of these.
pub record CheckRun : Type 0 where
  pub json : Bool
  pub world : World
  pub made : List Made
  pub events : List RecordedEvent
  pub other : Other
  pub rows : ℕ
  pub bad : ℕ
  pub first : ℕ
  pub reason : Reason

-- before the first line
abbrev pub checking : Bool → CheckRun
checking json =
    record {
      json = json;
      world = start;
      made = [];
      events = [];
      other = record { row = 0; text = [] };
      rows = 0;
      bad = 0;
      first = 0;
      reason = reasons.Form;
    }

-- # What is seen of a line

-- What a line is: nothing to be written of, an event that is taken, or bad.
pub data Look : Type 0 where
  Nothing : Look
  Keeps : (entry : Entry) → Look
  Tells : (reason : Reason) → (finding : FindingParts) → Look

-- the node that sent the last flight
abbrev pub last_sender : World → ℕ
last_sender w = unwrap_or (option_map (λ f. f.from) (flight_at w (length w.flights))) 0

-- a line with an event that is not taken, and what helps to say why
abbrev pub bad_event : CheckRun → List ℕ → Event → Bad
bad_event c line event =
    record {
      line = line;
      event = event;
      made = c.made;
      events = c.events;
      flights = length c.world.flights;
      sender = last_sender c.world;
      other = c.other;
    }

abbrev pub event_look : CheckRun → List ℕ → Event → Taking → Look
event_look c line event Skipped = Nothing
event_look c line event (Taken entry) = Keeps entry
event_look c line event (Refused reason) = Tells reason (event_finding reason (bad_event c line event))

abbrev pub form_by : Option FindingParts → Look
form_by None = Nothing
form_by (Some t) = Tells reasons.Form t

-- a line by its words alone
abbrev pub form_look : List ℕ → Look
form_look line = form_by (line_finding line)

abbrev pub reading_look : CheckRun → List ℕ → Reading → Look
reading_look c line Quiet = Nothing
reading_look c line NoForm = form_look line
reading_look c line (Reads event) = event_look c line event (event_taking c.world event)

-- a line: behind a bad one no node and no flight is known, so only its words are looked at
abbrev pub text_look : CheckRun → List ℕ → Look
text_look c line = if nat_lt 0 c.bad then form_look line else reading_look c line (reading line)

unfoldable pub long_finding : FindingParts
long_finding =
    noted
    (parts_text (Words (codes "a datagram has at most 1,280 octets, 2,560 digits") ∷ []))
    (finding_at 4096 4097
    (parts_text (Words (codes "the line has more than 4,096 octets") ∷ []))
    (parts_text (Words (codes "from here on") ∷ [])))

unfoldable pub input_finding : FindingParts
input_finding =
    noted
    (parts_text (Words (codes "cut the script in two") ∷ []))
    (finding_at 0 1
    (parts_text (Words (codes "the script has more than 67,108,864 octets") ∷ []))
    (parts_text (Words (codes "octet 67,108,865 stands in this line") ∷ [])))

-- # What comes of it

-- a node that an event makes
abbrev pub made_after : Event → ℕ → List Made → List Made
made_after (events.Coordinator eui key) number made = made ++ (record { eui = eui; row = number }) ∷ []
made_after (events.Meter eui psk) number made = made ++ (record { eui = eui; row = number }) ∷ []
made_after _ number made = made

-- the first event that is not part of the setup, where this line has one
abbrev pub other_after : Event → ℕ → List ℕ → Other → Other
other_after event number line other =
    if nat_lt 0 other.row then other
    else (if is_setup (act_of event) then other else record { row = number; text = take (min (length line) 60) line })

-- the line is seen
abbrev pub seen : ℕ → CheckRun → CheckRun
seen number c = record c { rows = number }

-- its event is kept
abbrev pub kept : ℕ → List ℕ → Event → RecordedEvent → CheckRun → CheckRun
kept number line event recorded c =
    record c {
      made = made_after event number c.made;
      events = c.events ++ recorded ∷ [];
      other = other_after event number line c.other;
      rows = number;
    }

abbrev pub in_world : World → CheckRun → CheckRun
in_world w c = record c { world = w }

-- its event is taken
abbrev pub taken_after : ℕ → List ℕ → Entry → CheckRun → CheckRun
taken_after number line entry c =
    kept number line entry.event (recorded_event number entry.event entry.trace.happenings entry.after.clock 0) (in_world entry.after c)

-- one more bad line; there are fewer lines than this bound
abbrev pub counted : ℕ → ℕ
counted bad = min (bad + 1) 4294967295

-- it is bad
abbrev pub bad_after : ℕ → Reason → CheckRun → CheckRun
bad_after number reason c =
    record c {
      rows = number;
      bad = counted c.bad;
      first = if nat_lt 0 c.bad then c.first else number;
      reason = if nat_lt 0 c.bad then c.reason else reason;
    }

abbrev pub after : ℕ → List ℕ → Look → CheckRun → CheckRun
after number line Nothing c = seen number c
after number line (Keeps entry) c = taken_after number line entry c
after number line (Tells reason t) c = bad_after number reason c

-- # What is written of it

-- whether the octets of a line that is bad for this reason are not kept
abbrev pub has_no_octets : Reason → Bool
has_no_octets reasons.Long = true
has_no_octets reasons.Input = true
has_no_octets _ = false

-- for people
abbrev pub people_text : Reason → ℕ → List ℕ → FindingParts → List ℕ
people_text reason number line t =
    if has_no_octets reason then unseen_text (reason_word reason) number t else finding_text (reason_word reason) number line t

-- the bad line after this many others: an object of JSON, or for people, who see the first twenty
unfoldable pub bad_text : Bool → ℕ → ℕ → List ℕ → Reason → FindingParts → List ℕ
bad_text json before number line reason t =
    if json then object_text (reason_word reason) number t
    else (if nat_lt before 20 then people_text reason number line t else [])

abbrev pub look_text : ℕ → List ℕ → Look → CheckRun → List ℕ
look_text number line Nothing c = []
look_text number line (Keeps entry) c = []
look_text number line (Tells reason t) c = bad_text c.json c.bad number line reason t

-- the count of bad lines after the first
unfoldable pub more_text : ℕ → List ℕ
more_text more =
    if nat_lt 0 more
    then parts_text
    (Words (codes "; ") ∷ Number more ∷ Words (if more == 1 then codes " more line has no reading" else codes " more lines have no reading") ∷ [])
    else []

unfoldable pub shown_text : ℕ → List ℕ
shown_text bad = if nat_lt 20 bad then codes "(the first 20 are shown)\n" else []

unfoldable pub first_text : ℕ → Reason → List ℕ
first_text first reason =
    parts_text
    (Words (codes "script: line ") ∷ Number first ∷ Words (codes " ends the run with reason `") ∷ Words (reason_word reason) ∷ Words (codes "`") ∷ [])

-- the first bad line, and how many follow
unfoldable pub bad_end : CheckRun → List ℕ
bad_end c = first_text c.first c.reason ++ (more_text (c.bad - 1) ++ (codes "\n" ++ shown_text c.bad))

-- there is none
unfoldable pub fine_end : CheckRun → List ℕ
fine_end c =
    parts_text
    (Words (codes "script: ") ∷ Count c.rows (codes "line") ∷ Words (codes ", ") ∷ Count (length c.events) (codes "event")
    ∷ Words (codes ", no bad line\n") ∷ [])

-- the last lines
abbrev pub end_of : CheckRun → List ℕ
end_of c = if c.json then [] else (if nat_lt 0 c.bad then bad_end c else fine_end c)

-- # A line's turn

abbrev pub turn_by : ℕ → List ℕ → Look → CheckRun → Turn CheckRun
turn_by number line look c = Takes (after number line look c) (look_text number line look c)

-- the octet that is too much is named, and the last lines follow
abbrev pub stop_by : ℕ → Look → CheckRun → Turn CheckRun
stop_by number look c = Stops (look_text number [] look c ++ end_of (after number [] look c))

abbrev pub turn_of : CheckRun → ℕ → Content → Turn CheckRun
turn_of c number (Text line) = turn_by number line (text_look c line) c
turn_of c number Long = turn_by number [] (Tells reasons.Long long_finding) c
turn_of c number TooMuch = stop_by number (Tells reasons.Input input_finding) c

pub stops_at_too_much : (c : CheckRun) (number : ℕ) → IsStop (turn_of c number TooMuch)
stops_at_too_much c number = tt

-- what a script does, where its input has ended or not
abbrev pub outcome : Bool → List ℕ → Bool → Outcome CheckRun
outcome json octets ended = outcome_of turn_of end_of (checking json) octets ended

-- whether a line is bad
abbrev pub is_bad : CheckRun → Bool
is_bad c = nat_lt 0 c.bad
