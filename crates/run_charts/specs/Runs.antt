-- The run that charts are drawn of. Events and flights stand by their numbers from 1, nodes from 0.
use Rattle.std.specs.Prelude.{ℕ, Bool, true, false, List, [], Option, None, Some, if◌then◌else◌, length, nat_eq}
use Rattle.line_record.specs.declared.recorded.RecordedEvent.{RecordedEvent}
use Rattle.line_record.specs.declared.recorded.RecordedFlight.{RecordedFlight}
use Rattle.line_record.specs.declared.course.Course.{Course}
use Rattle.line_record.specs.declared.course.Fate.{Fate}
use Rattle.line_record.specs.declared.course.Fate.TheVariants as fates
use Rattle.line_record.specs.RunRecords.{numbered}
use Rattle.line_record.specs.Pasts.{NodePast}

pub record Run : Type 0 where
  pub events : List RecordedEvent
  pub flights : List RecordedFlight
  -- what became of each flight
  pub courses : List Course
  -- the sentence of each event; what came to a node that it is not for has no words
  pub sentences : List (List ℕ)
  -- what the script says before each event
  pub notes : List (List ℕ)
  -- what is known of each node
  pub pasts : List NodePast

-- # Texts

abbrev pub words_or_none : Option (List ℕ) → List ℕ
words_or_none None = []
words_or_none (Some words) = words

-- the text of an event, no words where there is none
abbrev pub text_at : List (List ℕ) → ℕ → List ℕ
text_at texts event = words_or_none (numbered texts event)

unfoldable pub why : Run → ℕ → List ℕ
why r event = text_at r.sentences event

unfoldable pub note : Run → ℕ → List ℕ
note r event = text_at r.notes event

-- whether there are no words
abbrev pub is_silent : List ℕ → Bool
is_silent words = nat_eq (length words) 0

-- whether a frame came to a node that it is not for
unfoldable pub is_hushed : Run → ℕ → Bool
is_hushed r event = is_silent (why r event)

-- # Flights

abbrev pub is_missed : Fate → Bool
is_missed fates.Missed = true
is_missed (fates.Lost event) = true
is_missed _ = false

abbrev pub missed_by : Option Course → Option ℕ
missed_by None = None
missed_by (Some course) = if is_missed course.fate then course.to else None

-- the node that a flight is for, if it never came there
unfoldable pub missed_at : Run → ℕ → Option ℕ
missed_at r flight = missed_by (numbered r.courses flight)
