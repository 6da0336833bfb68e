-- What holds of the stories of every record.
use Rattle.std.specs.Prelude.{◌≡◌, ℕ, ◌+◌, ◌==◌, Bool, true, false, List, [], ◌∷◌, ◌++◌, length, Option, None, Some, All, ◌⊎◌, is_some, if◌then◌else◌}
use Rattle.line_events.specs.declared.event.Answer.TheVariants as answers
use Rattle.line_record.specs.declared.act.Act.TheVariants as acts
use Rattle.line_record.specs.declared.ends.Ends.{Ends}
use Rattle.line_record.specs.declared.kind.StoryKind.TheVariants as kinds
use Rattle.line_record.specs.declared.story.Story.{Story}
use Rattle.line_record.specs.declared.recorded.RecordedEvent.{RecordedEvent}
use Rattle.line_record.specs.declared.recorded.RecordedFlight.{RecordedFlight}
use Rattle.line_record.specs.declared.verdict.Verdict.TheVariants as verdicts
use Rattle.line_record.specs.Kinds.{prepares, sends}
use Rattle.line_record.specs.RunRecords.{numbered}
use Rattle.line_record.specs.Verdicts.{verdict_of}
use Rattle.line_record.specs.Stories.{Stories, stories_of}

-- each event of a record is owned by one story
abbrev pub EventsAreOwned : Type 0
EventsAreOwned = (events : List RecordedEvent) (flights : List RecordedFlight) → length (stories_of events flights).owners ≡ length events

-- # Whether a datagram came

-- how many sends there are among some events
abbrev pub sends_in : List RecordedEvent → ℕ
sends_in [] = 0
sends_in (e ∷ es) = (if sends e.act e.answer then 1 else 0) + sends_in es

abbrev pub is_of : Option ℕ → ℕ → Bool
is_of None send = false
is_of (Some note) send = note == send

-- the number of the first of these events that hands up the datagram of a send; they are numbered from n
abbrev pub first_up : ℕ → ℕ → List RecordedEvent → Option ℕ
first_up send n [] = None
first_up send n (e ∷ es) = if is_of e.up send then Some n else first_up send (n + 1) es

-- an event that prepares a node for a joining hands nothing up
abbrev pub ReadiesOnly : RecordedEvent → Type 0
ReadiesOnly e = is_some (prepares e.act) ≡ true → e.up ≡ None

-- The story of a send, which is that of an event of this number, says of its datagram that it came at an event, or that it did not.
pub record IsDatagramStory (send event : ℕ) (up : Option ℕ) (e : RecordedEvent) (s : Stories) : Type 0 where
  pub number : ℕ
  pub story : Story
  pub sent : numbered s.sent send ≡ Some number
  pub recorded : numbered s.stories number ≡ Some story
  pub kind : story.kind ≡ kinds.Datagram
  pub first : story.first ≡ event
  -- the verdict is that it came at an event where that is the event which handed it up, and never where none did, whatever became of its flights
  pub came : (n : ℕ) → up ≡ Some n → (ends : Ends) → verdict_of story ends e ≡ verdicts.Reached n
  pub never : up ≡ None → (ends : Ends) (n : ℕ) → verdict_of story ends e ≡ verdicts.Reached n → ⊥

-- By the verdict of its story the datagram of a send came at the first event that hands it up, and not at all where none does.
abbrev pub DatagramsAreReached : Type 0
DatagramsAreReached = (before after : List RecordedEvent) (e : RecordedEvent) (flights : List RecordedFlight) (from to octets : ℕ) → All ReadiesOnly (e ∷ after)
    → e.act ≡ acts.Send from to octets → (e.answer ≡ answers.Sent) ⊎ (e.answer ≡ answers.Waiting)
    → IsDatagramStory (sends_in before + 1) (length before + 1) (first_up (sends_in before + 1) (length before + 1) (e ∷ after)) e
    (stories_of (before ++ (e ∷ after)) flights)
