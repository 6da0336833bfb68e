-- What `explain` and `page` say is true of the run: of the entries of its history.
use Rattle.std.specs.Prelude.{◌≡◌, ℕ, ◌+◌, List, [], ◌∷◌, ◌++◌, length, map, Option, None, Some, ◌⊎◌, if◌then◌else◌}
use Rattle.line_events.specs.declared.event.Answer.TheVariants as answers
use Rattle.line_events.specs.declared.event.Event.TheVariants as events
use Rattle.node_rules.specs.Ciphers.{network}
use Rattle.line_rules.specs.Runs.{Entry, IsRun}
use Rattle.line_rules.specs.Worlds.{start}
use Rattle.line_record.specs.Laws.{IsDatagramStory, is_of}
use Rattle.line_record.specs.Stories.{stories_of}
use Rattle.line_record.specs.Acts.{act_of}
use Rattle.line_record.specs.Kinds.{actor_of, sends}
use Rattle.line_record.specs.RunRecords.{note_of}
use Rattle.event_sentences.specs.declared.claim.Deed.{Deed}
use Rattle.event_sentences.specs.declared.heard.Heard.{Heard}
use Rattle.event_sentences.specs.Claims.{deed_text}
use Rattle.event_sentences.specs.Truth.{IsTrueOf, answer_of}
use Rattle.line_view.specs.Recordings.{Recording, no_recording, recording_after, event_of_entry}
use Rattle.line_view.specs.Sentences.{Sentences, heard_by, learned, with_sentence}

-- the frame that came at an entry in a line of this number, which is the next one after a recording with these sentences
abbrev pub frame_at : ℕ → Entry → Recording → Sentences → Option Heard
frame_at row x r s = heard_by x.event (recording_after row x r) (learned x.event (event_of_entry row x r) s)

-- where an entry handed up a datagram, its sentence is that of a claim which is true of the entry
abbrev pub UpsAreWorded : Type 0
UpsAreWorded = (row : ℕ) (x : Entry) (r : Recording) (s : Sentences) (heard : Heard) → answer_of x ≡ answers.Up → frame_at row x r s ≡ Some heard
    → (deed : Deed) × IsTrueOf x deed
    × ((with_sentence x.event (recording_after row x r) s).sentences ≡ s.sentences ++ (deed_text (actor_of (act_of x.event)) deed ∷ []))

-- # Whether a datagram came

-- a recording with all entries of a run, each in a line of this number
abbrev pub recorded_all : List (ℕ × Entry) → Recording → Recording
recorded_all [] r = r
recorded_all (x ∷ xs) r = recorded_all xs (recording_after x.0 x.1 r)

abbrev pub entries_in : List (ℕ × Entry) → List Entry
entries_in lines = map (λ (x : ℕ × Entry). x.1) lines

-- how many sends there are among some events
abbrev pub sends_among : List Entry → ℕ
sends_among [] = 0
sends_among (x ∷ xs) = (if sends (act_of x.event) (answer_of x) then 1 else 0) + sends_among xs

-- the number of the first of these events that hands up the datagram of a send; they are numbered from n
abbrev pub first_handing_up : ℕ → ℕ → List Entry → Option ℕ
first_handing_up send n [] = None
first_handing_up send n (x ∷ xs) = if is_of (note_of x.trace.happenings.up) send then Some n else first_handing_up send (n + 1) xs

-- By the verdict on a send that was taken, its datagram came at the first event of the run that handed it up, and not at all where none did.
abbrev pub DatagramsCameAsSaid : Type 0
DatagramsCameAsSaid = (before after : List (ℕ × Entry)) (row : ℕ) (x : Entry) (from to : ℕ) (datagram : List ℕ)
    → IsRun network start (entries_in (before ++ ((row, x) ∷ after))) → x.event ≡ events.Send from to datagram
    → (answer_of x ≡ answers.Sent) ⊎ (answer_of x ≡ answers.Waiting)
    → IsDatagramStory (sends_among (entries_in before) + 1) (length before + 1)
    (first_handing_up (sends_among (entries_in before) + 1) (length before + 1) (x ∷ entries_in after))
    (event_of_entry row x (recorded_all before no_recording))
    (stories_of (recorded_all (before ++ ((row, x) ∷ after)) no_recording).events (recorded_all (before ++ ((row, x) ∷ after)) no_recording).flights)
