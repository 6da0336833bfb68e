-- When what is said of an event is true of the run: of the entry of its history.
use Rattle.std.specs.Prelude.{◌≡◌, ℕ, ◌<◌, Option, None, Some}
use Rattle.line_events.specs.declared.event.Answer.{Answer}
use Rattle.line_events.specs.declared.event.Answer.TheVariants as answers
use Rattle.line_events.specs.declared.happenings.Handed.{Handed}
use Rattle.line_rules.specs.Runs.{Entry}
use Rattle.line_record.specs.RunRecords.{recorded_event}
use Rattle.event_sentences.specs.declared.claim.Deed.{Deed}
use Rattle.event_sentences.specs.declared.claim.Deed.TheVariants as deeds
use Rattle.event_sentences.specs.declared.heard.Heard.{Heard}
use Rattle.event_sentences.specs.Claims.{deed_text}
use Rattle.event_sentences.specs.Scenes.{Scene}
use Rattle.event_sentences.specs.Texts.{event_text}

abbrev pub answer_of : Entry → Answer
answer_of x = x.trace.happenings.answer

abbrev pub send_of : Option Handed → ℕ
send_of None = 0
send_of (Some handed) = handed.note

-- the number of the send whose datagram was handed up, 0 where no node of the run sent it
abbrev pub send_handed_up : Entry → ℕ
send_handed_up x = send_of x.trace.happenings.up

-- whether a node did so at an event
abbrev pub IsTrueOf : Entry → Deed → Type 0
IsTrueOf x (deeds.HandsUp send) = (answer_of x ≡ answers.Up) × (send_handed_up x ≡ send) × (0 < send)
IsTrueOf x deeds.HandsUpStray = (answer_of x ≡ answers.Up) × (send_handed_up x ≡ 0)

-- what is true of an event is one thing, so its sentence is determined
abbrev pub SaysOne : Type 0
SaysOne = (x : Entry) (a b : Deed) → IsTrueOf x a → IsTrueOf x b → a ≡ b

-- where a datagram was handed up, the sentence of the event is that of a claim which is true of it
abbrev pub UpsAreTrue : Type 0
UpsAreTrue = (x : Entry) (line clock same : ℕ) (s : Scene) (heard : Heard) → s.recorded ≡ recorded_event line x.event x.trace.happenings clock same
    → s.heard ≡ Some heard → answer_of x ≡ answers.Up → (deed : Deed) × IsTrueOf x deed × (event_text s ≡ deed_text s.node deed)
