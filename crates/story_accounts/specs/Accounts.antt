-- A run with its stories and its sentences.
use Rattle.std.specs.Prelude.{ℕ, List, [], Option, None, Some}
use Rattle.plc_base.specs.declared.address.Eui.{Eui}
use Rattle.node_rules.specs.declared.shown.ShownPeer.{ShownPeer}
use Rattle.frame_facts.specs.declared.detail.FlightMore.{FlightMore}
use Rattle.line_script.specs.AnswerWords.{answer_word}
use Rattle.line_record.specs.declared.recorded.RecordedEvent.{RecordedEvent}
use Rattle.line_record.specs.declared.recorded.RecordedFlight.{RecordedFlight}
use Rattle.line_record.specs.declared.story.Story.{Story}
use Rattle.line_record.specs.declared.course.Course.{Course}
use Rattle.line_record.specs.declared.ends.Ends.{Ends}
use Rattle.line_record.specs.declared.verdict.Verdict.{Verdict}
use Rattle.line_record.specs.declared.verdict.Verdict.TheVariants as verdicts
use Rattle.line_record.specs.RunRecords.{numbered}
use Rattle.line_record.specs.Verdicts.{no_ends, verdict_of}
use Rattle.story_accounts.specs.Indexes.{Index, numbers_or_none}

-- Events, flights and stories stand by their numbers from 1, nodes and addresses from 0.
pub record RunAccount : Type 0 where
  pub events : List RecordedEvent
  pub flights : List RecordedFlight
  -- what the flights carry that no story goes by
  pub more : List FlightMore
  -- which flight was sealed with which counter
  pub counters : List ((ℕ × ℕ) × ℕ)
  -- the marks that each node showed last
  pub marks : List (List ShownPeer)
  pub stories : List Story
  -- the story of each event
  pub owners : List ℕ
  -- what became of each flight
  pub courses : List Course
  -- the ends of each story
  pub ends : List Ends
  pub index : Index
  -- the node of each short address
  pub homes : List ℕ
  -- the EUI-64 of each node
  pub euis : List Eui
  -- the sentence of each event
  pub sentences : List (List ℕ)

-- # What is looked up

-- the sentence of an event
abbrev pub why : RunAccount → ℕ → List ℕ
why a event = numbers_or_none (numbered a.sentences event)

abbrev pub ends_or_none : Option Ends → Ends
ends_or_none None = no_ends
ends_or_none (Some ends) = ends

abbrev pub ends_at : RunAccount → ℕ → Ends
ends_at a story = ends_or_none (numbered a.ends story)

abbrev pub answer_by : Option RecordedEvent → List ℕ
answer_by None = []
answer_by (Some e) = answer_word e.answer

-- how an event ended, by its word
abbrev pub answer_at : RunAccount → ℕ → List ℕ
answer_at a event = answer_by (numbered a.events event)

-- the event that a story begins with
abbrev pub first_by : Option Story → ℕ
first_by None = 0
first_by (Some story) = story.first

abbrev pub first_of : RunAccount → ℕ → ℕ
first_of a story = first_by (numbered a.stories story)

-- # Verdicts

abbrev pub verdict_with : Option RecordedEvent → Story → Ends → Verdict
verdict_with None story ends = verdicts.Nothing
verdict_with (Some e) story ends = verdict_of story ends e

abbrev pub verdict_by : Option Story → RunAccount → ℕ → Verdict
verdict_by None a number = verdicts.Nothing
verdict_by (Some story) a number = verdict_with (numbered a.events story.first) story (ends_at a number)

-- the verdict of a story
unfoldable pub verdict_at : RunAccount → ℕ → Verdict
verdict_at a story = verdict_by (numbered a.stories story) a story
