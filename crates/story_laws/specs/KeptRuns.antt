-- What the stories of a run say is kept still, the run has not ended.
use Rattle.std.specs.Prelude.{◌≡◌, ℕ, ◌+◌, ◌<◌, List, [], ◌∷◌, ◌++◌, length, Some}
use Rattle.node_rules.specs.Ciphers.{network}
use Rattle.node_rules.specs.Memory.{StationMemory}
use Rattle.line_progress.specs.Lists.{Among}
use Rattle.line_progress.specs.Stations.{station_at}
use Rattle.line_rules.specs.Runs.{Entry, IsRun}
use Rattle.line_rules.specs.Worlds.{World, start}
use Rattle.line_record.specs.Stories.{stories_of}
use Rattle.line_record.specs.declared.kept.Kept.{Kept}
use Rattle.line_record.specs.declared.recorded.RecordedEvent.{RecordedEvent}
use Rattle.line_record.specs.declared.recorded.RecordedFlight.{RecordedFlight}
use Rattle.story_laws.specs.Ends.{EndedKept, HaltsUnsaid, recorded_by}

-- an event is what is recorded of an entry, of a line of some number
pub record IsRecordedOf (x : Entry) (e : RecordedEvent) : Type 0 where
  pub row : ℕ
  pub same : ℕ
  pub is : e ≡ recorded_by row same x.event (x.after, x.trace)

-- these events are what is recorded of these entries
abbrev pub AreRecorded : List Entry → List RecordedEvent → Type 0
AreRecorded [] [] = Unit {0}
AreRecorded [] (e ∷ es) = ⊥
AreRecorded (x ∷ xs) [] = ⊥
AreRecorded (x ∷ xs) (e ∷ es) = IsRecordedOf x e × AreRecorded xs es

-- the world after these entries
abbrev pub left_after : List Entry → World → World
left_after [] w = w
left_after (x ∷ xs) w = left_after xs x.after

-- Of a run and its record, whatever is recorded of its flights: what a story says a node keeps still, an event after the one at which it began has not ended,
-- unless nothing says that the node has halted.
abbrev pub RunsKeepIt : Type 0
RunsKeepIt =
    (before after : List Entry) (x : Entry) (events : List RecordedEvent) (flights : List RecordedFlight) → IsRun network start (before ++ (x ∷ after))
    → AreRecorded (before ++ (x ∷ after)) events → (k : Kept) → Among k (stories_of events flights).keeping → k.event < length before + 1
    → (l : StationMemory) → station_at (left_after before start) k.node ≡ Some l
    → EndedKept (left_after before start) x.event k (x.after, x.trace) → HaltsUnsaid x.event k (x.after, x.trace)
