-- What a record says became of a flight is so: of which event of the run it says so, and that nothing before it or after it says otherwise.
use Rattle.std.specs.Prelude.{◌≡◌, ℕ, ◌<◌, ◌==◌, ◌&&◌, ◌||◌, Bool, true, false, List, [], ◌∷◌, length, Option, Some, ◌⊎◌}
use Rattle.std.specs.Option.{option_map}
use Rattle.line_events.specs.declared.event.Answer.{Answer}
use Rattle.line_events.specs.declared.event.Event.TheVariants as events
use Rattle.line_record.specs.declared.act.Act.{Act}
use Rattle.line_record.specs.declared.act.Act.TheVariants as acts
use Rattle.line_record.specs.declared.course.Course.{Course}
use Rattle.line_record.specs.declared.course.Fate.{Fate}
use Rattle.line_record.specs.declared.course.Fate.TheVariants as fates
use Rattle.line_record.specs.declared.recorded.RecordedEvent.{RecordedEvent}
use Rattle.line_record.specs.declared.recorded.RecordedFlight.{RecordedFlight}
use Rattle.line_record.specs.Kinds.{actor_of, is_reported, takes_on}
use Rattle.line_record.specs.Marks.{is_accepted, is_for}
use Rattle.line_record.specs.RunRecords.{numbered}
use Rattle.line_record.specs.Stories.{stories_of}
use Rattle.line_rules.specs.Runs.{Entry, IsLineRun, last_world}
use Rattle.line_rules.specs.Worlds.{Flight, World, flight_at, start}
use Rattle.node_rules.specs.Ciphers.{network}
use Rattle.story_laws.specs.KeptRuns.{IsRecordedOf}

-- # Hearings and losses

-- whether an event brings a flight to the node that it is for; where it is for all or for nobody of the run, to any node
abbrev pub hears : ℕ → Option ℕ → RecordedEvent → Bool
hears n to e = (e.came == n) && is_for to (actor_of e.act)

abbrev pub loses : ℕ → Act → Bool
loses n (acts.Lose flight) = flight == n
loses n _ = false

-- whether a frame that is answered so was accepted, and its unit went on or its end was reported
abbrev pub settles : Answer → Bool
settles answer = takes_on answer || is_reported answer

abbrev pub NeverHeard : List RecordedEvent → ℕ → Option ℕ → Type 0
NeverHeard events n to = (k : ℕ) (d : RecordedEvent) → numbered events k ≡ Some d → hears n to d ≡ false

-- no event before this number loses the flight
abbrev pub NotLostBefore : List RecordedEvent → ℕ → ℕ → Type 0
NotLostBefore events n m = (k : ℕ) (d : RecordedEvent) → k < m → numbered events k ≡ Some d → loses n d.act ≡ false

-- The event of this number brings the flight to its node, and it is the first that does; or the flight was refused each time before, and is accepted now.
pub record IsHeardAt (events : List RecordedEvent) (n : ℕ) (to : Option ℕ) (m : ℕ) (e : RecordedEvent) : Type 0 where
  pub there : numbered events m ≡ Some e
  pub heard : hears n to e ≡ true
  pub before : (k : ℕ) (d : RecordedEvent) → k < m → numbered events k ≡ Some d → hears n to d ≡ true
      → (settles d.answer ≡ false) × (is_accepted e.answer ≡ true)

-- What became of a flight, by all events of a run.
pub data IsFate (events : List RecordedEvent) (n : ℕ) (to : Option ℕ) : Fate → Type 0 where
  -- no event brings it to its node, and none loses it
  NeverCame : NeverHeard events n to → ((k : ℕ) (d : RecordedEvent) → numbered events k ≡ Some d → loses n d.act ≡ false)
      → IsFate events n to fates.Missed
  -- no event brings it to its node, and this is the first that loses it
  WasLost : (m : ℕ) (e : RecordedEvent) → numbered events m ≡ Some e → loses n e.act ≡ true → NotLostBefore events n m → NeverHeard events n to
      → IsFate events n to (fates.Lost m)
  HasGoneOn : (m : ℕ) (e : RecordedEvent) → IsHeardAt events n to m e → takes_on e.answer ≡ true → IsFate events n to (fates.WentOn m)
  WasReported : (m : ℕ) (e : RecordedEvent) → IsHeardAt events n to m e → is_reported e.answer ≡ true → IsFate events n to (fates.Reported m)
  -- it never went on and its end was never reported, and no later event that brings it has it accepted
  WasRefused : (m : ℕ) (e : RecordedEvent) → IsHeardAt events n to m e
      → ((k : ℕ) (d : RecordedEvent) → numbered events k ≡ Some d → hears n to d ≡ true → settles d.answer ≡ false)
      → ((k : ℕ) (d : RecordedEvent) → m < k → numbered events k ≡ Some d → hears n to d ≡ true → is_accepted d.answer ≡ false)
      → IsFate events n to (fates.Refused m)

-- # The record of a run

-- the octets of a flight of a world
abbrev pub octets_at : World → ℕ → Option (List ℕ)
octets_at w n = option_map (λ (f : Flight). f.octets) (flight_at w n)

-- An event is what is recorded of an entry after a world; where octets are injected, the flight that comes by the record has these very octets, or none
-- comes.
pub record IsRecordedAfter (w : World) (x : Entry) (e : RecordedEvent) : Type 0 where
  pub recorded : IsRecordedOf x e
  pub same : (node cost : ℕ) (octets : List ℕ) → x.event ≡ events.Inject node cost octets → (e.came ≡ 0) ⊎ (octets_at w e.came ≡ Some octets)

-- these events are what is recorded of these entries, which follow a world
abbrev pub AreRecordedAfter : World → List Entry → List RecordedEvent → Type 0
AreRecordedAfter w [] [] = Unit {0}
AreRecordedAfter w [] (e ∷ es) = ⊥
AreRecordedAfter w (x ∷ xs) [] = ⊥
AreRecordedAfter w (x ∷ xs) (e ∷ es) = IsRecordedAfter w x e × AreRecordedAfter x.after xs es

-- Of a run and its record, with as many flights as flew, whatever is recorded of them: what the stories say became of a flight is so, by all events of
-- the run.
abbrev pub FatesAreSo : Type 0
FatesAreSo =
    (entries : List Entry) (recorded : List RecordedEvent) (flights : List RecordedFlight) → IsLineRun network entries
    → AreRecordedAfter start entries recorded → length flights ≡ length (last_world start entries).flights
    → (n : ℕ) (course : Course) → numbered (stories_of recorded flights).courses n ≡ Some course → IsFate recorded n course.to course.fate

-- # What comes

-- An event with which a flight of a world comes to a node: it is delivered there, or its octets are injected.
pub data Comes (w : World) (x : Entry) (n node : ℕ) : Type 0 where
  IsDelivered : (cost : ℕ) → x.event ≡ events.Deliver n node cost → Comes w x n node
  IsInjected : (cost : ℕ) (octets : List ℕ) → x.event ≡ events.Inject node cost octets → octets_at w n ≡ Some octets → Comes w x n node

-- where an event brings a flight to the node that it is for, by its record, the entry does so
abbrev pub HearingsAreSo : Type 0
HearingsAreSo =
    (w : World) (x : Entry) (e : RecordedEvent) → IsRecordedAfter w x e → (n : ℕ) (to : Option ℕ) → 0 < n → hears n to e ≡ true
    → Comes w x n (actor_of e.act)
