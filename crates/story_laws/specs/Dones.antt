-- Where the verdict on a story is that it is done, an entry of its run says so; and where an entry does, so does the verdict.
use Rattle.std.specs.Prelude.{◌≡◌, ℕ, ◌+◌, ◌≤◌, ◌<◌, true, false, List, ◌∷◌, ◌++◌, length, Some, ◌⊎◌}
use Rattle.line_events.specs.declared.event.Event.{Event}
use Rattle.line_events.specs.declared.event.Event.TheVariants as events
use Rattle.line_events.specs.declared.happenings.PathLine.{PathLine}
use Rattle.node_rules.specs.Ciphers.{network}
use Rattle.line_rules.specs.Runs.{Entry, IsLineRun}
use Rattle.line_rules.specs.Worlds.{Pairing, World, start}
use Rattle.line_laws.specs.ReachTraces.{WalkCame}
use Rattle.line_record.specs.declared.ends.Ends.{Ends}
use Rattle.line_record.specs.declared.kind.StoryKind.TheVariants as kinds
use Rattle.line_record.specs.declared.recorded.RecordedEvent.{RecordedEvent}
use Rattle.line_record.specs.declared.recorded.RecordedFlight.{RecordedFlight}
use Rattle.line_record.specs.declared.story.Story.{Story}
use Rattle.line_record.specs.declared.verdict.Verdict.TheVariants as verdicts
use Rattle.line_record.specs.Kinds.{is_heeded}
use Rattle.line_record.specs.RunRecords.{numbered}
use Rattle.line_record.specs.Stories.{Stories, stories_of}
use Rattle.line_record.specs.Verdicts.{is_asked, is_begun, verdict_of}
use Rattle.story_laws.specs.KeptRuns.{AreRecorded, left_after}

-- # What an entry says

-- The entry of this number of a run, which follows this world.
pub record EntryAt (entries : List Entry) (n : ℕ) (w : World) (x : Entry) : Type 0 where
  pub before : List Entry
  pub after : List Entry
  pub are : entries ≡ before ++ (x ∷ after)
  pub number : n ≡ length before + 1
  pub world : w ≡ left_after before start

-- The joining of this meter is done: the coordinator has heard from it that it has its keys.
pub record IsJoined (meter : ℕ) (w : World) (x : Entry) : Type 0 where
  pub pairing : Pairing
  pub done : x.trace.done ≡ Some pairing
  pub node : pairing.node ≡ meter

-- the node that may obey at an event: octets come to it, or it is told by its owner
abbrev pub MayObey : Event → ℕ → Type 0
MayObey (events.Deliver flight node cost) meter = node ≡ meter
MayObey (events.Inject node cost octets) meter = node ≡ meter
MayObey (events.Activate node index) meter = node ≡ meter
MayObey _ meter = ⊥

-- This node activated a key, or left, as it was told.
pub record Obeys (meter : ℕ) (w : World) (x : Entry) : Type 0 where
  pub at : MayObey x.event meter
  pub heeds : is_heeded x.trace.happenings.answer ≡ true

-- The answer to a path request is back, in a frame that carries it.
pub record WalkIsBack (w : World) (x : Entry) : Type 0 where
  pub line : PathLine
  pub path : x.trace.happenings.path ≡ Some line
  pub came : WalkCame w x.event line

-- # Verdicts

-- An entry of this number is one of a story, from its first one on.
pub record IsOf (entries : List Entry) (s : Stories) (i : ℕ) (story : Story) (n : ℕ) (w : World) (x : Entry) : Type 0 where
  pub at : EntryAt entries n w x
  pub owner : numbered s.owners n ≡ Some i
  pub since : story.first ≤ n

-- An entry of this number is the last one of a story of which P holds.
pub record IsLastAt (entries : List Entry) (s : Stories) (i : ℕ) (story : Story) (P : World → Entry → Type 0) (n : ℕ) : Type 0 where
  pub world : World
  pub entry : Entry
  pub of : IsOf entries s i story n world entry
  pub holds : P world entry
  pub last : (m : ℕ) (w : World) (x : Entry) → n < m → IsOf entries s i story m w x → P w x → ⊥

-- An entry of this number is the first one of a story of which P holds.
pub record IsFirstAt (entries : List Entry) (s : Stories) (i : ℕ) (story : Story) (P : World → Entry → Type 0) (n : ℕ) : Type 0 where
  pub world : World
  pub entry : Entry
  pub of : IsOf entries s i story n world entry
  pub holds : P world entry
  pub first : (m : ℕ) (w : World) (x : Entry) → m < n → IsOf entries s i story m w x → P w x → ⊥

-- The verdict on a story is that it is done at such an event only, and it is so where P holds of one of its entries, unless its first event was refused.
pub record SaysDone (entries : List Entry) (s : Stories) (i : ℕ) (story : Story) (P : World → Entry → Type 0) (At : ℕ → Type 0) : Type 0 where
  pub done : (e : RecordedEvent) (ends : Ends) (n : ℕ) → verdict_of story ends e ≡ verdicts.Reached n → At n
  pub said : (n : ℕ) (w : World) (x : Entry) → IsOf entries s i story n w x → P w x → (e : RecordedEvent) (ends : Ends) → is_begun e.answer ≡ true
      → (m : ℕ) × (verdict_of story ends e ≡ verdicts.Reached m)

-- a joining or a renewal is done, by its verdict, exactly where the last of its entries says so that does
abbrev pub JoiningIsDone : List Entry → Stories → ℕ → Story → Type 0
JoiningIsDone entries s i story = SaysDone entries s i story (IsJoined story.person) (IsLastAt entries s i story (IsJoined story.person))

-- an order, exactly where its node obeys first
abbrev pub OrderIsDone : List Entry → Stories → ℕ → Story → Type 0
OrderIsDone entries s i story = SaysDone entries s i story (Obeys story.person) (IsFirstAt entries s i story (Obeys story.person))

-- a path request, exactly where its answer is back first
abbrev pub WalkIsDone : List Entry → Stories → ℕ → Story → Type 0
WalkIsDone entries s i story = SaysDone entries s i story WalkIsBack (IsFirstAt entries s i story WalkIsBack)

-- a story is never done
abbrev pub IsNeverDone : Story → Type 0
IsNeverDone story = (e : RecordedEvent) (ends : Ends) (n : ℕ) → verdict_of story ends e ≡ verdicts.Reached n → ⊥

-- # Of a run and its record, whatever is recorded of its flights

abbrev pub JoiningsAreDone : Type 0
JoiningsAreDone =
    (entries : List Entry) (recorded : List RecordedEvent) (flights : List RecordedFlight) → IsLineRun network entries → AreRecorded entries recorded
    → (i : ℕ) (story : Story) → numbered (stories_of recorded flights).stories i ≡ Some story
    → (story.kind ≡ kinds.Joining) ⊎ (story.kind ≡ kinds.Renewal) → JoiningIsDone entries (stories_of recorded flights) i story

abbrev pub OrdersAreDone : Type 0
OrdersAreDone =
    (entries : List Entry) (recorded : List RecordedEvent) (flights : List RecordedFlight) → IsLineRun network entries → AreRecorded entries recorded
    → (i : ℕ) (story : Story) → numbered (stories_of recorded flights).stories i ≡ Some story → story.kind ≡ kinds.Order
    → OrderIsDone entries (stories_of recorded flights) i story

abbrev pub WalksAreDone : Type 0
WalksAreDone =
    (entries : List Entry) (recorded : List RecordedEvent) (flights : List RecordedFlight) → IsLineRun network entries → AreRecorded entries recorded
    → (i : ℕ) (story : Story) → numbered (stories_of recorded flights).stories i ≡ Some story → story.kind ≡ kinds.Walk
    → WalkIsDone entries (stories_of recorded flights) i story

-- no other story but that of a datagram is ever done: a broadcast, octets that are injected, what happens on the line
abbrev pub OthersAreNeverDone : Type 0
OthersAreNeverDone =
    (entries : List Entry) (recorded : List RecordedEvent) (flights : List RecordedFlight) → IsLineRun network entries → AreRecorded entries recorded
    → (i : ℕ) (story : Story) → numbered (stories_of recorded flights).stories i ≡ Some story → is_asked story.kind ≡ false → IsNeverDone story
