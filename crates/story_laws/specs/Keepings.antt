-- Since when a story says that a node keeps something of it.
use Rattle.std.specs.Prelude.{◌≡◌, ℕ, ◌+◌, ◌<◌, true, false, List, [], ◌∷◌, ◌++◌, length, is_some, Some, All}
use Rattle.line_progress.specs.Lists.{Among}
use Rattle.line_record.specs.NodeItems.{is_waiting}
use Rattle.line_record.specs.Stories.{Stories, events_seen, last_owner, may_leave, no_stories, stories_of}
use Rattle.line_record.specs.declared.kept.Kept.{Kept}
use Rattle.line_record.specs.declared.kept.KeptEnd.TheVariants as kept_ends
use Rattle.line_record.specs.declared.recorded.RecordedEvent.{RecordedEvent}
use Rattle.line_record.specs.declared.recorded.RecordedFlight.{RecordedFlight}
use Rattle.line_record.specs.KeptItems.{end_of, makes_message}
use Rattle.line_record.specs.Kinds.{actor_of, is_piece_held, prepares, sends}
use Rattle.line_record.specs.RunRecords.{made_by, numbered}

-- What begins at an event: a datagram that is sent waits for a route, a piece is held, or a joining message is made.
pub data HasBegun (k : Kept) (e : RecordedEvent) : Type 0 where
  Waits : k.gathered ≡ false → sends e.act e.answer ≡ true → is_waiting e.answer ≡ true → HasBegun k e
  IsGathered : k.gathered ≡ true → is_piece_held e.answer ≡ true → HasBegun k e
  IsMessage : k.gathered ≡ false → makes_message e.answer ≡ true → HasBegun k e

-- It began at its event, at the node that did it, and no later event ended it.
pub record IsKeptSince (events : List RecordedEvent) (k : Kept) : Type 0 where
  pub event : RecordedEvent
  pub there : numbered events k.event ≡ Some event
  pub clock : event.clock ≡ k.clock
  pub node : actor_of event.act ≡ k.node
  pub began : HasBegun k event
  pub still : (m : ℕ) (e : RecordedEvent) → k.event < m → numbered events m ≡ Some e → end_of m e k ≡ kept_ends.Still

-- an event that prepares a node for a joining makes no message
abbrev pub MakesNone : RecordedEvent → Type 0
MakesNone e = is_some (prepares e.act) ≡ true → makes_message e.answer ≡ false

-- what is kept still at the end of a record is so since its event
abbrev pub KeptAreSince : Type 0
KeptAreSince =
    (events : List RecordedEvent) (flights : List RecordedFlight) → All MakesNone events
    → (k : Kept) → Among k (stories_of events flights).keeping → IsKeptSince events k

-- # What begins

-- What is kept began at the event of this number, the last one, for its story: a datagram that waits.
pub record BeginsToWait (e : RecordedEvent) (n : ℕ) (s : Stories) : Type 0 where
  pub kept : Kept
  pub inside : Among kept s.keeping
  pub waits : kept.gathered ≡ false
  pub event : kept.event ≡ n
  pub node : kept.node ≡ actor_of e.act
  pub story : kept.story ≡ last_owner s.owners

-- a datagram that is answered Waiting is kept by its story from then on, where none of the flights of its event may be what waited
abbrev pub WaitsAreKept : Type 0
WaitsAreKept =
    (before : List RecordedEvent) (e : RecordedEvent) (flights : List RecordedFlight) → sends e.act e.answer ≡ true → is_waiting e.answer ≡ true
    → ((f : RecordedFlight) → Among f (made_by e flights) → may_leave f ≡ false)
    → BeginsToWait e (length before + 1) (events_seen flights (before ++ (e ∷ [])) no_stories)
