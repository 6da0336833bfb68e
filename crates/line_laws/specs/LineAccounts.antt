-- What holds of each event of a line with further reach, as of a line without it: for any ciphers that keep their ranges, in any world in which
-- the line holds, what flies is octets, and the log of each node is what its store gives.
use Rattle.std.specs.Prelude.{◌≡◌, ◌≢◌, ◌↔◌, ℕ, ◌<◌, Bool, true, false, All, List, ◌++◌, length, drop, Some, None, Ok, Err}
use Rattle.plc_base.specs.declared.address.Eui.{Eui}
use Rattle.plc_base.specs.declared.key.Key.{Key}
use Rattle.mac_frames.specs.Reader.{head_in}
use Rattle.mac_frames.specs.declared.head.MacHead.{MacHead}
use Rattle.mac_frames.specs.declared.head.MacHead.TheVariants as heads
use Rattle.group_keys.specs.KeyBook as books
use Rattle.node_rules.specs.Ciphers.{Ciphers}
use Rattle.node_rules.specs.Memory.{Node, node_route}
use Rattle.line_events.specs.declared.event.Answer.TheVariants as answers
use Rattle.line_events.specs.declared.event.Event.{Event}
use Rattle.line_events.specs.declared.event.Event.TheVariants as events
use Rattle.line_rules.specs.Agreement.{is_allow_of}
use Rattle.line_events.specs.Events.{IsEvent}
use Rattle.line_rules.specs.Forgery.{AcceptsSealed, IsForged}
use Rattle.line_rules.specs.Further.{line_step}
use Rattle.line_rules.specs.Logs.{LogsKept}
use Rattle.line_rules.specs.Runs.{Entry, one_of}
use Rattle.line_rules.specs.Steps.{Step}
use Rattle.line_rules.specs.Traces.{Adds, IsTracedRight}
use Rattle.line_rules.specs.Worlds.{World, Issued, Sending, Trace, node_at}
use Rattle.line_laws.specs.Keyed.{Keyed}
use Rattle.line_laws.specs.Lines.{FlightFits, WorldOk}
use Rattle.line_laws.specs.Live.{FlightsFall, admits, is_live, marks_of}
use Rattle.line_laws.specs.Owed.{KeepsRanges}
use Rattle.line_laws.specs.OwnKeys.{HasOwn}
use Rattle.line_laws.specs.Shut.{ShutAt}
use Rattle.line_laws.specs.Stores.{IsBookKept}
use Rattle.line_laws.specs.Tags.{TagsOk}

-- # Senders

-- the flights that a step adds have in their sender field the address that their node has after it, and are under the key that it seals with then
abbrev pub SendersIn : World → Step → Type 0
SendersIn w (Ok r) = All (HasOwn r.0) (drop (length w.flights) r.0.flights)
SendersIn w (Err fault) = Unit {0}

abbrev pub LineSendersAreRight : Type 0
LineSendersAreRight =
    (ciphers : Ciphers) → KeepsRanges ciphers → (w : World) → WorldOk w → All FlightFits w.flights → LogsKept w → (event : Event) → IsEvent event
    → SendersIn w (line_step ciphers w event)

-- # Books

-- The book that the coordinator's records give has each address of this one, and each node that was there is there with its EUI.
pub record BooksLater (b : books.Book) (w v : World) : Type 0 where
  pub grows : (c : Node) → node_at v 0 ≡ Some c → (later : books.Book) → IsBookKept later c.store.records
      → (eui : Eui) (a : ℕ) → books.address_of b eui ≡ Some a → books.address_of later eui ≡ Some a
  pub euis : (n : ℕ) (y : Node) → n < length w.nodes → node_at v n ≡ Some y → (x : Node) × (node_at w n ≡ Some x) × (x.eui ≡ y.eui)

abbrev pub BooksIn : books.Book → World → Step → Type 0
BooksIn b w (Ok r) = 0 < length w.nodes → BooksLater b w r.0
BooksIn b w (Err fault) = Unit {0}

abbrev pub LineBooksGrow : Type 0
LineBooksGrow =
    (ciphers : Ciphers) → KeepsRanges ciphers → (w : World) → WorldOk w → All FlightFits w.flights → LogsKept w → (given : List Issued) (k : Keyed w given)
    → (event : Event) → IsEvent event → BooksIn k.book w (line_step ciphers w event)

-- a meter is shut out after a step
abbrev pub ShutIn : Eui → Step → Type 0
ShutIn eui (Ok r) = ShutAt eui r.0
ShutIn eui (Err fault) = Unit {0}

-- a meter that is shut out stays so at every event but one that allows it
abbrev pub LineStepsShut : Type 0
LineStepsShut =
    (eui : Eui) (ciphers : Ciphers) → KeepsRanges ciphers → (w : World) → WorldOk w → All FlightFits w.flights → LogsKept w → ShutAt eui w
    → (event : Event) (number : ℕ) (z : Node) → IsEvent event → is_allow_of number event ≡ false → w.running ≡ true → node_at w number ≡ Some z → z.eui ≡ eui
    → ((i j : ℕ) (x y : Node) → node_at w i ≡ Some x → node_at w j ≡ Some y → books.eui_number x.eui ≡ books.eui_number y.eui → i ≡ j)
    → ShutIn eui (line_step ciphers w event)

-- and a kick shuts it out
abbrev pub LineKicksShut : Type 0
LineKicksShut =
    (ciphers : Ciphers) (w : World) → WorldOk w → (number : ℕ) (v : World) (t : Trace) → line_step ciphers w (events.Kick number) ≡ Ok (v, t)
    → t.happenings.answer ≡ answers.Kicked → WorldOk v
    → (number ≢ 0) × ((z : Node) × (node_at w number ≡ Some z) × ShutAt z.eui v × (v.running ≡ true))

-- # Tags

-- what holds of the tags of all sends holds with what a step sends
abbrev pub TagsIn : List Sending → Step → Type 0
TagsIn sent (Ok r) = TagsOk r.0 (sent ++ one_of r.1.sent)
TagsIn sent (Err fault) = Unit {0}

abbrev pub LineTagsRise : Type 0
LineTagsRise =
    (ciphers : Ciphers) → KeepsRanges ciphers → (w : World) → WorldOk w → All FlightFits w.flights → LogsKept w → (sent : List Sending) → TagsOk w sent
    → w.events < 50000 → (event : Event) → IsEvent event → TagsIn sent (line_step ciphers w event)

-- # Live flights, and what is accepted once

-- No flight comes to life, and a frame that a node accepts as one to it alone was live, and is not live any more.
pub record FlightsEnd (ciphers : Ciphers) (w : World) (x : Entry) : Type 0 where
  pub falls : FlightsFall ciphers w x
  pub heads : (h : MacHead) → is_live x.after h ≡ true → is_live w h ≡ true
  pub alone : (octets : List ℕ) (key : Key) (a : AcceptsSealed ciphers w x.event octets key) → a.to_all ≡ false
      → (is_live w (head_in octets) ≡ true) × (is_live x.after (head_in octets) ≡ false)

abbrev pub LineFlightsFall : Type 0
LineFlightsFall =
    (ciphers : Ciphers) → KeepsRanges ciphers → (w : World) → WorldOk w → All FlightFits w.flights → LogsKept w → (given : List Issued) → Keyed w given
    → (x : Entry) → IsEvent x.event → line_step ciphers w x.event ≡ Ok (x.after, x.trace) → FlightsEnd ciphers w x

-- The counter of octets that a node accepts under seal was admitted by its marks, and is not by what has become of it.
pub record SealedOnce (v : World) (number : ℕ) (octets : List ℕ) (node : Node) : Type 0 where
  pub from : ℕ
  pub counter : ℕ
  pub head : (ack : Bool) × (seq : ℕ) × (pan : ℕ) × (index : ℕ) × (to : ℕ) × (head_in octets ≡ heads.Sealed ack seq pan to from counter index)
  pub before : admits (marks_of node) from counter ≡ true
  pub left : Node
  pub there : node_at v number ≡ Some left
  pub after : admits (marks_of left) from counter ≡ false

abbrev pub LineNodesAcceptOnce : Type 0
LineNodesAcceptOnce =
    (ciphers : Ciphers) → KeepsRanges ciphers → (w : World) → WorldOk w → All FlightFits w.flights → LogsKept w
    → (x : Entry) → IsEvent x.event → line_step ciphers w x.event ≡ Ok (x.after, x.trace)
    → (octets : List ℕ) (key : Key) (a : AcceptsSealed ciphers w x.event octets key)
    → SealedOnce x.after a.number octets a.node

-- # The history and the report

-- The counts of the world are those of the history, which has of an event what the report says of it; and the event is reported as forged exactly
-- where it is.
pub record IsLineRight (ciphers : Ciphers) (w : World) (x : Entry) : Type 0 where
  pub adds : Adds w x
  pub traced : IsTracedRight w x
  pub forged : (x.trace.happenings.forged ≡ true) ↔ IsForged ciphers w x.event x.trace.opened

-- whatever the ciphers are, and in any world
abbrev pub LineTracesRight : Type 0
LineTracesRight =
    (ciphers : Ciphers) (w : World) (x : Entry) → IsEvent x.event → line_step ciphers w x.event ≡ Ok (x.after, x.trace) → IsLineRight ciphers w x

-- # Restarts

-- a restart is answered, and its node has no valid route after it
abbrev pub RestartIn : ℕ → Step → Type 0
RestartIn number (Ok r) = (r.1.happenings.answer ≡ answers.Restarted) × ((y : Node) → node_at r.0 number ≡ Some y → (dest : ℕ) → node_route y dest ≡ None)
RestartIn number (Err fault) = Unit {0}

abbrev pub LineRestartsAreRight : Type 0
LineRestartsAreRight =
    (ciphers : Ciphers) → KeepsRanges ciphers → (w : World) → WorldOk w → All FlightFits w.flights → LogsKept w → (number : ℕ)
    → RestartIn number (line_step ciphers w (events.Restart number))
