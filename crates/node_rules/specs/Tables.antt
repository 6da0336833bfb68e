-- The tables of a store, whatever becomes of a plan's writes: no table gets a gap, so that a restart finds what was stored.
use Rattle.std.specs.Prelude.{◌≡◌, ℕ, ◌<◌, ◌≤◌, Bool, List, length, All, ⊤, Option}
use Rattle.plc_base.specs.declared.address.Eui.{Eui}
use Rattle.plc_base.specs.declared.key.Key.{Key}
use Rattle.plc_base.specs.declared.key.RandomOctets.{RandomOctets}
use Rattle.plc_base.specs.declared.keeper.Cut.{Cut}
use Rattle.plc_base.specs.Grant.{Granted}
use Rattle.plc_base.specs.Keeper.{Records, Store, Write}
use Rattle.store_tables.specs.SlotTables as slots
use Rattle.store_tables.specs.Writes.{Wrote}
use Rattle.frame_counters.specs.PeerMarks as marks
use Rattle.group_keys.specs.KeyBook as book
use Rattle.routing_set.specs.RoutingSet as routing
use Rattle.node_rules.specs.Accepted.{Accepted}
use Rattle.node_rules.specs.Frames.{Arrived}
use Rattle.node_rules.specs.Memory.{StationMemory, Memory, Role, Coordinator, Meter}
use Rattle.node_rules.specs.Plans.{Plan, carry_out}
use Rattle.node_rules.specs.Acceptance as acceptance
use Rattle.node_rules.specs.HearingRules as hearing_rules
use Rattle.node_rules.specs.Calls as calls
use Rattle.node_rules.specs.Neighbours as neighbours
use Rattle.node_rules.specs.MemoryDrafts as drafts
use Rattle.node_rules.specs.Meters as meters
use Rattle.node_rules.specs.Coordinators as coordinator_rules

-- # Writes in place

-- a write to a slot of a table goes to one of its first entries, of which there are this many, or to the place after them
abbrev pub IsAtMost : {A : Type 0} → slots.Layout A → ℕ → Write → Type 0
IsAtMost layout count w = (place : ℕ) → place < layout.slots → w.slot ≡ slots.slot_of layout place → place ≤ count

-- A write to a slot of the marks, the ranks or the book replaces an entry that is held, or adds one right after them.
pub record IsInPlace (l : StationMemory) (b : book.Book) (w : Write) : Type 0 where
  pub mark : IsAtMost marks.peers (length l.marks) w
  pub rank : IsAtMost routing.ranks (length l.routing.entries) w
  pub entry : IsAtMost book.entries (length b) w

-- The marks and the ranks have at most as many entries as slots.
pub record HasShortTables (l : StationMemory) : Type 0 where
  pub marks : length l.marks ≤ 64
  pub ranks : length l.routing.entries ≤ 64

-- all these writes are in place
abbrev pub ArePlaced : StationMemory → book.Book → List Write → Type 0
ArePlaced l b puts = All (IsInPlace l b) puts

-- the writes of a plan are in place
abbrev pub WritesInPlace : {M A : Type 0} → StationMemory → book.Book → Plan M A → Type 0
WritesInPlace l b p = ArePlaced l b p.puts

-- What a station does, whatever the book is. None of it writes to the book.
pub record StationWritesInPlace (l : StationMemory) (b : book.Book) : Type 0 where
  pub accepts : (own : Eui) (a : Option Arrived) → WritesInPlace l b (acceptance.accept l own a)
  pub hears : (got : Accepted) (cost note now : ℕ) → WritesInPlace l b (hearing_rules.hear l got cost note now)
  pub sends : (to : ℕ) (octets : List ℕ) (note now : ℕ) → WritesInPlace l b (calls.send l to octets note now)
  pub commands : (to : ℕ) (octets : List ℕ) (now : ℕ) → WritesInPlace l b (calls.send_command l to octets now)
  pub sends_local : (code : ℕ) (to : Option ℕ) (body : List ℕ) → WritesInPlace l b (neighbours.send_local l code to body)
  pub counter : (value : ℕ) → WritesInPlace l b (calls.preset_counter l value)
  pub number : (value : ℕ) → WritesInPlace l b (calls.preset_number l value)
  pub near : (to cost now : ℕ) → WritesInPlace l b (calls.preset_near l to cost now)
  pub installs : (granted : Granted) → WritesInPlace l b (calls.install l granted)
  pub puts_key : (index : ℕ) (key : Key) → WritesInPlace l b (calls.put_key l index key)
  pub activates : (index : ℕ) → WritesInPlace l b (calls.activate l index)
  pub leaves : WritesInPlace l b (calls.leave l)

-- What a meter does beside its station.
pub record MeterWritesInPlace (x : meters.Identity) (m : Memory) : Type 0 where
  pub hears : (got : Accepted) (cost note now : ℕ)
      → WritesInPlace m.station m.book (meters.hear_meter x m got cost note now)
  pub joins : (agent now : ℕ) → WritesInPlace m.station m.book (meters.join x m agent now)
  pub leaves : WritesInPlace m.station m.book (meters.leave m)
  pub provisions : (granted : Granted) → WritesInPlace m.station m.book (meters.provision m granted)
  pub takes_random : (value : RandomOctets) → WritesInPlace m.station m.book (drafts.give_random m value)

-- What the coordinator does beside its station.
pub record CoordinatorWritesInPlace (own : coordinator_rules.CoordinatorIdentity) (m : Memory) : Type 0 where
  pub hears : (got : Accepted) (cost note now : ℕ)
      → WritesInPlace m.station m.book (coordinator_rules.hear_coordinator own m got cost note now)
  pub begins : (granted : Granted) → WritesInPlace m.station m.book (coordinator_rules.begin m granted)
  pub allows : (eui : Eui) (psk : Key) → WritesInPlace m.station m.book (coordinator_rules.allow m eui psk)
  pub depots : (eui : Eui) (psk : Key) → WritesInPlace m.station m.book (coordinator_rules.depot m eui psk)
  pub rekeys : (index : ℕ) (key : Key) → WritesInPlace m.station m.book (coordinator_rules.rekey m index key)
  pub seals_with : (index : ℕ) → WritesInPlace m.station m.book (coordinator_rules.activate_self m index)
  pub challenges : (eui : Eui) (now : ℕ)
      → WritesInPlace m.station m.book (coordinator_rules.challenge own.eui m eui now)
  pub activates : (eui : Eui) (index now : ℕ)
      → WritesInPlace m.station m.book (coordinator_rules.activate m eui index now)
  pub kicks : (eui : Eui) → WritesInPlace m.station m.book (coordinator_rules.kick m eui)

-- each plan of a station, of a meter and of the coordinator writes in place
abbrev pub StationsWriteInPlace : Type 0
StationsWriteInPlace = (l : StationMemory) (b : book.Book) → HasShortTables l → StationWritesInPlace l b

-- the same of a meter
abbrev pub MetersWriteInPlace : Type 0
MetersWriteInPlace = (x : meters.Identity) (m : Memory) → HasShortTables m.station → MeterWritesInPlace x m

-- the same of the coordinator
abbrev pub CoordinatorsWriteInPlace : Type 0
CoordinatorsWriteInPlace =
    (own : coordinator_rules.CoordinatorIdentity) (m : Memory) → HasShortTables m.station
    → CoordinatorWritesInPlace own m

-- # Tables without gaps

-- what is said of the coordinator alone
abbrev pub OfCoordinator : Role → Type 0 → Type 0
OfCoordinator Coordinator A = A
OfCoordinator (Meter psk) A = ⊤

-- No table of a store has a record after its first empty slot. A meter has no book.
pub record HasGaplessTables (role : Role) (records : Records) : Type 0 where
  pub marks : slots.IsGapless marks.peers records
  pub ranks : slots.IsGapless routing.ranks records
  pub entries : OfCoordinator role (slots.IsGapless book.entries records)

-- What is held of the tables is what the records give.
pub record HoldsTables (role : Role) (l : StationMemory) (b : book.Book) (records : Records) : Type 0 where
  pub marks : marks.AgreesWith l.marks records
  pub ranks : slots.IsStored routing.ranks l.routing.entries records
  pub entries : OfCoordinator role (book.AgreesWith b records)

-- no table gets a gap where writes in place are made, whichever of them fails
abbrev pub WritesKeepTables : Type 0
WritesKeepTables =
    (role : Role) (l : StationMemory) (b : book.Book) (old : Store) (puts : List Write) (done : Bool) (new : Store)
    → HoldsTables role l b old.records → ArePlaced l b puts → Wrote old puts done new
    → HasGaplessTables role new.records

-- nor where a plan that writes in place is carried out
abbrev pub CarryingOutKeepsTables : Type 0 → Type 0 → Type 0
CarryingOutKeepsTables M A =
    (role : Role) (l : StationMemory) (b : book.Book) (records : Records) (cut : Option Cut) (p : Plan M A)
    → HoldsTables role l b records → WritesInPlace l b p → HasGaplessTables role (carry_out records cut p).records
