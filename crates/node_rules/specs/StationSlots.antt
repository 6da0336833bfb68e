-- The slots that a station writes by itself: whatever it hears and sends, it writes neither its ring nor an entry of the book.
use Rattle.std.specs.Prelude.{◌≡◌, ◌≢◌, ℕ, ◌<◌, ◌≤◌, Bool, List, All, Option}
use Rattle.std.specs.FinMap.{get}
use Rattle.plc_base.specs.declared.address.Eui.{Eui}
use Rattle.plc_base.specs.Keeper.{Records, Store, Write}
use Rattle.store_tables.specs.Writes.{Wrote}
use Rattle.group_keys.specs.KeyRing.{ring_slot}
use Rattle.group_keys.specs.KeyBook as book
use Rattle.node_rules.specs.Accepted.{Accepted}
use Rattle.node_rules.specs.Frames.{Arrived}
use Rattle.node_rules.specs.Memory.{StationMemory}
use Rattle.node_rules.specs.Plans.{Plan}
use Rattle.node_rules.specs.Acceptance as acceptance
use Rattle.node_rules.specs.HearingRules as hearing_rules
use Rattle.node_rules.specs.Calls as calls
use Rattle.node_rules.specs.Neighbours as neighbours
use Rattle.node_rules.specs.Tables.{HasShortTables}

-- A write to neither the slot of the ring nor one of the book, whose slots come last.
pub record IsOfStation (w : Write) : Type 0 where
  pub ring : w.slot ≢ ring_slot
  pub entry : w.slot < book.entries.first

-- all writes of a plan are so
abbrev pub WritesOfStation : {M A : Type 0} → Plan M A → Type 0
WritesOfStation p = All IsOfStation p.puts

-- What a station does that is not about its ring.
pub record WritesItsOwn (l : StationMemory) : Type 0 where
  pub accepts : (own : Eui) (a : Option Arrived) → WritesOfStation (acceptance.accept l own a)
  pub hears : (got : Accepted) (cost note now : ℕ) → WritesOfStation (hearing_rules.hear l got cost note now)
  pub sends : (to : ℕ) (octets : List ℕ) (note now : ℕ) → WritesOfStation (calls.send l to octets note now)
  pub commands : (to : ℕ) (octets : List ℕ) (now : ℕ) → WritesOfStation (calls.send_command l to octets now)
  pub sends_local : (code : ℕ) (to : Option ℕ) (body : List ℕ) → WritesOfStation (neighbours.send_local l code to body)
  pub counter : (value : ℕ) → WritesOfStation (calls.preset_counter l value)
  pub number : (value : ℕ) → WritesOfStation (calls.preset_number l value)
  pub near : (to cost now : ℕ) → WritesOfStation (calls.preset_near l to cost now)

-- a station whose tables are within their sizes writes neither its ring nor the book
abbrev pub StationsWriteTheirOwn : Type 0
StationsWriteTheirOwn = (l : StationMemory) → HasShortTables l → WritesItsOwn l

-- The ring and the entries of the book are as they were.
pub record SameMembership (old new : Records) : Type 0 where
  pub ring : get new ring_slot ≡ get old ring_slot
  pub entries : (slot : ℕ) → book.entries.first ≤ slot → get new slot ≡ get old slot

-- such writes leave the ring and the book as they were, whichever of them fails
abbrev pub WritesKeepMembership : Type 0
WritesKeepMembership =
    (old : Store) (puts : List Write) (done : Bool) (new : Store) → All IsOfStation puts → Wrote old puts done new
    → SameMembership old.records new.records
