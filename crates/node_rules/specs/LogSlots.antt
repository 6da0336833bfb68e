-- The slots of the log of broadcasts: no plan of a station, a meter or the coordinator writes one. What is stored there is written by the
-- rules of further reach alone.
use Rattle.std.specs.Prelude.{◌≡◌, ◌≢◌, ◌⊎◌, ℕ, ◌<◌, ◌≤◌, List, All, Option}
use Rattle.std.specs.FinMap.{get}
use Rattle.plc_base.specs.declared.address.Eui.{Eui}
use Rattle.plc_base.specs.declared.key.Key.{Key}
use Rattle.plc_base.specs.declared.key.RandomOctets.{RandomOctets}
use Rattle.plc_base.specs.declared.keeper.Cut.{Cut}
use Rattle.plc_base.specs.Grant.{Granted}
use Rattle.plc_base.specs.Keeper.{Records, Write}
use Rattle.node_rules.specs.Accepted.{Accepted}
use Rattle.node_rules.specs.Frames.{Arrived}
use Rattle.node_rules.specs.Memory.{StationMemory, Memory}
use Rattle.node_rules.specs.Plans.{Plan, carry_out}
use Rattle.node_rules.specs.Acceptance as acceptance
use Rattle.node_rules.specs.HearingRules as hearing_rules
use Rattle.node_rules.specs.Calls as calls
use Rattle.node_rules.specs.Neighbours as neighbours
use Rattle.node_rules.specs.MemoryDrafts as drafts
use Rattle.node_rules.specs.Meters as meters
use Rattle.node_rules.specs.Coordinators as coordinator_rules
use Rattle.node_rules.specs.Tables.{HasShortTables}

-- a slot of the log: that of its numbers' limit, or of the mark of an origin
abbrev pub IsLogSlot : ℕ → Type 0
IsLogSlot slot = (slot ≡ 6) ⊎ ((0x0300 ≤ slot) × (slot < 0x0320))

-- A write to none of them.
pub record IsBesideLog (w : Write) : Type 0 where
  pub limit : w.slot ≢ 6
  pub marks : (w.slot < 0x0300) ⊎ (0x0320 ≤ w.slot)

-- all writes of a plan are so
abbrev pub LeavesLog : {M A : Type 0} → Plan M A → Type 0
LeavesLog p = All IsBesideLog p.puts

-- What a station does.
pub record StationLeavesLog (l : StationMemory) : Type 0 where
  pub accepts : (own : Eui) (a : Option Arrived) → LeavesLog (acceptance.accept l own a)
  pub hears : (got : Accepted) (cost note now : ℕ) → LeavesLog (hearing_rules.hear l got cost note now)
  pub sends : (to : ℕ) (octets : List ℕ) (note now : ℕ) → LeavesLog (calls.send l to octets note now)
  pub commands : (to : ℕ) (octets : List ℕ) (now : ℕ) → LeavesLog (calls.send_command l to octets now)
  pub sends_local : (code : ℕ) (to : Option ℕ) (body : List ℕ) → LeavesLog (neighbours.send_local l code to body)
  pub counter : (value : ℕ) → LeavesLog (calls.preset_counter l value)
  pub number : (value : ℕ) → LeavesLog (calls.preset_number l value)
  pub near : (to cost now : ℕ) → LeavesLog (calls.preset_near l to cost now)
  pub installs : (granted : Granted) → LeavesLog (calls.install l granted)
  pub puts_key : (index : ℕ) (key : Key) → LeavesLog (calls.put_key l index key)
  pub activates : (index : ℕ) → LeavesLog (calls.activate l index)
  pub leaves : LeavesLog (calls.leave l)

-- What a meter does beside its station.
pub record MeterLeavesLog (x : meters.Identity) (m : Memory) : Type 0 where
  pub hears : (got : Accepted) (cost note now : ℕ)
      → LeavesLog (meters.hear_meter x m got cost note now)
  pub joins : (agent now : ℕ) → LeavesLog (meters.join x m agent now)
  pub leaves : LeavesLog (meters.leave m)
  pub provisions : (granted : Granted) → LeavesLog (meters.provision m granted)
  pub takes_random : (value : RandomOctets) → LeavesLog (drafts.give_random m value)

-- What the coordinator does beside its station.
pub record CoordinatorLeavesLog (own : coordinator_rules.CoordinatorIdentity) (m : Memory) : Type 0 where
  pub hears : (got : Accepted) (cost note now : ℕ)
      → LeavesLog (coordinator_rules.hear_coordinator own m got cost note now)
  pub begins : (granted : Granted) → LeavesLog (coordinator_rules.begin m granted)
  pub allows : (eui : Eui) (psk : Key) → LeavesLog (coordinator_rules.allow m eui psk)
  pub depots : (eui : Eui) (psk : Key) → LeavesLog (coordinator_rules.depot m eui psk)
  pub rekeys : (index : ℕ) (key : Key) → LeavesLog (coordinator_rules.rekey m index key)
  pub seals_with : (index : ℕ) → LeavesLog (coordinator_rules.activate_self m index)
  pub challenges : (eui : Eui) (now : ℕ)
      → LeavesLog (coordinator_rules.challenge own.eui m eui now)
  pub activates : (eui : Eui) (index now : ℕ)
      → LeavesLog (coordinator_rules.activate m eui index now)
  pub kicks : (eui : Eui) → LeavesLog (coordinator_rules.kick m eui)

-- each plan of a station, of a meter and of the coordinator leaves the log
abbrev pub StationsLeaveLog : Type 0
StationsLeaveLog = (l : StationMemory) → HasShortTables l → StationLeavesLog l

abbrev pub MetersLeaveLog : Type 0
MetersLeaveLog = (x : meters.Identity) (m : Memory) → HasShortTables m.station → MeterLeavesLog x m

abbrev pub CoordinatorsLeaveLog : Type 0
CoordinatorsLeaveLog =
    (own : coordinator_rules.CoordinatorIdentity) (m : Memory) → HasShortTables m.station → CoordinatorLeavesLog own m

-- what stands at these slots is as it was
abbrev pub SameLog : Records → Records → Type 0
SameLog old new = (slot : ℕ) → IsLogSlot slot → get new slot ≡ get old slot

-- such a plan leaves it so, whichever of its writes fails
abbrev pub CarryingOutLeavesLog : Type 0 → Type 0 → Type 0
CarryingOutLeavesLog M A =
    (records : Records) (cut : Option Cut) (p : Plan M A) → LeavesLog p → SameLog records (carry_out records cut p).records
