-- The coordinator's home: whatever becomes of its writes, the ring that a restart finds is one of the address 0.
use Rattle.std.specs.Prelude.{◌≡◌, ◌≢◌, ℕ, Bool, List, All, IfSome, Option}
use Rattle.std.specs.FinMap.{get}
use Rattle.plc_base.specs.declared.address.Eui.{Eui}
use Rattle.plc_base.specs.declared.key.Key.{Key}
use Rattle.plc_base.specs.declared.keeper.Cut.{Cut}
use Rattle.plc_base.specs.Grant.{Granted}
use Rattle.plc_base.specs.Keeper.{Records, Store, Write}
use Rattle.store_tables.specs.Writes.{Wrote}
use Rattle.group_keys.specs.KeyRing as ring
use Rattle.node_rules.specs.Accepted.{Accepted}
use Rattle.node_rules.specs.Frames.{Arrived}
use Rattle.node_rules.specs.Memory.{Memory}
use Rattle.node_rules.specs.Plans.{Plan, carry_out}
use Rattle.node_rules.specs.Acceptance as acceptance
use Rattle.node_rules.specs.HearingRules as hearing_rules
use Rattle.node_rules.specs.Calls as calls
use Rattle.node_rules.specs.Neighbours as neighbours
use Rattle.node_rules.specs.Coordinators as coordinator_rules

-- a ring, if there is one, has the address 0
abbrev pub IsCoordinatorAddress : ring.Ring → Type 0
IsCoordinatorAddress r = IfSome r (λ (g : Granted). g.address ≡ 0)

-- where slot 1 reads as a ring, that ring has the address 0
abbrev pub ReadsHome : Records → Type 0
ReadsHome records = IfSome (ring.ring_at (get records ring.ring_slot)) IsCoordinatorAddress

-- where a write to slot 1 reads as a ring, that ring has the address 0
abbrev pub PutsHome : Write → Type 0
PutsHome w = w.slot ≡ ring.ring_slot → IfSome (ring.ring_in w.octets) IsCoordinatorAddress

-- so it is of the writes of a plan
abbrev pub WritesHome : {M A : Type 0} → Plan M A → Type 0
WritesHome p = All PutsHome p.puts

-- What the coordinator does.
pub record CoordinatorWritesHome (own : coordinator_rules.CoordinatorIdentity) (m : Memory) : Type 0 where
  pub accepts : (a : Option Arrived) → WritesHome (acceptance.accept m.station own.eui a)
  pub hears : (got : Accepted) (cost note now : ℕ) → WritesHome (coordinator_rules.hear_coordinator own m got cost note now)
  pub station_hears : (got : Accepted) (cost note now : ℕ) → WritesHome (hearing_rules.hear m.station got cost note now)
  pub sends : (to : ℕ) (octets : List ℕ) (note now : ℕ) → WritesHome (calls.send m.station to octets note now)
  pub commands : (to : ℕ) (octets : List ℕ) (now : ℕ) → WritesHome (calls.send_command m.station to octets now)
  pub sends_local : (code : ℕ) (to : Option ℕ) (body : List ℕ) → WritesHome (neighbours.send_local m.station code to body)
  pub counter : (value : ℕ) → WritesHome (calls.preset_counter m.station value)
  pub number : (value : ℕ) → WritesHome (calls.preset_number m.station value)
  pub near : (to cost now : ℕ) → WritesHome (calls.preset_near m.station to cost now)
  pub begins : (granted : Granted) → granted.address ≡ 0 → WritesHome (coordinator_rules.begin m granted)
  pub allows : (eui : Eui) (psk : Key) → WritesHome (coordinator_rules.allow m eui psk)
  pub depots : (eui : Eui) (psk : Key) → WritesHome (coordinator_rules.depot m eui psk)
  pub rekeys : (index : ℕ) (key : Key) → WritesHome (coordinator_rules.rekey m index key)
  pub seals_with : (index : ℕ) → WritesHome (coordinator_rules.activate_self m index)
  pub challenges : (eui : Eui) (now : ℕ) → WritesHome (coordinator_rules.challenge own.eui m eui now)
  pub activates : (eui : Eui) (index now : ℕ) → WritesHome (coordinator_rules.activate m eui index now)
  pub kicks : (eui : Eui) → WritesHome (coordinator_rules.kick m eui)

-- a coordinator with the address 0, or with no ring yet, puts no ring of another address
abbrev pub CoordinatorsWriteHome : Type 0
CoordinatorsWriteHome =
    (own : coordinator_rules.CoordinatorIdentity) (m : Memory) → IsCoordinatorAddress m.station.ring → CoordinatorWritesHome own m

-- such writes leave slot 1 so, whichever of them fails
abbrev pub WritesKeepHome : Type 0
WritesKeepHome =
    (old : Store) (puts : List Write) (done : Bool) (new : Store) → ReadsHome old.records → All PutsHome puts
    → Wrote old puts done new → ReadsHome new.records

-- and so does a plan that makes them
abbrev pub CarryingOutKeepsHome : Type 0 → Type 0 → Type 0
CarryingOutKeepsHome M A =
    (records : Records) (cut : Option Cut) (p : Plan M A) → ReadsHome records → WritesHome p
    → ReadsHome (carry_out records cut p).records

-- # No ring

-- a write to another slot than the ring's
abbrev pub PutsNoRing : Write → Type 0
PutsNoRing w = w.slot ≢ ring.ring_slot

-- all writes of a plan are so
abbrev pub WritesNoRing : {M A : Type 0} → Plan M A → Type 0
WritesNoRing p = All PutsNoRing p.puts

-- What the coordinator does that is not about its ring.
pub record WritesNoRingAt (own : coordinator_rules.CoordinatorIdentity) (m : Memory) : Type 0 where
  pub hears : (got : Accepted) (cost note now : ℕ)
      → WritesNoRing (coordinator_rules.hear_coordinator own m got cost note now)
  pub allows : (eui : Eui) (psk : Key) → WritesNoRing (coordinator_rules.allow m eui psk)
  pub depots : (eui : Eui) (psk : Key) → WritesNoRing (coordinator_rules.depot m eui psk)
  pub challenges : (eui : Eui) (now : ℕ) → WritesNoRing (coordinator_rules.challenge own.eui m eui now)
  pub activates : (eui : Eui) (index now : ℕ) → WritesNoRing (coordinator_rules.activate m eui index now)
  pub kicks : (eui : Eui) → WritesNoRing (coordinator_rules.kick m eui)

-- what it hears and what it is ordered but for its own keys writes no ring
abbrev pub CoordinatorsWriteNoRing : Type 0
CoordinatorsWriteNoRing = (own : coordinator_rules.CoordinatorIdentity) (m : Memory) → WritesNoRingAt own m

-- such writes leave the record of the ring as it was, whichever of them fails
abbrev pub WritesKeepRing : Type 0
WritesKeepRing =
    (old : Store) (puts : List Write) (done : Bool) (new : Store) → All PutsNoRing puts → Wrote old puts done new
    → get new.records ring.ring_slot ≡ get old.records ring.ring_slot
