-- How a coordinator begins over what its keeper holds.
use Rattle.std.specs.Prelude.{◌≡◌, ◌⊎◌, ⊤, Some, None, Result, Ok, Err}
use Rattle.std.specs.FinMap.{get}
use Rattle.plc_base.specs.Keeper.{Records, Store}
use Rattle.plc_base.specs.declared.address.Eui.{Eui}
use Rattle.plc_base.specs.declared.key.Key.{Key}
use Rattle.node_rules.specs.declared.refusal.RingRefusal.{RingRefusal}
use Rattle.node_rules.specs.declared.refusal.RingRefusal.TheVariants as rings
use Rattle.group_keys.specs.KeyBook.{Book}
use Rattle.plc_base.specs.declared.keeper.BadStore.{BadStore}
use Rattle.group_keys.specs.KeyRing.{ring_at, ring_slot}
use Rattle.node_rules.specs.Memory.{Memory, Coordinator}
use Rattle.node_rules.specs.RestartStates.{memory_of, first_grant}
use Rattle.node_rules.specs.Coordinators.{begin}
use Rattle.node_rules.specs.States.{State}
use Rattle.node_rules.specs.CarriedPlans.{Carries, nothing}
use Rattle.plc_station.specs.declared.station.OpenFault.{OpenFault}
use Rattle.plc_station.specs.declared.station.OpenFault.TheVariants as faults
use Rattle.coordinator.specs.CoordinatorAgreement.{HasCoordinatorAddress}

-- the coordinator with what its store gives, before it has a ring
abbrev pub read_state : Store → Eui → Memory → State Memory
read_state store eui m = record { store = store; eui = eui; memory = Some m; replied = None }

-- the coordinator whose first ring was not stored
abbrev pub halted_state : Store → Eui → State Memory
halted_state store eui = record { store = store; eui = eui; memory = None; replied = None }

-- The store was read, and where it holds no ring, one with the address 0000 and this key, active at index 0, was installed, or
-- was not: the answer says which.
pub record Begins (store : Store) (eui : Eui) (key : Key) (answer : Result (Unit {0}) RingRefusal)
    (new : State Memory) : Type 0 where
  pub memory : Memory
  pub read : memory_of Coordinator store.records ≡ Ok memory
  pub carries : Carries (read_state store eui memory) (begin memory (first_grant key)) answer nothing new

-- The fault says why: there was no memory, a record has no reading, or the put of the first ring failed. Only that put can have
-- changed the store.
abbrev pub IsOpenFault : Store → Eui → Key → OpenFault → Store → Type 0
IsOpenFault store eui key faults.Memory left = left ≡ store
IsOpenFault store eui key (faults.BadStore bad) left =
    (memory_of Coordinator store.records ≡ Err bad) × (left ≡ store)
IsOpenFault store eui key faults.Store left = Begins store eui key (Err rings.Store) (halted_state left eui)

-- the fault of the book says why: there was no memory, or one of its records has no reading
abbrev pub IsBookFault : Result Book BadStore → OpenFault → Type 0
IsBookFault read faults.Memory = ⊤
IsBookFault read (faults.BadStore bad) = read ≡ Err bad
IsBookFault read faults.Store = ⊥

-- the records hold no ring, or one with the address 0000
abbrev pub MayBegin : Records → Type 0
MayBegin records = (ring_at (get records ring_slot) ≡ Some None) ⊎ HasCoordinatorAddress records
