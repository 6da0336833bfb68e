-- What the coordinator holds as stored against what the records of its keeper give.
use Rattle.std.specs.Prelude.{◌≡◌, Some, IfSome, IsSome}
use Rattle.std.specs.Option.{option_map, option_and_then}
use Rattle.std.specs.FinMap.{get}
use Rattle.plc_base.specs.Keeper.{Records}
use Rattle.plc_base.specs.Grant.{Granted}
use Rattle.plc_base.specs.declared.out_frame.Out.{Out}
use Rattle.group_keys.specs.KeyRing.{ring_at, ring_slot}
use Rattle.group_keys.specs.KeyBook as book
use Rattle.node_rules.specs.Memory.{Memory, address_of}
use Rattle.node_rules.specs.Agreement.{AgreesWith}
use Rattle.node_rules.specs.States.{State}
use Rattle.node_rules.specs.CarriedPlans.{nothing}

-- What its station and its book hold as stored is what the records give, and its address is 0000.
pub record CoordinatorAgreesWith (m : Memory) (records : Records) : Type 0 where
  pub station : AgreesWith m.station records
  pub book : book.AgreesWith m.book records
  pub home : address_of m.station ≡ Some 0

-- the same of the coordinator, unless it is halted
abbrev pub CoordinatorAgrees : State Memory → Type 0
CoordinatorAgrees s = IfSome s.memory (λ m. CoordinatorAgreesWith m s.store.records)

-- It is not halted, and holds what its store gives.
pub record CoordinatorReady (s : State Memory) : Type 0 where
  pub running : IsSome s.memory
  pub holds : CoordinatorAgrees s

-- The same in a call that has given out nothing yet.
pub record CoordinatorReadyToAnswer (s : State Memory) (out : Out) : Type 0 where
  pub running : IsSome s.memory
  pub holds : CoordinatorAgrees s
  pub empty : out ≡ nothing

-- the records hold a ring with address 0000
abbrev pub HasCoordinatorAddress : Records → Type 0
HasCoordinatorAddress records = option_and_then (option_map (λ (g : Granted). g.address)) (ring_at (get records ring_slot)) ≡ Some 0
