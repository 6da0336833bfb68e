-- What a station holds as stored against what the records of its keeper give.
use Rattle.std.specs.Prelude.{◌≡◌, Ok, IfSome}
use Rattle.std.specs.FinMap.{get}
use Rattle.plc_base.specs.Keeper.{Records}
use Rattle.frame_counters.specs.SendCounter as counter
use Rattle.frame_counters.specs.PeerMarks as marks
use Rattle.group_keys.specs.KeyRing as ring
use Rattle.routing_set.specs.RoutingSet as routing
use Rattle.routing_set.specs.OwnNumber as own_number
use Rattle.node_rules.specs.Memory.{StationMemory}
use Rattle.node_rules.specs.RestartStates.{tag_in}
use Rattle.node_rules.specs.Drafts.{tag_slot}
use Rattle.node_rules.specs.States.{State}

-- What a station holds as stored is what the records give, and no table has a record after its first empty slot.
pub record AgreesWith (l : StationMemory) (records : Records) : Type 0 where
  pub ring : ring.AgreesWith l.ring records
  pub counter : counter.AgreesWith l.counter records
  pub marks : marks.AgreesWith l.marks records
  pub routing : routing.AgreesWith l.routing records
  pub own_number : own_number.AgreesWith l.own_number records
  pub tag : tag_in (get records tag_slot) ≡ Ok l.next_tag

-- the same of a station, unless it is halted
abbrev pub Agrees : State StationMemory → Type 0
Agrees s = IfSome s.memory (λ l. AgreesWith l s.store.records)
