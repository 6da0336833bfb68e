-- What agreement owes to a put of the book.
use Rattle.std.proofs.Common.{inl, inr, ap, ◌∙◌, arith}
use Rattle.plc_base.specs.Keeper.{Records, SameOutside}
use Rattle.store_tables.proofs.SlotTables.{stored_elsewhere}
use Rattle.frame_counters.specs.PeerMarks.{peers}
use Rattle.frame_counters.specs.SendCounter as counter
use Rattle.group_keys.specs.KeyRing.{ring_at}
use Rattle.routing_set.specs.OwnNumber as own_number
use Rattle.routing_set.proofs.Beside.{kept_elsewhere as routing_elsewhere}
use Rattle.node_rules.specs.Memory.{StationMemory}
use Rattle.node_rules.specs.RestartStates.{tag_in}
use Rattle.node_rules.specs.Agreement.{AgreesWith}

-- no part of a station reads a slot of the book
pub agrees_booked : (l : StationMemory) (old new : Records) → AgreesWith l old → SameOutside 0x1000 0x13E6 old new → AgreesWith l new
agrees_booked l old new a same = record {
  ring = record { stored = ap ring_at (same 1 (inl (omega arith))) ∙ a.ring.stored };
  counter = record { limit = ap counter.limit_in (same 2 (inl (omega arith))) ∙ a.counter.limit; below = a.counter.below };
  marks = stored_elsewhere peers l.marks old new 0x1000 0x13E6 a.marks same (inr (omega arith));
  routing = routing_elsewhere l.routing old new 0x1000 0x13E6 a.routing same (inr (omega arith)) (inr (omega arith));
  own_number = record { limit = ap own_number.limit_in (same 3 (inl (omega arith))) ∙ a.own_number.limit; below = a.own_number.below };
  tag = ap tag_in (same 4 (inl (omega arith))) ∙ a.tag;
}
