-- What agreement owes to the part that put.
use Rattle.std.proofs.Common.{ℕ, inl, inr, ap, ◌∙◌, arith}
use Rattle.plc_base.specs.Keeper.{Records, SameOutside}
use Rattle.store_tables.proofs.SlotTables.{stored_elsewhere}
use Rattle.frame_counters.specs.PeerMarks.{peers}
use Rattle.frame_counters.specs.SendCounter as counter
use Rattle.fragment_buffers.specs.NextTag as next_tag
use Rattle.group_keys.specs.KeyRing.{ring_at, Ring}
use Rattle.group_keys.specs.KeyRing as ring
use Rattle.routing_set.specs.RoutingSet as routing
use Rattle.routing_set.specs.OwnNumber as own_number
use Rattle.routing_set.proofs.Beside.{kept_elsewhere as routing_elsewhere, stored_beside}
use Rattle.node_rules.specs.Memory.{StationMemory}
use Rattle.node_rules.specs.RestartStates.{tag_in}
use Rattle.station_queues.specs.Bodies.{Held}
use Rattle.plc_station.specs.StationViews.{station_in}
use Rattle.node_rules.specs.Agreement.{AgreesWith}
use Rattle.plc_station.specs.declared.parts.Parts.{Parts}

pub agrees_counted : (l : StationMemory) (x : counter.Counting) (old new : Records) → AgreesWith l old → counter.AgreesWith x new → SameOutside 2 2 old new
    → AgreesWith (record l { counter = x }) new
agrees_counted l x old new a kept same = record {
  ring = record { stored = ap ring_at (same 1 (inl (omega arith))) ∙ a.ring.stored };
  counter = kept;
  marks = stored_elsewhere peers l.marks old new 2 2 a.marks same (inl (omega arith));
  routing = routing_elsewhere l.routing old new 2 2 a.routing same (inl (omega arith)) (inl (omega arith));
  own_number = record { limit = ap own_number.limit_in (same 3 (inr (omega arith))) ∙ a.own_number.limit; below = a.own_number.below };
  tag = ap tag_in (same 4 (inr (omega arith))) ∙ a.tag;
}

pub agrees_numbered : (l : StationMemory) (x : own_number.Numbering) (old new : Records) → AgreesWith l old → own_number.AgreesWith x new
    → SameOutside 3 3 old new
    → AgreesWith (record l { own_number = x }) new
agrees_numbered l x old new a kept same = record {
  ring = record { stored = ap ring_at (same 1 (inl (omega arith))) ∙ a.ring.stored };
  counter = record { limit = ap counter.limit_in (same 2 (inl (omega arith))) ∙ a.counter.limit; below = a.counter.below };
  marks = stored_elsewhere peers l.marks old new 3 3 a.marks same (inl (omega arith));
  routing = routing_elsewhere l.routing old new 3 3 a.routing same (inl (omega arith)) (inl (omega arith));
  own_number = kept;
  tag = ap tag_in (same 4 (inr (omega arith))) ∙ a.tag;
}

pub agrees_tagged : (l : StationMemory) (x : ℕ) (old new : Records) → AgreesWith l old → next_tag.AgreesWith x new → SameOutside 4 4 old new
    → AgreesWith (record l { next_tag = x }) new
agrees_tagged l x old new a kept same = record {
  ring = record { stored = ap ring_at (same 1 (inl (omega arith))) ∙ a.ring.stored };
  counter = record { limit = ap counter.limit_in (same 2 (inl (omega arith))) ∙ a.counter.limit; below = a.counter.below };
  marks = stored_elsewhere peers l.marks old new 4 4 a.marks same (inl (omega arith));
  routing = routing_elsewhere l.routing old new 4 4 a.routing same (inl (omega arith)) (inl (omega arith));
  own_number = record { limit = ap own_number.limit_in (same 3 (inl (omega arith))) ∙ a.own_number.limit; below = a.own_number.below };
  tag = kept;
}

pub agrees_ranked : (l : StationMemory) (x : routing.Routing) (old new : Records) → AgreesWith l old → routing.AgreesWith x new → routing.SameElsewhere old new
    → AgreesWith (record l { routing = x }) new
agrees_ranked l x old new a kept same = record {
  ring = record { stored = ap ring_at (same 1 (omega arith) (inl (omega arith))) ∙ a.ring.stored };
  counter = record { limit = ap counter.limit_in (same 2 (omega arith) (inl (omega arith))) ∙ a.counter.limit; below = a.counter.below };
  marks = stored_beside peers l.marks old new a.marks same (omega arith) (inl (omega arith));
  routing = kept;
  own_number = record { limit = ap own_number.limit_in (same 3 (omega arith) (inl (omega arith))) ∙ a.own_number.limit; below = a.own_number.below };
  tag = ap tag_in (same 4 (omega arith) (inl (omega arith))) ∙ a.tag;
}

-- bodies are not stored
pub agrees_holding : (p : Parts) (h k : Held) (records : Records) → AgreesWith (station_in p h) records → AgreesWith (station_in p k) records
agrees_holding p h k records a = record { ring = a.ring; counter = a.counter; marks = a.marks; routing = a.routing; own_number = a.own_number; tag = a.tag }

-- routes that end are not stored
pub agrees_routed : (l : StationMemory) (r : routing.Routing) (records : Records) → AgreesWith l records
    → ((k : Records) → routing.AgreesWith l.routing k → routing.AgreesWith r k) → AgreesWith (record l { routing = r }) records
agrees_routed l r records a keeps =
    record { ring = a.ring; counter = a.counter; marks = a.marks; routing = keeps records a.routing; own_number = a.own_number; tag = a.tag }

pub agrees_ringed : (l : StationMemory) (x : Ring) (old new : Records) → AgreesWith l old → ring.AgreesWith x new → SameOutside 1 1 old new
    → AgreesWith (record l { ring = x }) new
agrees_ringed l x old new a kept same = record {
  ring = kept;
  counter = record { limit = ap counter.limit_in (same 2 (inr (omega arith))) ∙ a.counter.limit; below = a.counter.below };
  marks = stored_elsewhere peers l.marks old new 1 1 a.marks same (inl (omega arith));
  routing = routing_elsewhere l.routing old new 1 1 a.routing same (inl (omega arith)) (inl (omega arith));
  own_number = record { limit = ap own_number.limit_in (same 3 (inr (omega arith))) ∙ a.own_number.limit; below = a.own_number.below };
  tag = ap tag_in (same 4 (inr (omega arith))) ∙ a.tag;
}
