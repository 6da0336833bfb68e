-- What each word of a line stores is what it leaves in memory.
use Rattle.std.proofs.Common.{◌≡◌, ◌≢◌, inl, ℕ, ◌+◌, ◌<◌, ◌≤◌, ◌^◌, Bool, true, false, [], ◌∷◌, Some, None, Ok, refl, ap, ◌∙◌, arith}
use Rattle.std.specs.Prelude.{if◌then◌else◌, IfSome}
use Rattle.std.specs.FinMap.{get, insert}
use Rattle.std.proofs.lemmas.Bool.{ltb-false, eqb-false}
use Rattle.byteorder.specs.Endian.{big_bytes}
use Rattle.plc_base.specs.Keeper.{Records}
use Rattle.store_tables.specs.Writes.{puts_of}
use Rattle.store_tables.proofs.StoreLemmas.{get-insert_same}
use Rattle.frame_counters.specs.SendCounter as counter
use Rattle.frame_counters.proofs.Limits as counter_limits
use Rattle.group_keys.specs.KeyRing as ring
use Rattle.group_keys.proofs.Rings.{ring_in-ring_octets}
use Rattle.routing_set.specs.OwnNumber as own_number
use Rattle.routing_set.proofs.Limits as number_limits
use Rattle.node_rules.specs.Memory.{StationMemory}
use Rattle.node_rules.specs.Drafts.{tag_slot, tag_after, numbers_spent}
use Rattle.node_rules.specs.RestartStates.{tag_in}
use Rattle.store_tables.specs.NumberSlots.{read_result}
use Rattle.store_tables.proofs.NumberSlots.{stored-insert}
use Rattle.fragment_buffers.specs.NextTag.{tag_at}
use Rattle.line_laws.specs.Stores.{IsReadable, IsStationKept}
use Rattle.line_laws.proofs.KeptMemory.{Leads}
use Rattle.line_laws.proofs.Beside.{Lasts, With, low_one, low_beside}
use Rattle.line_laws.proofs.Slots.{ring_stays, counter_stays, number_stays, tag_stays, routing_stays, marks_stay}
use Rattle.frame_counters.specs.declared.send_counter.TheConstants.{COUNTERS_AHEAD}

-- # The ring

ring_reads : (x : ring.Ring) → IfSome x IsReadable → ring.ring_in (ring.ring_octets x) ≡ Some x
ring_reads None h = refl
ring_reads (Some g) h = ring_in-ring_octets g h.grant h.address h.key0.0 h.key1.0

pub ring_kept : (l : StationMemory) (r : Records) (x : ring.Ring) → IsStationKept l r → IfSome x IsReadable
    → IsStationKept (record l { ring = x }) (insert r 1 (ring.ring_octets x))
ring_kept l r x k h = record {
  range = record {
    ring = h;
    counter = k.range.counter;
    number = k.range.number;
    tag = k.range.tag;
    routing = k.range.routing;
    floors = k.range.floors;
    ranks = k.range.ranks;
    marks = k.range.marks;
  };
  ring = record { stored = ap ring.ring_at (get-insert_same r 1 1 (ring.ring_octets x) refl) ∙ ring_reads x h };
  counter = counter_stays r 1 _ l.counter k.counter (omega arith);
  number = number_stays r 1 _ l.own_number k.number (omega arith);
  tag = tag_stays r 1 _ l.next_tag k.tag (omega arith);
  routing = routing_stays r 1 _ l.routing k.routing (omega arith) (inl (omega arith));
  marks = marks_stay r 1 _ l.marks k.marks (inl (omega arith));
}

-- # The counter

pub limit_kept : (l : StationMemory) (r : Records) (c : counter.Counting) → IsStationKept l r → c.limit < 2 ^ 32 → c.next ≤ c.limit
    → IsStationKept (record l { counter = c }) (insert r 2 (big_bytes 4 c.limit))
limit_kept l r c k fits below = record {
  range = record {
    ring = k.range.ring;
    counter = fits;
    number = k.range.number;
    tag = k.range.tag;
    routing = k.range.routing;
    floors = k.range.floors;
    ranks = k.range.ranks;
    marks = k.range.marks;
  };
  ring = ring_stays r 2 _ l.ring k.ring (omega arith);
  counter = record { limit = counter_limits.limit_in-insert r c.limit fits; below = below };
  number = number_stays r 2 _ l.own_number k.number (omega arith);
  tag = tag_stays r 2 _ l.next_tag k.tag (omega arith);
  routing = routing_stays r 2 _ l.routing k.routing (omega arith) (inl (omega arith));
  marks = marks_stay r 2 _ l.marks k.marks (inl (omega arith));
}

next_kept : (l : StationMemory) (r : Records) (next : ℕ) → IsStationKept l r → next ≤ l.counter.limit
    → IsStationKept (record l { counter = record l.counter { next = next } }) r
next_kept l r next k below = record {
  range = record {
    ring = k.range.ring;
    counter = k.range.counter;
    number = k.range.number;
    tag = k.range.tag;
    routing = k.range.routing;
    floors = k.range.floors;
    ranks = k.range.ranks;
    marks = k.range.marks;
  };
  ring = k.ring;
  counter = record { limit = k.counter.limit; below = below };
  number = k.number;
  tag = k.tag;
  routing = k.routing;
  marks = k.marks;
}

pub counter_leads : (B : Records → Type 0) (lasts : Lasts B) (l : StationMemory) (count : ℕ) → count ≤ COUNTERS_AHEAD → l.counter.next + count ≤ 4294967295
    → Leads (With B) l (puts_of (counter.reserve_write l.counter count)) (record l { counter = counter.reserved l.counter count })
counter_leads B lasts l count few left = by_due (counter.passes l.counter count) refl
  where
    by_due : (b : Bool) → counter.passes l.counter count ≡ b
        → Leads (With B) l (puts_of (if b then counter.limit_write (counter.raised l.counter.limit) else None))
        (record l { counter = record { limit = if b then counter.raised l.counter.limit else l.counter.limit; next = l.counter.next + count } })
    by_due true e = low_one B lasts l _ _ (omega arith) (λ r k.
        let below = k.counter.below in let fits = k.range.counter in
        limit_kept l r (record { limit = counter.raised l.counter.limit; next = l.counter.next + count }) k (omega arith) (omega arith))
    by_due false e = low_beside B lasts l _ (λ r k. next_kept l r (l.counter.next + count) k (ltb-false _ _ e))

-- # The own number

pub number_kept : (l : StationMemory) (r : Records) (n : own_number.Numbering) → IsStationKept l r → 1 ≤ n.limit → n.limit < 2 ^ 16 → n.last ≤ n.limit
    → IsStationKept (record l { own_number = n }) (insert r 3 (big_bytes 2 n.limit))
number_kept l r n k low fits below = record {
  range = record {
    ring = k.range.ring;
    counter = k.range.counter;
    number = (low, fits);
    tag = k.range.tag;
    routing = k.range.routing;
    floors = k.range.floors;
    ranks = k.range.ranks;
    marks = k.range.marks;
  };
  ring = ring_stays r 3 _ l.ring k.ring (omega arith);
  counter = counter_stays r 3 _ l.counter k.counter (omega arith);
  number = record { limit = number_limits.limit_in-insert r n.limit low fits; below = below };
  tag = tag_stays r 3 _ l.next_tag k.tag (omega arith);
  routing = routing_stays r 3 _ l.routing k.routing (omega arith) (inl (omega arith));
  marks = marks_stay r 3 _ l.marks k.marks (inl (omega arith));
}

last_kept : (l : StationMemory) (r : Records) (last : ℕ) → IsStationKept l r → last ≤ l.own_number.limit
    → IsStationKept (record l { own_number = record l.own_number { last = last } }) r
last_kept l r last k below = record {
  range = record {
    ring = k.range.ring;
    counter = k.range.counter;
    number = k.range.number;
    tag = k.range.tag;
    routing = k.range.routing;
    floors = k.range.floors;
    ranks = k.range.ranks;
    marks = k.range.marks;
  };
  ring = k.ring;
  counter = k.counter;
  number = record { limit = k.number.limit; below = below };
  tag = k.tag;
  routing = k.routing;
  marks = k.marks;
}

pub number_leads : (B : Records → Type 0) (lasts : Lasts B) (l : StationMemory) → numbers_spent l ≡ false
    → Leads (With B) l (puts_of (own_number.advance_write l.own_number)) (record l { own_number = own_number.advanced l.own_number })
number_leads B lasts l left = by_due (own_number.passes l.own_number) refl
  where
    by_due : (b : Bool) → own_number.passes l.own_number ≡ b
        → Leads (With B) l (puts_of (if b then own_number.limit_write (own_number.raised l.own_number.limit) else None))
        (record l { own_number = record { limit = if b then own_number.raised l.own_number.limit else l.own_number.limit; last = l.own_number.last + 1 } })
    by_due true e = low_one B lasts l _ _ (omega arith) (λ r k.
        let below = k.number.below in let fits = k.range.number.1 in let other : l.own_number.last ≢ 65535 = eqb-false _ _ left in
        number_kept l r (record { limit = own_number.raised l.own_number.limit; last = l.own_number.last + 1 }) k (omega arith) (omega arith) (omega arith))
    by_due false e = low_beside B lasts l _ (λ r k. last_kept l r (l.own_number.last + 1) k (ltb-false _ _ e))

-- # The tag

pub tag_reads : (r : Records) (tag : ℕ) → tag < 2 ^ 16 → tag_in (get (insert r tag_slot (big_bytes 2 tag)) tag_slot) ≡ Ok tag
tag_reads r tag fits = ap (read_result tag_at) (stored-insert tag_at r tag (omega arith) (omega arith))

pub tag_kept : (l : StationMemory) (r : Records) (tag : ℕ) → IsStationKept l r → tag < 2 ^ 16
    → IsStationKept (record l { next_tag = tag }) (insert r tag_slot (big_bytes 2 tag))
tag_kept l r tag k fits = record {
  range = record {
    ring = k.range.ring;
    counter = k.range.counter;
    number = k.range.number;
    tag = fits;
    routing = k.range.routing;
    floors = k.range.floors;
    ranks = k.range.ranks;
    marks = k.range.marks;
  };
  ring = ring_stays r 4 _ l.ring k.ring (omega arith);
  counter = counter_stays r 4 _ l.counter k.counter (omega arith);
  number = number_stays r 4 _ l.own_number k.number (omega arith);
  tag = tag_reads r tag fits;
  routing = routing_stays r 4 _ l.routing k.routing (omega arith) (inl (omega arith));
  marks = marks_stay r 4 _ l.marks k.marks (inl (omega arith));
}

pub tag_leads : (B : Records → Type 0) (lasts : Lasts B) (l : StationMemory)
    → Leads (With B) l (record { slot = tag_slot; octets = big_bytes 2 (tag_after l.next_tag) } ∷ []) (record l { next_tag = tag_after l.next_tag })
tag_leads B lasts l = low_one B lasts l _ _ (omega arith) (λ r k. tag_kept l r (tag_after l.next_tag) k (omega arith))
