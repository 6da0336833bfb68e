-- What a store gives again after a put of the ring.
use Rattle.std.proofs.Common.{◌≡◌, ℕ, ◌<◌, ◌≤◌, [], Option, Some, None, Result, Ok, Err, inr, refl, sym, ap, ◌∙◌, subst, arith}
use Rattle.std.specs.FinMap.{get}
use Rattle.plc_base.specs.Keeper.{Records, SameOutside}
use Rattle.plc_base.specs.declared.keeper.BadStore.{BadStore}
use Rattle.store_tables.specs.SlotTables as slots
use Rattle.store_tables.proofs.OpenedTables.{opened_from-same}
use Rattle.frame_counters.specs.SendCounter as counter
use Rattle.frame_counters.specs.PeerMarks as marks
use Rattle.group_keys.specs.KeyRing as ring
use Rattle.routing_set.specs.RoutingSet as routing
use Rattle.routing_set.specs.OwnNumber as own_number
use Rattle.node_rules.specs.Memory.{StationMemory}
use Rattle.node_rules.specs.RestartStates.{station_of, reading, tag_in}

-- # A reading by its parts

abbrev pub parts : Result ring.Ring BadStore → Result counter.Counting BadStore → Result own_number.Numbering BadStore → Result ℕ BadStore
    → Result routing.Routing BadStore → Result marks.Table BadStore → Result StationMemory BadStore
parts o oc on ot or om =
    reading o (λ r. reading oc (λ c. reading on (λ n. reading ot (λ tag. reading or (λ t. reading om (λ m. Ok (record {
      ring = r;
      counter = c;
      marks = m;
      routing = t;
      own_number = n;
      next_tag = tag;
      reassemblies = [];
      waiting = [];
    })))))))

station_parts : (records : Records) → station_of records
    ≡ parts (ring.opened records) (counter.opened records) (own_number.opened records) (tag_in (get records 4)) (routing.opened records)
    (slots.opened marks.peers records)
unfolding station_of
station_parts records = refl

ring_of : Result StationMemory BadStore → Result ring.Ring BadStore
ring_of (Ok l) = Ok l.ring
ring_of (Err bad) = Err bad

counter_of : Result StationMemory BadStore → Result counter.Counting BadStore
counter_of (Ok l) = Ok l.counter
counter_of (Err bad) = Err bad

with_ring_in : ring.Ring → Result StationMemory BadStore → Result StationMemory BadStore
with_ring_in r (Ok l) = Ok (record l { ring = r })
with_ring_in r (Err bad) = Err bad

first_parts : (o : Result ring.Ring BadStore) (oc : Result counter.Counting BadStore) (on : Result own_number.Numbering BadStore) (ot : Result ℕ BadStore)
    (or : Result routing.Routing BadStore) (om : Result marks.Table BadStore) (l : StationMemory) → parts o oc on ot or om ≡ Ok l
    → (o ≡ Ok l.ring) × (oc ≡ Ok l.counter)
unfolding ring_of counter_of
first_parts (Err b) oc on ot or om l e = absurd (cc)
first_parts (Ok r) (Err b) on ot or om l e = absurd (cc)
first_parts (Ok r) (Ok c) (Err b) ot or om l e = absurd (cc)
first_parts (Ok r) (Ok c) (Ok n) (Err b) or om l e = absurd (cc)
first_parts (Ok r) (Ok c) (Ok n) (Ok tag) (Err b) om l e = absurd (cc)
first_parts (Ok r) (Ok c) (Ok n) (Ok tag) (Ok t) (Err b) l e = absurd (cc)
first_parts (Ok r) (Ok c) (Ok n) (Ok tag) (Ok t) (Ok m) l e = (ap ring_of e, ap counter_of e)

ringed : (r k : ring.Ring) (oc : Result counter.Counting BadStore) (on : Result own_number.Numbering BadStore) (ot : Result ℕ BadStore)
    (or : Result routing.Routing BadStore) (om : Result marks.Table BadStore) → parts (Ok k) oc on ot or om ≡ with_ring_in k (parts (Ok r) oc on ot or om)
unfolding with_ring_in
ringed r k (Err b) on ot or om = refl
ringed r k (Ok c) (Err b) ot or om = refl
ringed r k (Ok c) (Ok n) (Err b) or om = refl
ringed r k (Ok c) (Ok n) (Ok tag) (Err b) om = refl
ringed r k (Ok c) (Ok n) (Ok tag) (Ok t) (Err b) = refl
ringed r k (Ok c) (Ok n) (Ok tag) (Ok t) (Ok m) = refl

limit_below : (o : Option ℕ) (c : counter.Counting) → counter.counting_from o ≡ Ok c → c.next ≤ c.limit
limit_below None c e = absurd (cc)
limit_below (Some limit) c e = below (cc)
  where
    below : counter.counting_at limit ≡ c → c.next ≤ c.limit
    below same = subst (λ (k : counter.Counting). k.next ≤ k.limit) same (omega arith)

-- a station that was read has the ring of its store, and a counter within its limit
pub read_ring : (records : Records) (l : StationMemory) → station_of records ≡ Ok l → ring.opened records ≡ Ok l.ring
read_ring records l read = (first_parts (ring.opened records) (counter.opened records) (own_number.opened records) (tag_in (get records 4))
    (routing.opened records) (slots.opened marks.peers records)
    l (sym (station_parts records) ∙ read)).0

pub read_below : (records : Records) (l : StationMemory) → station_of records ≡ Ok l → l.counter.next ≤ l.counter.limit
read_below records l read =
    limit_below (counter.limit_in (get records counter.limit_slot)) l.counter
    (first_parts (ring.opened records) (counter.opened records) (own_number.opened records) (tag_in (get records 4)) (routing.opened records)
    (slots.opened marks.peers records)
    l (sym (station_parts records) ∙ read)).1

-- # Another ring

module _ (old new : Records) (same : SameOutside 1 1 old new) where
  from_same : {A : Type 0} (layout : slots.Layout A) → 1 < layout.first → slots.opened layout new ≡ slots.opened layout old
  from_same layout high = opened_from-same layout layout.slots 0 old new [] (λ q. same (slots.slot_of layout q) (inr (omega arith)))

  -- the station is read as before, but for its ring
  pub read_again : (l : StationMemory) (k : ring.Ring) → station_of old ≡ Ok l → ring.AgreesWith k new → station_of new ≡ Ok (record l { ring = k })
  unfolding with_ring_in
  read_again l k read kept =
      station_parts new
      ∙ (λ i. parts (ring.ring_from (kept.stored i)) (counter.counting_from (counter.limit_in (same 2 (inr (omega arith)) i)))
      (own_number.numbering_from (own_number.limit_in (same 3 (inr (omega arith)) i))) (tag_in (same 4 (inr (omega arith)) i))
      (routing.routing_of (routing.floors_in (same 5 (inr (omega arith)) i)) (from_same routing.ranks (omega arith) i))
      (from_same marks.peers (omega arith) i))
      ∙ ringed l.ring k (counter.opened old) (own_number.opened old) (tag_in (get old 4)) (routing.opened old) (slots.opened marks.peers old)
      ∙ ap (λ o. with_ring_in k (parts o (counter.opened old) (own_number.opened old) (tag_in (get old 4)) (routing.opened old) (slots.opened marks.peers old)))
      (sym (read_ring old l read))
      ∙ ap (with_ring_in k) (sym (station_parts old) ∙ read)
