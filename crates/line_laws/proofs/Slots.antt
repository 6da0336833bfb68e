-- A write at one slot, and what it leaves of the parts that stand elsewhere.
use Rattle.std.proofs.Common.{◌≡◌, ◌≢◌, ◌⊎◌, inl, inr, ℕ, ◌+◌, ◌<◌, ◌≤◌, List, Ok, ap, ◌∙◌, arith}
use Rattle.std.proofs.lemmas.Bool.{cases_lt}
use Rattle.std.specs.FinMap.{get, insert}
use Rattle.plc_base.specs.Keeper.{Records, SameOutside}
use Rattle.store_tables.proofs.StoreLemmas.{get-insert_other}
use Rattle.store_tables.proofs.SlotTables.{stored_elsewhere}
use Rattle.frame_counters.specs.SendCounter as counter
use Rattle.frame_counters.specs.PeerMarks as marks
use Rattle.frame_counters.proofs.Limits as counter_limits
use Rattle.group_keys.specs.KeyRing as ring
use Rattle.group_keys.specs.KeyBook as book
use Rattle.group_keys.proofs.Rings as rings
use Rattle.routing_set.specs.RoutingSet as routing
use Rattle.routing_set.specs.OwnNumber as own_number
use Rattle.routing_set.proofs.Limits as number_limits
use Rattle.node_rules.specs.Drafts.{tag_slot}
use Rattle.node_rules.specs.RestartStates.{tag_in}

-- a write changes one slot alone
pub put_outside : (r : Records) (slot : ℕ) (octets : List ℕ) → SameOutside slot slot r (insert r slot octets)
put_outside r slot octets q h = get-insert_other r slot q octets (apart h)
  where
    apart : (q < slot) ⊎ (slot < q) → q ≢ slot
    apart (inl below) = omega arith
    apart (inr above) = omega arith

apart_of : (a b : ℕ) → a ≢ b → (a < b) ⊎ (b < a)
apart_of a b ne = by_order (cases_lt a b)
  where
    by_order : (a < b) ⊎ (b ≤ a) → (a < b) ⊎ (b < a)
    by_order (inl low) = inl low
    by_order (inr high) = inr (omega arith)

module _ (r : Records) (slot : ℕ) (octets : List ℕ) where
  pub ring_stays : (x : ring.Ring) → ring.AgreesWith x r → 1 ≢ slot → ring.AgreesWith x (insert r slot octets)
  ring_stays x kept ne = rings.kept_elsewhere x r (insert r slot octets) slot slot kept (put_outside r slot octets) (apart_of 1 slot ne)

  pub counter_stays : (c : counter.Counting) → counter.AgreesWith c r → 2 ≢ slot → counter.AgreesWith c (insert r slot octets)
  counter_stays c kept ne = counter_limits.kept_elsewhere c r (insert r slot octets) slot slot kept (put_outside r slot octets) (apart_of 2 slot ne)

  pub number_stays : (n : own_number.Numbering) → own_number.AgreesWith n r → 3 ≢ slot → own_number.AgreesWith n (insert r slot octets)
  number_stays n kept ne = number_limits.kept_elsewhere n r (insert r slot octets) slot slot kept (put_outside r slot octets) (apart_of 3 slot ne)

  pub tag_stays : (tag : ℕ) → tag_in (get r tag_slot) ≡ Ok tag → 4 ≢ slot → tag_in (get (insert r slot octets) tag_slot) ≡ Ok tag
  tag_stays tag kept ne = ap tag_in (get-insert_other r slot tag_slot octets ne) ∙ kept

  pub routing_stays : (t : routing.Routing) → routing.AgreesWith t r → 5 ≢ slot → (slot < 0x0200) ⊎ (0x023F < slot)
      → routing.AgreesWith t (insert r slot octets)
  routing_stays t kept ne apart = record {
    floors = ap routing.floors_in (get-insert_other r slot routing.floor_slot octets ne) ∙ kept.floors;
    ranks = stored_elsewhere routing.ranks t.entries r (insert r slot octets) slot slot kept.ranks (put_outside r slot octets) (outside apart);
  }
    where
      outside : (slot < 0x0200) ⊎ (0x023F < slot) → (slot < 0x0200) ⊎ (0x0200 + 64 ≤ slot)
      outside (inl low) = inl low
      outside (inr high) = inr (omega arith)

  pub marks_stay : (t : marks.Table) → marks.AgreesWith t r → (slot < 0x0100) ⊎ (0x0140 ≤ slot) → marks.AgreesWith t (insert r slot octets)
  marks_stay t kept apart = stored_elsewhere marks.peers t r (insert r slot octets) slot slot kept (put_outside r slot octets) apart

  pub book_stays : (b : book.Book) → book.AgreesWith b r → (slot < 0x1000) ⊎ (0x13E7 ≤ slot) → book.AgreesWith b (insert r slot octets)
  book_stays b kept apart = stored_elsewhere book.entries b r (insert r slot octets) slot slot kept (put_outside r slot octets) apart
