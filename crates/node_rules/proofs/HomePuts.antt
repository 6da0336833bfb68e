-- The rings that the coordinator puts have the address 0.
use Rattle.std.proofs.Common.{◌≡◌, inl, inr, ℕ, Bool, true, false, List, [], length, drop, take, Option, Some, None, sym, ap, ◌∙◌, subst, arith}
use Rattle.std.specs.Prelude.{All, IfSome, if◌then◌else◌, ◌==◌, ◌&&◌, nat_lt, nat_le, is_some, slice_index}
use Rattle.std.specs.Option.{option_map, option_map_or}
use Rattle.std.specs.FinMap.{insert}
use Rattle.std.proofs.lemmas.Bool.{cases_eq}
use Rattle.std.proofs.lemmas.List.Elements.{All-nil, All-cons}
use Rattle.std.proofs.lemmas.Option.{same_Some}
use Rattle.byteorder.specs.Endian.{big_number}
use Rattle.plc_base.specs.declared.key.Key.{Key}
use Rattle.plc_base.specs.Keeper.{Records, Write}
use Rattle.store_tables.proofs.StoreLemmas.{get-insert_same, get-insert_other}
use Rattle.frame_counters.specs.SendCounter as counter
use Rattle.group_keys.specs.Fields.{are_zeros, held_in}
use Rattle.group_keys.specs.KeyBook as book
use Rattle.group_keys.specs.KeyRing as ring
use Rattle.routing_set.specs.OwnNumber as own_number
use Rattle.node_rules.specs.Memory.{StationMemory}
use Rattle.node_rules.specs.MemoryDrafts.{in_memory}
use Rattle.node_rules.specs.Drafts.{alone}
use Rattle.node_rules.specs.Calls as calls
use Rattle.node_rules.specs.Home.{IsCoordinatorAddress, ReadsHome, PutsHome, CoordinatorsWriteHome, WritesKeepHome, CarryingOutKeepsHome}
use Rattle.node_rules.proofs.Tables.{Keep, wrote_keeps, carried_keeps}
use Rattle.node_rules.proofs.TablePuts.{Membership, RingOf, EntryOf, PutOf, OfFloors, OfNumber, OfRing, OfMark, OfRank, OfEntry, SameHome, AreOf}
use Rattle.node_rules.proofs.TablePlans.{plan_puts, accept_puts, local_puts, near_puts, begin_puts}
use Rattle.node_rules.proofs.HearingShapes.{hear_shape}
use Rattle.node_rules.proofs.CallShapes.{accept_shape, send_shape, send_command_shape}
use Rattle.node_rules.proofs.CoordinatorShapes.{HomeOf, coordinator_shape, allow_shape, depot_shape, rekey_shape, activate_self_shape, challenge_shape}
use Rattle.node_rules.proofs.CoordinatorShapes.{activate_shape, kick_shape}

-- # What a ring's octets read as

grant_home : (octets : List ℕ) → big_number 2 octets ≡ 0 → IfSome (option_map Some (ring.grant_in octets)) IsCoordinatorAddress
grant_home octets zero_first = by_keys (held_in (take 17 (drop 3 octets))) (held_in (drop 17 (drop 3 octets)))
  where
    by_test : (b : Bool) (address active : ℕ) (key0 key1 : Option Key) → address ≡ 0
        → IfSome (option_map Some (if b then Some (record { address = address; active = active; key0 = key0; key1 = key1 }) else None)) IsCoordinatorAddress
    by_test true address active key0 key1 e = e
    by_test false address active key0 key1 e = tt

    by_keys : (k0 k1 : Option (Option Key))
        → IfSome (option_map Some (option_map_or (λ key0. option_map_or (λ key1. ring.grant_of (big_number 2 octets) (slice_index octets 2) key0 key1) k1 None)
        k0 None)) IsCoordinatorAddress
    by_keys None k1 = tt
    by_keys (Some key0) None = tt
    by_keys (Some key0) (Some key1) =
        by_test (nat_lt (big_number 2 octets) 0xFFFE && (nat_le (slice_index octets 2) 1 && is_some (if slice_index octets 2 == 0 then key0 else key1)))
        (big_number 2 octets) (slice_index octets 2) key0 key1 zero_first

-- octets with 1 and the address 0 in front read as a ring of the address 0, if they read as one
octets_home : (octets : List ℕ) → big_number 2 (drop 1 octets) ≡ 0 → IfSome (ring.ring_in octets) IsCoordinatorAddress
octets_home octets e = by_tests (are_zeros 38 octets) (length octets == 38 && slice_index octets 0 == 1)
  where
    by_tests : (b c : Bool) → IfSome (if b then Some None else (if c then option_map Some (ring.grant_in (drop 1 octets)) else None)) IsCoordinatorAddress
    by_tests true c = tt
    by_tests false true = grant_home (drop 1 octets) e
    by_tests false false = tt

ring_home : (r : ring.Ring) → IsCoordinatorAddress r → IfSome (ring.ring_in (ring.ring_octets r)) IsCoordinatorAddress
ring_home None h = tt
ring_home (Some g) h = octets_home (ring.ring_octets (Some g)) (ap (λ (a : ℕ). big_number 2 (drop 1 (ring.ring_octets (Some (record g { address = a }))))) h)

-- # Puts

same_home : (before r : ring.Ring) → SameHome before r → IsCoordinatorAddress before → IsCoordinatorAddress r
same_home before None s h = tt
same_home None (Some g) s h = absurd (cc (s.same))
same_home (Some f) (Some g) s h = let same : g.address ≡ f.address = same_Some g.address f.address s.same in same ∙ h

module _ (R : Membership → Type 0) (b : book.Book) (l : StationMemory) (home : (r : ring.Ring) → R (RingOf r) → IsCoordinatorAddress r) where
  put_home : (w : Write) → PutOf R b l w → PutsHome w
  put_home w (OfFloors floors) = λ e. absurd (omega arith)
  put_home w (OfNumber at number low high) = λ e. absurd (omega arith)
  put_home w (OfRing r h) = λ e. ring_home r (home r h)
  put_home w (OfMark place peer small) = λ e. absurd (omega arith)
  put_home w (OfRank place x small) = λ e. absurd (omega arith)
  put_home w (OfEntry place x small y) = λ e. absurd (omega arith)

  pub all_home : (puts : List Write) → AreOf R b l puts → All PutsHome puts
  all_home puts are k d within = put_home _ (are k d within)

-- a ring with the address 0, or an entry of any kind
abbrev HomeMembership : Membership → Type 0
HomeMembership (RingOf r) = IsCoordinatorAddress r
HomeMembership (EntryOf e) = Unit {0}

pub coordinators_home : CoordinatorsWriteHome
coordinators_home own m home = record {
  accepts = λ a. at _ (accept_puts (HomeOf m) m.book m.station _ (accept_shape m.station own.eui a));
  hears = λ got cost note now. at _ (plan_puts (HomeOf m) m.book m.station in_memory _ m _ (coordinator_shape own m got cost note now));
  station_hears =
      λ got cost note now. at _ (plan_puts (HomeOf m) m.book m.station alone _ m.station _ (hear_shape (HomeOf m) m.book m.station got cost note now));
  sends = λ to octets note now. at _ (plan_puts (HomeOf m) m.book m.station alone _ m.station _ (send_shape (HomeOf m) m.book m.station to octets note now));
  commands = λ to octets now. at _ (plan_puts (HomeOf m) m.book m.station alone _ m.station _ (send_command_shape (HomeOf m) m.book m.station to octets now));
  sends_local = λ code to body. at _ (local_puts (HomeOf m) m.book m.station code to body);
  counter = λ value. at (calls.preset_counter m.station value).puts
      (All-cons (PutOf (HomeOf m) m.book m.station) _ [] (OfNumber counter.limit_at value (omega arith) (omega arith))
      (All-nil (PutOf (HomeOf m) m.book m.station)));
  number = λ value. at (calls.preset_number m.station value).puts
      (All-cons (PutOf (HomeOf m) m.book m.station) _ [] (OfNumber own_number.limit_at value (omega arith) (omega arith))
      (All-nil (PutOf (HomeOf m) m.book m.station)));
  near = λ to cost now. at _ (near_puts (HomeOf m) m.book m.station to cost now);
  begins = λ granted zero. all_home HomeMembership m.book m.station (λ r h. h) _ (begin_puts HomeMembership m granted zero);
  allows = λ eui psk. at _ (plan_puts (HomeOf m) m.book m.station in_memory _ m _ (allow_shape own m eui psk));
  depots = λ eui psk. at _ (plan_puts (HomeOf m) m.book m.station in_memory _ m _ (depot_shape own m eui psk));
  rekeys = λ index key. at _ (plan_puts (HomeOf m) m.book m.station in_memory _ m _ (rekey_shape own m index key));
  seals_with = λ index. at _ (plan_puts (HomeOf m) m.book m.station in_memory _ m _ (activate_self_shape own m index));
  challenges = λ eui now. at _ (plan_puts (HomeOf m) m.book m.station in_memory _ m _ (challenge_shape own m eui now));
  activates = λ eui index now. at _ (plan_puts (HomeOf m) m.book m.station in_memory _ m _ (activate_shape own m eui index now));
  kicks = λ eui. at _ (plan_puts (HomeOf m) m.book m.station in_memory _ m _ (kick_shape own m eui));
}
  where
    at : (puts : List Write) → AreOf (HomeOf m) m.book m.station puts → All PutsHome puts
    at puts are = all_home (HomeOf m) m.book m.station (λ r s. same_home m.station.ring r s home) puts are

-- # Slot 1

home_put : (w : Write) → PutsHome w → (r : Records) → ReadsHome r → ReadsHome (insert r w.slot w.octets)
home_put w put r h = elim (cases_eq w.slot ring.ring_slot) [
  | inl e ↦ subst (λ o. IfSome (ring.ring_at o) IsCoordinatorAddress) (sym (get-insert_same r w.slot ring.ring_slot w.octets (sym e))) (put e)
  | inr ne ↦ subst (λ o. IfSome (ring.ring_at o) IsCoordinatorAddress) (sym (get-insert_other r w.slot ring.ring_slot w.octets (λ e. ne (sym e)))) h
]

keep_home : (puts : List Write) → All PutsHome puts → Keep ReadsHome puts
keep_home puts home k d within = home_put _ (home k d within)

pub writes_keep_home : WritesKeepHome
writes_keep_home old puts done new h home wrote = wrote_keeps ReadsHome puts done old new (keep_home puts home) h wrote

pub carrying_out_keeps_home : {M A : Type 0} → CarryingOutKeepsHome M A
carrying_out_keeps_home {M} {A} r cut p h home = carried_keeps ReadsHome r cut p (keep_home p.puts home) h
