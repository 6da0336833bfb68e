-- What a store without records gives.
use Rattle.std.proofs.Common.{◌≡◌, [], replicate, Some, None, Ok, refl, ap, ◌∙◌}
use Rattle.std.specs.Ordering.{nat_cmp}
use Rattle.std.specs.FinMap.{get, empty, get-empty}
use Rattle.store_tables.specs.SlotTables as slots
use Rattle.store_tables.proofs.OpenedTables.{opened_empty}
use Rattle.frame_counters.specs.SendCounter as counter
use Rattle.frame_counters.specs.PeerMarks as marks
use Rattle.group_keys.specs.KeyRing as ring
use Rattle.group_keys.specs.KeyBook as book
use Rattle.routing_set.specs.RoutingSet as routing
use Rattle.routing_set.specs.OwnNumber as own_number
use Rattle.node_rules.specs.Memory.{Coordinator, Meter}
use Rattle.node_rules.specs.RestartStates.{station_of, tag_in, blank_station, blank_routing}
use Rattle.node_rules.specs.Laws.{AnEmptyStoreIsBlank}

no_ranks : routing.opened empty ≡ Ok blank_routing
unfolding routing.floors_in
no_ranks =
    ap (λ o. routing.routing_of (routing.floors_in o) (slots.opened routing.ranks empty)) (get-empty nat_cmp routing.floor_slot)
    ∙ ap (routing.routing_of (Some (replicate 16 0))) (opened_empty routing.ranks)

blank_on_line : station_of empty ≡ Ok blank_station
unfolding station_of
blank_on_line =
    let r : ring.opened empty ≡ Ok None = ap (λ o. ring.ring_from (ring.ring_at o)) (get-empty nat_cmp ring.ring_slot) in
    let c : counter.opened empty ≡ Ok (counter.counting_at 0) = ap (λ o. counter.counting_from (counter.limit_in o)) (get-empty nat_cmp counter.limit_slot) in
    let n : own_number.opened empty
    ≡ Ok (own_number.numbering_at 1) = ap (λ o. own_number.numbering_from (own_number.limit_in o)) (get-empty nat_cmp own_number.limit_slot) in
    let t : tag_in (get empty 4) ≡ Ok 0 = ap tag_in (get-empty nat_cmp 4) in
    let e : slots.opened marks.peers empty ≡ Ok [] = opened_empty marks.peers in
    rw (r, c, n, t, no_ranks, e) refl

pub blank : AnEmptyStoreIsBlank
blank (Meter psk) = rw blank_on_line refl
blank Coordinator = let b : slots.opened book.entries empty ≡ Ok [] = opened_empty book.entries in rw (blank_on_line, b) refl
