-- What is shown of tables, in the order of their keys.
use Rattle.std.proofs.Common.{◌≡◌, ℕ, zero, suc, List, [], ◌∷◌, ◌++◌, length, map, take, Option, Some, None, refl, sym, ap, ◌∙◌}
use Rattle.std.specs.Prelude.{slice_get, unwrap_or, IsSome, IsSorted, IsPermutation}
use Rattle.std.specs.Option.{option_map, option_and_then}
use Rattle.std.specs.Ordering.{nat_cmp}
use Rattle.std.proofs.lemmas.List.{length-map}
use Rattle.std.proofs.lemmas.Option.{slice_get-map, get_or_from_slice_get, slice_get-get_or}
use Rattle.store_tables.specs.SlotTables.{Layout, IsTable, place_of, entry_of}
use Rattle.plc_base.specs.Orders.{ordered_by}
use Rattle.store_tables.proofs.SlotTables.{found}
use Rattle.store_tables.proofs.FoundEntries.{sorted_find}
use Rattle.frame_counters.specs.PeerMarks.{Table, peers, mark_of, peer_at}
use Rattle.routing_set.specs.declared.rank.Rank.{Rank}
use Rattle.routing_set.specs.declared.entry.Route.{Route}
use Rattle.routing_set.specs.declared.entry.RoutingEntry.{RoutingEntry}
use Rattle.routing_set.specs.RoutingSet.{Routing, ranks, rank_of, route_of, next_of, held}
use Rattle.node_rules.specs.declared.shown.ShownRoute.{ShownRoute}
use Rattle.node_rules.specs.declared.shown.ShownPeer.{ShownPeer}
use Rattle.plc_base.specs.Grant.{Granted}
use Rattle.node_rules.specs.Memory.{StationMemory, next_hop}
use Rattle.node_rules.specs.Neighbours.{valid_route}
use Rattle.node_rules.specs.ShownNodes.{shown_route, shown_peer}

-- # One entry after another

module _ {A B : Type 0} (layout : Layout A) (f : A → B) where
  -- the entry of each sorted key is the next one in order
  in_order : (table : List A) (sorted : List ℕ) (i key : ℕ) → IsTable layout table → IsPermutation (map layout.key table) sorted → IsSorted nat_cmp sorted
      → slice_get sorted i ≡ Some key
      → slice_get (map Some (ordered_by layout.key table)) i ≡ Some (entry_of layout table key)
  in_order table sorted i key t same up at =
      ap (λ (os : List (Option A)). slice_get os i) (sym (sorted_find layout table sorted t same up))
      ∙ slice_get-map (entry_of layout table) sorted i
      ∙ ap (option_map (entry_of layout table)) at

  pub is_there : (table : List A) (sorted : List ℕ) (i key : ℕ) → IsTable layout table → IsPermutation (map layout.key table) sorted → IsSorted nat_cmp sorted
      → slice_get sorted i ≡ Some key
      → IsSome (entry_of layout table key)
  is_there table sorted i key t same up at = there (ordered_by layout.key table) i (entry_of layout table key) (in_order table sorted i key t same up at)
    where
      there : (xs : List A) (k : ℕ) (o : Option A) → slice_get (map Some xs) k ≡ Some o → IsSome o
      there [] k o h = absurd (cc)
      there (x ∷ xs) zero None h = absurd (cc)
      there (x ∷ xs) zero (Some y) h = refl
      there (x ∷ xs) (suc k) o h = there xs k o h

  -- one more is shown
  pub shown_suc : (table : List A) (sorted : List ℕ) (i key : ℕ) (shown : B) → IsTable layout table → IsPermutation (map layout.key table) sorted
      → IsSorted nat_cmp sorted
      → slice_get sorted i ≡ Some key → Some shown ≡ option_map f (entry_of layout table key)
      → map f (take (suc i) (ordered_by layout.key table)) ≡ map f (take i (ordered_by layout.key table)) ++ shown ∷ []
  shown_suc table sorted i key shown t same up at is =
      step (ordered_by layout.key table) i (entry_of layout table key) (in_order table sorted i key t same up at) is
    where
      step : (xs : List A) (k : ℕ) (o : Option A) → slice_get (map Some xs) k ≡ Some o → Some shown ≡ option_map f o
          → map f (take (suc k) xs) ≡ map f (take k xs) ++ shown ∷ []
      step [] k o h e = absurd (cc)
      step (x ∷ []) zero o h e =
          ap (λ (p : Option B). unwrap_or p shown ∷ []) (sym (e ∙ ap (option_map f) (sym (ap (λ (p : Option (Option A)). unwrap_or p None) h))))
      step (x ∷ (y ∷ ys)) zero o h e =
          ap (λ (p : Option B). unwrap_or p shown ∷ []) (sym (e ∙ ap (option_map f) (sym (ap (λ (p : Option (Option A)). unwrap_or p None) h))))
      step (x ∷ xs) (suc k) o h e = ap (λ (ys : List B). f x ∷ ys) (step xs k o h e)

  -- as many are shown as there are keys
  pub as_many : (table : List A) (sorted : List ℕ) → IsTable layout table → IsPermutation (map layout.key table) sorted → IsSorted nat_cmp sorted
      → length (ordered_by layout.key table) ≡ length sorted
  as_many table sorted t same up =
      sym (length-map (ordered_by layout.key table) Some)
      ∙ ap (λ (os : List (Option A)). length os) (sym (sorted_find layout table sorted t same up))
      ∙ length-map sorted (entry_of layout table)

-- an entry that is found has the key
key_found : {A : Type 0} (layout : Layout A) (table : List A) (key : ℕ) (e : A) → entry_of layout table key ≡ Some e → layout.key e ≡ key
key_found {A} layout table key e is = by_place (place_of layout table key) refl is
  where
    by_place : (o : Option ℕ) → place_of layout table key ≡ o → option_and_then (slice_get table) o ≡ Some e → layout.key e ≡ key
    by_place None at h = absurd (cc)
    by_place (Some place) at h = sym (ap layout.key (get_or_from_slice_get table place e e h)) ∙ (found layout table key place e at).1

-- # One entry

pub never_none : (r : Routing) (dest : ℕ) → IsSome (entry_of ranks r.entries dest) → None ≡ rank_of r dest → ⊥
unfolding rank_of
never_none r dest there none = by_entry (entry_of ranks r.entries dest) there none
  where
    by_entry : (o : Option RoutingEntry) → IsSome o → None ≡ option_map (λ (e : RoutingEntry). e.rank) o → ⊥
    by_entry None there none = cc
    by_entry (Some e) there none = cc

-- what is looked up of a rank and of a route is what is shown of the entry
pub route_is : (r : Routing) (dest : ℕ) (rank : Rank) (next : Option ℕ) → Some rank ≡ rank_of r dest → next ≡ next_of r dest
    → ◌≡◌ {A = Option ShownRoute} (Some (record { dest = dest; number = rank.number; cost = rank.cost; next = next }))
    (option_map shown_route (entry_of ranks r.entries dest))
unfolding rank_of route_of
route_is r dest rank next is by = by_entry (entry_of ranks r.entries dest) refl is by
  where
    by_entry : (o : Option RoutingEntry) → entry_of ranks r.entries dest ≡ o → Some rank ≡ option_map (λ (e : RoutingEntry). e.rank) o
        → next ≡ option_map (λ (t : Route). t.next) (option_and_then (λ (e : RoutingEntry). e.route) o)
        → ◌≡◌ {A = Option ShownRoute} (Some (record { dest = dest; number = rank.number; cost = rank.cost; next = next })) (option_map shown_route o)
    by_entry None at h n = absurd (cc)
    by_entry (Some e) at h n =
        let same : rank ≡ e.rank = ap (λ (o : Option Rank). unwrap_or o rank) h in
        let here : dest ≡ e.address = sym (key_found ranks r.entries dest e at) in
        λ i. Some (record { dest = here i; number = (same i).number; cost = (same i).cost; next = n i })

pub peer_is : (table : Table) (from mark : ℕ) → Some mark ≡ mark_of table from
    → ◌≡◌ {A = Option ShownPeer} (Some (record { from = from; mark = mark })) (option_map shown_peer (entry_of peers table from))
peer_is table from mark is = by_place (place_of peers table from) refl is
  where
    by_place : (o : Option ℕ) → place_of peers table from ≡ o → Some mark ≡ option_map (λ place. (peer_at table place).mark) o
        → ◌≡◌ {A = Option ShownPeer} (Some (record { from = from; mark = mark })) (option_map shown_peer (option_and_then (slice_get table) o))
    by_place None at h = absurd (cc)
    by_place (Some place) at h =
        let there = found peers table from place (record { address = 0; mark = 0; stored = 0 }) at in
        let got : slice_get table place ≡ Some (peer_at table place) = slice_get-get_or table place (record { address = 0; mark = 0; stored = 0 }) there.0 in
        let same : mark ≡ (peer_at table place).mark = ap (λ (o : Option ℕ). unwrap_or o mark) h in
        (λ i. Some (record { from = sym there.1 i; mark = same i })) ∙ ap (option_map shown_peer) (sym got)

-- # The valid route to an address

pub no_route : (l : StationMemory) (g : Granted) (dest : ℕ) → Some g ≡ l.ring → None ≡ next_of l.routing dest → None ≡ valid_route l dest
unfolding next_hop
no_route l g dest ring none =
    ap (option_map (λ (hop : ℕ). (hop, (held l.routing dest).cost))) (none ∙ ap (λ (r : Option Granted). option_and_then (λ _. next_hop l dest) r) ring)

pub has_route : (l : StationMemory) (g : Granted) (dest hop cost : ℕ) → Some g ≡ l.ring → Some hop ≡ next_of l.routing dest → cost ≡ (held l.routing dest).cost
    → Some (hop, cost) ≡ valid_route l dest
unfolding next_hop
has_route l g dest hop cost ring some is =
    ap (λ (k : ℕ). Some (hop, k)) is
    ∙ ap (option_map (λ (h : ℕ). (h, (held l.routing dest).cost))) (some ∙ ap (λ (r : Option Granted). option_and_then (λ _. next_hop l dest) r) ring)
