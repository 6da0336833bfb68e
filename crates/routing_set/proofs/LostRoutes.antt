-- Each next hop stays but that of the route that ends.
use Rattle.std.proofs.Common.{◌≡◌, ◌≢◌, ◌⊎◌, inl, inr, ℕ, Bool, true, false, cond, List, [], ◌∷◌, map, Option, Some, None, refl, sym, ap, ◌∙◌}
use Rattle.std.specs.Prelude.{◌==◌, ◌&&◌}
use Rattle.std.specs.List.{find}
use Rattle.std.specs.Option.{option_map, option_and_then}
use Rattle.std.proofs.lemmas.Bool.{cases_eq}
use Rattle.routing_set.specs.declared.rank.Rank.{Rank}
use Rattle.routing_set.specs.declared.entry.Route.{Route}
use Rattle.routing_set.specs.declared.entry.RoutingEntry.{RoutingEntry}
use Rattle.routing_set.specs.RoutingSet.{Routing, goes_by, without_route, without_next_to, next_of}
use Rattle.routing_set.specs.Laws.{hop_after}
use Rattle.routing_set.proofs.LookUps.{is_at, is_at-true, is_at-false}
use Rattle.routing_set.proofs.RisingRanks.{route-by}

after : ℕ → ℕ → RoutingEntry → RoutingEntry
after lost by e = cond ((e.address == lost) && goes_by by e) (without_route e) e

nexts : Option RoutingEntry → Option ℕ
nexts o = option_map (λ (t : Route). t.next) (option_and_then (λ (e : RoutingEntry). e.route) o)

by_route : (same : Bool) (by address : ℕ) (rank : Rank) (route : Option Route)
    → nexts (Some (cond (same && goes_by by (record { address = address; rank = rank; route = route }))
    (record { address = address; rank = rank; route = None }) (record { address = address; rank = rank; route = route })))
    ≡ hop_after same by (nexts (Some (record { address = address; rank = rank; route = route })))
unfolding nexts
by_route true by address rank None = refl
by_route false by address rank None = refl
by_route false by address rank (Some t) = refl
by_route true by address rank (Some t) = by_test (t.next == by)
  where
    by_test : (b : Bool) → nexts (Some (cond b (record { address = address; rank = rank; route = None })
        (record { address = address; rank = rank; route = Some t }))) ≡ cond b None (Some t.next)
    by_test true = refl
    by_test false = refl

after_address : (lost by : ℕ) (e : RoutingEntry) → (after lost by e).address ≡ e.address
unfolding after
after_address lost by e = by_test ((e.address == lost) && goes_by by e)
  where
    by_test : (b : Bool) → (cond b (without_route e) e).address ≡ e.address
    by_test true = refl
    by_test false = refl

find_left : (lost by to : ℕ) (entries : List RoutingEntry)
    → nexts (find (is_at to) (map (after lost by) entries)) ≡ hop_after (to == lost) by (nexts (find (is_at to) entries))
unfolding nexts after
find_left lost by to [] = refl
find_left lost by to (e ∷ es) = by_here (find_left lost by to es) (cases_eq e.address to)
  where
    by_here : nexts (find (is_at to) (map (after lost by) es)) ≡ hop_after (to == lost) by (nexts (find (is_at to) es)) → (e.address ≡ to) ⊎ (e.address ≢ to)
        → nexts (find (is_at to) (map (after lost by) (e ∷ es))) ≡ hop_after (to == lost) by (nexts (find (is_at to) (e ∷ es)))
    by_here more (inl same) =
        ap (λ (b : Bool). nexts (cond b (Some (after lost by e)) (find (is_at to) (map (after lost by) es))))
        (is_at-true to (after lost by e) (after_address lost by e ∙ same))
        ∙ by_route (e.address == lost) by e.address e.rank e.route
        ∙ ap (λ (a : ℕ). hop_after (a == lost) by (nexts (Some e))) same
        ∙ sym (ap (λ (b : Bool). hop_after (to == lost) by (nexts (cond b (Some e) (find (is_at to) es)))) (is_at-true to e same))
    by_here more (inr other) =
        ap (λ (b : Bool). nexts (cond b (Some (after lost by e)) (find (is_at to) (map (after lost by) es))))
        (is_at-false to (after lost by e) (λ k. other (sym (after_address lost by e) ∙ k)))
        ∙ more
        ∙ sym (ap (λ (b : Bool). hop_after (to == lost) by (nexts (cond b (Some e) (find (is_at to) es)))) (is_at-false to e other))

hop_left_is : (r : Routing) (lost by to : ℕ) → hop_after (to == lost) by (next_of r to) ≡ next_of (without_next_to r lost by) to
unfolding nexts after
hop_left_is r lost by to =
    ap (λ (o : Option Route). hop_after (to == lost) by (option_map (λ (t : Route). t.next) o)) (route-by r to) ∙ sym (find_left lost by to r.entries)
    ∙ sym (ap (option_map (λ (t : Route). t.next)) (route-by (without_next_to r lost by) to))

-- the next hop once the route has ended
pub hop_left : (r : Routing) (lost by to : ℕ) → next_of (without_next_to r lost by) to ≡ hop_after (to == lost) by (next_of r to)
hop_left r lost by to = sym (hop_left_is r lost by to)
