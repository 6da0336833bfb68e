-- Ranks along a loop would each beat the one before.
use Rattle.std.proofs.Common.{◌≡◌, ◌≢◌, inl, ⊎_elim, ℕ, List, [], ◌∷◌, Option, Some, None, refl, sym, ap, ◌∙◌, subst}
use Rattle.std.specs.Option.{option_map_or, option_and_then}
use Rattle.std.proofs.lemmas.Option.{none-some}
use Rattle.group_keys.specs.KeyRing as ring
use Rattle.routing_set.specs.declared.rank.Rank.{Rank}
use Rattle.routing_set.specs.Ranks.{Beats}
use Rattle.routing_set.specs.RoutingSet as routing
use Rattle.node_rules.specs.Ciphers.{Ciphers}
use Rattle.node_rules.specs.Memory.{StationMemory, Memory, Node, node_route, station_route, next_hop}
use Rattle.line_rules.specs.Worlds.{World, node_at}
use Rattle.line_rules.specs.SafeRuns.{HasRoute, HasAddress, Leads, HasNoLoop}
use Rattle.line_laws.proofs.RankOrder.{beats_trans, beats_not_itself}
use Rattle.line_laws.proofs.RankSteps.{held_kept}
use Rattle.line_laws.specs.Ranked.{via}
use Rattle.line_laws.proofs.RouteParts.{RoutingHolds, Nearer}
use Rattle.line_laws.specs.Loops.{stored}
use Rattle.line_laws.proofs.Homed.{Homes, Addressed}

pub route_via : (x : Node) (dest next : ℕ) → node_route x dest ≡ Some next → via x dest ≡ Some next
unfolding via next_hop
route_via x dest next = by_memory x.memory
  where
    by_ring : (l : StationMemory) (r : ring.Ring) → option_and_then (λ _. routing.next_of l.routing dest) r ≡ Some next
        → routing.next_of l.routing dest ≡ Some next
    by_ring l None e = absurd (none-some next e)
    by_ring l (Some g) e = e

    by_memory : (o : Option Memory) → option_and_then (λ m. station_route m.station dest) o ≡ Some next
        → option_and_then (λ (m : Memory). routing.next_of m.station.routing dest) o ≡ Some next
    by_memory None e = absurd (none-some next e)
    by_memory (Some m) e = by_ring m.station m.station.ring e

-- A node that has a valid route.
record Routed (w : World) (dest i next : ℕ) : Type 0 where
  node : Node
  there : node_at w i ≡ Some node
  route : via node dest ≡ Some next

routed : (w : World) (dest i next : ℕ) → HasRoute w dest i next → Routed w dest i next
routed w dest i next t = by_node (node_at w i) refl
  where
    by_node : (o : Option Node) → node_at w i ≡ o → Routed w dest i next
    by_node None e = absurd (rw e at t)
    by_node (Some x) e = record { node = x; there = e; route = route_via x dest next (rw e at t) }

module _ (ciphers : Ciphers) (h : Homes) (w : World) (addressed : Addressed h w) (good : RoutingHolds ciphers h w) (dest : ℕ) where
  home_of : (i address : ℕ) → HasAddress w i address → h i ≡ Some address
  home_of i address t = by_node (node_at w i) refl
    where
      by_node : (o : Option Node) → node_at w i ≡ o → h i ≡ Some address
      by_node None e = absurd (rw e at t)
      by_node (Some x) e = addressed.home i x e address (rw e at t)

  rank_at : ℕ → Rank
  rank_at i = option_map_or (λ x. routing.held (stored x) dest) (node_at w i) (record { number = 0; cost = 0 })

  -- a node with a valid route to an address is not that of the address
  not_end : (i next : ℕ) → HasRoute w dest i next → h i ≢ Some dest
  not_end i next t own =
      let r = routed w dest i next t in
      let g = good.routes.routes i r.node r.there dest next r.route in
      none-some g.rank (sym (good.ranks.not_own i r.node r.there dest (inl own)) ∙ g.kept)

  hop : (i j next : ℕ) → HasRoute w dest i next → h j ≡ Some next → h j ≢ Some dest → Beats (rank_at j) (rank_at i)
  unfolding rank_at
  hop i j next t here apart =
      let r = routed w dest i next t in
      let g = good.routes.routes i r.node r.there dest next r.route in
      let held : option_map_or (λ x. routing.held (stored x) dest) (node_at w i) (record { number = 0; cost = 0 })
      ≡ g.rank = rw r.there (held_kept (stored r.node) dest g.rank g.kept) in
      ⊎_elim
      (λ (same : next ≡ dest). absurd (apart (here ∙ ap Some same)))
      (λ (n : Nearer h w next dest g.rank).
      let this : n.number ≡ j = addressed.apart n.number j next n.home here in
      let there : node_at w j ≡ Some n.node = subst (λ (k : ℕ). node_at w k ≡ Some n.node) this n.there in
      subst (λ (k : Rank). Beats (rank_at j) k) (sym held) (rw there n.beats))
      g.nearer

  first_route : (first : ℕ) (rest : List ℕ) (end : ℕ) → Leads w dest first rest end → (next : ℕ) × HasRoute w dest first next
  first_route first [] end l = (end, l)
  first_route first (second ∷ rest) end l = (l.0.0, l.0.1.0)

  first_apart : (first : ℕ) (rest : List ℕ) (end : ℕ) → Leads w dest first rest end → h first ≢ Some dest
  first_apart first rest end l = let r = first_route first rest end l in not_end first r.0 r.1

  leads_nearer : (first : ℕ) (rest : List ℕ) (end j : ℕ) → h j ≡ Some end → h j ≢ Some dest → Leads w dest first rest end → Beats (rank_at j) (rank_at first)
  leads_nearer first [] end j here apart l = hop first j end l here apart
  leads_nearer first (second ∷ rest) end j here apart l =
      beats_trans _ _ _ (leads_nearer second rest end j here apart l.1)
      (hop first second l.0.0 l.0.1.0 (home_of second l.0.0 l.0.1.1) (first_apart second rest end l.1))

pub no_loop : (ciphers : Ciphers) (h : Homes) (w : World) → Addressed h w → RoutingHolds ciphers h w → HasNoLoop w
no_loop ciphers h w addressed good dest first rest l =
    beats_not_itself _ (leads_nearer ciphers h w addressed good dest first rest l.address first
    (home_of ciphers h w addressed good dest first l.address l.closes)
    (first_apart ciphers h w addressed good dest first rest l.address l.leads) l.leads)
