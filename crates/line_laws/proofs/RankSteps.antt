-- What an entry that comes leaves of the kept ranks and the routes.
use Rattle.std.proofs.Common.{◌≡◌, ◌≢◌, ◌⊎◌, inl, inr, ℕ, ◌<◌, Bool, true, false, Option, Some, None, length, refl, sym, ap, subst, ◌∙◌, arith}
use Rattle.std.specs.Prelude.{◌==◌, is_some}
use Rattle.std.specs.List.{find}
use Rattle.std.specs.Option.{option_map, option_and_then}
use Rattle.std.proofs.lemmas.Bool.{cases_eq}
use Rattle.std.proofs.lemmas.Bool.Decides.{nat_tests}
use Rattle.routing_set.specs.declared.rank.Rank.{Rank}
use Rattle.routing_set.specs.declared.entry.RoutingEntry.{RoutingEntry}
use Rattle.routing_set.specs.RoutingSet.{Routing, place_of, rank_of, route_of, held, is_full, first_to_go, forgotten, half_of, after_of, entered, half_entered}
use Rattle.routing_set.specs.Histories.{IsRouting}
use Rattle.routing_set.proofs.Offers.{one_goes, gone_among, place_there, room_old, entered_held, entered_new, entered_first, after_gone}
use Rattle.routing_set.proofs.LookUps.{is_at, entry_of-find, Came, came_held, came_new, came_gone}
use Rattle.routing_set.proofs.RisingRanks.{route-by}

rank-by : (r : Routing) (dest : ℕ) → rank_of r dest ≡ option_map (λ e. e.rank) (find (is_at dest) r.entries)
unfolding rank_of
rank-by r dest = ap (option_map (λ e. e.rank)) (entry_of-find r.entries dest)

-- what is held of a kept rank
pub held_kept : (r : Routing) (dest : ℕ) (rank : Rank) → rank_of r dest ≡ Some rank → held r dest ≡ rank
unfolding held
held_kept r dest rank e = rw e refl

-- what is kept of an address after an entry came: the entry, what was there, or nothing
pub data After (r s : Routing) (e : RoutingEntry) (dest : ℕ) : Type 0 where
  Here : dest ≡ e.address → rank_of s dest ≡ Some e.rank → route_of s dest ≡ e.route → After r s e dest
  Same : dest ≢ e.address → rank_of s dest ≡ rank_of r dest → route_of s dest ≡ route_of r dest → After r s e dest
  Gone : dest ≢ e.address → rank_of s dest ≡ None → route_of s dest ≡ None → After r s e dest

by_found : (s : Routing) (dest : ℕ) (o : Option RoutingEntry) → find (is_at dest) s.entries ≡ o
    → (rank_of s dest ≡ option_map (λ (x : RoutingEntry). x.rank) o) × (route_of s dest ≡ option_and_then (λ (x : RoutingEntry). x.route) o)
by_found s dest o e =
    (rank-by s dest ∙ ap (option_map (λ (x : RoutingEntry). x.rank)) e, route-by s dest ∙ ap (option_and_then (λ (x : RoutingEntry). x.route)) e)

came_after : (r s : Routing) (e : RoutingEntry) (lost : Option RoutingEntry) → Came r.entries s.entries e lost → (dest : ℕ) → After r s e dest
came_after r s e lost c dest = by_dest lost c (cases_eq dest e.address)
  where
    same_after : dest ≢ e.address → find (is_at dest) s.entries ≡ find (is_at dest) r.entries → After r s e dest
    same_after ne same =
        let now = by_found s dest (find (is_at dest) r.entries) same in
        let was = by_found r dest (find (is_at dest) r.entries) refl in
        Same ne (now.0 ∙ sym was.0) (now.1 ∙ sym was.1)

    by_lost : (g : RoutingEntry) → Came r.entries s.entries e (Some g) → dest ≢ e.address → (dest ≡ g.address) ⊎ (dest ≢ g.address) → After r s e dest
    by_lost g c ne (inl same) =
        let none : find (is_at dest) s.entries ≡ None = subst (λ (d : ℕ). find (is_at d) s.entries ≡ None) (sym same) c.lost.1 in
        let now = by_found s dest None none in
        Gone ne now.0 now.1
    by_lost g c ne (inr other) = same_after ne (c.away dest ne other)

    by_gone : (gone : Option RoutingEntry) → Came r.entries s.entries e gone → dest ≢ e.address → After r s e dest
    by_gone None c ne = same_after ne (c.away dest ne tt)
    by_gone (Some g) c ne = by_lost g c ne (cases_eq dest g.address)

    by_dest : (gone : Option RoutingEntry) → Came r.entries s.entries e gone → (dest ≡ e.address) ⊎ (dest ≢ e.address) → After r s e dest
    by_dest gone c (inl same) =
        let there : find (is_at dest) s.entries ≡ Some e = subst (λ (d : ℕ). find (is_at d) s.entries ≡ Some e) (sym same) c.here in
        let now = by_found s dest (Some e) there in
        Here same now.0 now.1
    by_dest gone c (inr ne) = by_gone gone c ne

pub entered_after : (r : Routing) (e : RoutingEntry) (now : ℕ) → IsRouting r → is_full r e.address now ≡ false → (dest : ℕ) → After r (entered r e now) e dest
entered_after r e now h room dest = by_place (place_of r.entries e.address) refl
  where
    to : (s : Routing) (gone : Option RoutingEntry) → entered r e now ≡ s → Came r.entries s.entries e gone → After r (entered r e now) e dest
    to s gone is c = subst (λ (t : Routing). After r t e dest) (sym is) (came_after r s e gone c dest)

    short : (length r.entries == 64) ≡ false → length r.entries < 64
    short is = let top = h.entries.short in grind (arith, nat_tests)

    by_given : place_of r.entries e.address ≡ None → (g : RoutingEntry) → first_to_go now r.entries ≡ Some g → (length r.entries == 64) ≡ true → (o : Option ℕ)
        → place_of r.entries g.address ≡ o
        → is_some o ≡ true → After r (entered r e now) e dest
    by_given at g first whole None given there = absurd (cc (there))
    by_given at g first whole (Some k) given there =
        let is = entered_first r e now at whole ∙ ap (λ (o : Option RoutingEntry). after_of r o e) first ∙ after_gone r g e k given in
        to _ (Some g) is (came_gone r.entries e g k h.entries at (gone_among now r.entries g first) given)

    by_gone : place_of r.entries e.address ≡ None → (length r.entries == 64) ≡ true → (o : Option RoutingEntry) → first_to_go now r.entries ≡ o
        → is_some o ≡ true → After r (entered r e now) e dest
    by_gone at whole None first there = absurd (cc (there))
    by_gone at whole (Some g) first there =
        by_given at g first whole (place_of r.entries g.address) refl (place_there r.entries g (gone_among now r.entries g first))

    by_length : place_of r.entries e.address ≡ None → (whole : Bool) → (length r.entries == 64) ≡ whole → After r (entered r e now) e dest
    by_length at true is = by_gone at is (first_to_go now r.entries) refl (one_goes now r.entries (room_old r e.address now at is room))
    by_length at false is = to _ None (entered_new r e now at is) (came_new r.entries e h.entries at (short is))

    by_place : (o : Option ℕ) → place_of r.entries e.address ≡ o → After r (entered r e now) e dest
    by_place (Some k) at = to _ None (entered_held r e now k at) (came_held r.entries e k h.entries at)
    by_place None at = by_length at (length r.entries == 64) refl

-- between the two writes every kept rank and route is as before
pub half_same : (r : Routing) (at now dest : ℕ)
    → (rank_of (half_entered r at now) dest ≡ rank_of r dest) × (route_of (half_entered r at now) dest ≡ route_of r dest)
unfolding half_entered rank_of route_of
half_same r at now dest = by_gone (forgotten r at now)
  where
    by_gone : (gone : Option RoutingEntry) → (rank_of (half_of r gone) dest ≡ rank_of r dest) × (route_of (half_of r gone) dest ≡ route_of r dest)
    by_gone None = (refl, refl)
    by_gone (Some g) = (refl, refl)
