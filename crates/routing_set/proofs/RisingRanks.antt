-- The rank of an address only rises, also where it is forgotten; only an offer begins a route.
use Rattle.std.proofs.Common.{◌≡◌, ◌≢◌, ◌⊎◌, inl, inr, ℕ, ◌<◌, ◌≤◌, Bool, true, false, cond, List, [], ◌∷◌, Option, Some, None, length, map, set, refl, sym, ap}
use Rattle.std.proofs.Common.{subst, ◌∙◌, arith}
use Rattle.std.specs.Prelude.{◌==◌, is_some, unwrap_or, slice_index}
use Rattle.std.specs.List.{find}
use Rattle.std.specs.Option.{option_map, option_and_then}
use Rattle.std.proofs.lemmas.Bool.{cases_eq}
use Rattle.std.proofs.lemmas.Bool.Decides.{nat_tests}
use Rattle.std.proofs.lemmas.List.{get_or-set_same, get_or-set_other, length-set}
use Rattle.routing_set.specs.declared.rank.Rank.{Rank}
use Rattle.routing_set.specs.declared.entry.Route.{Route}
use Rattle.routing_set.specs.declared.entry.RoutingEntry.{RoutingEntry}
use Rattle.routing_set.specs.Ranks.{beats, IsAtLeast}
use Rattle.routing_set.specs.RoutingSet.{Routing, class_of, floor_of, place_of, rank_of, route_of, held, is_full, first_to_go, forgotten, raises, raised}
use Rattle.routing_set.specs.RoutingSet.{floors_after, half_of, after_of, entered, half_entered, without_route, ended}
use Rattle.routing_set.specs.Histories.{IsRouting}
use Rattle.routing_set.proofs.RankOrder.{beats-true, floor_at_least}
use Rattle.routing_set.proofs.Offers.{one_goes, gone_among, place_there, room_old, entered_held, entered_new, entered_first, after_gone}
use Rattle.routing_set.proofs.LookUps.{is_at, entry_of-find, Came, came_held, came_new, came_gone}

-- # By what is found

held_by : Option RoutingEntry → ℕ → Rank
held_by o floor = unwrap_or (option_map (λ e. e.rank) o) (record { number = floor; cost = 0 })

held-by : (r : Routing) (dest : ℕ) → held r dest ≡ held_by (find (is_at dest) r.entries) (floor_of r (class_of dest))
unfolding held rank_of held_by
held-by r dest = ap (λ o. held_by o (floor_of r (class_of dest))) (entry_of-find r.entries dest)

rank-by : (r : Routing) (dest : ℕ) → rank_of r dest ≡ option_map (λ e. e.rank) (find (is_at dest) r.entries)
unfolding rank_of
rank-by r dest = ap (option_map (λ e. e.rank)) (entry_of-find r.entries dest)

pub route-by : (r : Routing) (dest : ℕ) → route_of r dest ≡ option_and_then (λ e. e.route) (find (is_at dest) r.entries)
unfolding route_of
route-by r dest = ap (option_and_then (λ e. e.route)) (entry_of-find r.entries dest)

-- a higher floor leaves no rank lower
by_floor : (o : Option RoutingEntry) (f g : ℕ) → f ≤ g → IsAtLeast (held_by o g) (held_by o f)
unfolding held_by
by_floor (Some e) f g h = inl refl
by_floor None f g h = floor_at_least g (record { number = f; cost = 0 }) h

-- # Floors

class_valid : (address : ℕ) → class_of address < 16
class_valid address = omega arith

set_up : (floors : List ℕ) (k n c : ℕ) → k < length floors → slice_index floors k < n → slice_index floors c ≤ slice_index (set floors k n) c
set_up floors k n c within above = by_class (cases_eq c k)
  where
    by_class : (c ≡ k) ⊎ (c ≢ k) → slice_index floors c ≤ slice_index (set floors k n) c
    by_class (inl same) =
        subst (λ (j : ℕ). slice_index floors j ≤ slice_index (set floors k n) j) (sym same) (omega (arith, above, get_or-set_same floors k n 0 within))
    by_class (inr ne) = omega (arith, get_or-set_other floors k c n 0 ne)

floor_up : (floors : List ℕ) (g : RoutingEntry) (c : ℕ) → length floors ≡ 16 → slice_index floors c ≤ slice_index (raised floors g) c
floor_up floors g c sixteen = by_test (raises floors g) refl
  where
    by_test : (test : Bool) → raises floors g ≡ test → slice_index floors c ≤ slice_index (cond test (set floors (class_of g.address) g.rank.number) floors) c
    by_test true is =
        let above : slice_index floors (class_of g.address) < g.rank.number = grind (arith, nat_tests) in
        set_up floors (class_of g.address) g.rank.number c (omega (arith, class_valid g.address)) above
    by_test false is = omega arith

floor_covers : (floors : List ℕ) (g : RoutingEntry) → length floors ≡ 16 → g.rank.number ≤ slice_index (raised floors g) (class_of g.address)
floor_covers floors g sixteen = by_test (raises floors g) refl
  where
    by_test : (test : Bool) → raises floors g ≡ test
        → g.rank.number ≤ slice_index (cond test (set floors (class_of g.address) g.rank.number) floors) (class_of g.address)
    by_test true is = omega (arith, get_or-set_same floors (class_of g.address) g.rank.number 0 (omega (arith, class_valid g.address)))
    by_test false is = grind (arith, nat_tests)

raised_sixteen : (floors : List ℕ) (g : RoutingEntry) → length floors ≡ 16 → length (raised floors g) ≡ 16
raised_sixteen floors g sixteen = by_test (raises floors g)
  where
    by_test : (test : Bool) → length (cond test (set floors (class_of g.address) g.rank.number) floors) ≡ 16
    by_test true = length-set floors (class_of g.address) g.rank.number ∙ sixteen
    by_test false = sixteen

-- # An entry comes

-- What came of one thing known is the other.
record Steps (r s : Routing) (e : RoutingEntry) (gone : Option RoutingEntry) : Type 0 where
  came : Came r.entries s.entries e gone
  floors : s.floors ≡ floors_after r.floors gone

steps : (r : Routing) (e : RoutingEntry) (now : ℕ) → IsRouting r → is_full r e.address now ≡ false
    → (gone : Option RoutingEntry) × Steps r (entered r e now) e gone
steps r e now h room = by_place (place_of r.entries e.address) refl
  where
    short : (length r.entries == 64) ≡ false → length r.entries < 64
    short is = let top = h.entries.short in grind (arith, nat_tests)

    by_given : place_of r.entries e.address ≡ None → (g : RoutingEntry) → first_to_go now r.entries ≡ Some g → (length r.entries == 64) ≡ true → (o : Option ℕ)
        → place_of r.entries g.address ≡ o
        → is_some o ≡ true → (gone : Option RoutingEntry) × Steps r (entered r e now) e gone
    by_given at g first whole None given there = absurd (cc (there))
    by_given at g first whole (Some k) given there =
        let is = entered_first r e now at whole ∙ ap (λ (o : Option RoutingEntry). after_of r o e) first ∙ after_gone r g e k given in (
          Some g,
          subst (λ (s : Routing). Steps r s e (Some g)) (sym is)
              (record { came = came_gone r.entries e g k h.entries at (gone_among now r.entries g first) given; floors = refl }),
        )

    by_gone : place_of r.entries e.address ≡ None → (length r.entries == 64) ≡ true → (o : Option RoutingEntry) → first_to_go now r.entries ≡ o
        → is_some o ≡ true
        → (gone : Option RoutingEntry) × Steps r (entered r e now) e gone
    by_gone at whole None first there = absurd (cc (there))
    by_gone at whole (Some g) first there =
        by_given at g first whole (place_of r.entries g.address) refl (place_there r.entries g (gone_among now r.entries g first))

    by_length : place_of r.entries e.address ≡ None → (whole : Bool) → (length r.entries == 64) ≡ whole
        → (gone : Option RoutingEntry) × Steps r (entered r e now) e gone
    by_length at true is = by_gone at is (first_to_go now r.entries) refl (one_goes now r.entries (room_old r e.address now at is room))
    by_length at false is = (
      None,
      subst (λ (s : Routing). Steps r s e None) (sym (entered_new r e now at is))
          (record { came = came_new r.entries e h.entries at (short is); floors = refl }),
    )

    by_place : (o : Option ℕ) → place_of r.entries e.address ≡ o → (gone : Option RoutingEntry) × Steps r (entered r e now) e gone
    by_place (Some k) at = (
      None,
      subst (λ (s : Routing). Steps r s e None) (sym (entered_held r e now k at))
          (record { came = came_held r.entries e k h.entries at; floors = refl }),
    )
    by_place None at = by_length at (length r.entries == 64) refl

steps_sound : (r s : Routing) (e : RoutingEntry) (gone : Option RoutingEntry) → IsRouting r → Steps r s e gone → IsRouting s
steps_sound r s e None h k = record { entries = k.came.sound; sixteen = ap length k.floors ∙ h.sixteen }
steps_sound r s e (Some g) h k = record { entries = k.came.sound; sixteen = ap length k.floors ∙ raised_sixteen r.floors g h.sixteen }

pub entered_sound : (r : Routing) (e : RoutingEntry) (now : ℕ) → IsRouting r → is_full r e.address now ≡ false → IsRouting (entered r e now)
entered_sound r e now h room = let k = steps r e now h room in steps_sound r (entered r e now) e k.0 h k.1

pub half_sound : (r : Routing) (dest now : ℕ) → IsRouting r → IsRouting (half_entered r dest now)
unfolding half_entered
half_sound r dest now h = by_gone (forgotten r dest now)
  where
    by_gone : (gone : Option RoutingEntry) → IsRouting (half_of r gone)
    by_gone None = h
    by_gone (Some g) = record { entries = h.entries; sixteen = raised_sixteen r.floors g h.sixteen }

-- # Ranks only rise

found_same : (r s : Routing) (dest : ℕ) → find (is_at dest) s.entries ≡ find (is_at dest) r.entries → floor_of r (class_of dest) ≤ floor_of s (class_of dest)
    → IsAtLeast (held s dest) (held r dest)
found_same r s dest same up =
    let is : held s dest ≡ held_by (find (is_at dest) r.entries) (floor_of s (class_of dest)) = held-by s dest
    ∙ ap (λ o. held_by o (floor_of s (class_of dest))) same in
    subst (λ (k : Rank). IsAtLeast k (held r dest)) (sym is)
    (subst (λ (k : Rank). IsAtLeast (held_by (find (is_at dest) r.entries) (floor_of s (class_of dest))) k) (sym (held-by r dest))
    (by_floor (find (is_at dest) r.entries) (floor_of r (class_of dest)) (floor_of s (class_of dest)) up))

at_kept : (s : Routing) (dest : ℕ) (e : RoutingEntry) → find (is_at dest) s.entries ≡ Some e → held s dest ≡ e.rank
unfolding held_by
at_kept s dest e there = held-by s dest ∙ ap (λ o. held_by o (floor_of s (class_of dest))) there

at_floor : (s : Routing) (dest : ℕ) → find (is_at dest) s.entries ≡ None → held s dest ≡ record { number = floor_of s (class_of dest); cost = 0 }
unfolding held_by
at_floor s dest none = held-by s dest ∙ ap (λ o. held_by o (floor_of s (class_of dest))) none

steps_rise : (r s : Routing) (e : RoutingEntry) (gone : Option RoutingEntry) → IsRouting r → Steps r s e gone → beats e.rank (held r e.address) ≡ true
    → (dest : ℕ) → IsAtLeast (held s dest) (held r dest)
steps_rise r s e gone h k better dest = by_dest (cases_eq dest e.address)
  where
    by_lost : (g : RoutingEntry) → Steps r s e (Some g) → dest ≢ e.address → (dest ≡ g.address) ⊎ (dest ≢ g.address) → IsAtLeast (held s dest) (held r dest)
    by_lost g k ne (inl same) =
        let floor : floor_of s (class_of g.address)
        ≡ slice_index (raised r.floors g) (class_of g.address) = ap (λ (f : List ℕ). slice_index f (class_of g.address)) k.floors in
        let high : IsAtLeast (record { number = floor_of s (class_of g.address); cost = 0 }) g.rank
        = floor_at_least (floor_of s (class_of g.address)) g.rank (omega (arith, floor, floor_covers r.floors g h.sixteen)) in
        let there = subst (λ (x : Rank). IsAtLeast x g.rank) (sym (at_floor s g.address k.came.lost.1)) high in
        let both = subst (λ (x : Rank). IsAtLeast (held s g.address) x) (sym (at_kept r g.address g k.came.lost.2)) there in
        subst (λ (d : ℕ). IsAtLeast (held s d) (held r d)) (sym same) both
    by_lost g k ne (inr other) =
        let floor : floor_of s (class_of dest)
        ≡ slice_index (raised r.floors g) (class_of dest) = ap (λ (f : List ℕ). slice_index f (class_of dest)) k.floors in
        found_same r s dest (k.came.away dest ne other) (omega (arith, floor, floor_up r.floors g (class_of dest) h.sixteen))

    by_gone : (gone : Option RoutingEntry) → Steps r s e gone → dest ≢ e.address → IsAtLeast (held s dest) (held r dest)
    by_gone None k ne =
        let floor : floor_of s (class_of dest) ≡ floor_of r (class_of dest) = ap (λ (f : List ℕ). slice_index f (class_of dest)) k.floors in
        found_same r s dest (k.came.away dest ne tt) (omega (arith, floor))
    by_gone (Some g) k ne = by_lost g k ne (cases_eq dest g.address)

    by_dest : (dest ≡ e.address) ⊎ (dest ≢ e.address) → IsAtLeast (held s dest) (held r dest)
    by_dest (inl same) =
        let kept = at_kept s e.address e k.came.here in
        let above : IsAtLeast e.rank (held r e.address) = inr (beats-true e.rank (held r e.address) better) in
        subst (λ (d : ℕ). IsAtLeast (held s d) (held r d)) (sym same) (subst (λ (x : Rank). IsAtLeast x (held r e.address)) (sym kept) above)
    by_dest (inr ne) = by_gone gone k ne

pub entered_rises : (r : Routing) (e : RoutingEntry) (now : ℕ) → IsRouting r → beats e.rank (held r e.address) ≡ true → is_full r e.address now ≡ false
    → (dest : ℕ) → IsAtLeast (held (entered r e now) dest) (held r dest)
entered_rises r e now h better room dest = let k = steps r e now h room in steps_rise r (entered r e now) e k.0 h k.1 better dest

pub half_rises : (r : Routing) (at now : ℕ) → IsRouting r → (dest : ℕ) → IsAtLeast (held (half_entered r at now) dest) (held r dest)
unfolding half_entered
half_rises r at now h dest = by_gone (forgotten r at now)
  where
    by_gone : (gone : Option RoutingEntry) → IsAtLeast (held (half_of r gone) dest) (held r dest)
    by_gone None = inl refl
    by_gone (Some g) = found_same r (half_of r (Some g)) dest refl (floor_up r.floors g (class_of dest) h.sixteen)

-- # What came is found

-- the rank of the entry that came, and its route
pub entered_found : (r : Routing) (e : RoutingEntry) (now : ℕ) → IsRouting r → is_full r e.address now ≡ false
    → (rank_of (entered r e now) e.address ≡ Some e.rank) × (route_of (entered r e now) e.address ≡ e.route)
entered_found r e now h room =
    let k = steps r e now h room in
    let here = k.1.came.here in (
      rank-by (entered r e now) e.address ∙ ap (option_map (λ (x : RoutingEntry). x.rank)) here,
      route-by (entered r e now) e.address ∙ ap (option_and_then (λ (x : RoutingEntry). x.route)) here,
    )

-- # Routes

-- a route to an address is as before or has ended, or is the one of the entry that came
pub entered_routes : (r : Routing) (e : RoutingEntry) (now : ℕ) → IsRouting r → is_full r e.address now ≡ false → (dest : ℕ)
    → (route_of (entered r e now) dest ≡ route_of r dest) ⊎ (route_of (entered r e now) dest ≡ None)
    ⊎ ((dest ≡ e.address) × (route_of (entered r e now) dest ≡ e.route))
entered_routes r e now h room dest =
    let k = steps r e now h room in
    by_dest k.0 k.1 (cases_eq dest e.address)
  where
    s : Routing
    s = entered r e now

    same_route : find (is_at dest) (entered r e now).entries ≡ find (is_at dest) r.entries → route_of (entered r e now) dest ≡ route_of r dest
    same_route same = route-by (entered r e now) dest ∙ ap (option_and_then (λ (x : RoutingEntry). x.route)) same ∙ sym (route-by r dest)

    by_lost : (g : RoutingEntry) → Steps r (entered r e now) e (Some g) → dest ≢ e.address → (dest ≡ g.address) ⊎ (dest ≢ g.address)
        → (route_of (entered r e now) dest ≡ route_of r dest) ⊎ (route_of (entered r e now) dest ≡ None)
        ⊎ ((dest ≡ e.address) × (route_of (entered r e now) dest ≡ e.route))
    by_lost g k ne (inl same) =
        let gone : find (is_at dest) (entered r e now).entries
        ≡ None = subst (λ (d : ℕ). find (is_at d) (entered r e now).entries ≡ None) (sym same) k.came.lost.1 in
        inr (inl (route-by (entered r e now) dest ∙ ap (option_and_then (λ (x : RoutingEntry). x.route)) gone))
    by_lost g k ne (inr other) = inl (same_route (k.came.away dest ne other))

    by_dest : (gone : Option RoutingEntry) → Steps r (entered r e now) e gone → (dest ≡ e.address) ⊎ (dest ≢ e.address)
        → (route_of (entered r e now) dest ≡ route_of r dest) ⊎ (route_of (entered r e now) dest ≡ None)
        ⊎ ((dest ≡ e.address) × (route_of (entered r e now) dest ≡ e.route))
    by_dest left k (inl same) =
        let there : find (is_at dest) (entered r e now).entries
        ≡ Some e = subst (λ (d : ℕ). find (is_at d) (entered r e now).entries ≡ Some e) (sym same) k.came.here in
        inr (inr (same, route-by (entered r e now) dest ∙ ap (option_and_then (λ (x : RoutingEntry). x.route)) there))
    by_dest None k (inr ne) = inl (same_route (k.came.away dest ne tt))
    by_dest (Some g) k (inr ne) = by_lost g k ne (cases_eq dest g.address)

-- # Routes that end

test_address : (test : Bool) (e : RoutingEntry) → (cond test (without_route e) e).address ≡ e.address
test_address true e = refl
test_address false e = refl

test_rank : (test : Bool) (e : RoutingEntry) → (cond test (without_route e) e).rank ≡ e.rank
test_rank true e = refl
test_rank false e = refl

find-ended : (test : RoutingEntry → Bool) (entries : List RoutingEntry) (dest : ℕ) → find (is_at dest) (map (λ e. cond (test e) (without_route e) e) entries)
    ≡ option_map (λ e. cond (test e) (without_route e) e) (find (is_at dest) entries)
find-ended test [] dest = refl
find-ended test (e ∷ entries) dest =
    let more = find-ended test entries dest in
    ap (λ (a : ℕ). cond (a == dest) (Some (cond (test e) (without_route e) e)) (find (is_at dest) (map (λ x. cond (test x) (without_route x) x) entries)))
    (test_address (test e) e)
    ∙ ap (λ (o : Option RoutingEntry). cond (e.address == dest) (Some (cond (test e) (without_route e) e)) o) more ∙ by_here (e.address == dest)
  where
    by_here : (b : Bool) → cond b (Some (cond (test e) (without_route e) e)) (option_map (λ x. cond (test x) (without_route x) x) (find (is_at dest) entries))
        ≡ option_map (λ x. cond (test x) (without_route x) x) (cond b (Some e) (find (is_at dest) entries))
    by_here true = refl
    by_here false = refl

-- every rank stays
pub ended_ranks : (test : RoutingEntry → Bool) (r : Routing) (dest : ℕ) → rank_of (ended test r) dest ≡ rank_of r dest
ended_ranks test r dest =
    rank-by (ended test r) dest ∙ ap (option_map (λ (x : RoutingEntry). x.rank)) (find-ended test r.entries dest) ∙ by_found (find (is_at dest) r.entries)
    ∙ sym (rank-by r dest)
  where
    by_found : (o : Option RoutingEntry)
        → option_map (λ (x : RoutingEntry). x.rank) (option_map (λ e. cond (test e) (without_route e) e) o) ≡ option_map (λ (x : RoutingEntry). x.rank) o
    by_found None = refl
    by_found (Some e) = ap Some (test_rank (test e) e)

-- so does what is held
pub ended_held : (test : RoutingEntry → Bool) (r : Routing) (dest : ℕ) → held (ended test r) dest ≡ held r dest
unfolding held
ended_held test r dest = ap (λ (o : Option Rank). unwrap_or o (record { number = floor_of r (class_of dest); cost = 0 })) (ended_ranks test r dest)

-- a route is as before or has ended
pub ended_routes : (test : RoutingEntry → Bool) (r : Routing) (dest : ℕ)
    → (route_of (ended test r) dest ≡ route_of r dest) ⊎ (route_of (ended test r) dest ≡ None)
ended_routes test r dest =
    subst (λ (o : Option Route). (o ≡ route_of r dest) ⊎ (o ≡ None))
    (sym (route-by (ended test r) dest ∙ ap (option_and_then (λ (x : RoutingEntry). x.route)) (find-ended test r.entries dest)))
    (subst (λ (o : Option Route). (option_and_then (λ (x : RoutingEntry). x.route)
    (option_map (λ e. cond (test e) (without_route e) e) (find (is_at dest) r.entries)) ≡ o)
    ⊎ (option_and_then (λ (x : RoutingEntry). x.route) (option_map (λ e. cond (test e) (without_route e) e) (find (is_at dest) r.entries)) ≡ None))
    (sym (route-by r dest))
    (by_found (find (is_at dest) r.entries)))
  where
    by_test : (b : Bool) (e : RoutingEntry) → ((cond b (without_route e) e).route ≡ e.route) ⊎ ((cond b (without_route e) e).route ≡ None)
    by_test true e = inr refl
    by_test false e = inl refl

    by_found : (o : Option RoutingEntry) → (option_and_then (λ (x : RoutingEntry). x.route) (option_map (λ e. cond (test e) (without_route e) e) o)
        ≡ option_and_then (λ (x : RoutingEntry). x.route) o)
        ⊎ (option_and_then (λ (x : RoutingEntry). x.route) (option_map (λ e. cond (test e) (without_route e) e) o) ≡ None)
    by_found None = inl refl
    by_found (Some e) = by_test (test e) e
