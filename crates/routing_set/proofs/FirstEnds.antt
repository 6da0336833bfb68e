-- Before the first valid route ends, none does.
use Rattle.std.proofs.Common.{◌≡◌, ℕ, ◌+◌, ◌<◌, ◌≤◌, not, Bool, true, false, cond, List, [], ◌∷◌, Option, Some, None, map, get_or, refl, sym, ap, subst, ◌∙◌}
use Rattle.std.proofs.Common.{arith}
use Rattle.std.specs.List.{All}
use Rattle.std.specs.Option.{option_map_or}
use Rattle.std.proofs.lemmas.Bool.{cond-false, lt-ltb, ltb-true, not-false}
use Rattle.std.proofs.lemmas.List.Elements.{All-head, All-tail, All-map}
use Rattle.plc_base.specs.Times.{is_within, earlier_end}
use Rattle.plc_base.proofs.EarlierEnds.{earlier, all_last, all_after}
use Rattle.routing_set.specs.declared.entry.Route.{Route}
use Rattle.routing_set.specs.declared.entry.RoutingEntry.{RoutingEntry}
use Rattle.routing_set.specs.RoutingSet.{Routing, is_old, without_route, expired}
use Rattle.routing_set.specs.FirstEnd.{end_by, first_end, Lasts, IsStill}
use Rattle.routing_set.specs.declared.entry.TheConstants.{ROUTE_VALID_TIME}

-- a route lasts until every time before one until which it lasts
sooner : (a b : ℕ) (route : Option Route) → a ≤ b → Lasts b route → Lasts a route
sooner a b None le h = tt
sooner a b (Some r) le h = omega (arith, le, h)

-- with an entry more, the time is no later, and its route lasts until then
with_one : (time : ℕ) (route : Option Route)
    → (option_map_or (λ r. earlier_end ROUTE_VALID_TIME time r.offered) route time ≤ time)
    × Lasts (option_map_or (λ r. earlier_end ROUTE_VALID_TIME time r.offered) route time) route
with_one time None = (omega arith, tt)
with_one time (Some r) = earlier time (r.offered + ROUTE_VALID_TIME)

-- what is computed is such a time
pub still : (entries : List RoutingEntry) → IsStill (first_end entries) entries
unfolding first_end
still entries =
    (all_last end_by (λ (time : ℕ) (e : RoutingEntry). Lasts time e.route) (λ time e. with_one time e.route) (λ a b e le lasts. sooner a b e.route le lasts)
    entries 18446744073709551615).1

-- # Routes end

ended_lasts : (b : Bool) (time : ℕ) (e : RoutingEntry) → Lasts time e.route → Lasts time (cond b (without_route e) e).route
ended_lasts true time e h = tt
ended_lasts false time e h = h

pub still_ended : (test : RoutingEntry → Bool) (time : ℕ) (entries : List RoutingEntry) → IsStill time entries
    → IsStill time (map (λ e. cond (test e) (without_route e) e) entries)
still_ended test time entries h =
    All-map (λ (e : RoutingEntry). Lasts time e.route) (λ e. cond (test e) (without_route e) e) entries
    (λ k d lt. ended_lasts (test (get_or entries k d)) time (get_or entries k d) (h k d lt))

-- where no route is valid, none ends
pub still_unrouted : (time : ℕ) (entries : List RoutingEntry) → All (λ e. e.route ≡ None) entries → IsStill time entries
still_unrouted time entries h = λ k d lt. subst (Lasts time) (sym (h k d lt)) tt

-- # A tick

-- a route that lasts is not old before
not_old : (time now : ℕ) (route : Option Route) → now < time → Lasts time route
    → option_map_or (λ r. not (is_within ROUTE_VALID_TIME now r.offered)) route false ≡ false
not_old time now None lt h = refl
not_old time now (Some r) lt h = ap not (lt-ltb now (r.offered + ROUTE_VALID_TIME) (omega (arith, lt, h)))

-- an entry after the old routes have ended
abbrev rested : ℕ → RoutingEntry → RoutingEntry
rested now e = cond (is_old now e) (without_route e) e

all_stay : (entries : List RoutingEntry) (time now : ℕ) → now < time → IsStill time entries → map (rested now) entries ≡ entries
all_stay [] time now lt h = refl
all_stay (e ∷ entries) time now lt h =
    let one = not_old time now e.route lt (All-head (λ (x : RoutingEntry). Lasts time x.route) e entries h) in
    let same : rested now e ≡ e = cond-false _ _ _ one in
    ap (λ x. x ∷ map (rested now) entries) same
    ∙ ap (λ es. e ∷ es) (all_stay entries time now lt (All-tail (λ (x : RoutingEntry). Lasts time x.route) e entries h))

-- before the first end, a tick changes nothing
pub none_ends : (routing : Routing) (time now : ℕ) → now < time → IsStill time routing.entries → expired routing now ≡ routing
none_ends routing time now lt h = ap (λ (es : List RoutingEntry). record routing { entries = es }) (all_stay routing.entries time now lt h)

-- a route that is not old now ends after now
ends_later : (now time : ℕ) (route : Option Route) → now < time
    → option_map_or (λ r. not (is_within ROUTE_VALID_TIME now r.offered)) route false ≡ false
    → now < option_map_or (λ r. earlier_end ROUTE_VALID_TIME time r.offered) route time
ends_later now time None after h = after
ends_later now time (Some r) after h =
    let within = ltb-true now (r.offered + ROUTE_VALID_TIME) (not-false _ h) in
    omega (arith, after, within)

-- what a tick leaves is not old
rested_young : (old : Bool) (now : ℕ) (e : RoutingEntry) → is_old now e ≡ old → is_old now (cond old (without_route e) e) ≡ false
rested_young true now e is = refl
rested_young false now e is = is

all_young : (now : ℕ) (entries : List RoutingEntry) → All (λ e. is_old now e ≡ false) (map (rested now) entries)
all_young now entries =
    All-map (λ (e : RoutingEntry). is_old now e ≡ false) (rested now) entries
    (λ k d lt. rested_young (is_old now (get_or entries k d)) now (get_or entries k d) refl)

-- a tick that changes nothing is before the first end
pub ends_after : (routing : Routing) (now : ℕ) → now < 18446744073709551615 → expired routing now ≡ routing → now < first_end routing.entries
unfolding first_end
ends_after routing now clock same =
    all_after end_by (λ (e : RoutingEntry). is_old now e ≡ false) now (λ time e. ends_later now time e.route) routing.entries 18446744073709551615 clock
    (subst (λ (es : List RoutingEntry). All (λ e. is_old now e ≡ false) es) (λ i. (same i).entries) (all_young now routing.entries))
