-- Routes that end, one entry after the other.
use Rattle.std.proofs.Common.{◌≡◌, ℕ, zero, suc, ◌≤◌, Bool, true, false, cond, List, [], ◌∷◌, ◌++◌, Some, length, map, take, drop, set, refl, ap}
use Rattle.std.specs.Prelude.{slice_get}
use Rattle.std.proofs.lemmas.List.{drop_all, take_all, append-nil}
use Rattle.plc_base.specs.Keeper.{Records}
use Rattle.store_tables.proofs.SlotTables.{stored_map}
use Rattle.routing_set.specs.declared.entry.RoutingEntry.{RoutingEntry}
use Rattle.routing_set.specs.RoutingSet.{Routing, ranks, AgreesWith, without_route, ended}

-- an ending changes no rank
pub rest_same : (test : Bool) (e : RoutingEntry) → without_route (cond test (without_route e) e) ≡ without_route e
rest_same true e = refl
rest_same false e = refl

-- a function was applied to the entries up to a place
pub map_length : {A : Type 0} (f : A → A) (xs : List A) (p : ℕ) → length (map f (take p xs) ++ drop p xs) ≡ length xs
map_length f [] zero = refl
map_length f [] (suc p) = refl
map_length f (x ∷ xs) zero = refl
map_length f (x ∷ xs) (suc p) = ap suc (map_length f xs p)

pub map_step : {A : Type 0} (f : A → A) (xs : List A) (p : ℕ) (e : A) → slice_get (map f (take p xs) ++ drop p xs) p ≡ Some e
    → set (map f (take p xs) ++ drop p xs) p (f e) ≡ map f (take (suc p) xs) ++ drop (suc p) xs
map_step f [] zero e h = cc
map_step f [] (suc p) e h = cc
map_step f (x ∷ xs) zero e h = let same : e ≡ x = cc in ap (λ y. f y ∷ xs) same
map_step f (x ∷ xs) (suc p) e h = ap (λ ys. f x ∷ ys) (map_step f xs p e h)

pub map_whole : {A : Type 0} (f : A → A) (xs : List A) (p : ℕ) → length xs ≤ p → map f (take p xs) ++ drop p xs ≡ map f xs
map_whole f xs p h = rw (drop_all p xs h, take_all p xs h) (append-nil (map f xs))

-- what was kept still is
pub kept_ended : (test : RoutingEntry → Bool) (routing : Routing) (records : Records) → AgreesWith routing records → AgreesWith (ended test routing) records
kept_ended test routing records kept = record {
  floors = kept.floors;
  ranks = stored_map ranks (λ e. cond (test e) (without_route e) e) routing.entries records (λ e. rest_same (test e) e) kept.ranks;
}
