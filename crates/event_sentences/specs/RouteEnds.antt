-- When the routes of a node ended.
use Rattle.std.specs.Prelude.{ℕ, ◌==◌, Bool, not, List, [], ◌∷◌, ◌++◌, Option, None, Some, if◌then◌else◌}
use Rattle.std.specs.List.{list_any}
use Rattle.std.specs.Ordering.{nat_cmp}
use Rattle.std.specs.Option.{unwrap_or}
use Rattle.std.specs.BTreeMap.{insert_entry, is_at}
use Rattle.std.specs.Map.{lookup}
use Rattle.node_rules.specs.declared.shown.ShownRoute.{ShownRoute}

-- the addresses with a valid route, and by its address the event at which each other route ended last
pub record Routes : Type 0 where
  pub valid : List ℕ
  pub ended : List (ℕ × ℕ)

abbrev pub no_routes : Routes
no_routes = record { valid = []; ended = [] }

abbrev pub has : List ℕ → ℕ → Bool
has valid dest = list_any (λ (other : ℕ). other == dest) valid

-- the address of a route where that is valid
abbrev pub dest_by : Option ℕ → ℕ → List ℕ
dest_by None dest = []
dest_by (Some next) dest = dest ∷ []

abbrev pub valid_dest : ShownRoute → List ℕ
valid_dest route = dest_by route.next route.dest

abbrev pub valid_dests : List ShownRoute → List ℕ
valid_dests [] = []
valid_dests (route ∷ routes) = valid_dest route ++ valid_dests routes

-- the ends with that of a route to an address, where it is not valid any more
abbrev pub ended_by : ℕ → List ℕ → ℕ → List (ℕ × ℕ) → List (ℕ × ℕ)
ended_by event valid dest ended = if has valid dest then ended else insert_entry nat_cmp ended dest event

-- the same for all that were valid
abbrev pub ended_after : ℕ → List ℕ → List ℕ → List (ℕ × ℕ) → List (ℕ × ℕ)
ended_after event valid [] ended = ended
ended_after event valid (dest ∷ old) ended = ended_after event valid old (ended_by event valid dest ended)

-- whether a route that was valid is not any more
abbrev pub has_ended : List ℕ → List ℕ → Bool
has_ended valid old = list_any (λ (dest : ℕ). not (has valid dest)) old

-- the routes after an event, as they are shown then
abbrev pub routes_after : ℕ → List ShownRoute → Routes → Routes
routes_after event shown routes =
    record { valid = valid_dests shown; ended = ended_after event (valid_dests shown) routes.valid routes.ended }

-- the event at which the route to an address ended, 0 where it is valid or never was
abbrev pub end_of : ℕ → Routes → ℕ
end_of dest routes = if has routes.valid dest then 0 else unwrap_or (lookup (is_at (nat_cmp dest)) routes.ended) 0
