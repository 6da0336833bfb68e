-- When the first valid route ends.
use Rattle.std.specs.Prelude.{ℕ, ◌+◌, ◌≤◌, List, Option, IfSome, fold}
use Rattle.std.specs.List.{All}
use Rattle.std.specs.Option.{option_map_or}
use Rattle.plc_base.specs.Times.{earlier_end}
use Rattle.routing_set.specs.declared.entry.Route.{Route}
use Rattle.routing_set.specs.declared.entry.RoutingEntry.{RoutingEntry}
use Rattle.routing_set.specs.declared.entry.TheConstants.{ROUTE_VALID_TIME}

-- the earlier of a time and of when the valid route of an entry ends
abbrev pub end_by : ℕ → RoutingEntry → ℕ
end_by time e =
    option_map_or (λ route. earlier_end ROUTE_VALID_TIME time route.offered) e.route time

-- when the first valid route ends, 2^64 - 1 where none is valid or none ends before
unfoldable pub first_end : List RoutingEntry → ℕ
first_end entries = fold end_by 18446744073709551615 entries

-- the route, if there is one, does not end before a time
abbrev pub Lasts : ℕ → Option Route → Type 0
Lasts time route = IfSome route (λ r. time ≤ r.offered + ROUTE_VALID_TIME)

-- no valid route ends before a time
abbrev pub IsStill : ℕ → List RoutingEntry → Type 0
IsStill time entries = All (λ e. Lasts time e.route) entries
