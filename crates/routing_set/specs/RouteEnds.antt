-- Which routes end.
use Rattle.std.specs.Prelude.{◌==◌, ◌&&◌, Bool, true, if◌then◌else◌}
use Rattle.routing_set.specs.declared.ending.Ending.{Ending}
use Rattle.routing_set.specs.declared.ending.Ending.TheVariants.{By, To, Every, Old}
use Rattle.routing_set.specs.declared.entry.RoutingEntry.{RoutingEntry}
use Rattle.routing_set.specs.RoutingSet.{goes_by, is_old, without_route}

-- whether the route of an entry ends
abbrev pub takes : Ending → RoutingEntry → Bool
takes (By next) e = goes_by next e
takes (To dest next) e = e.address == dest && goes_by next e
takes Every e = true
takes (Old now) e = is_old now e

-- the entry after that
abbrev pub after_ending : Ending → RoutingEntry → RoutingEntry
after_ending ending e = if takes ending e then without_route e else e
