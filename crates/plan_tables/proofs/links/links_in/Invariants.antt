use Rattle.std.proofs.Common.{◌≡◌, [], drop, map}
use Rattle.toml.specs.View.{view}
use Rattle.plan_tables.specs.Links.{links_from}
use Rattle.plan_tables.proofs.links.links_in.Given as goal

-- the links so far and those of the rows to come are the links of all rows
abbrev pub invariant-loop-row : goal.invariant-loop-row
invariant-loop-row l = links_from l.costs l.links.items (map view (drop l.row-index l.rows)) ≡ links_from l.costs [] (map view l.rows)
