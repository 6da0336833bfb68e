use Rattle.std.proofs.Common.{◌≡◌, ◌+◌, ◌≤◌, drop}
use Rattle.plan_tables.specs.TextPlaces.{walked}
use Rattle.plan_tables.proofs.text_places.octet_place.Given as goal

-- the place so far leads to that of all
abbrev pub invariant-loop-one : goal.invariant-loop-one
invariant-loop-one l =
    (l.line ≤ l.one-index + 1) × (l.column ≤ l.one-index + 1) × (walked l.line l.column (drop l.one-index l.one-items) ≡ walked 1 1 l.one-items)
