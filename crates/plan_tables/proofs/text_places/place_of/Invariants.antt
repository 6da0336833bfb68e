use Rattle.std.proofs.Common.{◌≡◌, ◌+◌, ◌-◌, ◌≤◌, length, drop, take}
use Rattle.plan_tables.specs.TextPlaces.{found, lines_from, place_of}
use Rattle.plan_tables.proofs.text_places.place_of.Given as goal

-- the part of a line that was gone over, and the octets to come, lead to the place
abbrev pub invariant-loop-at : goal.invariant-loop-at
invariant-loop-at l =
    (l.start ≤ l.at) × (l.at ≤ length l.text) × (l.finder.number ≤ l.at + 1)
    × (found l.name l.key l.finder (lines_from (take (l.at - l.start) (drop l.start l.text)) (drop l.at l.text)) ≡ place_of l.text l.fn.section l.key)
