use Rattle.std.proofs.Common.{◌≡◌, drop}
use Rattle.run_maps.specs.Layouts.{ordered_from}
use Rattle.run_maps.proofs.grid.seat_all.Given as goal

-- the seats so far, with those of the nodes to come
abbrev pub invariant-loop-place : goal.invariant-loop-place
invariant-loop-place l = ordered_from l.place (drop l.place l.nodes) l.seats.items ≡ ordered_from 0 l.nodes l.fn.seats.items
