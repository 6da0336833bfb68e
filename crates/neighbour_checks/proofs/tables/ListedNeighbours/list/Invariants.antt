use Rattle.std.proofs.Common.{◌≡◌, ◌++◌, take}
use Rattle.neighbour_checks.specs.Neighbours.{newly_listed}
use Rattle.neighbour_checks.proofs.tables.ListedNeighbours.list.Given as goal

abbrev pub invariant-loop-check : goal.invariant-loop-check
invariant-loop-check l = l.self ≡ l.fn.self ++ newly_listed l.now (take l.check-index l.checks)
