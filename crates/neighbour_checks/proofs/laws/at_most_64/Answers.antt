use Rattle.neighbour_checks.proofs.Histories.{at_most_64}
use Rattle.neighbour_checks.proofs.DistinctNeighbours.{held_once}
use Rattle.neighbour_checks.proofs.laws.at_most_64.Goals as goal

pub returns-clause-neighbours : goal.returns-clause-neighbours
returns-clause-neighbours c = at_most_64

pub returns-clause-once : goal.returns-clause-once
returns-clause-once c = held_once
