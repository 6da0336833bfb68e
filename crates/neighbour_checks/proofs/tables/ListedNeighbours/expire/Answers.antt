use Rattle.std.proofs.Common.{rules}
use Rattle.neighbour_checks.specs.Neighbours.{is_listed_at}
use Rattle.arrayvec.proofs.ArrayVecLemmas.{filter-from_retain}
use Rattle.neighbour_checks.proofs.tables.ListedNeighbours.expire.Goals as goal

pub returns : goal.returns
returns c = rw (← c.self.view_is) (filter-from_retain _ (is_listed_at c.args.now) _ (λ x b f' y called. search rules) _ _ c.retain.ensures.filtered)
