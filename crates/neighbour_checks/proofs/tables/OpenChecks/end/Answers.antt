use Rattle.std.proofs.Common.{rules}
use Rattle.std.specs.Prelude.{not}
use Rattle.neighbour_checks.specs.Neighbours.{waits_for}
use Rattle.arrayvec.proofs.ArrayVecLemmas.{filter-from_retain}
use Rattle.neighbour_checks.proofs.tables.OpenChecks.end.Goals as goal

pub returns : goal.returns
returns c = rw (← c.self.view_is) (filter-from_retain _ (λ x. not (waits_for c.args.neighbour c.args.number c.args.origin x)) _
    (λ x b f' y called. search rules) _ _ c.retain.ensures.filtered)
