use Rattle.std.proofs.Common.{rules}
use Rattle.std.specs.Prelude.{not}
use Rattle.node_rules.specs.Coordinators.{is_of}
use Rattle.arrayvec.proofs.ArrayVecLemmas.{filter-from_retain}
use Rattle.coordinator.proofs.sessions.Sessions.end.Goals as goal

pub returns : goal.returns
returns c = rw (← c.self.view_is) (filter-from_retain _ (λ s. not (is_of c.args.eui s)) _ (λ x b f' y called. search rules) _ _ c.retain.ensures.filtered)
