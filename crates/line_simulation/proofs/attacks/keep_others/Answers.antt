use Rattle.std.proofs.Common.{rules}
use Rattle.std.specs.Prelude.{not}
use Rattle.std.proofs.lemmas.Fn.{filter_same}
use Rattle.line_simulation.specs.declared.simulation.Kept.{Kept}
use Rattle.line_simulation.specs.Attacks.{is_kept_from}
use Rattle.line_simulation.proofs.attacks.keep_others.Goals as goal

pub returns : goal.returns
returns c = filter_same _ (λ (k : Kept). not (is_kept_from c.args.node k)) _ (λ x b f' called. search rules) _ _ c.retain.ensures.filtered
