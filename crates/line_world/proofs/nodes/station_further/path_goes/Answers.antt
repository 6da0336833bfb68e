-- How long a path message is.
use Rattle.std.proofs.Common.{◌∙◌, ◌++◌, ap, subst, sym, List, ℕ, length, ◌≤◌}
use Rattle.path_requests.specs.Messages.{path_spelling}
use Rattle.line_world.proofs.FurtherPlans.{path_short}
use Rattle.line_world.proofs.nodes.station_further.path_goes.Goals as goal

pub send_local-requires-clause-fits : goal.send_local-requires-clause-fits
send_local-requires-clause-fits c =
    subst (λ (xs : List ℕ). length xs ≤ 379) (sym (c.octets.ensures.value ∙ c.write_path.ensures.spelled
    ∙ ap (λ (xs : List ℕ). xs ++ path_spelling c.args.message.now) c.clear.ensures)) (path_short c.args.message.now c.requires.path)
