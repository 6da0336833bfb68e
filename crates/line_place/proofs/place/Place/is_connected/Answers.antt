use Rattle.std.proofs.Common.{sym, ap, ◌∙◌}
use Rattle.std.specs.Prelude.{is_some}
use Rattle.std.specs.List.{list_all}
use Rattle.line_place.proofs.Connected.{all_have_paths, all_have_hops}
use Rattle.line_place.proofs.place.Place.is_connected.Goals as goal

pub returns : goal.returns
returns c =
    let answer = c.all_reached.ensures ∙ ap (list_all is_some) c.deref.ensures.value in
    (λ e. all_have_paths c.in_ok-hops.ensures (sym answer ∙ e), λ paths. answer ∙ all_have_hops c.in_ok-hops.ensures paths)
