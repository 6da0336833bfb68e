use Rattle.std.proofs.Common.{subst, ◌∙◌}
use Rattle.std.specs.Prelude.{string_bytes}
use Rattle.line_readings.specs.Readings.{IsHeadline}
use Rattle.line_view.proofs.tables.first_line.Goals as goal

pub returns : goal.returns
returns c =
    subst (λ stories. IsHeadline stories (string_bytes c.in_ok-line.line)) (c.seen-view.ensures ∙ c.in_ok-run_stories.ensures) c.in_ok-line.ensures
