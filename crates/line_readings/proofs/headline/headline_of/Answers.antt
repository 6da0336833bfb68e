use Rattle.std.proofs.Common.{◌++◌, ◌∙◌}
use Rattle.std.specs.Prelude.{length, string_bytes}
use Rattle.line_readings.specs.Readings.{headline_by}
use Rattle.line_readings.proofs.headline.headline_of.Goals as goal

pub returns : goal.returns
returns c =
    record {
      missing = string_bytes c.in_ok-missing.missing;
      all = c.in_ok-missing.ensures;
      whole = c.in_ok-push_by.ensures
          ∙ (λ i. c.new-text.ensures.bytes i ++ headline_by (c.came_in.ensures i) (length c.args.readings.now) (c.as_str.ensures.value i));
    }
