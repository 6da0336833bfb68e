use Rattle.std.proofs.Common.{subst}
use Rattle.std.specs.Prelude.{string_bytes}
use Rattle.line_readings.specs.Readings.{SaysOf}
use Rattle.line_view.proofs.tables.first_line_with.Goals as goal

pub returns : goal.returns
returns c =
    record {
      readings = c.in_ok-readings.readings.items;
      came = c.in_ok-readings.ensures;
      says = subst (λ readings. SaysOf readings (string_bytes c.in_ok-line.line)) c.as_slice-3.ensures.value c.in_ok-line.ensures;
    }
