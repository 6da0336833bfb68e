use Rattle.std.proofs.Common.{List, ℕ, ◌∙◌, subst}
use Rattle.line_readings.specs.Readings.{HasRows, meters_of}
use Rattle.line_view.specs.TableRuns.{node_count}
use Rattle.line_view.proofs.tables.meters_with.Goals as goal

pub returns : goal.returns
returns c =
    record {
      readings = c.in_ok-readings.readings.items;
      came = c.in_ok-readings.ensures;
      rows = subst (λ (meters : List ℕ). HasRows c.in_ok-readings.readings.items meters c.in_ok-table.table.items)
          (c.as_slice-4.ensures.value ∙ c.in_ok-meters.ensures ∙ (λ i. meters_of (c.as_slice.ensures.value i) (c.node_count.ensures i)))
          (subst (λ readings. HasRows readings c.as_slice-4.result.now c.in_ok-table.table.items) c.as_slice-3.ensures.value c.in_ok-table.ensures);
    }
