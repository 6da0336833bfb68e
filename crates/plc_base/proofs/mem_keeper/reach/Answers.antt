use Rattle.std.proofs.Common.{◌≤◌, vec_len, vec_capacity, [], ◌∷◌, ◌++◌, None, is_ok, if◌then◌else◌, arith, ap, ◌∙◌}
use Rattle.plc_base.specs.Cells.{records_in}
use Rattle.plc_base.proofs.CellsLemmas.{records_in-push_none}
use Rattle.plc_base.proofs.mem_keeper.reach.Goals as goal

pub loop-cells-preserved : goal.loop-cells-preserved
loop-cells-preserved c =
    let old = c.loop-cells.cells.items in
    let grown = c.push.ensures.items ∙ ap (λ pushed. if is_ok pushed then old ++ None ∷ [] else old) c.unwrap.ensures in
    let length : vec_len c.push.new.self
    ≤ 1165 = omega (arith, c.push.ensures.upper_bound, c.loop-cells-test.true, c.len.ensures, c.loop-cells.invariant.1.1.1) in
    let reserved : 1165 ≤ vec_capacity c.push.new.self = omega (arith, c.push.ensures.capacity, c.loop-cells.invariant.1.1.0) in
    (ap records_in grown ∙ records_in-push_none old ∙ c.loop-cells.invariant.0, (length, (reserved, c.loop-cells.invariant.1.1.1)))
