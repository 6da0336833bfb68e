use Rattle.std.proofs.Common.{◌≡◌, ◌≤◌, ◌<◌, ◌-◌, vec_len, vec_capacity}
use Rattle.plc_base.specs.Cells.{records_in}
use Rattle.plc_base.proofs.mem_keeper.reach.Given as goal

abbrev pub invariant-loop-cells : goal.invariant-loop-cells
invariant-loop-cells l =
    (records_in l.cells.items ≡ records_in l.initial.cells.items) × ((vec_len l.cells ≤ 1165) × ((1165 ≤ vec_capacity l.cells) × (l.place < 1165)))

abbrev pub decreases-loop-cells : goal.decreases-loop-cells
decreases-loop-cells l = 1165 - vec_len l.cells
