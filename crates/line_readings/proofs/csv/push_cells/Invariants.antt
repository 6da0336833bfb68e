use Rattle.std.proofs.Common.{◌≡◌, ◌++◌, drop}
use Rattle.line_readings.specs.Tables.{cells}
use Rattle.line_readings.proofs.csv.push_cells.Given as goal

-- the cells so far and those to come
abbrev pub invariant-loop-cell : goal.invariant-loop-cell
invariant-loop-cell l = l.out.items ++ cells (drop l.cell-index l.cells) ≡ l.fn.out.items ++ cells l.cells
