use Rattle.std.proofs.Common.{take}
use Rattle.line_readings.specs.Readings.{HasRows}
use Rattle.line_readings.proofs.meters.meter_table.Given as goal

-- a row a meter so far
abbrev pub invariant-loop-node : goal.invariant-loop-node
invariant-loop-node l = HasRows l.readings (take l.node-index l.meters) l.out.items
