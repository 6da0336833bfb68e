use Rattle.std.proofs.Common.{◌≡◌, ◌++◌, drop}
use Rattle.line_readings.specs.Tables.{doubled}
use Rattle.line_readings.proofs.csv.push_doubled.Given as goal

-- the octets so far and those to come
abbrev pub invariant-loop-octet : goal.invariant-loop-octet
invariant-loop-octet l = l.out.items ++ doubled (drop l.octet-index l.octets) ≡ l.fn.out.items ++ doubled l.octets
