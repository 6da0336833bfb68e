use Rattle.line_readings.specs.Readings.{IsLinkTable}
use Rattle.line_readings.proofs.links.link_table.Given as goal

-- a row a link so far
abbrev pub invariant-loop-place : goal.invariant-loop-place
invariant-loop-place l = IsLinkTable l.out.items
