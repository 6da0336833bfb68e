use Rattle.std.proofs.Common.{◌≡◌, ◌+◌, drop}
use Rattle.plan_tables.specs.TextPlaces.{indent}
use Rattle.plan_tables.proofs.text_places.indent.Given as goal

-- all before are blanks
abbrev pub invariant-loop-octet : goal.invariant-loop-octet
invariant-loop-octet l = (l.count ≡ l.octet-index) × (l.octet-index + indent (drop l.octet-index l.line) ≡ indent l.line)
