use Rattle.std.proofs.Common.{◌≡◌, ◌≤◌, ◌+◌, drop}
use Rattle.script_faults.specs.LineFindings.{spaces_in}
use Rattle.script_faults.proofs.wrong_lines.spaces_in.Given as goal

abbrev pub invariant-loop-octet : goal.invariant-loop-octet
invariant-loop-octet l = record {
  count : l.count + spaces_in (drop l.octet-index l.line) ≡ spaces_in l.line;
  within : l.count ≤ l.octet-index;
}
