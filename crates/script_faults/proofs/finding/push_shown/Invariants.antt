use Rattle.std.proofs.Common.{◌≡◌, ◌++◌, drop}
use Rattle.std.specs.Prelude.{string_bytes}
use Rattle.script_faults.specs.Texts.{shown_text}
use Rattle.script_faults.proofs.finding.push_shown.Given as goal

-- what was written, and what the rest of the octets will be
abbrev pub invariant-loop-octet : goal.invariant-loop-octet
invariant-loop-octet l = string_bytes l.text ++ shown_text (drop l.octet-index l.octets) ≡ string_bytes l.fn.text ++ shown_text l.octets
