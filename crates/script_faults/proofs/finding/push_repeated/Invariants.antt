use Rattle.std.proofs.Common.{◌≡◌, ◌++◌}
use Rattle.std.specs.Prelude.{string_bytes}
use Rattle.script_faults.specs.Texts.{repeated}
use Rattle.script_faults.proofs.finding.push_repeated.Given as goal

abbrev pub invariant-loop-i : goal.invariant-loop-i
invariant-loop-i l = string_bytes l.text ≡ string_bytes l.fn.text ++ repeated l.sign l.i
