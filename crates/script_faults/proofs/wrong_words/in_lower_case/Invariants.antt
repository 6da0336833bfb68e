use Rattle.std.proofs.Common.{◌≡◌, ◌++◌, drop, flat_map}
use Rattle.std.specs.Prelude.{string_bytes}
use Rattle.script_faults.specs.WordFindings.{lower_sign}
use Rattle.script_faults.proofs.wrong_words.in_lower_case.Given as goal

abbrev pub invariant-loop-octet : goal.invariant-loop-octet
invariant-loop-octet l = string_bytes l.text ++ flat_map lower_sign (drop l.octet-index l.word) ≡ flat_map lower_sign l.word
