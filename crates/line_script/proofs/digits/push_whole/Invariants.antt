use Rattle.std.proofs.Common.{◌≡◌, ◌++◌, drop, string_bytes}
use Rattle.line_script.specs.Digits.{all_digits}
use Rattle.line_script.proofs.digits.push_whole.Given as goal

-- the digits so far and those to come
abbrev pub invariant-loop-octets : goal.invariant-loop-octets
invariant-loop-octets l = string_bytes l.text ++ all_digits (drop l.octets-index l.chunks) ≡ string_bytes l.fn.text ++ all_digits l.chunks
