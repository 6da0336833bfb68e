-- The octets so far, and those of the digits that are left, are the octets of all digits.
use Rattle.std.proofs.Common.{◌≡◌, ◌*◌, Some, take, drop}
use Rattle.line_script.proofs.HexValues.{both, octets_of}
use Rattle.line_script.proofs.digit_values.decode.Given as goal

abbrev pub invariant-loop-place : goal.invariant-loop-place
invariant-loop-place l = octets_of l.fn.digits ≡ both (Some (take (16 * l.place) l.octets)) (octets_of (drop (32 * l.place) l.fn.digits))
