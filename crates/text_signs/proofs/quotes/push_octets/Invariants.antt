use Rattle.std.proofs.Common.{◌≡◌, ◌++◌, drop}
use Rattle.std.specs.Prelude.{string_bytes}
use Rattle.text_signs.specs.Quotes.{octets_text}
use Rattle.text_signs.proofs.quotes.push_octets.Given as goal

-- what was written, and what the rest of the octets will be
abbrev pub invariant-loop-octet : goal.invariant-loop-octet
invariant-loop-octet l = string_bytes l.text ++ octets_text (drop l.octet-index l.octets) ≡ string_bytes l.fn.text ++ octets_text l.octets
