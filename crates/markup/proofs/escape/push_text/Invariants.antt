use Rattle.std.proofs.Common.{◌≡◌, ◌++◌, drop}
use Rattle.markup.specs.ElementTexts.{escaped}
use Rattle.markup.proofs.escape.push_text.Given as goal

-- what was written, and what the rest of the text will be
abbrev pub invariant-loop-octet : goal.invariant-loop-octet
invariant-loop-octet l = l.out.items ++ escaped (drop l.octet-index l.text) ≡ l.fn.out.items ++ escaped l.text
