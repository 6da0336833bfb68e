use Rattle.std.proofs.Common.{◌≡◌, ◌++◌, drop}
use Rattle.std.specs.Prelude.{string_bytes}
use Rattle.sentence_parts.specs.Parts.{parts_text}
use Rattle.sentence_parts.proofs.part.push_parts.Given as goal

-- what was written, and what the rest of the sentence will be
abbrev pub invariant-loop-part : goal.invariant-loop-part
invariant-loop-part l = string_bytes l.text ++ parts_text (drop l.part-index l.parts) ≡ string_bytes l.fn.text ++ parts_text l.parts
