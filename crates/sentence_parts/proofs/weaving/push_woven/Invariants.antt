use Rattle.std.proofs.Common.{◌≡◌, ◌++◌, drop, IsUtf8}
use Rattle.std.specs.Prelude.{string_bytes}
use Rattle.sentence_parts.specs.Woven.{woven}
use Rattle.sentence_parts.proofs.weaving.push_woven.Given as goal

-- what was written, and what the rest of the words and facts will be
abbrev pub invariant-loop-fact : goal.invariant-loop-fact
invariant-loop-fact l = (string_bytes l.text ++ woven l.rest (drop l.fact-index l.facts) ≡ string_bytes l.fn.text ++ woven l.fn.words l.facts) × IsUtf8 l.rest
