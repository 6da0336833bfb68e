use Rattle.std.proofs.Common.{◌≡◌, ◌++◌, drop}
use Rattle.markup.specs.Markups.{markup_text}
use Rattle.run_pages.specs.Reasons.{section_parts}
use Rattle.run_pages.proofs.reasons.push_sections.Given as goal

-- what was written, and the sections to come
abbrev pub invariant-loop-section : goal.invariant-loop-section
invariant-loop-section l =
    l.out.items ++ markup_text (section_parts l.account (drop l.section-index l.sections)) ≡ l.fn.out.items ++ markup_text (section_parts l.account l.sections)
