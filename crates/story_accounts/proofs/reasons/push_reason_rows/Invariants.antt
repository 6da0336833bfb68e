use Rattle.std.proofs.Common.{◌≡◌, ◌++◌, drop, string_bytes}
use Rattle.story_accounts.specs.Sections.{reason_rows}
use Rattle.story_accounts.proofs.reasons.push_reason_rows.Given as goal

-- the rows so far and those to come
abbrev pub invariant-loop-group : goal.invariant-loop-group
invariant-loop-group l = string_bytes l.text ++ reason_rows (drop l.group-index l.groups) ≡ string_bytes l.fn.text ++ reason_rows l.groups
