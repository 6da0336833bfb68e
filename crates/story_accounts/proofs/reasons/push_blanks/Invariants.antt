use Rattle.std.proofs.Common.{◌≡◌, ◌++◌, string_bytes}
use Rattle.story_accounts.specs.Sections.{blanks}
use Rattle.story_accounts.proofs.reasons.push_blanks.Given as goal

-- the blanks so far
abbrev pub invariant-loop : goal.invariant-loop
invariant-loop l = string_bytes l.text ≡ string_bytes l.fn.text ++ blanks l.counter
