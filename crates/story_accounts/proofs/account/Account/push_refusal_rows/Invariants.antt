use Rattle.std.proofs.Common.{◌≡◌, ◌++◌, drop, string_bytes}
use Rattle.story_accounts.specs.Sections.{refusal_rows}
use Rattle.story_accounts.proofs.account.Account.push_refusal_rows.Given as goal

-- the rows so far and those to come
abbrev pub invariant-loop-group : goal.invariant-loop-group
invariant-loop-group l = string_bytes l.text ++ refusal_rows l.self (drop l.group-index l.groups) ≡ string_bytes l.fn.text ++ refusal_rows l.self l.groups
