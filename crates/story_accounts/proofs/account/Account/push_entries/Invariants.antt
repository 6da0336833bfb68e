use Rattle.std.proofs.Common.{◌≡◌, ◌++◌, drop, string_bytes}
use Rattle.story_accounts.specs.Sections.{entries_text}
use Rattle.story_accounts.proofs.account.Account.push_entries.Given as goal

-- the stories so far and those to come
abbrev pub invariant-loop-number : goal.invariant-loop-number
invariant-loop-number l = string_bytes l.text ++ entries_text l.self l.chosen l.count (drop l.number-index l.numbers)
    ≡ string_bytes l.fn.text ++ entries_text l.self l.chosen l.count l.numbers
