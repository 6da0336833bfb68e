use Rattle.std.proofs.Common.{◌≡◌, ◌++◌, drop, string_bytes}
use Rattle.story_accounts.specs.Sections.{sections_from}
use Rattle.story_accounts.proofs.account.Account.push_section_list.Given as goal

-- the sections so far and those to come
abbrev pub invariant-loop-section : goal.invariant-loop-section
invariant-loop-section l =
    string_bytes l.text ++ sections_from l.self (drop l.section-index l.list) l.chosen ≡ string_bytes l.fn.text ++ sections_from l.self l.list l.chosen
