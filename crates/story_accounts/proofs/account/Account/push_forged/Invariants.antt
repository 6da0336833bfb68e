use Rattle.std.proofs.Common.{◌≡◌, ◌++◌, drop, string_bytes}
use Rattle.story_accounts.specs.Sections.{forged_from}
use Rattle.story_accounts.proofs.account.Account.push_forged.Given as goal

-- the events so far and those to come
abbrev pub invariant-loop-i : goal.invariant-loop-i
invariant-loop-i l = string_bytes l.text ++ forged_from l.self l.i (drop l.i l.self.events) ≡ string_bytes l.fn.text ++ forged_from l.self 0 l.self.events
