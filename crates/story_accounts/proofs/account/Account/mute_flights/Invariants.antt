use Rattle.std.proofs.Common.{◌≡◌, ◌++◌, drop}
use Rattle.story_accounts.specs.Sections.{mute_from}
use Rattle.story_accounts.proofs.account.Account.mute_flights.Given as goal

-- the flights so far and those to come
abbrev pub invariant-loop-i : goal.invariant-loop-i
invariant-loop-i l = l.list.items ++ mute_from l.i (drop l.i l.self.courses) ≡ mute_from 0 l.self.courses
