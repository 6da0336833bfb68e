use Rattle.std.proofs.Common.{◌≡◌, ◌++◌, drop}
use Rattle.story_accounts.specs.Sections.{refused_from}
use Rattle.story_accounts.proofs.account.Account.refused_events.Given as goal

-- the events so far and those to come
abbrev pub invariant-loop-i : goal.invariant-loop-i
invariant-loop-i l = l.list.items ++ refused_from l.i (drop l.i l.self.events) ≡ refused_from 0 l.self.events
