use Rattle.std.proofs.Common.{◌≡◌, ◌++◌, drop}
use Rattle.story_accounts.specs.Sections.{stories_from}
use Rattle.story_accounts.proofs.account.Account.stories_in.Given as goal

-- the stories so far and those to come
abbrev pub invariant-loop-i : goal.invariant-loop-i
invariant-loop-i l =
    l.list.items ++ stories_from l.self l.section l.chosen l.i (drop l.i l.self.stories) ≡ stories_from l.self l.section l.chosen 0 l.self.stories
