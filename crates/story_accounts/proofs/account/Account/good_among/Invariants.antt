use Rattle.std.proofs.Common.{◌≡◌, ◌++◌, drop}
use Rattle.story_accounts.specs.Sections.{good_among}
use Rattle.story_accounts.proofs.account.Account.good_among.Given as goal

-- the stories so far and those to come
abbrev pub invariant-loop-story : goal.invariant-loop-story
invariant-loop-story l = l.good.items ++ good_among l.self (drop l.story-index l.stories) ≡ good_among l.self l.stories
