use Rattle.std.proofs.Common.{◌≡◌, drop}
use Rattle.story_accounts.specs.Sections.{reasons_from}
use Rattle.story_accounts.proofs.account.Account.join_reasons.Given as goal

-- what comes of the stories to come
abbrev pub invariant-loop-story : goal.invariant-loop-story
invariant-loop-story l = reasons_from l.self (drop l.story-index l.stories) l.groups.items ≡ reasons_from l.self l.stories l.fn.groups.items
