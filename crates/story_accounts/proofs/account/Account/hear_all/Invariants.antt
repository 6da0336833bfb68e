use Rattle.std.proofs.Common.{◌≡◌, drop}
use Rattle.story_accounts.specs.Searches.{heard_from}
use Rattle.story_accounts.proofs.account.Account.hear_all.Given as goal

-- what comes of those to come
abbrev pub invariant-loop-event : goal.invariant-loop-event
invariant-loop-event l = heard_from l.self (drop l.event-index l.events) l.until l.reach ≡ heard_from l.self l.events l.until l.fn.reach
