use Rattle.std.proofs.Common.{◌≡◌, drop}
use Rattle.story_accounts.specs.Searches.{followed_from}
use Rattle.story_accounts.proofs.account.Account.follow_all.Given as goal

-- what comes of those to come
abbrev pub invariant-loop-flight : goal.invariant-loop-flight
invariant-loop-flight l = followed_from l.self (drop l.flight-index l.flights) l.until l.reach ≡ followed_from l.self l.flights l.until l.fn.reach
