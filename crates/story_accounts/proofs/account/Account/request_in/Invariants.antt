use Rattle.std.proofs.Common.{◌≡◌, drop}
use Rattle.story_accounts.specs.Waits.{request_in}
use Rattle.story_accounts.proofs.account.Account.request_in.Given as goal

-- what the requests to come say
abbrev pub invariant-loop-request : goal.invariant-loop-request
invariant-loop-request l =
    request_in l.self l.wanted l.before (drop l.request-index l.requests) l.found ≡ request_in l.self l.wanted l.before l.requests 0
