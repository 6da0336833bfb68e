use Rattle.std.proofs.Common.{◌≡◌, drop}
use Rattle.story_accounts.specs.Indexes.{requests_from}
use Rattle.story_accounts.proofs.index.push_requests.Given as goal

-- what comes of the flights to come
abbrev pub invariant-loop-i : goal.invariant-loop-i
invariant-loop-i l = requests_from l.i (drop l.i l.flights) l.requests.items ≡ requests_from 0 l.flights l.fn.requests.items
