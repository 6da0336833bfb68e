use Rattle.std.proofs.Common.{◌≡◌, drop}
use Rattle.story_accounts.specs.Indexes.{restarts_from}
use Rattle.story_accounts.proofs.index.take_restarts.Given as goal

-- what comes of the events to come
abbrev pub invariant-loop-i : goal.invariant-loop-i
invariant-loop-i l = restarts_from l.i (drop l.i l.events) l.restarts.items ≡ restarts_from 0 l.events l.fn.restarts.items
