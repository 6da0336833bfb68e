use Rattle.std.proofs.Common.{◌≡◌, drop}
use Rattle.story_accounts.specs.Indexes.{hearings_from}
use Rattle.story_accounts.proofs.index.push_hearings.Given as goal

-- what comes of the events to come
abbrev pub invariant-loop-i : goal.invariant-loop-i
invariant-loop-i l = hearings_from l.i (drop l.i l.events) l.hearings.items ≡ hearings_from 0 l.events l.fn.hearings.items
