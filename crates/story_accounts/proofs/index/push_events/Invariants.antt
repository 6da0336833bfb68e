use Rattle.std.proofs.Common.{◌≡◌, drop}
use Rattle.story_accounts.specs.Indexes.{events_from}
use Rattle.story_accounts.proofs.index.push_events.Given as goal

-- what comes of the events to come
abbrev pub invariant-loop-i : goal.invariant-loop-i
invariant-loop-i l =
    events_from l.i (drop l.i l.all) l.owners l.courses l.events.items ≡ events_from 0 l.all l.owners l.courses l.fn.events.items
