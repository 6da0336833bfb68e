use Rattle.std.proofs.Common.{◌≡◌, drop}
use Rattle.story_accounts.specs.Fates.{taken_in}
use Rattle.story_accounts.proofs.account.Account.taken_in.Given as goal

-- what the events to come say
abbrev pub invariant-loop-event : goal.invariant-loop-event
invariant-loop-event l = taken_in l.self l.node (drop l.event-index l.events) ≡ taken_in l.self l.node l.events
