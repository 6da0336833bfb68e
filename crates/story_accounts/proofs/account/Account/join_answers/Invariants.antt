use Rattle.std.proofs.Common.{◌≡◌, drop}
use Rattle.story_accounts.specs.Sections.{answers_from}
use Rattle.story_accounts.proofs.account.Account.join_answers.Given as goal

-- what comes of the events to come
abbrev pub invariant-loop-event : goal.invariant-loop-event
invariant-loop-event l = answers_from l.self (drop l.event-index l.events) l.groups.items ≡ answers_from l.self l.events l.fn.groups.items
