use Rattle.std.proofs.Common.{◌≡◌, ◌++◌, drop, string_bytes}
use Rattle.story_accounts.specs.Sections.{events_text}
use Rattle.story_accounts.proofs.account.Account.push_events.Given as goal

-- the events so far and those to come
abbrev pub invariant-loop-event : goal.invariant-loop-event
invariant-loop-event l =
    string_bytes l.text ++ events_text l.self (drop l.event-index l.events) l.number l.story
    ≡ string_bytes l.fn.text ++ events_text l.self l.events l.number l.story
