use Rattle.std.proofs.Common.{◌≡◌, drop}
use Rattle.line_record.specs.Stories.{events_seen, no_stories}
use Rattle.line_record.proofs.run_stories.stories_of.Given as goal

-- what comes of the events to come
abbrev pub invariant-loop-event : goal.invariant-loop-event
invariant-loop-event l =
    events_seen l.run_record.flights.items (drop l.event-index l.run_record.events.items) l.run_stories
    ≡ events_seen l.run_record.flights.items l.run_record.events.items no_stories
