use Rattle.std.proofs.Common.{◌≡◌, drop}
use Rattle.line_record.specs.Stories.{flights_seen}
use Rattle.line_record.proofs.run_stories.RunStories.push_flights.Given as goal

-- what comes of the flights to come
abbrev pub invariant-loop-flight : goal.invariant-loop-flight
invariant-loop-flight l = flights_seen (drop l.flight-index l.flights) l.self ≡ flights_seen l.flights l.fn.self
