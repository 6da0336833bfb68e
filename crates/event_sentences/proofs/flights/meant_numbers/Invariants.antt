use Rattle.std.proofs.Common.{◌≡◌, ◌+◌, ◌++◌, drop}
use Rattle.event_sentences.specs.Flights.{meant_from}
use Rattle.event_sentences.proofs.flights.meant_numbers.Given as goal

-- what was found, and what the rest of the flights will give
abbrev pub invariant-loop-i : goal.invariant-loop-i
invariant-loop-i l = l.numbers.items ++ meant_from l.meant (l.first + l.i) (drop l.i l.made) ≡ meant_from l.meant l.first l.made
