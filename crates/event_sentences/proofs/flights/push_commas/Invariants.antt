use Rattle.std.proofs.Common.{◌≡◌, ◌++◌, drop}
use Rattle.std.specs.Prelude.{string_bytes}
use Rattle.event_sentences.specs.Flights.{commas}
use Rattle.event_sentences.proofs.flights.push_commas.Given as goal

-- what was written, and what the rest of the numbers will be
abbrev pub invariant-loop-listed : goal.invariant-loop-listed
invariant-loop-listed l = string_bytes l.text ++ commas (drop l.listed-index l.numbers) ≡ string_bytes l.fn.text ++ commas l.numbers
