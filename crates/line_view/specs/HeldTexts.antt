-- A text that is held until it is known how the run of its script ended.
use Rattle.std.specs.Prelude.{ℕ, List, Some, None}
use Rattle.plc_base.specs.Streams.{SinkState}

-- what was written, and how often there was no memory for it
abbrev pub held : List ℕ → ℕ → SinkState
held octets faults = record { taken = Some octets; faults = faults; plan = None }
