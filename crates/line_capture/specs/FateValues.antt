-- What became of a flight.
use Rattle.std.specs.Prelude.{ℕ, List}
use Rattle.line_capture.specs.declared.fate.Arrival.{Arrival}

pub record FateValue : Type 0 where
  -- how it came to nodes, in the order of the events
  pub arrivals : List Arrival
  -- the event at which it was lost, 0 where it was not
  pub lost : ℕ
