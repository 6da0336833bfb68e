-- What becomes of flights.
use Rattle.std.specs.Prelude.{ℕ, ◌+◌, List, [], ◌∷◌, ◌++◌, replicate}
use Rattle.line_record.specs.declared.act.Act.{Act}
use Rattle.line_record.specs.declared.act.Act.TheVariants as acts
use Rattle.line_record.specs.declared.recorded.RecordedEvent.{RecordedEvent}
use Rattle.line_record.specs.Lists.{changed_at}
use Rattle.line_capture.specs.FateValues.{FateValue}

abbrev pub no_fate : FateValue
no_fate = record { arrivals = []; lost = 0 }

-- it comes to a node at an event
abbrev pub arrived : ℕ → ℕ → RecordedEvent → FateValue → FateValue
arrived n node e fate =
    record fate { arrivals = fate.arrivals ++ (record { event = n; node = node; answer = e.answer; forged = e.forged }) ∷ [] }

-- it is lost at an event
abbrev pub lost : ℕ → FateValue → FateValue
lost n fate = record fate { lost = n }

abbrev pub arrived_in : ℕ → ℕ → ℕ → RecordedEvent → List FateValue → List FateValue
arrived_in flight n node e fates = changed_at flight (arrived n node e) fates

abbrev pub lost_in : ℕ → ℕ → List FateValue → List FateValue
lost_in flight n fates = changed_at flight (lost n) fates

-- what an event does to the flights
abbrev pub fates_by : Act → ℕ → RecordedEvent → List FateValue → List FateValue
fates_by (acts.Deliver flight node cost) n e fates = arrived_in flight n node e fates
fates_by (acts.Lose flight) n e fates = lost_in flight n fates
fates_by _ n e fates = fates

-- those after the events from this number on
abbrev pub fates_from : ℕ → List RecordedEvent → List FateValue → List FateValue
fates_from n [] fates = fates
fates_from n (e ∷ es) fates = fates_from (n + 1) es (fates_by e.act n e fates)

-- those of this many flights after a run
abbrev pub fates_of : ℕ → List RecordedEvent → List FateValue
fates_of count events = fates_from 1 events (replicate count no_fate)
