-- What happened in each cell of the lanes, the worst of it: a cell is two pixels of a node.
use Rattle.std.specs.Prelude.{ℕ, ◌+◌, ◌*◌, ◌/◌, ◌==◌, min, nat_lt, Bool, true, false, List, [], ◌∷◌, length, replicate, slice_get, slice_set}
use Rattle.std.specs.Prelude.{Option, None, Some, if◌then◌else◌}
use Rattle.line_record.specs.declared.act.Act.{Act}
use Rattle.line_record.specs.declared.act.Act.TheVariants as acts
use Rattle.line_record.specs.declared.recorded.RecordedEvent.{RecordedEvent}
use Rattle.line_record.specs.Kinds.{actor_of}
use Rattle.run_charts.specs.declared.outcome.Outcome.{Outcome}
use Rattle.run_charts.specs.declared.outcome.Outcome.TheVariants as outcomes
use Rattle.run_charts.specs.Outcomes.{outcome_of}

-- how much an outcome matters
abbrev pub rank_of : Outcome → ℕ
rank_of outcomes.Overheard = 1
rank_of outcomes.Fine = 2
rank_of outcomes.Good = 3
rank_of outcomes.Refused = 4
rank_of outcomes.Forged = 5

-- whether an event is one of its node
abbrev pub is_marked : Act → Bool
is_marked (acts.Show node) = false
is_marked (acts.RandomOctets node) = false
is_marked (acts.Tick seconds) = false
is_marked (acts.Lose flight) = false
is_marked _ = true

-- the cell of an event, by its place from 0 among this many
unfoldable pub cell_of : ℕ → ℕ → ℕ
cell_of place events = if events == 0 then 0 else min (min place 100000 * 590 / events) 590

abbrev pub raised_by : Option ℕ → ℕ → ℕ → List ℕ → List ℕ
raised_by None at rank ranks = ranks
raised_by (Some old) at rank ranks = if nat_lt old rank then slice_set ranks at rank else ranks

-- the worse of what a cell has and this
unfoldable pub raised : ℕ → ℕ → List ℕ → List ℕ
raised at rank ranks = raised_by (slice_get ranks at) at rank ranks

-- with the event at a place from 0 among this many
unfoldable pub marked : ℕ → ℕ → RecordedEvent → List ℕ → List ℕ
marked place events e ranks =
    if is_marked e.act then raised (actor_of e.act * 590 + cell_of place events) (rank_of (outcome_of e)) ranks else ranks

-- with these events, the first of them at this place among all
abbrev pub marked_from : ℕ → List RecordedEvent → List RecordedEvent → List ℕ → List ℕ
marked_from place all [] ranks = ranks
marked_from place all (e ∷ events) ranks = marked_from (place + 1) all events (marked place (length all) e ranks)

-- the worst of each cell, node by node; 0 where nothing happened
unfoldable pub ranks_of : ℕ → List RecordedEvent → List ℕ
ranks_of nodes events = marked_from 0 events events (replicate (min nodes 1000 * 590) 0)
