-- Which nodes have a column in a chart: those that take part in its events.
use Rattle.std.specs.Prelude.{ℕ, ◌==◌, Bool, true, false, nat_le, List, [], ◌∷◌, ◌++◌, take, drop, position, slice_get}
use Rattle.std.specs.Prelude.{Option, None, Some, if◌then◌else◌}
use Rattle.line_record.specs.declared.act.Act.{Act}
use Rattle.line_record.specs.declared.act.Act.TheVariants as acts
use Rattle.line_record.specs.declared.recorded.RecordedEvent.{RecordedEvent}
use Rattle.line_record.specs.declared.recorded.RecordedFlight.{RecordedFlight}
use Rattle.line_record.specs.Kinds.{actor_of, is_setup}
use Rattle.line_record.specs.RunRecords.{made_by, numbered}
use Rattle.run_charts.specs.Runs.{Run, is_hushed, missed_at}
use Rattle.run_charts.specs.Rows.{flight_heard}

-- # Columns in the order of the nodes

abbrev pub is_from : ℕ → ℕ → Bool
is_from node other = nat_le node other

abbrev pub is_there : Option ℕ → ℕ → Bool
is_there None node = false
is_there (Some other) node = other == node

abbrev pub with_column_at : Option ℕ → ℕ → List ℕ → List ℕ
with_column_at None node columns = columns ++ (node ∷ [])
with_column_at (Some place) node columns =
    if is_there (slice_get columns place) node then columns else take place columns ++ (node ∷ drop place columns)

-- a column more, unless the node has one
unfoldable pub with_column : ℕ → List ℕ → List ℕ
with_column node columns = with_column_at (position (is_from node) columns) node columns

abbrev pub with_node : Option ℕ → List ℕ → List ℕ
with_node None columns = columns
with_node (Some node) columns = with_column node columns

-- # Who takes part

-- whether an event is one of its node by itself
abbrev pub is_own : Act → Bool
is_own (acts.Tick seconds) = false
is_own (acts.Lose flight) = false
is_own (acts.Deliver flight node cost) = false
is_own _ = true

-- the node that an event beside the setup is about, if it is about one
unfoldable pub doer_of : Act → Option ℕ
doer_of act = if is_setup act then None else (if is_own act then Some (actor_of act) else None)

abbrev pub sender_by : Option RecordedFlight → Option ℕ
sender_by None = None
sender_by (Some flight) = Some flight.from

unfoldable pub sender_of : Run → ℕ → Option ℕ
sender_of r flight = sender_by (numbered r.flights flight)

-- the node that hears a flight at an event, if it is for it; else the node that it is for and never came to
unfoldable pub hearer_of : Run → ℕ → RecordedEvent → Option ℕ
hearer_of r event e =
    if flight_heard e.act == 0 then None
    else (if is_hushed r event then missed_at r (flight_heard e.act) else Some (actor_of e.act))

abbrev pub with_senders : List RecordedFlight → List ℕ → List ℕ
with_senders [] columns = columns
with_senders (flight ∷ flights) columns = with_senders flights (with_column flight.from columns)

abbrev pub with_told : Option RecordedEvent → Run → ℕ → List ℕ → List ℕ
with_told None r event columns = columns
with_told (Some e) r event columns =
    with_senders (made_by e r.flights)
    (with_node (hearer_of r event e) (with_node (sender_of r (flight_heard e.act)) (with_node (doer_of e.act) columns)))

unfoldable pub with_event : Run → ℕ → List ℕ → List ℕ
with_event r event columns = with_told (numbered r.events event) r event columns

abbrev pub columns_from : Run → List ℕ → List ℕ → List ℕ
columns_from r [] columns = columns
columns_from r (event ∷ events) columns = columns_from r events (with_event r event columns)

unfoldable pub columns_of : Run → List ℕ → List ℕ
columns_of r events = columns_from r events []
