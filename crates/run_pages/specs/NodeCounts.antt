-- What is counted of each node of a run.
use Rattle.std.specs.Prelude.{ℕ, ◌+◌, Bool, true, List, [], ◌∷◌, slice_get, None, Some}
use Rattle.line_record.specs.declared.recorded.RecordedEvent.{RecordedEvent}
use Rattle.line_record.specs.Kinds.{actor_of, is_refused}
use Rattle.line_record.specs.Lists.{changed_place}
use Rattle.run_pages.specs.Counts.{count_if}
use Rattle.run_pages.specs.declared.node_counts.NodeCount.{NodeCount}

abbrev pub no_count : NodeCount
no_count = record { address = None; datagrams = 0; came = 0; refusals = 0; forged = 0 }

abbrev pub with_address : ℕ → NodeCount → NodeCount
with_address address c = record c { address = Some address }

-- with one of its events
abbrev pub with_event : RecordedEvent → NodeCount → NodeCount
with_event e c = record c { refusals = count_if (is_refused e.answer) c.refusals; forged = count_if e.forged c.forged }

-- with a datagram that it was to send, which came or did not
abbrev pub with_datagram : Bool → NodeCount → NodeCount
with_datagram came c = record c { datagrams = count_if true c.datagrams; came = count_if came c.came }

-- # By node

abbrev pub address_added : ℕ → ℕ → List NodeCount → List NodeCount
address_added address node counts = changed_place (slice_get counts node) node (with_address address) counts

abbrev pub event_added : RecordedEvent → List NodeCount → List NodeCount
event_added e counts = changed_place (slice_get counts (actor_of e.act)) (actor_of e.act) (with_event e) counts

abbrev pub datagram_added : ℕ → Bool → List NodeCount → List NodeCount
datagram_added node came counts = changed_place (slice_get counts node) node (with_datagram came) counts

-- the short addresses from this one on, by the node of each
abbrev pub addresses_added : ℕ → List ℕ → List NodeCount → List NodeCount
addresses_added address [] counts = counts
addresses_added address (node ∷ homes) counts = addresses_added (address + 1) homes (address_added address node counts)

abbrev pub events_added : List RecordedEvent → List NodeCount → List NodeCount
events_added [] counts = counts
events_added (e ∷ es) counts = events_added es (event_added e counts)
