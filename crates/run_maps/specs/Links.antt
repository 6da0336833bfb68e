-- Who hears whom in a run: for a node and one that heard it, how many frames came, and the least cost of one.
use Rattle.std.specs.Prelude.{ℕ, ◌+◌, min, List, [], ◌∷◌, Option, None, Some}
use Rattle.std.specs.declared.cmp.Ordering.{Ordering}
use Rattle.std.specs.Ordering.{nat_cmp, ordering_then}
use Rattle.std.specs.BTreeMap.{insert_entry, is_at}
use Rattle.std.specs.Map.{lookup}
use Rattle.line_record.specs.declared.act.Act.{Act}
use Rattle.line_record.specs.declared.act.Act.TheVariants as acts
use Rattle.line_record.specs.declared.recorded.RecordedEvent.{RecordedEvent}
use Rattle.line_record.specs.declared.recorded.RecordedFlight.{RecordedFlight}
use Rattle.line_record.specs.RunRecords.{numbered}
use Rattle.run_maps.specs.declared.links.Heard.{Heard}
use Rattle.run_maps.specs.declared.links.Link.{Link}

-- # A link

abbrev pub least_with : Option ℕ → ℕ → ℕ
least_with None cost = cost
least_with (Some least) cost = min least cost

-- with one frame more, that came at this cost; a run has at most 50,000
abbrev pub with_frame : Option Link → ℕ → Link
with_frame None cost = record { least = Some cost; frames = 1 }
with_frame (Some link) cost = record { least = Some (least_with link.least cost); frames = min link.frames 1000000 + 1 }

-- with a route that was given: no frame came
abbrev pub with_route : Option Link → Link
with_route None = record { least = None; frames = 0 }
with_route (Some link) = link

-- # All links, in the order of the two nodes

abbrev pub pair_cmp : ℕ × ℕ → ℕ × ℕ → Ordering
pair_cmp x y = ordering_then (nat_cmp x.0 y.0) (nat_cmp x.1 y.1)

unfoldable pub link_at : ℕ → ℕ → List ((ℕ × ℕ) × Link) → Option Link
link_at from to links = lookup (is_at (pair_cmp (from, to))) links

unfoldable pub frame_added : ℕ → ℕ → ℕ → List ((ℕ × ℕ) × Link) → List ((ℕ × ℕ) × Link)
frame_added from to cost links = insert_entry pair_cmp links (from, to) (with_frame (link_at from to links) cost)

unfoldable pub route_added : ℕ → ℕ → List ((ℕ × ℕ) × Link) → List ((ℕ × ℕ) × Link)
route_added from to links = insert_entry pair_cmp links (from, to) (with_route (link_at from to links))

-- # What joins two nodes: a frame that one sent and the other one heard, and a route that was given, which joins them both ways

abbrev pub heard_by : Option RecordedFlight → ℕ → ℕ → List ((ℕ × ℕ) × Link) → List ((ℕ × ℕ) × Link)
heard_by None node cost links = links
heard_by (Some flight) node cost links = frame_added flight.from node cost links

abbrev pub with_act : Act → List RecordedFlight → List ((ℕ × ℕ) × Link) → List ((ℕ × ℕ) × Link)
with_act (acts.Deliver flight node cost) flights links = heard_by (numbered flights flight) node cost links
with_act (acts.Near a b) flights links = route_added b a (route_added a b links)
with_act _ flights links = links

abbrev pub links_from : List RecordedFlight → List RecordedEvent → List ((ℕ × ℕ) × Link) → List ((ℕ × ℕ) × Link)
links_from flights [] links = links
links_from flights (e ∷ events) links = links_from flights events (with_act e.act flights links)

-- the links of a run
unfoldable pub links_of : List RecordedEvent → List RecordedFlight → List ((ℕ × ℕ) × Link)
links_of events flights = links_from flights events []

-- # As a list

abbrev pub heard_of : (ℕ × ℕ) × Link → Heard
heard_of entry = record { from = entry.0.0; to = entry.0.1; link = entry.1 }

abbrev pub heard_list : List ((ℕ × ℕ) × Link) → List Heard
heard_list [] = []
heard_list (entry ∷ entries) = heard_of entry ∷ heard_list entries
