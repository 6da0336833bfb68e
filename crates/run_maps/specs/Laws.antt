-- What the links of a run say: of two nodes the frames that one sent and the other one heard, and nothing else.
use Rattle.std.specs.Prelude.{◌≡◌, ℕ, Bool, List, [], ◌∷◌, Option, None, Some, if◌then◌else◌}
use Rattle.std.specs.BTreeMap.{is_at}
use Rattle.line_record.specs.declared.act.Act.{Act}
use Rattle.line_record.specs.declared.act.Act.TheVariants as acts
use Rattle.line_record.specs.declared.recorded.RecordedEvent.{RecordedEvent}
use Rattle.line_record.specs.declared.recorded.RecordedFlight.{RecordedFlight}
use Rattle.line_record.specs.RunRecords.{numbered}
use Rattle.run_maps.specs.declared.links.Link.{Link}
use Rattle.run_maps.specs.Links.{link_at, links_of, pair_cmp, with_frame, with_route}

-- whether two nodes are these
abbrev pub are : ℕ × ℕ → ℕ × ℕ → Bool
are pair other = is_at (pair_cmp pair) other

abbrev pub if_frame : Option RecordedFlight → ℕ × ℕ → ℕ → ℕ → Option Link → Option Link
if_frame None pair node cost link = link
if_frame (Some flight) pair node cost link = if are pair (flight.from, node) then Some (with_frame link cost) else link

abbrev pub if_route : ℕ × ℕ → ℕ × ℕ → Option Link → Option Link
if_route pair other link = if are pair other then Some (with_route link) else link

-- what an event says of the link of two nodes
abbrev pub link_after : Act → List RecordedFlight → ℕ × ℕ → Option Link → Option Link
link_after (acts.Deliver flight node cost) flights pair link = if_frame (numbered flights flight) pair node cost link
link_after (acts.Near a b) flights pair link = if_route pair (b, a) (if_route pair (a, b) link)
link_after _ flights pair link = link

-- what all events say of it
abbrev pub link_over : List RecordedFlight → List RecordedEvent → ℕ × ℕ → Option Link → Option Link
link_over flights [] pair link = link
link_over flights (e ∷ events) pair link = link_over flights events pair (link_after e.act flights pair link)

-- the link of two nodes is what the events say of these two
abbrev pub LinksHold : Type 0
LinksHold =
    (events : List RecordedEvent) (flights : List RecordedFlight) (pair : ℕ × ℕ)
    → link_at pair.0 pair.1 (links_of events flights) ≡ link_over flights events pair None
