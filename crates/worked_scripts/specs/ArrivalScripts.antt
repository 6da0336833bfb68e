-- A datagram arrives along a route that may carry it; and where the route lacks one thing alone, it does not.
use Rattle.std.specs.Prelude.{◌≡◌, ℕ, ◌+◌, ◌-◌, false, List, [], ◌∷◌, ◌++◌, map, replicate, slice_set, take, true, Some, None, unwrap_or}
use Rattle.std.specs.List.{range_with_len}
use Rattle.std.specs.Option.{option_map, option_map_or}
use Rattle.plc_base.specs.Grant.{Granted}
use Rattle.fragment_buffers.specs.Reassembly.{Reassembly}
use Rattle.frame_counters.specs.SendCounter as counter
use Rattle.routing_set.specs.RoutingSet as routing
use Rattle.node_rules.specs.Calls as calls
use Rattle.node_rules.specs.Ciphers.{Ciphers, OpensWhatItSeals}
use Rattle.node_rules.specs.Drafts.{sealing_key}
use Rattle.node_rules.specs.Memory.{StationMemory, Memory, Node, Coordinator, Meter}
use Rattle.node_rules.specs.RestartStates.{blank_station, first_grant, remembering}
use Rattle.line_events.specs.declared.event.Answer.{Answer}
use Rattle.line_events.specs.declared.event.Answer.TheVariants as answers
use Rattle.line_events.specs.declared.event.Event.{Event}
use Rattle.line_events.specs.declared.event.Event.TheVariants.{Send, Deliver, Tick}
use Rattle.line_events.specs.declared.event.TheConstants.{MAX_EVENTS}
use Rattle.reach_rules.specs.ReachingNodes.{nothing_beside}
use Rattle.line_rules.specs.Runs.{run}
use Rattle.line_rules.specs.Steps.{blank_node}
use Rattle.line_rules.specs.Worlds.{World, start, node_at}
use Rattle.line_progress.specs.AnyOrder.{IsOrder, answers_over, deliveries_over, ways_at_first}
use Rattle.line_progress.specs.Arrival.{Stop, MayCarry, IsBrought, answers_of}
use Rattle.worked_scripts.specs.Scripts.{plain, eui, group_key, pair_key, second_key, three_meters, world_of}

-- # A route of two links

-- what a node is as a stop of a route, over a link of cost 1
abbrev pub stop_of : World → ℕ → Stop
stop_of w number = by_node (unwrap_or (node_at w number) (blank_node Coordinator (eui 0)))
  where
    by_ring : Node → Memory → Granted → Stop
    by_ring x m g =
        record {
          number = number;
          cost = 1;
          node = x;
          memory = m;
          granted = g;
          key = unwrap_or (sealing_key g) group_key;
        }

    by_memory : Node → Memory → Stop
    by_memory x m = by_ring x m (unwrap_or m.station.ring (first_grant group_key))

    by_node : Node → Stop
    by_node x = by_memory x (unwrap_or x.memory (remembering blank_station []))

-- meter 1 has found a route to meter 3, by meter 2, for a first datagram
abbrev pub route_found : List Event
route_found = three_meters ++ (Send 1 3 (0xaa ∷ []) ∷ Deliver 1 2 1 ∷ Deliver 2 3 1 ∷ Deliver 3 2 1 ∷ Deliver 4 1 1 ∷ [])

-- the line then
abbrev pub line_then : World
line_then = world_of route_found

-- The route may carry a second one.
unfoldable pub TheRouteMayCarry : Type 0
TheRouteMayCarry =
    MayCarry line_then (stop_of line_then 1) (stop_of line_then 2) (stop_of line_then 3 ∷ []) (0xbb ∷ [])

-- its events: it is sent, and each of its flights comes to the next node
abbrev pub way : List ℕ → List Event
way datagram = Send 1 3 datagram ∷ Deliver 6 2 1 ∷ Deliver 7 3 1 ∷ []

-- what is answered to them on a line
abbrev pub answers_on : Ciphers → World → List ℕ → List Answer
answers_on ciphers w datagram = answers_of (run ciphers w (way datagram))

-- The ciphers open what they seal, and the datagram arrives, as one octet and as 375.
unfoldable pub ADatagramArrives : Type 0
ADatagramArrives =
    OpensWhatItSeals plain
    × IsBrought (answers.Sent ∷ answers.Relayed ∷ answers.Up ∷ []) 3 (0xbb ∷ []) (run plain line_then (way (0xbb ∷ [])))
    × (answers_on plain line_then (replicate 375 7) ≡ answers.Sent ∷ answers.Relayed ∷ answers.Up ∷ [])

-- # In two pieces

-- a datagram of 376 octets, which goes in two pieces
abbrev pub in_two : List ℕ
in_two = replicate 376 7

-- The route may carry it.
unfoldable pub TheRouteMayCarryPieces : Type 0
TheRouteMayCarryPieces = MayCarry line_then (stop_of line_then 1) (stop_of line_then 2) (stop_of line_then 3 ∷ []) in_two

-- its events: it is sent, the first piece comes to its end, and then the second one
abbrev pub way_in_two : List Event
way_in_two = Send 1 3 in_two ∷ Deliver 6 2 1 ∷ Deliver 8 3 1 ∷ Deliver 7 2 1 ∷ Deliver 9 3 1 ∷ []

-- what is answered to them
abbrev pub in_two_with : (World → World) → List Answer
in_two_with change = answers_of (run plain (change line_then) way_in_two)

-- what is answered where it arrives
abbrev pub in_two_arrived : List Answer
in_two_arrived = answers.Sent ∷ answers.Relayed ∷ answers.Held ∷ answers.Relayed ∷ answers.Up ∷ []

-- The datagram arrives.
unfoldable pub ADatagramInPiecesArrives : Type 0
ADatagramInPiecesArrives = IsBrought in_two_arrived 3 in_two (run plain line_then way_in_two)

-- # In two pieces, in another order

-- what is under way over the two links once it is sent: both pieces, over the first
abbrev pub ways_in_two : List (List ℕ)
ways_in_two = ways_at_first 6 2 (stop_of line_then 3 ∷ [])

-- the deliveries over links in an order
abbrev pub in_order : List ℕ → List Event
in_order order = deliveries_over 8 (stop_of line_then 2 ∷ stop_of line_then 3 ∷ []) ways_in_two order

-- piece by piece, and link by link
abbrev pub by_piece : List ℕ
by_piece = 0 ∷ 1 ∷ 0 ∷ 1 ∷ []

abbrev pub by_link : List ℕ
by_link = 0 ∷ 0 ∷ 1 ∷ 1 ∷ []

-- Both are orders of deliveries, and these are their events and what is to be answered.
unfoldable pub BothAreOrders : Type 0
BothAreOrders =
    IsOrder 8 ways_in_two by_piece
    × (Send 1 3 in_two ∷ in_order by_piece ≡ way_in_two)
    × (answers.Sent ∷ answers_over 8 ways_in_two by_piece ≡ in_two_arrived)
    × IsOrder 8 ways_in_two by_link
    × (in_order by_link ≡ Deliver 6 2 1 ∷ Deliver 7 2 1 ∷ Deliver 8 3 1 ∷ Deliver 9 3 1 ∷ [])
    × (answers_over 8 ways_in_two by_link ≡ answers.Relayed ∷ answers.Relayed ∷ answers.Held ∷ answers.Up ∷ [])

-- The datagram arrives link by link too.
unfoldable pub ADatagramArrivesLinkByLink : Type 0
ADatagramArrivesLinkByLink =
    IsBrought (answers.Sent ∷ answers_over 8 ways_in_two by_link) 3 in_two (run plain line_then (Send 1 3 in_two ∷ in_order by_link))

-- what is answered to these deliveries, once it is sent
abbrev pub in_two_by : List Event → List Answer
in_two_by more = answers_of (run plain line_then (Send 1 3 in_two ∷ more))

-- It does not arrive where a link brings its second piece first, the second link or the first; where one link has a delivery less; where a piece
-- comes over the first link twice; or where 60 seconds pass between its pieces.
unfoldable pub EachOrderIsNeeded : Type 0
EachOrderIsNeeded =
    (in_two_by (Deliver 6 2 1 ∷ Deliver 7 2 1 ∷ Deliver 9 3 1 ∷ Deliver 8 3 1 ∷ [])
    ≡ answers.Sent ∷ answers.Relayed ∷ answers.Relayed ∷ answers.Held ∷ answers.Replayed ∷ [])
    × (in_two_by (Deliver 7 2 1 ∷ Deliver 6 2 1 ∷ Deliver 8 3 1 ∷ [])
    ≡ answers.Sent ∷ answers.Relayed ∷ answers.Replayed ∷ answers.Held ∷ [])
    × (in_two_by (in_order (0 ∷ 0 ∷ 1 ∷ [])) ≡ answers.Sent ∷ answers.Relayed ∷ answers.Relayed ∷ answers.Held ∷ [])
    × (in_two_by (Deliver 6 2 1 ∷ Deliver 6 2 1 ∷ Deliver 8 3 1 ∷ [])
    ≡ answers.Sent ∷ answers.Relayed ∷ answers.Replayed ∷ answers.Held ∷ [])
    × (in_two_by (Deliver 6 2 1 ∷ Deliver 7 2 1 ∷ Deliver 8 3 1 ∷ Tick 60 ∷ Deliver 9 3 1 ∷ [])
    ≡ answers.Sent ∷ answers.Relayed ∷ answers.Relayed ∷ answers.Held ∷ answers.Ticked ∷ answers.Held ∷ [])

-- # A route that lacks one thing

-- a line whose node of a number is another one
abbrev pub with_node : ℕ → (Node → Node) → World → World
with_node number change w =
    option_map_or (λ (x : Node). record w { nodes = slice_set w.nodes number (change x) }) (node_at w number) w

-- whose node holds other things
abbrev pub with_station_at : ℕ → (StationMemory → StationMemory) → World → World
with_station_at number change w =
    with_node number
    (λ x. record x { memory = option_map (λ (m : Memory). record m { station = change m.station }) x.memory }) w

-- whose node was given other things
abbrev pub with_grant_at : ℕ → (Granted → Granted) → World → World
with_grant_at number change w = with_station_at number (λ l. record l { ring = option_map change l.ring }) w

-- whose node goes to meter 3 by another hop
abbrev pub with_hop_at : ℕ → ℕ → World → World
with_hop_at number hop w =
    with_station_at number
    (λ l. record l { routing = routing.offered l.routing 3 (record { number = 9; cost = 1 }) hop 0 }) w

-- the answers of such a line to the datagram of one octet
abbrev pub answers_with : (World → World) → List Answer
answers_with change = answers_on plain (change line_then) (0xbb ∷ [])

-- whose node loses power at its next write, and one whose meter 2 has to write, since its counter is at the stored limit
abbrev pub with_cut_at : ℕ → World → World
with_cut_at number w =
    with_node number (λ x. record x { store = record x.store { cut = Some (record { nth = 1; keeps_new = false }) } }) w

abbrev pub at_its_limit : World → World
at_its_limit w = with_station_at 2 (λ l. record l { counter = counter.counting_at 5 }) w

-- a key at both indexes
abbrev pub with_second_key : Granted → Granted
with_second_key g = record g { key1 = Some second_key }

-- A datagram does not arrive where a node of the route is not there, is halted, loses power or is not joined, where its address or its index
-- is out of its range, or where it has no key to seal with.
unfoldable pub EachNodeIsReady : Type 0
EachNodeIsReady =
    (answers_with (λ w. record w { nodes = take 3 w.nodes }) ≡ [])
    × (answers_with (with_node 2 (λ x. record x { memory = None })) ≡ answers.Sent ∷ answers.Halted ∷ [])
    × (answers_with (λ w. with_cut_at 2 (at_its_limit w)) ≡ answers.Sent ∷ answers.Store ∷ [])
    × (answers_with at_its_limit ≡ answers.Sent ∷ answers.Relayed ∷ answers.Up ∷ [])
    × (answers_with (with_station_at 2 (λ l. record l { ring = None })) ≡ answers.Sent ∷ answers.NotForMe ∷ [])
    × (answers_with (with_grant_at 1 (λ g. record g { address = 0xFFFE })) ≡ answers.Sent ∷ answers.Malformed ∷ [])
    × (answers_with (λ w. with_grant_at 2 with_second_key (with_grant_at 1 (λ g. record (with_second_key g) { active = 2 }) w))
    ≡ answers.Sent ∷ answers.Malformed ∷ [])
    × (answers_with (with_grant_at 2 (λ g. record g { active = 1 })) ≡ answers.Sent ∷ answers.Relayed ∷ [])

-- Nor where a link does not hold: a node has the address of the target or of its next hop, no route, no counter, another key than the next
-- one, or a counter that the next one does not admit any more.
unfoldable pub EachLinkHolds : Type 0
EachLinkHolds =
    (answers_with (with_grant_at 1 (λ g. record g { address = 3 })) ≡ answers.ToSelf ∷ [])
    × (answers_with (λ w. with_hop_at 1 1 (with_grant_at 2 (λ g. record g { address = 1 }) w)) ≡ answers.Sent ∷ answers.NotForMe ∷ [])
    × (answers_with (with_station_at 2 (λ l. calls.broke 3 l)) ≡ answers.Sent ∷ answers.Reported ∷ answers.NotForMe ∷ [])
    × (answers_with (with_station_at 2 (λ l. record l { counter = counter.counting_at 4294967295 }))
    ≡ answers.Sent ∷ answers.CounterSpent ∷ [])
    × (answers_with (with_grant_at 3 (λ g. record g { key0 = Some second_key })) ≡ answers.Sent ∷ answers.Relayed ∷ answers.BadTag ∷ [])
    × (answers_with (with_station_at 2 (λ l. record l { counter = counter.counting_at 0 }))
    ≡ answers.Sent ∷ answers.Relayed ∷ answers.Replayed ∷ [])

-- a second node with the address of meter 2 and its route; meter 2 goes back to meter 1, whose counters are spent after one frame
abbrev pub round : World → World
round w =
    with_hop_at 2 1
    (with_station_at 1 (λ l. record l { counter = counter.counting_at 4294967294 })
    (record w { nodes = w.nodes ++ (stop_of w 2).node ∷ []; beside = w.beside ++ nothing_beside ∷ [] }))

-- Nor where a node stands on the route twice.
unfoldable pub TheRouteIsStraight : Type 0
TheRouteIsStraight =
    (answers_of (run plain (round line_then) (Send 1 3 (0xbb ∷ []) ∷ Deliver 6 2 1 ∷ Deliver 7 1 1 ∷ Deliver 8 4 1 ∷ Deliver 9 3 1 ∷ []))
    ≡ answers.Sent ∷ answers.Relayed ∷ answers.CounterSpent ∷ [])

-- Nor where the datagram is empty or has more than 1,280 octets, the run may not have the events, or the ciphers do not open what they seal.
unfoldable pub TheRestIsNeeded : Type 0
TheRestIsNeeded =
    (answers_on plain line_then [] ≡ answers.BadSize ∷ [])
    × (answers_on plain line_then (replicate 1281 7) ≡ answers.BadSize ∷ [])
    × (answers_with (λ w. record w { events = MAX_EVENTS - 2 }) ≡ answers.Sent ∷ answers.Relayed ∷ [])
    × (answers_on (record plain { opens = λ key head front body. None }) line_then (0xbb ∷ []) ≡ answers.Sent ∷ answers.BadTag ∷ [])

-- # What pieces need

-- whose node has only one counter left
abbrev pub with_one_counter_at : ℕ → World → World
with_one_counter_at number w = with_station_at number (λ l. record l { counter = counter.counting_at 4294967294 }) w

-- A datagram in two pieces does not arrive where its origin or a node between has one counter left, though one in one frame does.
unfoldable pub EachPieceNeedsACounter : Type 0
EachPieceNeedsACounter =
    (in_two_with (with_one_counter_at 1) ≡ answers.CounterSpent ∷ [])
    × (in_two_with (with_one_counter_at 2) ≡ answers.Sent ∷ answers.Relayed ∷ answers.Held ∷ answers.CounterSpent ∷ [])
    × (answers_with (with_one_counter_at 1) ≡ answers.Sent ∷ answers.Relayed ∷ answers.Up ∷ [])
    × (answers_with (with_one_counter_at 2) ≡ answers.Sent ∷ answers.Relayed ∷ answers.Up ∷ [])

-- a reassembly of a datagram of this many octets from another origin
abbrev pub other_of : ℕ → Reassembly
other_of size = record { origin = 9; size = size; tag = 0; note = 0; since = 0; pieces = [] }

-- whose meter 3 gathers others
abbrev pub with_others : List Reassembly → World → World
with_others others w = with_station_at 3 (λ l. record l { reassemblies = others }) w

-- what is answered where there is no room for its pieces
abbrev pub in_two_full : List Answer
in_two_full = answers.Sent ∷ answers.Relayed ∷ answers.BufferFull ∷ answers.Relayed ∷ answers.BufferFull ∷ []

-- Nor where its target gathers 8 datagrams, or has 5 of its 80 blocks left where the datagram takes 6. It does where one is less.
unfoldable pub PiecesNeedRoom : Type 0
PiecesNeedRoom =
    (in_two_with (with_others (replicate 8 (other_of 64))) ≡ in_two_full)
    × (in_two_with (with_others (other_of 1280 ∷ other_of 1280 ∷ other_of 1280 ∷ other_of 960 ∷ [])) ≡ in_two_full)
    × (in_two_with (with_others (replicate 7 (other_of 64))) ≡ in_two_arrived)
    × (in_two_with (with_others (other_of 1280 ∷ other_of 1280 ∷ other_of 1280 ∷ other_of 896 ∷ [])) ≡ in_two_arrived)

-- a piece that is left of an older datagram of the name that the next one from meter 1 has, in the place of the last one
abbrev pub left_over : List Reassembly
left_over =
    record {
      origin = 1;
      size = 376;
      tag = 0;
      note = 0;
      since = 0;
      pieces = record { start = 368; octets = replicate 8 9 } ∷ [];
    }
    ∷ []

-- whose meter 1 takes this tag next
abbrev pub with_tag : ℕ → World → World
with_tag tag w = with_station_at 1 (λ l. record l { next_tag = tag }) w

-- what is answered where the first piece makes another datagram whole
abbrev pub in_two_mixed : List Answer
in_two_mixed = answers.Sent ∷ answers.Relayed ∷ answers.Up ∷ answers.Relayed ∷ answers.Held ∷ []

-- Nor where its target holds a piece under its name, also where the tag is out of its range and is that name's in 16 bits. It does where its
-- tag is another one.
unfoldable pub PiecesNeedTheirName : Type 0
PiecesNeedTheirName =
    (in_two_with (with_others left_over) ≡ in_two_mixed)
    × (in_two_with (λ w. with_others left_over (with_tag 65536 w)) ≡ in_two_mixed)
    × (in_two_with (λ w. with_others left_over (with_tag 1 w)) ≡ in_two_arrived)

-- # A long route

-- a node of a long street: it has its number as its address, and goes to the last one by the next one
abbrev pub street_node : ℕ → ℕ → Node
street_node last number =
    record (blank_node (Meter pair_key) (eui (number + 1))) {
      memory =
          Some (remembering (record blank_station {
            ring = Some (record { address = number; active = 0; key0 = Some group_key; key1 = None });
            routing = routing.offered blank_station.routing last (record { number = 1; cost = 1 }) (number + 1) 0;
          }) []);
    }

-- a street of this many links
abbrev pub street : ℕ → World
street links = record start {
  running = true;
  nodes = map (street_node links) (range_with_len 0 (links + 1));
  beside = replicate (links + 1) nothing_beside;
}

-- a datagram goes along it
abbrev pub street_answers : ℕ → List Answer
street_answers links =
    answers_of (run plain (street links)
    (Send 0 links (0xbb ∷ []) ∷ map (λ k. Deliver (k + 1) (k + 1) 1) (range_with_len 0 links)))

-- It arrives over 14 links, and ends for want of hops where there are 15.
unfoldable pub FourteenLinksCarry : Type 0
FourteenLinksCarry =
    (street_answers 14 ≡ answers.Sent ∷ replicate 13 answers.Relayed ++ answers.Up ∷ [])
    × (street_answers 15 ≡ answers.Sent ∷ replicate 13 answers.Relayed ++ answers.HopsSpent ∷ [])
