-- That a route request reaches the node that is sought, and that a datagram without a route arrives, where the nodes of a way hear each other:
-- what holds of each, and what they say.
use Rattle.std.specs.Prelude.{◌≡◌, ◌≢◌, ℕ, ◌+◌, ◌*◌, ◌≤◌, ◌<◌, true, false, nat_lt, List, [], ◌∷◌, ◌++◌, length, Option, Some, None, Ok}
use Rattle.std.specs.Option.{option_and_then}
use Rattle.plc_base.specs.Grant.{key_at}
use Rattle.frame_counters.specs.PeerMarks.{kept_after, room_for}
use Rattle.frame_counters.specs.SendCounter.{reserved}
use Rattle.fragment_buffers.specs.Fragmentation.{pieces_of}
use Rattle.routing_set.specs.RoutingSet.{is_better, is_full, offered}
use Rattle.node_rules.specs.Ciphers.{Ciphers, OpensWhatItSeals}
use Rattle.node_rules.specs.Drafts.{counters_left, is_awaited, no_room}
use Rattle.node_rules.specs.HearingRules.{rank_over}
use Rattle.node_rules.specs.Memory.{Node, StationMemory, next_hop, node_route}
use Rattle.line_events.specs.declared.event.Answer.{Answer}
use Rattle.line_events.specs.declared.event.Answer.TheVariants as answers
use Rattle.line_events.specs.declared.event.Event.{Event}
use Rattle.line_events.specs.declared.event.Event.TheVariants.{Send, Deliver}
use Rattle.line_events.specs.declared.event.TheConstants.{MAX_EVENTS}
use Rattle.line_rules.specs.Runs.{Entry, last_world, run, ups}
use Rattle.line_rules.specs.Worlds.{World, node_at}
use Rattle.line_progress.specs.Arrival.{Stop, AreReady, IsStraight, last_of, deliveries, delivery_answers, answers_of, all_deliveries, all_answers}
use Rattle.line_progress.specs.Arrival.{IsBrought, MayGather}

-- # What is asked of each node

-- A node may seek a route for a datagram: it has none to the address, nothing waits for it, there is room for the datagram, and a number for
-- the request and a counter are left.
pub record MaySeek (s : Stop) (dest : ℕ) (datagram : List ℕ) : Type 0 where
  pub lost : next_hop s.memory.station dest ≡ None
  pub idle : is_awaited s.memory.station dest ≡ false
  pub room : no_room s.memory.station (length datagram) ≡ false
  pub numbers : s.memory.station.own_number.last < 65535
  pub left : nat_lt (counters_left s.memory.station) 1 ≡ false

-- A node takes a request of this number from another node, up to which it has come over links of a total cost: it holds the key of the other
-- at the same index, and admits its next counter; the rank that is offered for the origin, whose address is another one, is better than what
-- it has of it, costs no more than a rank can, and has room in its table of ranks; nothing waits for the origin, and a counter is left.
pub record TakesRequest (number total origin now : ℕ) (s t : Stop) : Type 0 where
  pub apart : t.granted.address ≢ s.granted.address
  pub opens : key_at t.granted s.granted.active ≡ Some s.key
  pub admits : room_for t.memory.station.marks s.granted.address s.memory.station.counter.next ≡ Ok tt
  pub away : t.granted.address ≢ origin
  pub better : is_better t.memory.station.routing origin (rank_over number total t.cost) ≡ true
  pub cheap : total + t.cost ≤ 65535
  pub room : is_full t.memory.station.routing origin now ≡ false
  pub idle : is_awaited t.memory.station origin ≡ false
  pub left : nat_lt (counters_left t.memory.station) 1 ≡ false

-- the station of a node that has taken such a request, and passed it on: the mark of the sender, the rank of the origin, whose route goes by the
-- sender, and the next counter are other ones
abbrev pub asked_of : (number total origin now : ℕ) → Stop → Stop → StationMemory
asked_of number total origin now s t = record t.memory.station {
  marks = kept_after t.memory.station.marks s.granted.address s.memory.station.counter.next;
  routing = offered t.memory.station.routing origin (rank_over number total t.cost) s.granted.address now;
  counter = reserved t.memory.station.counter 1;
}

-- The node that is sought has the address, and an own number for its reply.
pub record MayAnswer (dest : ℕ) (s : Stop) : Type 0 where
  pub at : s.granted.address ≡ dest
  pub numbers : s.memory.station.own_number.last < 65535

-- each node after the first takes the request from the one before it, and the last one is sought
abbrev pub AreReached : (number total origin dest now : ℕ) → Stop → List Stop → Type 0
AreReached number total origin dest now s [] = MayAnswer dest s
AreReached number total origin dest now s (t ∷ rest) =
    (s.granted.address ≢ dest) × TakesRequest number total origin now s t × AreReached number (total + t.cost) origin dest now t rest

-- # What the reply needs of each

-- the cost at which a node of a way sends the reply on, and the counter that the frame of it has: the last node begins it, and each other one has
-- sent the request before
abbrev pub cost_back : Stop → List Stop → ℕ
cost_back t [] = 0
cost_back t (z ∷ rest) = cost_back z rest + t.cost

abbrev pub counter_back : Stop → List Stop → ℕ
counter_back t [] = t.memory.station.counter.next
counter_back t (z ∷ rest) = t.memory.station.counter.next + 1

-- A node that has such a station takes a reply of this number and counter from the node after it, up to which it has come over links of a total
-- cost: it holds the key of that one at the same index, and admits the counter; and the rank that is offered for the node that was sought is
-- better than what it has of it, costs no more than a rank can, and has room in a table of ranks.
pub record TakesReply (number total dest counter now : ℕ) (z t : Stop) (l : StationMemory) : Type 0 where
  pub opens : key_at t.granted z.granted.active ≡ Some z.key
  pub admits : room_for l.marks z.granted.address counter ≡ Ok tt
  pub better : is_better l.routing dest (rank_over number total t.cost) ≡ true
  pub cheap : total + t.cost ≤ 65535
  pub room : is_full l.routing dest now ≡ false

-- A search: the number of the request and of its reply, the addresses of the node that asks and of the one that is sought, when it is, and how many
-- frames are to follow.
pub record Search : Type 0 where
  pub asked : ℕ
  pub answered : ℕ
  pub origin : ℕ
  pub dest : ℕ
  pub clock : ℕ
  pub frames : ℕ

-- A node between two of other addresses takes the reply from the one after it, once it has passed the request on; nothing waits there for the node
-- that is sought, and counters are left for the request, the reply and the frames that follow.
pub record PassesBack (q : Search) (total : ℕ) (s t z : Stop) (rest : List Stop) : Type 0 where
  pub apart : z.granted.address ≢ s.granted.address
  pub takes : TakesReply q.answered (cost_back z rest) q.dest (counter_back z rest) q.clock z t (asked_of q.asked total q.origin q.clock s t)
  pub idle : is_awaited t.memory.station q.dest ≡ false
  pub left : nat_lt (counters_left t.memory.station) (2 + q.frames) ≡ false

-- so does each node between
abbrev pub AreBack : Search → ℕ → Stop → Stop → List Stop → Type 0
AreBack q total s t [] = Unit {0}
AreBack q total s t (z ∷ rest) = PassesBack q total s t z rest × AreBack q (total + t.cost) t z rest

-- The node that asked takes the reply too, and has a counter for the request and for each frame that follows.
pub record Learns (q : Search) (s t : Stop) (rest : List Stop) : Type 0 where
  pub takes : TakesReply q.answered (cost_back t rest) q.dest (counter_back t rest) q.clock t s s.memory.station
  pub left : nat_lt (counters_left s.memory.station) (1 + q.frames) ≡ false

-- # What comes of it

-- the next hop of a node to an address
abbrev pub hop_at : World → (number dest : ℕ) → Option ℕ
hop_at w number dest = option_and_then (λ (x : Node). node_route x dest) (node_at w number)

-- each node after the first has a route to an address by the one before it
abbrev pub LeadTo : World → ℕ → Stop → List Stop → Type 0
LeadTo w dest s [] = Unit {0}
LeadTo w dest s (t ∷ rest) = (hop_at w t.number dest ≡ Some s.granted.address) × LeadTo w dest t rest

-- The events of a request's way are answered so, nothing is handed up, and after them each node after the first has a route back to an address.
pub record IsSought (expected : List Answer) (origin : ℕ) (s : Stop) (stops : List Stop) (w : World) (entries : List Entry) : Type 0 where
  pub answers : answers_of entries ≡ expected
  pub none_up : ups entries ≡ []
  pub back : LeadTo (last_world w entries) origin s stops

-- # The law

-- Nodes may carry a request: they are there and ready, none stands twice, and neighbours are not checked; the first one may seek a route for the
-- datagram, and each later one takes the request from the one before it; and the run may have the events.
pub record MayReach (w : World) (s t : Stop) (rest : List Stop) (datagram : List ℕ) : Type 0 where
  pub ready : AreReady w (s ∷ t ∷ rest)
  pub straight : IsStraight (s ∷ t ∷ rest)
  pub unchecked : w.checks_on ≡ false
  pub seeks : MaySeek s (last_of t rest).granted.address datagram
  pub reached : AreReached (s.memory.station.own_number.last + 1) 0 s.granted.address (last_of t rest).granted.address w.clock s (t ∷ rest)
  pub some : 0 < length datagram
  pub few : length datagram ≤ 1280
  pub events : w.events + (2 + length rest) ≤ MAX_EVENTS

-- A node that is to send a datagram to a node to which it has no route lets it wait, and its request, which comes over each link of a way whose
-- nodes take it, is passed on by each of them and answered by the node that is sought; then each has a route back by the node before it.
abbrev pub RequestsArrive : Type 0
RequestsArrive =
    (ciphers : Ciphers) → OpensWhatItSeals ciphers
    → (w : World) (s t : Stop) (rest : List Stop) (datagram : List ℕ) → MayReach w s t rest datagram
    → let first = length w.flights + 1 in
    IsSought (answers.Waiting ∷ delivery_answers answers.Answered rest) s.granted.address s (t ∷ rest) w
    (run ciphers w (Send s.number (last_of t rest).number datagram ∷ deliveries first (first + 1) t rest))

-- # The whole discovery

-- a flight comes to the last node but one, and each later one to the node before: those flights are numbered from the first on
abbrev pub back_deliveries : (flight : ℕ) → Stop → List Stop → List Event
back_deliveries flight s [] = []
back_deliveries flight s (t ∷ rest) = back_deliveries flight t rest ++ (Deliver (flight + length rest) s.number s.cost ∷ [])

-- what the nodes between answer to the reply
abbrev pub back_answers : List Stop → List Answer
back_answers [] = []
back_answers (z ∷ rest) = back_answers rest ++ (answers.Relayed ∷ [])

-- the search of a node for the last node of a way
abbrev pub search_of : World → Stop → Stop → List ℕ → Search
search_of w s z datagram = record {
  asked = s.memory.station.own_number.last + 1;
  answered = z.memory.station.own_number.last + 1;
  origin = s.granted.address;
  dest = z.granted.address;
  clock = w.clock;
  frames = pieces_of (length datagram);
}

-- Nodes may find each other and carry a datagram: they may carry the request, and its reply, and there are 14 links at most; the last node may
-- gather the pieces of the datagram, where there are some; and the run may have the events.
pub record MayFind (w : World) (s t : Stop) (rest : List Stop) (datagram : List ℕ) : Type 0 where
  pub reach : MayReach w s t rest datagram
  pub back : AreBack (search_of w s (last_of t rest) datagram) 0 s t rest
  pub learns : Learns (search_of w s (last_of t rest) datagram) s t rest
  pub gathers : 376 ≤ length datagram → MayGather s (last_of t rest) datagram
  pub short : length rest ≤ 13
  pub events : w.events + (1 + (1 + length rest) * (2 + pieces_of (length datagram))) ≤ MAX_EVENTS

-- A node that is to send a datagram of 1 to 1,280 octets to a node to which it has no route lets it wait. Its request comes over each link of a way
-- of at most 14 links whose nodes take it, and the reply comes back over each link; then the datagram leaves, each frame of it comes over all links
-- before the next one, and it is handed up at the last node with the same octets.
abbrev pub DiscoveriesArrive : Type 0
DiscoveriesArrive =
    (ciphers : Ciphers) → OpensWhatItSeals ciphers
    → (w : World) (s t : Stop) (rest : List Stop) (datagram : List ℕ) → MayFind w s t rest datagram
    → let frames = pieces_of (length datagram) in
    let first = length w.flights + 1 in
    let reply = first + (1 + length rest) in
    let leaves = reply + (1 + length rest) in
    IsBrought
    (answers.Waiting
    ∷ (delivery_answers answers.Answered rest ++ (back_answers rest ++ (answers.Learned ∷ all_answers frames rest))))
    (last_of t rest).number datagram
    (run ciphers w (Send s.number (last_of t rest).number datagram
    ∷ (deliveries first (first + 1) t rest
    ++ (back_deliveries reply s (t ∷ rest) ++ all_deliveries frames leaves (leaves + frames) t rest))))
