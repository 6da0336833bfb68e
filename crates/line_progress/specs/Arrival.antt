-- That a datagram arrives where the links of its route hold: the nodes of a route, what holds of each link, and the events that bring a
-- datagram along it.
use Rattle.std.specs.Prelude.{◌≡◌, ◌≢◌, ℕ, zero, suc, ◌+◌, ◌*◌, ◌^◌, ◌≤◌, ◌<◌, false, nat_lt, List, [], ◌∷◌, ◌++◌, length, map, Some, None, Ok}
use Rattle.plc_base.specs.Addresses.{IsAddress}
use Rattle.plc_base.specs.declared.key.Key.{Key}
use Rattle.plc_base.specs.Grant.{Granted, key_at}
use Rattle.frame_counters.specs.PeerMarks.{room_for}
use Rattle.fragment_buffers.specs.Fragmentation.{pieces_of}
use Rattle.fragment_buffers.specs.Laws.{Awaits}
use Rattle.node_rules.specs.Ciphers.{Ciphers, OpensWhatItSeals}
use Rattle.node_rules.specs.Drafts.{sealing_key, counters_left}
use Rattle.node_rules.specs.Memory.{Memory, Node, next_hop}
use Rattle.line_events.specs.declared.event.Answer.{Answer}
use Rattle.line_events.specs.declared.event.Answer.TheVariants as answers
use Rattle.line_events.specs.declared.event.Event.{Event}
use Rattle.line_events.specs.declared.event.Event.TheVariants.{Send, Deliver}
use Rattle.line_events.specs.declared.event.TheConstants.{MAX_EVENTS}
use Rattle.line_rules.specs.Runs.{Entry, run, ups}
use Rattle.line_rules.specs.Worlds.{World, node_at}

-- # Routes

-- A node on a route: its number, what it is, what it holds in memory, its ring, and the key that it seals with. Frames come to it over a
-- link of this cost.
pub record Stop : Type 0 where
  pub number : ℕ
  pub cost : ℕ
  pub node : Node
  pub memory : Memory
  pub granted : Granted
  pub key : Key

-- It runs and is joined, no loss of power is to come, and it has a key to seal with.
pub record IsReady (s : Stop) : Type 0 where
  pub memory : s.node.memory ≡ Some s.memory
  pub spared : s.node.store.cut ≡ None
  pub ring : s.memory.station.ring ≡ Some s.granted
  pub address : IsAddress s.granted.address
  pub index : s.granted.active ≤ 1
  pub key : sealing_key s.granted ≡ Some s.key

-- A link toward an address holds for this many frames: the one node has a valid route to the address by the other, as many counters, and a key
-- that the other holds at the same index; and the other admits the first of these counters.
pub record HasLink (frames dest : ℕ) (s t : Stop) : Type 0 where
  pub on : s.granted.address ≢ dest
  pub apart : t.granted.address ≢ s.granted.address
  pub route : next_hop s.memory.station dest ≡ Some t.granted.address
  pub left : nat_lt (counters_left s.memory.station) frames ≡ false
  pub opens : key_at t.granted s.granted.active ≡ Some s.key
  pub admits : room_for t.memory.station.marks s.granted.address s.memory.station.counter.next ≡ Ok tt

-- the links of a route hold, and its last node has the address
abbrev pub HasRoute : (frames dest : ℕ) → Stop → List Stop → Type 0
HasRoute frames dest s [] = s.granted.address ≡ dest
HasRoute frames dest s (t ∷ rest) = HasLink frames dest s t × HasRoute frames dest t rest

-- the nodes of a route are there, and ready
abbrev pub AreReady : World → List Stop → Type 0
AreReady w [] = Unit {0}
AreReady w (s ∷ rest) = (node_at w s.number ≡ Some s.node) × IsReady s × AreReady w rest

-- a node is none of these
abbrev pub IsNoneOf : ℕ → List Stop → Type 0
IsNoneOf number [] = Unit {0}
IsNoneOf number (s ∷ rest) = (s.number ≢ number) × IsNoneOf number rest

-- no node stands twice on a route
abbrev pub IsStraight : List Stop → Type 0
IsStraight [] = Unit {0}
IsStraight (s ∷ rest) = IsNoneOf s.number rest × IsStraight rest

-- the last node of a route
abbrev pub last_of : Stop → List Stop → Stop
last_of s [] = s
last_of s (t ∷ rest) = last_of t rest

-- # What happens

-- A flight comes to the first of these nodes, and each later one to the next node: those flights are numbered from another number on.
abbrev pub deliveries : (flight next : ℕ) → Stop → List Stop → List Event
deliveries flight next s [] = Deliver flight s.number s.cost ∷ []
deliveries flight next s (t ∷ rest) = Deliver flight s.number s.cost ∷ deliveries next (next + 1) t rest

-- This many flights, numbered from the first on, come to the last node, one after the other.
abbrev pub all_deliveries : (frames flight next : ℕ) → Stop → List Stop → List Event
all_deliveries zero flight next t rest = []
all_deliveries (suc more) flight next t rest =
    deliveries flight next t rest ++ all_deliveries more (flight + 1) (next + length rest) t rest

-- what the nodes of a route answer: each sends a frame on, and the last one says this
abbrev pub delivery_answers : Answer → List Stop → List Answer
delivery_answers last [] = last ∷ []
delivery_answers last (t ∷ rest) = answers.Relayed ∷ delivery_answers last rest

-- what the last node says of a frame: more of the datagram is to come, or it is handed up
abbrev pub last_answer : ℕ → Answer
last_answer zero = answers.Up
last_answer (suc more) = answers.Held

-- what they answer to this many frames
abbrev pub all_answers : ℕ → List Stop → List Answer
all_answers zero rest = []
all_answers (suc more) rest = delivery_answers (last_answer more) rest ++ all_answers more rest

abbrev pub answers_of : List Entry → List Answer
answers_of entries = map (λ (x : Entry). x.trace.happenings.answer) entries

-- The events of a datagram's way are answered so, and it is handed up once: at this node, with these octets.
pub record IsBrought (expected : List Answer) (target : ℕ) (datagram : List ℕ) (entries : List Entry) : Type 0 where
  pub answers : answers_of entries ≡ expected
  pub note : ℕ
  pub up : ups entries ≡ record { node = target; note = note; octets = datagram } ∷ []

-- # The law

-- The last node of a route may gather a datagram that the first one sends in pieces: it holds nothing under the name that they will have,
-- whose tag is in its range, and has room for one reassembly more.
pub record MayGather (s last : Stop) (datagram : List ℕ) : Type 0 where
  pub tag : s.memory.station.next_tag < 2 ^ 16
  pub awaits : Awaits last.memory.station.reassemblies s.granted.address datagram s.memory.station.next_tag

-- A route may carry a datagram: its nodes are there and ready, none stands twice, each of its links holds for the frames of the datagram, and
-- they are 14 at most; the last node may gather the pieces, where there are some; and the run may have the events.
pub record MayCarry (w : World) (s t : Stop) (rest : List Stop) (datagram : List ℕ) : Type 0 where
  pub ready : AreReady w (s ∷ t ∷ rest)
  pub straight : IsStraight (s ∷ t ∷ rest)
  pub route : HasRoute (pieces_of (length datagram)) (last_of t rest).granted.address s (t ∷ rest)
  pub some : 0 < length datagram
  pub few : length datagram ≤ 1280
  pub short : length rest ≤ 13
  pub gathers : 376 ≤ length datagram → MayGather s (last_of t rest) datagram
  pub room : w.events + (1 + pieces_of (length datagram) * (1 + length rest)) ≤ MAX_EVENTS

-- A datagram of 1 to 1,280 octets that a node sends along a route of at most 14 links that hold, and each frame of which comes over all links
-- before the next one, is handed up at the last node with the same octets, after one delivery of each frame for each link.
abbrev pub DatagramsArrive : Type 0
DatagramsArrive =
    (ciphers : Ciphers) → OpensWhatItSeals ciphers
    → (w : World) (s t : Stop) (rest : List Stop) (datagram : List ℕ) → MayCarry w s t rest datagram
    → let frames = pieces_of (length datagram) in
    let first = length w.flights + 1 in
    IsBrought (answers.Sent ∷ all_answers frames rest) (last_of t rest).number datagram
    (run ciphers w (Send s.number (last_of t rest).number datagram ∷ all_deliveries frames first (first + frames) t rest))
