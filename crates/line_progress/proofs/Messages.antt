-- A route message of a node comes to a neighbour, where neighbours are not checked: what that makes of the world.
use Rattle.std.proofs.Common.{◌≡◌, ◌≢◌, ℕ, ◌+◌, ◌<◌, ◌≤◌, ◌^◌, Bool, true, false, List, [], ◌∷◌, ◌++◌, length, map, Some, None, Ok, refl, ap, ◌∙◌, arith}
use Rattle.std.specs.Prelude.{nat_lt, slice_get, ◌==◌, ◌&&◌, ◌||◌}
use Rattle.std.proofs.lemmas.Bool.{eq-eqb, ltb-false, ne_eqb, or_right}
use Rattle.std.proofs.lemmas.List.{length-append}
use Rattle.byteorder.specs.Endian.{big_bytes}
use Rattle.byteorder.specs.Numbers.{length-bytes_high_first}
use Rattle.plc_base.specs.Grant.{key_at}
use Rattle.frame_counters.specs.PeerMarks.{kept_after, room_for}
use Rattle.store_tables.proofs.SlotTables.{slice_get-push, slice_get-set}
use Rattle.mac_frames.specs.Grammar.{IsTarget}
use Rattle.mesh_header.specs.declared.unit.Unit.TheVariants as units
use Rattle.mesh_header.specs.Reader.{unit_in}
use Rattle.loadng_messages.specs.declared.message.Message.{Message}
use Rattle.loadng_messages.specs.declared.message.Message.TheVariants.{Rreq, Rrep, Rerr}
use Rattle.loadng_messages.specs.Grammar as messages
use Rattle.node_rules.specs.declared.heard.Heard.{Heard}
use Rattle.node_rules.specs.Acceptance.{accept, is_own, marking}
use Rattle.node_rules.specs.Ciphers.{Ciphers, OpensWhatItSeals}
use Rattle.node_rules.specs.Drafts.{counters_left}
use Rattle.node_rules.specs.Frames.{SealedUnit, Sent, Sealed, arrived, spelled, to_all}
use Rattle.node_rules.specs.HearingRules.{hear}
use Rattle.node_rules.specs.Memory.{StationMemory, Memory, Node}
use Rattle.node_rules.specs.MemoryDrafts.{unread, with_station}
use Rattle.reach_rules.specs.CheckedReplies.{is_unbelieved, message_of}
use Rattle.reach_rules.specs.FurtherReceptions.{command_of, command_with}
use Rattle.line_events.specs.declared.event.Event.TheVariants as events
use Rattle.line_rules.specs.Answers.{station_reception}
use Rattle.line_rules.specs.Further.{beside_at, comes, is_dropped, line_step}
use Rattle.line_rules.specs.Steps.{flight_by}
use Rattle.line_rules.specs.Worlds.{World, Flight, Trace, node_at}
use Rattle.line_progress.specs.Arrival.{Stop, IsReady}
use Rattle.line_progress.proofs.SealedUnits.{IsSealable, unit_whole}
use Rattle.line_progress.proofs.Acceptance.{accepts_by, got_by, own_is}
use Rattle.line_progress.proofs.Deliveries.{Goes, delivered, note_so, unchecked_comes}
use Rattle.line_progress.proofs.HeardUnits.{Hears}
use Rattle.line_progress.proofs.Routes.{at_place, no_target, place_within}

-- # Messages in their ranges

two_more : (n : ℕ) (rest : List ℕ) → length (big_bytes 2 n ++ rest) ≡ 2 + length rest
two_more n rest = length-append (big_bytes 2 n) rest ∙ ap (λ k. k + length rest) (length-bytes_high_first 2 n)

four_numbers : (kind a b c d : ℕ) → length (kind ∷ big_bytes 2 a ++ big_bytes 2 b ++ big_bytes 2 c ++ big_bytes 2 d) ≤ 9
four_numbers kind a b c d =
    let p = two_more a (big_bytes 2 b ++ big_bytes 2 c ++ big_bytes 2 d) in
    let q = two_more b (big_bytes 2 c ++ big_bytes 2 d) in
    let r = two_more c (big_bytes 2 d) in omega (arith, p, q, r, length-bytes_high_first 2 d)

short : (m : Message) → length (messages.spelling m) ≤ 9
short (Rreq n c o d) = four_numbers 1 n c o d
short (Rrep n c o d) = four_numbers 2 n c o d
short (Rerr o d) = omega (arith, two_more o (big_bytes 2 d), length-bytes_high_first 2 d)

-- a message of a node as it is sealed
abbrev pub message_by : Stop → (to counter : ℕ) → Message → SealedUnit
message_by s to counter message = record {
  to = to;
  from = s.granted.address;
  counter = counter;
  index = s.granted.active;
  key = s.key;
  unit = units.Local 1 (messages.spelling message);
  note = 0;
}

-- # Flights

-- The flight at a place has a sealed unit.
pub record IsFlying (ciphers : Ciphers) (w : World) (place : ℕ) (u : SealedUnit) : Type 0 where
  pub f : Flight
  pub flown : slice_get w.flights place ≡ Some f
  pub unlost : f.lost ≡ false
  pub same : f.octets ≡ (spelled ciphers (Sealed u)).octets

-- a frame that has just been sent is the last one
pub flies_last : (ciphers : Ciphers) (w v : World) (number : ℕ) (u : SealedUnit)
    → v.flights ≡ w.flights ++ map (λ (frame : Sent). flight_by number (spelled ciphers frame)) (Sealed u ∷ [])
    → IsFlying ciphers v (length w.flights) u
flies_last ciphers w v number u flights = record {
  f = flight_by number (spelled ciphers (Sealed u));
  flown = ap (λ fs. slice_get fs (length w.flights)) flights ∙ slice_get-push w.flights _;
  unlost = refl;
  same = refl;
}

-- # A node now

-- A node of a route that has such a station.
pub record Holds (w : World) (t : Stop) (station : StationMemory) : Type 0 where
  pub node : Node
  pub there : node_at w t.number ≡ Some node
  pub runs : node.memory ≡ Some (with_station station t.memory)
  pub spared : node.store.cut ≡ None

pub still : (w v : World) (t : Stop) (station : StationMemory) → node_at v t.number ≡ node_at w t.number → Holds w t station → Holds v t station
still w v t station same h = record { node = h.node; there = same ∙ h.there; runs = h.runs; spared = h.spared }

-- # A message that comes

-- A message of a node, to this address with this counter, comes to a neighbour that has such a station: to all, or to it alone.
pub record IsComing (w : World) (s t : Stop) (station : StationMemory) (to counter : ℕ) (all : Bool) : Type 0 where
  pub first : IsReady s
  pub holds : Holds w t station
  pub ring : station.ring ≡ Some t.granted
  pub off : w.checks_on ≡ false
  pub target : IsTarget to
  pub low : counter < 2 ^ 32
  pub apart : t.granted.address ≢ s.granted.address
  pub opens : key_at t.granted s.granted.active ≡ Some s.key
  pub admits : room_for station.marks s.granted.address counter ≡ Ok tt
  pub is_all : (to == to_all) ≡ all
  pub mine : (is_own station to || (to == to_all)) ≡ true

-- it was sent to all
pub to_everyone : (station : StationMemory) → (is_own station to_all || (to_all == to_all)) ≡ true
to_everyone station = or_right (is_own station to_all) true refl

-- it was sent to this node
pub to_me : (t : Stop) (station : StationMemory) → station.ring ≡ Some t.granted
    → (is_own station t.granted.address || (t.granted.address == to_all)) ≡ true
to_me t station ring =
    let here = own_is station t.granted ring t.granted.address ∙ eq-eqb t.granted.address t.granted.address refl in
    λ i. here i || (t.granted.address == to_all)

pub to_one : (t : Stop) → IsReady t → (t.granted.address == to_all) ≡ false
to_one t ready = ne_eqb t.granted.address to_all (no_target t ready)

pub is_target : (t : Stop) → IsReady t → IsTarget t.granted.address
is_target t ready = let low : t.granted.address < 0xFFFE = ready.address in (omega arith, λ e. absurd (omega arith))

-- a counter that is left is one of 32 bits
pub counter_low : (l : StationMemory) → nat_lt (counters_left l) 1 ≡ false → l.counter.next < 2 ^ 32
counter_low l left = let some : 1 ≤ counters_left l = ltb-false (counters_left l) 1 left in omega (arith, some)

module _ (ciphers : Ciphers) (opens : OpensWhatItSeals ciphers) (w : World) (s t : Stop) (station : StationMemory) (to counter : ℕ) (all : Bool)
    (message : Message) (c : IsComing w s t station to counter all) where
  abbrev u : SealedUnit
  u = message_by s to counter message

  fits : IsSealable u
  fits =
      let first = c.first in
      record {
        to = c.target;
        from = first.address;
        counter = c.low;
        index = first.index;
        fields = (omega arith, omega arith);
        size = let few = short message in omega (arith, few);
      }

  abbrev node : Node
  node = c.holds.node

  abbrev memory : Memory
  memory = with_station station t.memory

  -- the unit that the payload has
  pub unit_is : unit_in (got_by all u).payload ≡ Some u.unit
  unit_is = unit_whole ciphers opens u fits

  -- the station that has accepted the frame
  abbrev pub marked : StationMemory
  marked = record station { marks = kept_after station.marks s.granted.address counter }

  abbrev pub came : World × Trace
  came = comes ciphers w t.number node (spelled ciphers (Sealed u)).octets t.cost

  pub step_is : (place flight : ℕ) → flight ≡ place + 1 → IsFlying ciphers w place u
      → line_step ciphers w (events.Deliver flight t.number t.cost) ≡ Ok came
  step_is place flight is flies =
      let there = c.holds.there in
      delivered ciphers w flight t.number t.cost node flies.f there (at_place w flight place is ∙ flies.flown) flies.unlost
      ∙ ap (λ octets. Ok (comes ciphers w t.number node octets t.cost)) flies.same

  accepted : accept station node.eui (arrived ciphers (spelled ciphers (Sealed u)).octets) ≡ marking station u.from u.counter (got_by all u)
  accepted = accepts_by ciphers opens u fits station node.eui t.granted c.ring c.apart c.opens c.admits all c.is_all c.mine

  believed : is_dropped w t.number (got_by all u) ≡ false
  believed = ap (λ b. b && is_unbelieved (beside_at w t.number).checks (got_by all u).path (message_of (got_by all u))) c.off

  no_command : command_of (got_by all u) ≡ None
  no_command = ap (command_with u.from all) unit_is

  -- what the node then does is in the world and in the report
  pub message_goes : (a : Heard) (frames : List Sent) (after : StationMemory)
      → ((note : ℕ) → Hears (hear marked (got_by all u) t.cost note w.clock) a frames after) → unread (Ok a) ≡ None
      → Goes ciphers w t.number (station_reception a) frames (with_station after memory) came
  unfolding marking
  message_goes a frames after hears read =
      let runs = c.holds.runs in
      let spared = c.holds.spared in
      unchecked_comes ciphers opens w t.number t.cost node memory runs spared u fits all accepted believed no_command
      a frames after (hears (note_so ciphers opens w t.number t.cost node memory runs spared u fits all accepted believed no_command)) read c.off

  -- and the node holds it
  pub holds_then : (a : Heard) (frames : List Sent) (after : StationMemory)
      → Goes ciphers w t.number (station_reception a) frames (with_station after memory) came → Holds came.0 t after
  holds_then a frames after goes =
      let there = c.holds.there in
      record {
        node = goes.node;
        there = ap (λ ns. slice_get ns t.number) goes.nodes ∙ slice_get-set w.nodes t.number goes.node (place_within w.nodes t.number node there);
        runs = goes.memory;
        spared = goes.spared;
      }
