-- What one event of a line makes of a body that waits at a node, of a piece that is gathered there, and of a flight: closed lists, for every kind
-- of event, whatever power is lost and whatever is forged. No invariant of runs stands behind them.
use Rattle.std.specs.Prelude.{◌≡◌, ℕ, ◌+◌, Bool, true, false, List, ◌++◌, Some, None, Ok}
use Rattle.plc_base.specs.declared.key.Key.{Key}
use Rattle.plc_base.specs.Grant.{Granted}
use Rattle.plc_base.specs.Times.{is_within}
use Rattle.mesh_header.specs.declared.unit.Mesh.{Mesh}
use Rattle.mesh_header.specs.declared.unit.Unit.TheVariants as units
use Rattle.mesh_header.specs.Pieces.{Placed}
use Rattle.mesh_header.specs.Reader.{unit_in}
use Rattle.fragment_buffers.specs.Loads.{UnsealedUnit}
use Rattle.fragment_buffers.specs.Reassembly.{PlacedPiece, Reassembly, begun, datagram_of, overlaps, placed}
use Rattle.fragment_buffers.specs.PieceIntake.{same_name}
use Rattle.fragment_buffers.specs.WaitingBodies.{units_by}
use Rattle.fragment_buffers.specs.declared.times.TheConstants.{REASSEMBLY_TIME, WAITING_TIME}
use Rattle.node_rules.specs.Accepted.{Accepted}
use Rattle.node_rules.specs.declared.heard.Path.TheVariants as paths
use Rattle.node_rules.specs.Ciphers.{Ciphers}
use Rattle.node_rules.specs.Drafts.{sealing_key}
use Rattle.node_rules.specs.Memory.{StationMemory, Memory, Node, Body, address_of}
use Rattle.reach_rules.specs.Beacons.{is_discovery}
use Rattle.line_events.specs.declared.event.Answer.TheVariants as answers
use Rattle.line_events.specs.declared.event.Event.{Event}
use Rattle.line_events.specs.declared.event.Event.TheVariants as events
use Rattle.line_rules.specs.Forgery.{Comes, accepting}
use Rattle.line_rules.specs.Further.{comes, line_step}
use Rattle.line_rules.specs.Steps.{note_by}
use Rattle.line_rules.specs.Worlds.{World, Flight, Trace, node_at, flight_at}
use Rattle.line_progress.specs.BodyFates.{IsFlown}
use Rattle.line_progress.specs.Lists.{Among}
use Rattle.line_progress.specs.PieceFates.{IsSameOne, IsSamePlace}
use Rattle.line_progress.specs.Stations.{station_at}

-- # How it ends

-- the node of this number is the one that leaves, or the one that octets come to
abbrev pub MayLeave : Event → ℕ → Type 0
MayLeave (events.Leave node) number = node ≡ number
MayLeave (events.Deliver flight node cost) number = node ≡ number
MayLeave (events.Inject node cost octets) number = node ≡ number
MayLeave _ number = ⊥

-- The events whose answer is never Store: those of setup; and `rand`, `join` and `choose`, which store nothing while the counter of the node
-- is within its limit, as it is in every run.
abbrev pub hides_a_loss : Event → Bool
hides_a_loss (events.Coordinator eui key) = true
hides_a_loss (events.Meter eui psk) = true
hides_a_loss (events.Depot node) = true
hides_a_loss (events.Near a b cost) = true
hides_a_loss (events.Counter node value) = true
hides_a_loss (events.Number node value) = true
hides_a_loss events.Checks = true
hides_a_loss (events.RandomOctets node value) = true
hides_a_loss (events.Join node agent) = true
hides_a_loss (events.Choose node k) = true
hides_a_loss _ = false

-- How one event ends what has been at a node since a time, and may be there for so long: a tick comes at which its time has passed; the node
-- restarts; it leaves the network, by itself or at a KICK that it hears; or it loses power at a write and halts.
pub data Ended (w : World) (event : Event) (number since time : ℕ) (r : World × Trace) : Type 0 where
  TimePassed : (seconds : ℕ) → event ≡ events.Tick seconds → is_within time (w.clock + seconds) since ≡ false → Ended w event number since time r
  Restarted : event ≡ events.Restart number → Ended w event number since time r
  LeftNetwork : MayLeave event number → r.1.happenings.answer ≡ answers.Left → Ended w event number since time r
  LostPower : r.1.happenings.answer ≡ answers.Store → station_at r.0 number ≡ None → Ended w event number since time r
  LostPowerUnsaid : hides_a_loss event ≡ true → station_at r.0 number ≡ None → Ended w event number since time r

-- # A body that waits

-- What becomes of it: it waits still; all its units are new flights of the node, by one hop, under its note; or the event ends it.
pub data BodyFateIn (ciphers : Ciphers) (w : World) (event : Event) (number : ℕ) (l : StationMemory) (b : Body) (r : World × Trace) : Type 0 where
  StillWaits : (now : StationMemory) → station_at r.0 number ≡ Some now → Among b now.waiting → BodyFateIn ciphers w event number l b r
  SetsOut : (g : Granted) (key : Key) (hop : ℕ) (new : List Flight) → l.ring ≡ Some g → sealing_key g ≡ Some key → r.0.flights ≡ w.flights ++ new
      → ((o : UnsealedUnit) → Among o (units_by g.address hop b) → IsFlown ciphers number g key o new) → BodyFateIn ciphers w event number l b r
  BodyEnds : Ended w event number b.since WAITING_TIME r → BodyFateIn ciphers w event number l b r

-- a station that is joined has the key that it seals with, as it has in every run
abbrev pub HasItsKey : StationMemory → Type 0
HasItsKey l = (g : Granted) → l.ring ≡ Some g → (key : Key) × (sealing_key g ≡ Some key)

abbrev pub EventsKeepBodies : Type 0
EventsKeepBodies =
    (ciphers : Ciphers) (w v : World) (event : Event) (d : Trace) → line_step ciphers w event ≡ Ok (v, d)
    → (number : ℕ) (l : StationMemory) → station_at w number ≡ Some l → HasItsKey l
    → (b : Body) → Among b l.waiting → BodyFateIn ciphers w event number l b (v, d)

-- # A piece that is gathered

-- A piece of this name comes to the node in the event, for it, in a frame that it accepts.
pub record PieceCame (ciphers : Ciphers) (w : World) (event : Event) (number : ℕ) (r : Reassembly) (q : PlacedPiece) : Type 0 where
  pub octets : List ℕ
  pub comes : Comes w event number octets
  pub node : Node
  pub there : node_at w number ≡ Some node
  pub got : Accepted
  pub accepted : (accepting ciphers node octets).answer ≡ Ok got
  pub from : ℕ
  pub key : Key
  pub path : got.path ≡ paths.Sealed from false key
  pub mesh : Mesh
  pub piece : Placed
  pub unit : unit_in got.payload ≡ Some (units.Part mesh piece)
  pub is : q ≡ placed piece
  pub name : same_name (begun mesh.origin piece r.note r.since) r ≡ true

-- What becomes of it: a reassembly of the same name has it still; it is handed up with the whole of it, under its note; a piece that overlaps its
-- reassembly comes and discards it; or the event ends it.
pub data PieceFateIn (ciphers : Ciphers) (w : World) (event : Event) (number : ℕ) (r : Reassembly) (p : PlacedPiece) (res : World × Trace) : Type 0 where
  StillGathered : (now : StationMemory) (s : Reassembly) → station_at res.0 number ≡ Some now → Among s now.reassemblies → IsSameOne r s
      → Among p s.pieces → PieceFateIn ciphers w event number r p res
  HandedUpWith : (s : Reassembly) (octets : List ℕ) → IsSameOne r s → Among p s.pieces → datagram_of s ≡ Some octets
      → res.1.happenings.up ≡ Some (record { node = number; note = r.note; octets = octets }) → PieceFateIn ciphers w event number r p res
  Overlapped : (q : PlacedPiece) → PieceCame ciphers w event number r q → overlaps r.pieces q ≡ true → PieceFateIn ciphers w event number r p res
  PieceEnds : Ended w event number r.since REASSEMBLY_TIME res → PieceFateIn ciphers w event number r p res

abbrev pub EventsKeepPieces : Type 0
EventsKeepPieces =
    (ciphers : Ciphers) (w v : World) (event : Event) (d : Trace) → line_step ciphers w event ≡ Ok (v, d)
    → (number : ℕ) (l : StationMemory) → station_at w number ≡ Some l
    → (r : Reassembly) (p : PlacedPiece) → Among r l.reassemblies → Among p r.pieces → PieceFateIn ciphers w event number r p (v, d)

-- # A piece that comes

-- What becomes of a piece for the node, which would begin a reassembly: the node has a piece in its place, in a reassembly of its name; or it makes
-- a datagram whole, which is handed up under the note of its reassembly; or there was no room; or the node lost power and halted.
pub data ArrivingFate (number : ℕ) (anew : Reassembly) (q : PlacedPiece) (r : World × Trace) : Type 0 where
  IsGathered : (now : StationMemory) (s : Reassembly) (p : PlacedPiece) → station_at r.0 number ≡ Some now → Among s now.reassemblies
      → same_name anew s ≡ true → Among p s.pieces → IsSamePlace p q → ArrivingFate number anew q r
  MakesWhole : (s : Reassembly) (octets : List ℕ) → same_name anew s ≡ true → Among q s.pieces → datagram_of s ≡ Some octets
      → r.1.happenings.up ≡ Some (record { node = number; note = s.note; octets = octets }) → ArrivingFate number anew q r
  NotTaken : r.1.happenings.answer ≡ answers.BufferFull → ArrivingFate number anew q r
  NodeHalts : r.1.happenings.answer ≡ answers.Store → station_at r.0 number ≡ None → ArrivingFate number anew q r

-- Whatever power is lost: a node accepts the octets that come to it, they carry a piece for its address, and the node then runs.
abbrev pub PiecesArrive : Type 0
PiecesArrive =
    (ciphers : Ciphers) (w : World) (number cost from : ℕ) (x : Node) (octets : List ℕ) (got : Accepted) (m : Memory) (key : Key) (mesh : Mesh)
    (piece : Placed) → node_at w number ≡ Some x → is_discovery octets ≡ false → (accepting ciphers x octets).answer ≡ Ok got
    → got.path ≡ paths.Sealed from false key → unit_in got.payload ≡ Some (units.Part mesh piece)
    → (accepting ciphers x octets).node.memory ≡ Some m → address_of m.station ≡ Some mesh.to
    → ArrivingFate number (begun mesh.origin piece (note_by w octets got.path) w.clock) (placed piece) (comes ciphers w number x octets cost)

-- # A flight

-- What becomes of it: it is there as it was, or it is lost by `lose` of its number.
pub data FlightFateIn (event : Event) (number : ℕ) (f : Flight) (v : World) : Type 0 where
  StillFlies : flight_at v number ≡ Some f → FlightFateIn event number f v
  IsLost : event ≡ events.Lose number → flight_at v number ≡ Some (record f { lost = true }) → FlightFateIn event number f v

abbrev pub EventsKeepFlights : Type 0
EventsKeepFlights =
    (ciphers : Ciphers) (w v : World) (event : Event) (d : Trace) → line_step ciphers w event ≡ Ok (v, d)
    → (number : ℕ) (f : Flight) → flight_at w number ≡ Some f → FlightFateIn event number f v
