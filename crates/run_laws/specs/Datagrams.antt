-- What the events of a run do to datagrams: what is handed up came in the event's frame, what is sent flies or waits, and what waits, is gathered, flies
-- or comes stays so, goes on or ends for a reason of a closed list.
use Rattle.std.specs.Prelude.{◌≡◌, ℕ, true, false, List, [], ◌∷◌, Some, Ok, IfSome}
use Rattle.plc_base.specs.declared.key.Key.{Key}
use Rattle.mesh_header.specs.declared.unit.Mesh.{Mesh}
use Rattle.mesh_header.specs.declared.unit.Unit.{Unit as MeshUnit}
use Rattle.mesh_header.specs.declared.unit.Unit.TheVariants as units
use Rattle.mesh_header.specs.Pieces.{Placed}
use Rattle.mesh_header.specs.Reader.{unit_in}
use Rattle.fragment_buffers.specs.Reassembly.{PlacedPiece, Reassembly, begun, placed}
use Rattle.node_rules.specs.Accepted.{Accepted}
use Rattle.node_rules.specs.declared.heard.Path.TheVariants as paths
use Rattle.node_rules.specs.Ciphers.{network}
use Rattle.node_rules.specs.Memory.{Body, Node, StationMemory, address_of}
use Rattle.line_events.specs.declared.event.Event.{Event}
use Rattle.line_events.specs.declared.event.Event.TheVariants as events
use Rattle.line_rules.specs.Forgery.{Comes, accepting}
use Rattle.line_rules.specs.Runs.{Entry, IsLineRun}
use Rattle.line_rules.specs.Steps.{note_by}
use Rattle.line_rules.specs.Worlds.{World, Flight, Sending, flight_at, node_at, start}
use Rattle.line_progress.specs.EventFates.{ArrivingFate, BodyFateIn, FlightFateIn, HasItsKey, PieceFateIn}
use Rattle.line_progress.specs.Lists.{Among}
use Rattle.line_progress.specs.SendFates.{SendFlew}
use Rattle.line_progress.specs.Stations.{station_at}
use Rattle.line_progress.specs.UnitFates.{DeliveryFate, IsOfDatagram}
use Rattle.line_progress.specs.Ups.{DatagramCame}

-- # What comes

-- Octets come to a node, which accepts them as a frame to it alone that carries this unit.
pub record UnitCame (w : World) (event : Event) (number : ℕ) (u : MeshUnit) : Type 0 where
  pub octets : List ℕ
  pub comes : Comes w event number octets
  pub node : Node
  pub there : node_at w number ≡ Some node
  pub got : Accepted
  pub accepted : (accepting network node octets).answer ≡ Ok got
  pub from : ℕ
  pub key : Key
  pub path : got.path ≡ paths.Sealed from false key
  pub read : unit_in got.payload ≡ Some u

-- the note under which it came, that of the flight with these octets under the key
abbrev pub note_under : (w : World) (event : Event) (number : ℕ) (u : MeshUnit) → UnitCame w event number u → ℕ
note_under w event number u came = note_by w came.octets came.got.path

-- the address of the node of a number is this one
abbrev pub IsAt : World → (number address : ℕ) → Type 0
IsAt w number address = (l : StationMemory) × (station_at w number ≡ Some l) × (address_of l ≡ Some address)

-- # What becomes of flights

-- a flight that is delivered is there and was not lost; one that is lost was there and is lost from then on
abbrev pub TakesFlights : (w v : World) → Event → Type 0
TakesFlights w v (events.Deliver number node cost) = (f : Flight) × (flight_at w number ≡ Some f) × (f.lost ≡ false)
TakesFlights w v (events.Lose number) =
    (f : Flight) × (flight_at w number ≡ Some f) × (f.lost ≡ false) × (flight_at v number ≡ Some (record f { lost = true }))
TakesFlights w v _ = Unit {0}

-- # What one event does to datagrams

-- One event of a run, forged or not, whatever power is lost in it.
pub record MovesDatagrams (w : World) (x : Entry) : Type 0 where
  -- each node that is joined has the key that it seals with, so what it is to send it seals
  pub keys : (number : ℕ) (l : StationMemory) → station_at w number ≡ Some l → HasItsKey l
  -- a datagram that is handed up was in the frame that came to its node, whole or as the last piece
  pub up_came : IfSome x.trace.happenings.up (DatagramCame network w x.event)
  -- a datagram that was sent is in the new flights, each of its units in one, or it is the last body that waits
  pub sent_flew : IfSome x.trace.sent (λ (s : Sending). SendFlew network w x.event s (x.after, x.trace))
  -- a unit that comes is handed up, held, sent on in the one new flight, or ends, by the answer and the address of the node
  pub unit_came : (number : ℕ) (mesh : Mesh) (u : MeshUnit) (came : UnitCame w x.event number u) → IsOfDatagram mesh u
      → (own : ℕ) × IsAt w number own
      × DeliveryFate network w.flights number own u (note_under w x.event number u came) x.trace.happenings.answer x.trace.happenings.up x.after.flights
  -- a piece that comes to its target is gathered, or makes its datagram whole, or has no room, or the node halts
  pub piece_came : (number : ℕ) (mesh : Mesh) (piece : Placed) (came : UnitCame w x.event number (units.Part mesh piece)) → IsAt w number mesh.to
      → ArrivingFate number (begun mesh.origin piece (note_under w x.event number (units.Part mesh piece) came) w.clock) (placed piece) (x.after, x.trace)
  -- a body that waits waits still, or all its units fly, or the event ends it
  pub waiting : (number : ℕ) (l : StationMemory) → station_at w number ≡ Some l → (b : Body) → Among b l.waiting
      → BodyFateIn network w x.event number l b (x.after, x.trace)
  -- a piece that is gathered is so still, or handed up with the whole, or one that overlaps it comes, or the event ends it
  pub gathered : (number : ℕ) (l : StationMemory) → station_at w number ≡ Some l → (r : Reassembly) (p : PlacedPiece) → Among r l.reassemblies
      → Among p r.pieces → PieceFateIn network w x.event number r p (x.after, x.trace)
  -- a flight is there as it was, or `lose` of its number loses it
  pub flights : (number : ℕ) (f : Flight) → flight_at w number ≡ Some f → FlightFateIn x.event number f x.after
  -- and no flight that is lost is delivered
  pub lost : TakesFlights w x.after x.event

-- so each event of a run does
abbrev pub MoveDatagrams : World → List Entry → Type 0
MoveDatagrams w [] = Unit {0}
MoveDatagrams w (x ∷ xs) = MovesDatagrams w x × MoveDatagrams x.after xs

-- Of every run of the network, forged or not, whatever power is lost.
abbrev pub EveryDatagramIsMoved : Type 0
EveryDatagramIsMoved = (entries : List Entry) → IsLineRun network entries → MoveDatagrams start entries
