-- What is handed up was in the frame that came.
use Rattle.std.specs.Prelude.{◌≡◌, ℕ, ◌+◌, ◌<◌, true, false, List, [], ◌∷◌, ◌++◌, length, slice_get, Some, Ok, IfSome}
use Rattle.plc_base.specs.declared.key.Key.{Key}
use Rattle.mesh_header.specs.declared.unit.Mesh.{Mesh}
use Rattle.mesh_header.specs.declared.unit.Unit.{Unit as MeshUnit}
use Rattle.mesh_header.specs.declared.unit.Unit.TheVariants as units
use Rattle.mesh_header.specs.Pieces.{Placed}
use Rattle.mesh_header.specs.Reader.{unit_in}
use Rattle.fragment_buffers.specs.Reassembly.{PlacedPiece, Reassembly, begun, datagram_of, overlaps, placed}
use Rattle.fragment_buffers.specs.PieceIntake.{same_name}
use Rattle.node_rules.specs.Accepted.{Accepted}
use Rattle.node_rules.specs.declared.heard.Heard.TheVariants as heard
use Rattle.node_rules.specs.declared.heard.Path.TheVariants as paths
use Rattle.node_rules.specs.Ciphers.{Ciphers}
use Rattle.node_rules.specs.HearingRules.{hear}
use Rattle.node_rules.specs.Memory.{StationMemory, Memory, Node, address_of}
use Rattle.line_events.specs.declared.event.Event.{Event}
use Rattle.line_events.specs.declared.happenings.Handed.{Handed}
use Rattle.line_rules.specs.Forgery.{Comes, accepting}
use Rattle.line_rules.specs.Further.{line_step}
use Rattle.line_rules.specs.Steps.{note_by}
use Rattle.line_rules.specs.Worlds.{World, Trace, node_at}
use Rattle.line_progress.specs.Lists.{Among}

-- # In a step of a station

-- A reassembly that has just taken a piece: it begins with the piece, or it was held under the same name, and the piece overlaps none of its
-- others.
pub data HasTaken (held : List Reassembly) (anew : Reassembly) (p : PlacedPiece) (r : Reassembly) : Type 0 where
  Began : r ≡ anew → HasTaken held anew p r
  Grew : (s : Reassembly) → Among s held → same_name anew s ≡ true → overlaps s.pieces p ≡ false
      → r ≡ record s { pieces = s.pieces ++ p ∷ [] } → HasTaken held anew p r

-- a datagram has the octets of a piece in the piece's place, as far as it goes
abbrev pub IsPartOf : PlacedPiece → List ℕ → Type 0
IsPartOf p datagram =
    (i : ℕ) → i < length p.octets → p.start + i < length datagram → slice_get datagram (p.start + i) ≡ slice_get p.octets i

-- Where octets come from that a station hands up under a note: a whole datagram came under that note, for the station, with these octets; or
-- a piece came for it, and they are those of the reassembly that took the piece, under the note of the reassembly, the piece's among them.
pub data HandedFrom (l : StationMemory) (u : MeshUnit) (origin note now n : ℕ) (octets : List ℕ) : Type 0 where
  OneUnit : (mesh : Mesh) → u ≡ units.Whole mesh octets → address_of l ≡ Some mesh.to → origin ≡ mesh.origin → n ≡ note
      → HandedFrom l u origin note now n octets
  LastPiece : (mesh : Mesh) (piece : Placed) (r : Reassembly) → u ≡ units.Part mesh piece → address_of l ≡ Some mesh.to → origin ≡ mesh.origin
      → HasTaken l.reassemblies (begun mesh.origin piece note now) (placed piece) r → datagram_of r ≡ Some octets → IsPartOf (placed piece) octets
      → n ≡ r.note → HandedFrom l u origin note now n octets

-- A station that hands up a datagram has just accepted a frame to it alone whose unit it comes from.
pub record StationUp (l : StationMemory) (got : Accepted) (origin note now n : ℕ) (octets : List ℕ) : Type 0 where
  pub from : ℕ
  pub key : Key
  pub path : got.path ≡ paths.Sealed from false key
  pub unit : MeshUnit
  pub read : unit_in got.payload ≡ Some unit
  pub handed : HandedFrom l unit origin note now n octets

abbrev pub StationsHandUp : Type 0
StationsHandUp =
    (l : StationMemory) (got : Accepted) (cost note now origin n : ℕ) (octets : List ℕ)
    → (hear l got cost note now).answer ≡ Ok (heard.Up origin n octets) → StationUp l got origin note now n octets

-- # In an event of a line

-- A datagram that an event hands up came in it: octets came to that node, which accepted them as a frame to it alone, and ran; and the
-- datagram is from the unit in the frame, under the note of the frame.
pub record DatagramCame (ciphers : Ciphers) (w : World) (event : Event) (up : Handed) : Type 0 where
  pub octets : List ℕ
  pub comes : Comes w event up.node octets
  pub node : Node
  pub there : node_at w up.node ≡ Some node
  pub got : Accepted
  pub accepted : (accepting ciphers node octets).answer ≡ Ok got
  pub memory : Memory
  pub runs : (accepting ciphers node octets).node.memory ≡ Some memory
  pub origin : ℕ
  pub came : StationUp memory.station got origin (note_by w octets got.path) w.clock up.note up.octets

-- Whatever power is lost, and whatever is forged: so it is of each event of a line.
abbrev pub DatagramsCame : Type 0
DatagramsCame =
    (ciphers : Ciphers) (w v : World) (event : Event) (d : Trace) → line_step ciphers w event ≡ Ok (v, d)
    → IfSome d.happenings.up (DatagramCame ciphers w event)
