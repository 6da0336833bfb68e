-- What becomes of a unit of a datagram that a node has accepted: in one step of a station, and in an event of a line.
use Rattle.std.specs.Prelude.{◌≡◌, ◌≢◌, ℕ, Bool, true, false, List, [], ◌∷◌, ◌++◌, Option, Some, None, Ok, Err}
use Rattle.plc_base.specs.declared.key.Key.{Key}
use Rattle.plc_base.specs.Grant.{Granted}
use Rattle.mesh_header.specs.declared.unit.Mesh.{Mesh}
use Rattle.mesh_header.specs.declared.unit.Unit.{Unit as MeshUnit}
use Rattle.mesh_header.specs.declared.unit.Unit.TheVariants as units
use Rattle.mesh_header.specs.Pieces.{Placed}
use Rattle.mesh_header.specs.Reader.{unit_in}
use Rattle.node_rules.specs.Accepted.{Accepted}
use Rattle.node_rules.specs.declared.heard.Heard.TheVariants as heard
use Rattle.node_rules.specs.declared.heard.Path.TheVariants as paths
use Rattle.node_rules.specs.declared.refusal.Dropped.{Dropped}
use Rattle.node_rules.specs.declared.refusal.Dropped.TheVariants as drops
use Rattle.node_rules.specs.Drafts.{sealed_by, sealing_key}
use Rattle.node_rules.specs.Ciphers.{Ciphers}
use Rattle.node_rules.specs.Frames.{SealedUnit, Sealed, spelled}
use Rattle.node_rules.specs.HearingRules.{Hearing, gather, hear, hop_less}
use Rattle.node_rules.specs.Memory.{StationMemory, Memory, Node, next_hop}
use Rattle.reach_rules.specs.Beacons.{is_discovery}
use Rattle.line_events.specs.declared.event.Answer.{Answer}
use Rattle.line_events.specs.declared.event.Answer.TheVariants as answers
use Rattle.line_events.specs.declared.happenings.Handed.{Handed}
use Rattle.line_rules.specs.Forgery.{accepting}
use Rattle.line_rules.specs.Further.{comes}
use Rattle.line_rules.specs.Steps.{flight_by, note_by}
use Rattle.line_rules.specs.Worlds.{World, Flight}

-- # A unit of a datagram that a node has accepted

-- a whole datagram, or a piece of one
pub data IsOfDatagram (mesh : Mesh) : MeshUnit → Type 0 where
  IsWhole : (octets : List ℕ) → IsOfDatagram mesh (units.Whole mesh octets)
  IsPiece : (piece : Placed) → IsOfDatagram mesh (units.Part mesh piece)

-- the unit with one hop less
abbrev pub one_hop_less : MeshUnit → MeshUnit
one_hop_less (units.Whole mesh octets) = units.Whole (hop_less mesh) octets
one_hop_less (units.Part mesh piece) = units.Part (hop_less mesh) piece
one_hop_less (units.Carried mesh body) = units.Carried (hop_less mesh) body
one_hop_less (units.Local code body) = units.Local code body

-- the reasons for which such a unit ends at a node that goes on running; a piece ends for want of room too
abbrev pub is_unit_end : Dropped → Bool
is_unit_end drops.NoRoute = true
is_unit_end drops.HopsSpent = true
is_unit_end drops.CounterSpent = true
is_unit_end _ = false

-- What becomes of it: at its target it is handed up, or taken in as a piece; at another node it goes on by the next hop under its note, or
-- it ends, with a reason, or with a route error to its origin.
pub data UnitFate (l : StationMemory) (own : ℕ) (mesh : Mesh) (u : MeshUnit) (note now : ℕ) (p : Hearing) : Type 0 where
  HandedUp : (octets : List ℕ) → u ≡ units.Whole mesh octets → mesh.to ≡ own → p.answer ≡ Ok (heard.Up mesh.origin note octets)
      → UnitFate l own mesh u note now p
  TakenIn : (piece : Placed) → u ≡ units.Part mesh piece → mesh.to ≡ own → p ≡ gather l mesh.origin piece note now
      → UnitFate l own mesh u note now p
  WentOn : (hop : ℕ) → mesh.to ≢ own → next_hop l mesh.to ≡ Some hop → p.answer ≡ Ok heard.Relayed
      → p.frames ≡ sealed_by l.ring l.counter.next (record { to = hop; unit = one_hop_less u; note = note } ∷ [])
      → UnitFate l own mesh u note now p
  Ended : (reason : Dropped) → is_unit_end reason ≡ true → p.answer ≡ Err reason → p.frames ≡ [] → UnitFate l own mesh u note now p
  Reported : p.answer ≡ Ok heard.Reported → UnitFate l own mesh u note now p

abbrev pub UnitsHaveFates : Type 0
UnitsHaveFates =
    (l : StationMemory) (g : Granted) (got : Accepted) (from : ℕ) (key : Key) (mesh : Mesh) (u : MeshUnit) (cost note now : ℕ)
    → l.ring ≡ Some g → got.path ≡ paths.Sealed from false key → unit_in got.payload ≡ Some u → IsOfDatagram mesh u
    → UnitFate l g.address mesh u note now (hear l got cost note now)

-- # In an event of a line

-- the answers with which an event ends a unit of a datagram that its node accepted
abbrev pub is_datagram_end : Answer → Bool
is_datagram_end answers.NoRoute = true
is_datagram_end answers.HopsSpent = true
is_datagram_end answers.CounterSpent = true
is_datagram_end answers.BufferFull = true
is_datagram_end answers.Reported = true
is_datagram_end answers.Store = true
is_datagram_end _ = false

-- What the report and the flights say of it at a node of an own address: a datagram for the node is handed up under its note, a piece for it
-- makes one whole, under some note, or is held; one flight more has the unit with one hop less under the same note; or the answer ends it.
pub data DeliveryFate (ciphers : Ciphers) (flights : List Flight) (number own : ℕ) (u : MeshUnit) (note : ℕ)
    : Answer → Option Handed → List Flight → Type 0 where
  IsUp : (mesh : Mesh) (octets : List ℕ) (after : List Flight) → u ≡ units.Whole mesh octets → mesh.to ≡ own
      → DeliveryFate ciphers flights number own u note answers.Up (Some (record { node = number; note = note; octets = octets })) after
  IsCompleted : (mesh : Mesh) (piece : Placed) (n : ℕ) (octets : List ℕ) (after : List Flight) → u ≡ units.Part mesh piece → mesh.to ≡ own
      → DeliveryFate ciphers flights number own u note answers.Up (Some (record { node = number; note = n; octets = octets })) after
  IsHeld : (mesh : Mesh) (piece : Placed) (after : List Flight) → u ≡ units.Part mesh piece → mesh.to ≡ own
      → DeliveryFate ciphers flights number own u note answers.Held None after
  IsRelayed : (s : SealedUnit) → s.unit ≡ one_hop_less u → s.note ≡ note
      → DeliveryFate ciphers flights number own u note answers.Relayed None (flights ++ flight_by number (spelled ciphers (Sealed s)) ∷ [])
  IsEnded : (answer : Answer) (after : List Flight) → is_datagram_end answer ≡ true → DeliveryFate ciphers flights number own u note answer None after

-- Whatever power is lost: a node accepts the octets that come to it, they carry a unit of a datagram, and the node then runs, is joined and
-- has a key to seal with. The event of a delivery is this one, by `Comes` of `line_rules`.
abbrev pub DeliveriesHaveFates : Type 0
DeliveriesHaveFates =
    (ciphers : Ciphers) (w : World) (number cost from : ℕ) (x : Node) (octets : List ℕ) (got : Accepted) (m : Memory) (g : Granted) (key k : Key)
    (mesh : Mesh) (u : MeshUnit) → is_discovery octets ≡ false → (accepting ciphers x octets).answer ≡ Ok got
    → got.path ≡ paths.Sealed from false key → unit_in got.payload ≡ Some u → IsOfDatagram mesh u
    → (accepting ciphers x octets).node.memory ≡ Some m → m.station.ring ≡ Some g → sealing_key g ≡ Some k
    → let r = comes ciphers w number x octets cost in
    DeliveryFate ciphers w.flights number g.address u (note_by w octets got.path) r.1.happenings.answer r.1.happenings.up r.0.flights
