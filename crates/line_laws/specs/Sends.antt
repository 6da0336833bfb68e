-- What units, bodies and gathered pieces say of the send whose note they have.
use Rattle.std.specs.Prelude.{◌≡◌, ℕ, ◌+◌, ◌*◌, ◌<◌, List, length, Some, slice_get, All, ⊤}
use Rattle.mesh_header.specs.declared.unit.Unit.{Unit as MeshUnit}
use Rattle.mesh_header.specs.declared.unit.Unit.TheVariants as units
use Rattle.mesh_header.specs.Pieces.{Placed}
use Rattle.fragment_buffers.specs.Reassembly.{PlacedPiece, Reassembly}
use Rattle.node_rules.specs.declared.heard.Heard.{Heard}
use Rattle.node_rules.specs.declared.heard.Heard.TheVariants as heard
use Rattle.node_rules.specs.Memory.{Body, Load, Datagram, Command}
use Rattle.node_rules.specs.Drafts.{UnsealedUnit}

-- A send in addresses: from which to which, and the tag that names its pieces.
pub record SentAs : Type 0 where
  pub origin : ℕ
  pub to : ℕ
  pub octets : List ℕ
  pub tag : ℕ

-- these octets stand in the datagram from a position on
pub record FitsAt (octets : List ℕ) (from : ℕ) (all : List ℕ) : Type 0 where
  pub reads : (j o : ℕ) → slice_get octets j ≡ Some o → slice_get all (from + j) ≡ Some o

-- A piece of a send.
pub record PieceOf (s : SentAs) (piece : Placed) : Type 0 where
  pub long : 375 < length s.octets
  pub size : length s.octets ≡ piece.size
  pub tag : s.tag ≡ piece.tag
  pub some : 0 < length piece.octets
  pub fits : FitsAt piece.octets (piece.offset * 8) s.octets

-- S says which sends there were under a note. Under the note there was one from this mesh header's origin to its target, of which C holds.
pub record IsOf (S : ℕ → SentAs → Type 0) (note origin to : ℕ) (C : SentAs → Type 0) : Type 0 where
  pub sent : SentAs
  pub is : S note sent
  pub from : sent.origin ≡ origin
  pub target : sent.to ≡ to
  pub content : C sent

abbrev pub UnitIsOf : (ℕ → SentAs → Type 0) → ℕ → MeshUnit → Type 0
UnitIsOf S note (units.Whole mesh octets) = IsOf S note mesh.origin mesh.to (λ s. s.octets ≡ octets)
UnitIsOf S note (units.Part mesh piece) = IsOf S note mesh.origin mesh.to (λ s. PieceOf s piece)
UnitIsOf S note (units.Carried mesh body) = ⊤
UnitIsOf S note (units.Local code body) = ⊤

-- a datagram that a node of an address sends to another, as it was sent
abbrev pub LoadIsOf : (ℕ → SentAs → Type 0) → ℕ → ℕ → ℕ → Load → Type 0
LoadIsOf S own to note (Datagram octets tag) = IsOf S note own to (λ s. (s.octets ≡ octets) × (s.tag ≡ tag))
LoadIsOf S own to note (Command octets) = ⊤

-- What carries a datagram is of the send of its note.
pub record OutIsOf (S : ℕ → SentAs → Type 0) (o : UnsealedUnit) : Type 0 where
  pub unit : UnitIsOf S o.note o.unit

pub record BodyIsOf (S : ℕ → SentAs → Type 0) (own : ℕ) (b : Body) : Type 0 where
  pub load : LoadIsOf S own b.to b.note b.load

-- the octets of a placed piece stand in the datagram
abbrev pub PlacedFits : List ℕ → PlacedPiece → Type 0
PlacedFits all p = FitsAt p.octets p.start all

-- a placed piece has an octet
abbrev pub HasOctets : PlacedPiece → Type 0
HasOctets p = 0 < length p.octets

-- A gathered datagram is of a send to this address.
pub record Gathers (own : ℕ) (r : Reassembly) (s : SentAs) : Type 0 where
  pub long : 375 < length s.octets
  pub size : length s.octets ≡ r.size
  pub tag : s.tag ≡ r.tag
  pub pieces : All (PlacedFits s.octets) r.pieces
  pub filled : All HasOctets r.pieces

pub record HeldIsOf (S : ℕ → SentAs → Type 0) (own : ℕ) (r : Reassembly) : Type 0 where
  pub gathers : IsOf S r.note r.origin own (Gathers own r)

-- what is handed up is the datagram of a send to this address
abbrev pub UpIsOf : (ℕ → SentAs → Type 0) → ℕ → Heard → Type 0
UpIsOf S own (heard.Up from note octets) = IsOf S note from own (λ s. s.octets ≡ octets)
UpIsOf S own _ = ⊤
