-- What becomes of a piece that is held, where another one comes and where a frame is heard.
use Rattle.std.specs.Prelude.{◌≡◌, ℕ, true, List, length, Some}
use Rattle.mesh_header.specs.Pieces.{Placed}
use Rattle.fragment_buffers.specs.Reassembly.{PlacedPiece, Reassembly, begun, datagram_of, overlaps, placed}
use Rattle.fragment_buffers.specs.PieceIntake.{Taking, Full, Held, Whole, same_name, taken}
use Rattle.node_rules.specs.Accepted.{Accepted}
use Rattle.node_rules.specs.HearingRules.{Hearing, gather, hear}
use Rattle.node_rules.specs.Memory.{StationMemory}
use Rattle.line_progress.specs.Lists.{Among}

-- # A piece that is held

-- a reassembly of the same name and under the same note
pub record IsSameOne (r s : Reassembly) : Type 0 where
  pub name : same_name r s ≡ true
  pub note : s.note ≡ r.note

-- What becomes of it where another piece comes, which would begin a reassembly: one of the same name and note has it still, or it is handed up with
-- the whole of that; only a piece of its name that overlaps its reassembly discards it.
pub data PieceFate (r : Reassembly) (p : PlacedPiece) (anew : Reassembly) (came : PlacedPiece) (t : Taking) : Type 0 where
  StaysHeld : (s : Reassembly) → Among s t.held → IsSameOne r s → Among p s.pieces → PieceFate r p anew came t
  CameUp : (s : Reassembly) (octets : List ℕ) → IsSameOne r s → Among p s.pieces → datagram_of s ≡ Some octets
      → t.outcome ≡ Whole s.note octets → PieceFate r p anew came t
  Discarded : same_name anew r ≡ true → overlaps r.pieces came ≡ true → PieceFate r p anew came t

abbrev pub PiecesHaveFates : Type 0
PiecesHaveFates =
    (held : List Reassembly) (origin : ℕ) (piece : Placed) (note now : ℕ) (r : Reassembly) (p : PlacedPiece)
    → Among r held → Among p r.pieces → PieceFate r p (begun origin piece note now) (placed piece) (taken held origin piece note now)

-- # A piece that comes

-- two pieces have the same place in their datagram, and the same length
pub record IsSamePlace (p q : PlacedPiece) : Type 0 where
  pub start : p.start ≡ q.start
  pub long : length p.octets ≡ length q.octets

-- What becomes of it, which would begin a reassembly: one of the same name has a piece in its place; or the whole of one is handed up that has taken
-- it; or there is no room.
pub data ComingFate (anew : Reassembly) (q : PlacedPiece) (t : Taking) : Type 0 where
  ComesIn : (r : Reassembly) (p : PlacedPiece) → Among r t.held → same_name anew r ≡ true → Among p r.pieces → IsSamePlace p q
      → t.outcome ≡ Held → ComingFate anew q t
  Completes : (r : Reassembly) (octets : List ℕ) → same_name anew r ≡ true → Among q r.pieces → datagram_of r ≡ Some octets
      → t.outcome ≡ Whole r.note octets → ComingFate anew q t
  NoRoom : t.outcome ≡ Full → ComingFate anew q t

abbrev pub PiecesComeIn : Type 0
PiecesComeIn =
    (held : List Reassembly) (origin : ℕ) (piece : Placed) (note now : ℕ)
    → ComingFate (begun origin piece note now) (placed piece) (taken held origin piece note now)

-- # All that is held, where a frame is heard

-- Hearing a frame leaves all reassemblies as they are, but for the rule of reassembly itself.
pub data KeepsPieces (l : StationMemory) (p : Hearing) : Type 0 where
  Same : p.memory.reassemblies ≡ l.reassemblies → KeepsPieces l p
  Gathers : (from : ℕ) (piece : Placed) (note now : ℕ) → p ≡ gather l from piece note now → KeepsPieces l p

abbrev pub HearingKeepsPieces : Type 0
HearingKeepsPieces = (l : StationMemory) (got : Accepted) (cost note now : ℕ) → KeepsPieces l (hear l got cost note now)
