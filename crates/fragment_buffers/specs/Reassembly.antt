-- A reassembly of placed pieces, and when it is whole (RFC 4944, 5.3).
use Rattle.std.specs.Prelude.{ℕ, zero, suc, ◌+◌, ◌-◌, ◌*◌, Bool, ◌==◌, ◌&&◌, nat_lt, nat_le, if◌then◌else◌, List, [], ◌∷◌, length, Option, Some, None}
use Rattle.std.specs.Prelude.{slice_get, refl}
use Rattle.std.specs.List.{list_any}
use Rattle.std.specs.Coded.{Coded, code_by, coded×, coded_ℕ, coded_list}
use Rattle.mesh_header.specs.Pieces.{Placed}

-- octets that stand in a datagram from a position on
pub record PlacedPiece : Type 0 where
  pub start : ℕ
  pub octets : List ℕ

-- its name is origin, size and tag; its note and its time are those of its first piece; its pieces are in the order in which they came
pub record Reassembly : Type 0 where
  pub origin : ℕ
  pub size : ℕ
  pub tag : ℕ
  pub note : ℕ
  pub since : ℕ
  pub pieces : List PlacedPiece

abbrev pub piece_code : Coded PlacedPiece
piece_code = code_by (ℕ × List ℕ) (coded× coded_ℕ (coded_list coded_ℕ)) (λ p. (p.start, p.octets))
    (λ q. record { start = q.0; octets = q.1 }) (λ _. refl)

abbrev pub reassembly_code : Coded Reassembly
reassembly_code =
    code_by (ℕ × (ℕ × (ℕ × (ℕ × (ℕ × List PlacedPiece)))))
    (coded× coded_ℕ (coded× coded_ℕ (coded× coded_ℕ (coded× coded_ℕ (coded× coded_ℕ (coded_list piece_code))))))
    (λ r. (r.origin, (r.size, (r.tag, (r.note, (r.since, r.pieces))))))
    (λ q. record {
      origin = q.0;
      size = q.1.0;
      tag = q.1.1.0;
      note = q.1.1.1.0;
      since = q.1.1.1.1.0;
      pieces = q.1.1.1.1.1;
    })
    (λ _. refl)

-- where a piece of a unit stands in its datagram
abbrev pub placed : Placed → PlacedPiece
placed piece = record { start = piece.offset * 8; octets = piece.octets }

-- the reassembly that begins with a piece
abbrev pub begun : (origin : ℕ) → Placed → (note now : ℕ) → Reassembly
begun origin piece note now =
    record {
      origin = origin;
      size = piece.size;
      tag = piece.tag;
      note = note;
      since = now;
      pieces = placed piece ∷ [];
    }

-- # Whole

-- the octet that the piece has at a position
abbrev pub octet_of : PlacedPiece → ℕ → Option ℕ
octet_of p i = if nat_le p.start i then slice_get p.octets (i - p.start) else None

abbrev pub first_of : Option ℕ → Option ℕ → Option ℕ
first_of None other = other
first_of (Some octet) other = Some octet

-- the octet that a piece has at a position, if the position lies in one
abbrev pub octet_at : List PlacedPiece → ℕ → Option ℕ
octet_at [] i = None
octet_at (p ∷ ps) i = first_of (octet_of p i) (octet_at ps i)

abbrev pub before_all : Option ℕ → Option (List ℕ) → Option (List ℕ)
before_all None rest = None
before_all (Some octet) None = None
before_all (Some octet) (Some octets) = Some (octet ∷ octets)

-- this many octets from a position on, if each of the positions lies in a piece
abbrev pub gathered : List PlacedPiece → (from count : ℕ) → Option (List ℕ)
gathered ps i zero = Some []
gathered ps i (suc count) = before_all (octet_at ps i) (gathered ps (suc i) count)

-- the datagram, where every position below the size lies in a piece: the reassembly is then whole
unfoldable pub datagram_of : Reassembly → Option (List ℕ)
datagram_of r = gathered r.pieces 0 r.size

-- # Pieces beside one another

-- both have an octet at one position
abbrev pub overlap : PlacedPiece → PlacedPiece → Bool
overlap p q = nat_lt q.start (p.start + length p.octets) && nat_lt p.start (q.start + length q.octets)

-- a held piece has the same place and length
abbrev pub repeats : List PlacedPiece → PlacedPiece → Bool
repeats ps p = list_any (λ q. (q.start == p.start) && (length q.octets == length p.octets)) ps

abbrev pub overlaps : List PlacedPiece → PlacedPiece → Bool
overlaps ps p = list_any (overlap p) ps
