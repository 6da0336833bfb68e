-- What a contract sees of the reassemblies of a node, and what they are together with their pool.
use Rattle.std.specs.Prelude.{◌≡◌, ℕ, ◌+◌, ◌*◌, ◌%◌, ◌<◌, ◌≤◌, Bool, true, false, nat_le, ◌&&◌, ◌==◌, nat_lt, List, [], length, get_or, map, slice_range, refl}
use Rattle.std.specs.List.{sum_by, list_any, All, AllPairs}
use Rattle.std.specs.Coded.{Coded, code_by, coded×, coded_ℕ, coded_list}
use Rattle.block_pool.specs.Pool.{PoolState, IsChain, chain_octets}
use Rattle.mesh_header.specs.Pieces.{Placed}
use Rattle.fragment_buffers.specs.declared.piece_span.PieceSpan.{PieceSpan}
use Rattle.fragment_buffers.specs.Reassembly.{PlacedPiece, Reassembly}
use Rattle.fragment_buffers.specs.PieceIntake.{blocks}

-- a reassembly whose octets stand in a chain of a pool: its name, its note and time, the chain's number, and the places of its pieces
pub record Entry : Type 0 where
  pub origin : ℕ
  pub size : ℕ
  pub tag : ℕ
  pub note : ℕ
  pub since : ℕ
  pub chain : ℕ
  pub places : List PieceSpan

abbrev pub place_code : Coded PieceSpan
place_code = code_by (ℕ × ℕ) (coded× coded_ℕ coded_ℕ) (λ p. (p.offset, p.length))
    (λ q. record { offset = q.0; length = q.1 }) (λ _. refl)

abbrev pub entry_code : Coded Entry
entry_code =
    code_by (ℕ × (ℕ × (ℕ × (ℕ × (ℕ × (ℕ × List PieceSpan))))))
    (coded× coded_ℕ
    (coded× coded_ℕ (coded× coded_ℕ (coded× coded_ℕ (coded× coded_ℕ (coded× coded_ℕ (coded_list place_code)))))))
    (λ e. (e.origin, (e.size, (e.tag, (e.note, (e.since, (e.chain, e.places)))))))
    (λ q. record {
      origin = q.0;
      size = q.1.0;
      tag = q.1.1.0;
      note = q.1.1.1.0;
      since = q.1.1.1.1.0;
      chain = q.1.1.1.1.1.0;
      places = q.1.1.1.1.1.1;
    })
    (λ _. refl)

abbrev pub entries_code : Coded (List Entry)
entries_code = coded_list entry_code

abbrev pub no_entry : Entry
no_entry = record { origin = 0; size = 0; tag = 0; note = 0; since = 0; chain = 0; places = [] }

abbrev pub entry_at : List Entry → ℕ → Entry
entry_at es i = get_or es i no_entry

abbrev pub blocks_used : List Entry → ℕ
blocks_used es = sum_by (λ e. blocks e.size) es

-- # What they are with their pool

-- the octets that a chain has at a place
abbrev pub piece_in : List ℕ → PieceSpan → PlacedPiece
piece_in octets p =
    record { start = p.offset * 8; octets = slice_range octets (p.offset * 8) (p.offset * 8 + p.length) }

abbrev pub reassembly_in : PoolState → Entry → Reassembly
reassembly_in pool e =
    record {
      origin = e.origin;
      size = e.size;
      tag = e.tag;
      note = e.note;
      since = e.since;
      pieces = map (piece_in (chain_octets pool e.chain)) e.places;
    }

-- the reassemblies whose octets the pool holds
abbrev pub reassemblies_in : PoolState → List Entry → List Reassembly
reassemblies_in pool es = map (reassembly_in pool) es

-- each chain is one of the pool's and as long as its datagram; the numbers differ; and the pool has the blocks that are left of 80
pub record Keeps (pool : PoolState) (es : List Entry) : Type 0 where
  pub lengths : (i : ℕ) → i < length es → length (chain_octets pool (entry_at es i).chain) ≡ (entry_at es i).size
  pub distinct : (i j : ℕ) → i < length es → j < length es → (entry_at es i).chain ≡ (entry_at es j).chain → i ≡ j
  pub room : 80 ≤ pool.free + blocks_used es

-- a chain of the pool that no reassembly has
abbrev pub IsOther : PoolState → List Entry → ℕ → Type 0
IsOther pool es c = IsChain pool c × ((i : ℕ) → i < length es → (entry_at es i).chain ≡ c → ⊥)

-- what a call does to a pool: from p and the reassemblies es to q and fs
pub record Moves (p q : PoolState) (es fs : List Entry) : Type 0 where
  -- blocks are taken and given back with reassemblies that begin and end
  pub free : q.free + blocks_used fs ≡ p.free + blocks_used es
  -- every other chain stays one, with its octets
  pub others : (c : ℕ) → IsOther p es c → IsOther q fs c × (chain_octets q c ≡ chain_octets p c)

-- # Places

-- the place of a piece
abbrev pub place_of : Placed → PieceSpan
place_of piece = record { offset = piece.offset; length = length piece.octets }

abbrev pub same_place : PieceSpan → PieceSpan → Bool
same_place p q = (q.offset == p.offset) && (q.length == p.length)

-- an octet stands at both
abbrev pub meet : PieceSpan → PieceSpan → Bool
meet p q = nat_lt (q.offset * 8) (p.offset * 8 + p.length) && nat_lt (p.offset * 8) (q.offset * 8 + q.length)

-- an octet stands at the position
abbrev pub covers : ℕ → PieceSpan → Bool
covers i p = nat_le (p.offset * 8) i && nat_lt i (p.offset * 8 + p.length)

-- every position of a datagram of this size lies in a piece, or one does not
abbrev pub AreCovering : ℕ → List PieceSpan → Type 0
AreCovering size places = (i : ℕ) → i < size → list_any (covers i) places ≡ true

abbrev pub LeaveGap : ℕ → List PieceSpan → Type 0
LeaveGap size places = (i : ℕ) × (i < size) × (list_any (covers i) places ≡ false)

abbrev pub IsCovered : Entry → Type 0
IsCovered e = AreCovering e.size e.places

abbrev pub HasGap : Entry → Type 0
HasGap e = LeaveGap e.size e.places

-- the place of a piece in a datagram of this size
pub record IsPlace (size : ℕ) (p : PieceSpan) : Type 0 where
  pub some : 0 < p.length
  pub within : p.offset * 8 + p.length ≤ size
  pub eighths : p.offset * 8 + p.length < size → p.length % 8 ≡ 0

-- the places are those of pieces, and no two meet
pub record IsEntry (e : Entry) : Type 0 where
  pub size : e.size ≤ 1280
  pub places : All (IsPlace e.size) e.places
  pub apart : AllPairs (λ p q. meet p q ≡ false) e.places

-- the limits: 8 reassemblies, in 80 blocks
pub record IsBounded (es : List Entry) : Type 0 where
  pub count : length es ≤ 8
  pub blocks : blocks_used es ≤ 80
  pub some : All (λ e. 0 < e.size) es
