-- Laws of cutting and reassembly, and of the units of a load.
use Rattle.std.specs.Prelude.{◌≡◌, ℕ, ◌+◌, ◌<◌, ◌≤◌, Bool, true, false, ◌==◌, List, [], ◌∷◌, ◌++◌, length, get_or, replicate, Some, None, slice_get}
use Rattle.std.specs.List.{list_any, All, AllPairs}
use Rattle.block_pool.specs.Pool.{PoolState, IsChain, OthersStay, chain_octets}
use Rattle.plc_base.specs.Fields.{AreOctets}
use Rattle.mesh_header.specs.Pieces.{Placed}
use Rattle.mesh_header.specs.Laws.{SpellsOctets}
use Rattle.fragment_buffers.specs.Entries.{Entry, Keeps, IsBounded, IsOther, entry_at, blocks_used, reassemblies_in}
use Rattle.fragment_buffers.specs.Fragmentation.{pieces_of, piece_of}
use Rattle.fragment_buffers.specs.Loads.{Load, IsShort, load_octets, units_of}
use Rattle.fragment_buffers.specs.Reassembly.{Reassembly, PlacedPiece, datagram_of, octet_of, overlap, begun}
use Rattle.fragment_buffers.specs.PieceIntake.{Held, Whole, blocks, blocks_held, same_name, taken, unexpired}

-- # Worked: a datagram of 736 octets

abbrev pub first_piece : Placed
first_piece = record { size = 736; tag = 5; offset = 0; octets = replicate 368 1 }

abbrev pub later_piece : Placed
later_piece = record { size = 736; tag = 5; offset = 45; octets = replicate 376 2 }

abbrev pub last_piece : Placed
last_piece = record { size = 736; tag = 5; offset = 0; octets = replicate 360 3 }

-- the second piece overlaps the first, so only it is kept; the third makes it whole
abbrev pub OverlapBeginsAnew : Type 0
OverlapBeginsAnew =
    let one = taken [] 7 first_piece 11 100 in
    let two = taken one.held 7 later_piece 12 130 in
    let three = taken two.held 7 last_piece 13 131 in
    (one.outcome ≡ Held) × (two.held ≡ begun 7 later_piece 12 130 ∷ []) × (two.outcome ≡ Held)
    × (three.held ≡ []) × (three.outcome ≡ Whole 12 (replicate 360 3 ++ replicate 376 2))
    × (unexpired two.held 189 ≡ two.held) × (unexpired two.held 190 ≡ [])

-- # Whole

abbrev pub no_piece : PlacedPiece
no_piece = record { start = 0; octets = [] }

-- a whole reassembly has as many octets as its size says, and at each position the octet that one of its pieces has there
abbrev pub WholeIsOfItsPieces : Type 0
WholeIsOfItsPieces =
    (r : Reassembly) (octets : List ℕ) → datagram_of r ≡ Some octets
    → (length octets ≡ r.size) × ((i : ℕ) → i < r.size → (k : ℕ) × (k < length r.pieces)
    × (octet_of (get_or r.pieces k no_piece) i ≡ slice_get octets i))

-- one that is not whole has a position that lies in no piece
abbrev pub GapIsInNoPiece : Type 0
GapIsInNoPiece =
    (r : Reassembly) → datagram_of r ≡ None → (i : ℕ) × (i < r.size) × All (λ p. octet_of p i ≡ None) r.pieces

-- # Apart

-- no two pieces of a reassembly overlap
abbrev pub AreApart : Reassembly → Type 0
AreApart r = AllPairs (λ p q. overlap p q ≡ false) r.pieces

abbrev pub PiecesStayApart : Type 0
PiecesStayApart =
    (held : List Reassembly) (origin : ℕ) (piece : Placed) (note now : ℕ) → All AreApart held
    → All AreApart (taken held origin piece note now).held × All AreApart (unexpired held now)

-- # The pieces of a datagram come together

-- a piece of a datagram, by its number from 0, comes under a note at a time
pub record Coming : Type 0 where
  pub piece : ℕ
  pub note : ℕ
  pub now : ℕ

-- the reassemblies once these pieces of a datagram came
abbrev pub after : List Reassembly → (origin : ℕ) → List ℕ → (tag : ℕ) → List Coming → List Reassembly
after held origin datagram tag [] = held
after held origin datagram tag (c ∷ cs) =
    after (taken held origin (piece_of datagram tag c.piece) c.note c.now).held origin datagram tag cs

-- the piece is among those that came
abbrev pub has_come : ℕ → List Coming → Bool
has_come k cs = list_any (λ c. k == c.piece) cs

abbrev pub note_of_first : List Coming → ℕ
note_of_first [] = 0
note_of_first (c ∷ cs) = c.note

-- a long datagram of which nothing is held, and for which there is room
pub record Awaits (held : List Reassembly) (origin : ℕ) (datagram : List ℕ) (tag : ℕ) : Type 0 where
  pub long : 376 ≤ length datagram
  pub none : list_any (same_name (begun origin (piece_of datagram tag 0) 0 0)) held ≡ false
  pub few : length held < 8
  pub fits : blocks_held held + blocks (length datagram) ≤ 80

-- Pieces of one datagram come in any order, any of them more than once, the last of them as c. Where all have come with it, it
-- completes the datagram, under the note of the first; where one is missing still, it is held.
abbrev pub PiecesComeTogether : Type 0
PiecesComeTogether =
    (held : List Reassembly) (origin : ℕ) (datagram : List ℕ) (tag : ℕ) → Awaits held origin datagram tag
    → (cs : List Coming) (c : Coming) → (missing : ℕ) → missing < pieces_of (length datagram)
    → has_come missing cs ≡ false
    → let t = taken (after held origin datagram tag cs) origin (piece_of datagram tag c.piece) c.note c.now in
    let all = cs ++ c ∷ [] in
    (((k : ℕ) → k < pieces_of (length datagram) → has_come k all ≡ true)
    → t ≡ record { held = held; outcome = Whole (note_of_first all) datagram })
    × ((k : ℕ) → k < pieces_of (length datagram) → has_come k all ≡ false → t.outcome ≡ Held)

-- # Chains of the pool that no reassembly has

-- A new chain is reserved in the pool, or one that no reassembly has is written or given back, and the blocks that are left are
-- enough for the reassemblies.
pub record IsBeside (p q : PoolState) (es : List Entry) (c : ℕ) : Type 0 where
  pub own : (i : ℕ) → i < length es → (entry_at es i).chain ≡ c → ⊥
  pub others : OthersStay p q c
  pub room : 80 ≤ q.free + blocks_used es

-- The reassemblies are kept and stay as they were, and so is each other chain that none of them has.
pub record AreKept (p q : PoolState) (es : List Entry) (c : ℕ) : Type 0 where
  pub keeps : Keeps q es
  pub same : reassemblies_in q es ≡ reassemblies_in p es
  pub others : (d : ℕ) → (d ≡ c → ⊥) → IsOther p es d → IsOther q es d × (chain_octets q d ≡ chain_octets p d)

abbrev pub OtherChainsKeepReassemblies : Type 0
OtherChainsKeepReassemblies =
    (p q : PoolState) (es : List Entry) (c : ℕ) → IsBounded es → Keeps p es → IsBeside p q es c → AreKept p q es c

-- a chain that the pool did not have before is none of a reassembly
abbrev pub NewChainsAreOthers : Type 0
NewChainsAreOthers =
    (p : PoolState) (es : List Entry) (c : ℕ) → IsBounded es → Keeps p es → (IsChain p c → ⊥) → (i : ℕ)
    → i < length es → (entry_at es i).chain ≡ c → ⊥

-- # Loads

-- each unit of a short load of octets spells octets
abbrev pub LoadsSpellOctets : Type 0
LoadsSpellOctets =
    (own to : ℕ) (load : Load) → AreOctets (load_octets load) → IsShort load → All SpellsOctets (units_of own to load)
