-- How a piece is taken in, and which reassemblies end by time.
use Rattle.std.specs.Prelude.{ℕ, ◌+◌, Bool, ◌==◌, ◌&&◌, ◌||◌, nat_lt, nat_le, if◌then◌else◌, List, [], ◌∷◌, ◌++◌, length, Option, Some, None}
use Rattle.std.specs.Int.{div_ceil}
use Rattle.std.specs.List.{list_any, filter, sum_by}
use Rattle.plc_base.specs.Times.{is_within}
use Rattle.mesh_header.specs.Pieces.{Placed}
use Rattle.fragment_buffers.specs.Reassembly.{PlacedPiece, Reassembly, placed, begun, datagram_of, repeats, overlaps}
use Rattle.fragment_buffers.specs.declared.times.TheConstants.{REASSEMBLY_TIME}

-- what comes of a piece
pub data Outcome : Type 0 where
  -- there is no room for another reassembly
  Full : Outcome
  -- it is held, or was before
  Held : Outcome
  -- the datagram is whole: the note of its reassembly, and its octets
  Whole : (note : ℕ) → (octets : List ℕ) → Outcome

-- the reassemblies that are left, in their order, and what came of the piece
pub record Taking : Type 0 where
  pub held : List Reassembly
  pub outcome : Outcome

-- # Room

-- the blocks that a datagram of this many octets takes
abbrev pub blocks : ℕ → ℕ
blocks octets = div_ceil octets 64

abbrev pub blocks_held : List Reassembly → ℕ
blocks_held held = sum_by (λ r. blocks r.size) held

abbrev pub same_name : Reassembly → Reassembly → Bool
same_name a b = (a.origin == b.origin) && ((a.size == b.size) && (a.tag == b.tag))

-- one of the name is there, or there is room for one more: 8 reassemblies, and 80 blocks
abbrev pub has_room : List Reassembly → Reassembly → Bool
has_room held r =
    list_any (same_name r) held || (nat_lt (length held) 8 && nat_le (blocks_held held + blocks r.size) 80)

-- # The rule

-- where the piece overlaps another one, all is discarded and the reassembly begins anew; else the piece is added
abbrev pub grown : Reassembly → (anew : Reassembly) → PlacedPiece → Reassembly
grown r anew p = if overlaps r.pieces p then anew else record r { pieces = r.pieces ++ p ∷ [] }

-- a reassembly that is whole is handed up with its note, and ends
abbrev pub settled : Option (List ℕ) → Reassembly → List Reassembly → Taking
settled None r rest = record { held = r ∷ rest; outcome = Held }
settled (Some octets) r rest = record { held = rest; outcome = Whole r.note octets }

-- a piece that is repeated is ignored
abbrev pub joined : Reassembly → (anew : Reassembly) → PlacedPiece → List Reassembly → Taking
joined r anew p rest =
    if repeats r.pieces p then record { held = r ∷ rest; outcome = Held }
    else settled (datagram_of (grown r anew p)) (grown r anew p) rest

abbrev pub behind : Reassembly → Taking → Taking
behind r t = record t { held = r ∷ t.held }

-- the piece joins the first reassembly of its name, or begins one after all others
unfoldable pub taken_in : List Reassembly → (anew : Reassembly) → PlacedPiece → Taking
taken_in [] anew p = settled (datagram_of anew) anew []
taken_in (r ∷ rest) anew p = if same_name anew r then joined r anew p rest else behind r (taken_in rest anew p)

-- a piece that came from an origin, under a note, at a time
unfoldable pub taken : List Reassembly → (origin : ℕ) → Placed → (note now : ℕ) → Taking
taken held origin piece note now =
    let anew = begun origin piece note now in
    if has_room held anew then taken_in held anew (placed piece) else record { held = held; outcome = Full }

-- those whose time to gather has not passed
unfoldable pub unexpired : List Reassembly → (now : ℕ) → List Reassembly
unexpired held now = filter (λ r. is_within REASSEMBLY_TIME now r.since) held
