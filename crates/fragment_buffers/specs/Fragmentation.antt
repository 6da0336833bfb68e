-- The pieces of a datagram.
use Rattle.std.specs.Prelude.{ℕ, ◌*◌, nat_le, if◌then◌else◌, List, [], length, map, take, drop}
use Rattle.std.specs.Int.{div_ceil}
use Rattle.std.specs.List.{range_with_len}
use Rattle.mesh_header.specs.Pieces.{Placed}

-- how many units carry a datagram of this many octets: one whole, or one for each piece
abbrev pub pieces_of : ℕ → ℕ
pieces_of octets = if nat_le octets 375 then 1 else div_ceil octets 368

-- the k-th piece, from 0: 368 octets, or those that are left
abbrev pub piece_of : List ℕ → (tag k : ℕ) → Placed
piece_of datagram tag k =
    record { size = length datagram; tag = tag; offset = 46 * k; octets = take 368 (drop (368 * k) datagram) }

-- the pieces; a datagram of up to 375 octets has none, since it goes whole
unfoldable pub pieces_cut : List ℕ → (tag : ℕ) → List Placed
pieces_cut datagram tag =
    if nat_le (length datagram) 375 then [] else map (piece_of datagram tag)
    (range_with_len 0 (pieces_of (length datagram)))
