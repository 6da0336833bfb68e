-- The octets of a piece.
use Rattle.std.proofs.Common.{◌≡◌, ℕ, ◌-◌, ◌<◌, ◌≤◌, nat_le, List, [], length, map, take, drop, min, Some, sym, ap, ◌∙◌, arith}
use Rattle.std.proofs.lemmas.Bool.{cond-false, lt-leb}
use Rattle.std.proofs.lemmas.Option.{slice_get-get_or}
use Rattle.std.proofs.lemmas.List.{take_min, take_rest}
use Rattle.std.proofs.lemmas.List.FromFn.{get_or-map-range_with_len, length-map-range_with_len}
use Rattle.std.specs.List.{slice_get, range_with_len}
use Rattle.mesh_header.specs.Pieces.{Placed}
use Rattle.fragment_buffers.specs.Fragmentation.{pieces_of, piece_of, pieces_cut}

-- a slice from s on, cut at 368 octets
pub cut_octets : (d : List ℕ) (s m : ℕ) → m ≡ min 368 (length (take (length d - s) (drop s d))) → take m (take (length d - s) (drop s d)) ≡ take 368 (drop s d)
cut_octets d s m e =
    let rest = take_rest d s in
    ap (λ xs. take m xs) rest ∙ ap (λ n. take n (drop s d)) (e ∙ ap (λ xs. min 368 (length xs)) rest) ∙ take_min 368 (drop s d)

-- the k-th of the pieces
pub kth_of_cut : (d : List ℕ) (tag k : ℕ) (piece : Placed) → 376 ≤ length d → k < pieces_of (length d) → piece ≡ piece_of d tag k
    → slice_get (pieces_cut d tag) k ≡ Some piece
unfolding pieces_cut
kth_of_cut d tag k piece long lt is =
    let all : List Placed = map (piece_of d tag) (range_with_len 0 (pieces_of (length d))) in
    let count : length all ≡ pieces_of (length d) = length-map-range_with_len (piece_of d tag) 0 (pieces_of (length d)) in
    ap (λ xs. slice_get xs k) (cond-false (nat_le (length d) 375) [] all (lt-leb (length d) 375 (omega arith)))
    ∙ slice_get-get_or all k piece (omega (arith, count))
    ∙ ap Some (get_or-map-range_with_len (piece_of d tag) 0 (pieces_of (length d)) k k piece lt (omega arith) ∙ sym is)
