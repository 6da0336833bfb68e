-- The rule at a place, for the entries there.
use Rattle.std.proofs.Common.{◌≡◌, ℕ, ◌<◌, true, false, List, length, get_or, set, sym, ap, subst, ◌∙◌}
use Rattle.std.proofs.lemmas.Bool.{cond-true, cond-false}
use Rattle.std.specs.List.{list_any, remove, All}
use Rattle.mesh_header.specs.Pieces.{Placed}
use Rattle.block_pool.specs.Pool.{PoolState, chain_octets}
use Rattle.fragment_buffers.specs.Reassembly.{Reassembly, begun, placed, datagram_of, repeats}
use Rattle.fragment_buffers.specs.PieceIntake.{Held, Whole, grown}
use Rattle.fragment_buffers.specs.Answers.{nothing, settled_by, settled_at, joined_at}
use Rattle.fragment_buffers.specs.Entries.{Entry, entry_at, reassembly_in, reassemblies_in, IsEntry, IsPlace, IsCovered, HasGap, place_of, same_place}
use Rattle.fragment_buffers.proofs.PiecesHeld.{datagram_covered, datagram_gap, repeats_in}
use Rattle.fragment_buffers.proofs.PoolEntries.{gathered_at}

pub settled_gap : (p : PoolState) (es : List Entry) (i : ℕ) → i < length es → HasGap (entry_at es i)
    → settled_at (reassemblies_in p es) i ≡ record { held = reassemblies_in p es; outcome = Held }
unfolding settled_at
settled_gap p es i lt gap =
    ap (λ o. settled_by o (reassemblies_in p es) i) (ap datagram_of (gathered_at p es i nothing lt) ∙ datagram_gap p (entry_at es i) gap)

pub settled_whole : (p : PoolState) (es : List Entry) (i : ℕ) → i < length es → IsEntry (entry_at es i)
    → length (chain_octets p (entry_at es i).chain) ≡ (entry_at es i).size → IsCovered (entry_at es i)
    → settled_at (reassemblies_in p es) i
    ≡ record { held = remove (reassemblies_in p es) i; outcome = Whole (entry_at es i).note (chain_octets p (entry_at es i).chain) }
unfolding settled_at
settled_whole p es i lt rule long covered =
    ap (λ o. settled_by o (reassemblies_in p es) i) (ap datagram_of (gathered_at p es i nothing lt) ∙ datagram_covered p (entry_at es i) rule long covered)
    ∙ ap (λ (r : Reassembly). record { held = remove (reassemblies_in p es) i; outcome = Whole r.note (chain_octets p (entry_at es i).chain) })
    (gathered_at p es i nothing lt)

repeats_at : (p : PoolState) (es : List Entry) (i : ℕ) (piece : Placed) → i < length es → IsEntry (entry_at es i)
    → length (chain_octets p (entry_at es i).chain) ≡ (entry_at es i).size
    → repeats (get_or (reassemblies_in p es) i nothing).pieces (placed piece) ≡ list_any (same_place (place_of piece)) (entry_at es i).places
repeats_at p es i piece lt rule long =
    ap (λ (r : Reassembly). repeats r.pieces (placed piece)) (gathered_at p es i nothing lt)
    ∙ repeats_in (chain_octets p (entry_at es i).chain) (entry_at es i).places piece
    (subst (λ n. All (IsPlace n) (entry_at es i).places) (sym long) rule.places)

pub joined_repeat : (p : PoolState) (es : List Entry) (i : ℕ) (piece : Placed) (note now : ℕ) → i < length es → IsEntry (entry_at es i)
    → length (chain_octets p (entry_at es i).chain) ≡ (entry_at es i).size
    → list_any (same_place (place_of piece)) (entry_at es i).places ≡ true
    → joined_at (reassemblies_in p es) i piece note now ≡ record { held = reassemblies_in p es; outcome = Held }
unfolding joined_at
joined_repeat p es i piece note now lt rule long same = cond-true _ _ _ (repeats_at p es i piece lt rule long ∙ same)

pub joined_grown : (p : PoolState) (es : List Entry) (i : ℕ) (piece : Placed) (note now : ℕ) → i < length es → IsEntry (entry_at es i)
    → length (chain_octets p (entry_at es i).chain) ≡ (entry_at es i).size
    → list_any (same_place (place_of piece)) (entry_at es i).places ≡ false
    → joined_at (reassemblies_in p es) i piece note now
    ≡ settled_at (set (reassemblies_in p es) i (grown (reassembly_in p (entry_at es i)) (begun (entry_at es i).origin piece note now) (placed piece))) i
unfolding joined_at
joined_grown p es i piece note now lt rule long same =
    cond-false _ _ _ (repeats_at p es i piece lt rule long ∙ same)
    ∙ ap (λ (r : Reassembly). settled_at (set (reassemblies_in p es) i (grown r (begun r.origin piece note now) (placed piece))) i)
    (gathered_at p es i nothing lt)
