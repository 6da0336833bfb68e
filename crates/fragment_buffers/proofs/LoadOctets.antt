-- The units of a short load of octets spell octets.
use Rattle.std.proofs.Common.{◌≡◌, ℕ, ◌*◌, ◌<◌, ◌≤◌, Bool, true, false, [], length, drop, map, refl, sym, ◌∙◌, subst, arith}
use Rattle.std.specs.Prelude.{nat_le, All}
use Rattle.std.specs.Int.{div_ceil}
use Rattle.std.specs.List.{range_with_len}
use Rattle.std.proofs.lemmas.Bool.{leb-false}
use Rattle.std.proofs.lemmas.List.FromFn.{length-range_with_len, get_or-range_with_len}
use Rattle.std.proofs.lemmas.List.Elements.{All-nil, All-cons, All-map, All-take, All-drop}
use Rattle.mesh_header.specs.declared.unit.Unit.TheVariants as units
use Rattle.mesh_header.specs.Pieces.{Placed}
use Rattle.mesh_header.specs.Laws.{SpellsOctets}
use Rattle.mesh_header.proofs.UnitOctets.{spelling_octets}
use Rattle.fragment_buffers.specs.Fragmentation.{pieces_cut, piece_of}
use Rattle.fragment_buffers.specs.Loads.{Datagram, Command, own_mesh, units_of}
use Rattle.fragment_buffers.specs.Laws.{LoadsSpellOctets}

abbrev IsOctet : ℕ → Type 0
IsOctet x = x < 256

few_pieces : (n k : ℕ) → 375 < n → n ≤ 1280 → k < div_ceil n 368 → 46 * k < 256
few_pieces n k above below lt = omega arith

-- the units of a load
pub load_octets_spelled : LoadsSpellOctets
unfolding pieces_cut
load_octets_spelled own to (Command octets) are short =
    All-cons SpellsOctets (units.Carried (own_mesh own to) (drop 1 octets)) []
    (spelling_octets (units.Carried (own_mesh own to) (drop 1 octets)) (omega arith, All-drop IsOctet 1 octets are)) (All-nil SpellsOctets)
load_octets_spelled own to (Datagram octets tag) are short = by_size (nat_le (length octets) 375) refl
  where
    pieces : 375 < length octets → All SpellsOctets
        (map (λ piece. units.Part (own_mesh own to) piece) (map (piece_of octets tag) (range_with_len 0 (div_ceil (length octets) 368))))
    pieces above =
        All-map SpellsOctets (λ piece. units.Part (own_mesh own to) piece) (map (piece_of octets tag) (range_with_len 0 (div_ceil (length octets) 368)))
        (All-map (λ (p : Placed). SpellsOctets (units.Part (own_mesh own to) p)) (piece_of octets tag) (range_with_len 0 (div_ceil (length octets) 368))
        (λ k e lt.
        let within : k < div_ceil (length octets) 368 = omega (arith, length-range_with_len 0 (div_ceil (length octets) 368)) in
        subst (λ (j : ℕ). SpellsOctets (units.Part (own_mesh own to) (piece_of octets tag j)))
        (sym (get_or-range_with_len 0 (div_ceil (length octets) 368) k e within ∙ omega arith))
        (spelling_octets (units.Part (own_mesh own to) (piece_of octets tag k))
        (omega arith, few_pieces (length octets) k above short within, All-take IsOctet 368 (drop (368 * k) octets) (All-drop IsOctet (368 * k) octets are)))))

    by_size : (b : Bool) → nat_le (length octets) 375 ≡ b → All SpellsOctets (units_of own to (Datagram octets tag))
    by_size true t = rw t (All-cons SpellsOctets (units.Whole (own_mesh own to) octets) []
        (spelling_octets (units.Whole (own_mesh own to) octets) (omega arith, are)) (All-nil SpellsOctets))
    by_size false t = rw t (pieces (leb-false _ _ t))
