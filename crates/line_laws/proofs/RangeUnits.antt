-- The units of a body are in their ranges, and so is a unit with one hop less.
use Rattle.std.proofs.Common.{◌≡◌, ℕ, ◌+◌, ◌-◌, ◌*◌, ◌%◌, ◌<◌, ◌≤◌, ◌^◌, min, Bool, true, false, List, [], ◌∷◌, ◌++◌, length, drop, map, refl, sym, ap, ◌∙◌}
use Rattle.std.proofs.Common.{subst, arith}
use Rattle.std.specs.Prelude.{if◌then◌else◌, nat_lt, nat_le, ◌==◌, All}
use Rattle.std.specs.Int.{div_ceil}
use Rattle.std.specs.List.{range_with_len}
use Rattle.std.proofs.lemmas.Bool.{ltb-true, ltb-false, leb-true, leb-false}
use Rattle.std.proofs.lemmas.List.{length-take, length-drop}
use Rattle.std.proofs.lemmas.List.Elements.{All-nil, All-cons, All-map}
use Rattle.std.proofs.lemmas.List.FromFn.{length-range_with_len, get_or-range_with_len}
use Rattle.byteorder.specs.Endian.{big_bytes}
use Rattle.mesh_header.specs.declared.unit.Unit.{Unit as MeshUnit}
use Rattle.mesh_header.specs.declared.unit.Unit.TheVariants as units
use Rattle.mesh_header.specs.Pieces.{Placed, IsPiece}
use Rattle.mesh_header.specs.Grammar.{IsMesh, hops_then, mesh_then, piece_spelling}
use Rattle.fragment_buffers.specs.Fragmentation.{piece_of, pieces_cut}
use Rattle.node_rules.specs.Memory.{Load, Datagram, Command}
use Rattle.node_rules.specs.Drafts.{own_mesh, units_of, all_go}
use Rattle.line_laws.specs.SealedUnits.{IsFit, IsRoute, GoesToOne}
use Rattle.line_laws.specs.Ranges.{HasRoomInFrames, IsOut}
use Rattle.line_laws.proofs.Made.{IsLess, Whole, Part, Carried}

-- # Lengths

length-hops : (hops : ℕ) (rest : List ℕ) → length (hops_then hops rest) ≡ (if nat_lt hops 15 then 1 else 2) + length rest
unfolding hops_then
length-hops hops rest = by_size (nat_lt hops 15)
  where
    by_size : (b : Bool) → length (if b then (0xB0 + hops) ∷ rest else 0xBF ∷ hops ∷ rest) ≡ (if b then 1 else 2) + length rest
    by_size true = omega arith
    by_size false = omega arith

-- one hop less is no longer
less_hops : (hops : ℕ) (rest : List ℕ) → length (hops_then (hops - 1) rest) ≤ length (hops_then hops rest)
less_hops hops rest = rw (length-hops (hops - 1) rest, length-hops hops rest) (by_size (nat_lt (hops - 1) 15) (nat_lt hops 15) refl refl)
  where
    by_size : (a b : Bool) → nat_lt (hops - 1) 15 ≡ a → nat_lt hops 15 ≡ b → (if a then 1 else 2) + length rest ≤ (if b then 1 else 2) + length rest
    by_size true true ea eb = omega arith
    by_size true false ea eb = omega arith
    by_size false false ea eb = omega arith
    by_size false true ea eb = let x = ltb-false _ _ ea in let y = ltb-true _ _ eb in absurd (omega arith)

-- a spelling of 14 hops
own_length : (own to : ℕ) (rest : List ℕ) → length (mesh_then (own_mesh own to) rest) ≡ 5 + length rest
own_length own to rest = length-hops 14 _ ∙ omega arith

-- # One hop less

pub less_fit : (u less : MeshUnit) → IsLess u less → IsFit u → IsFit less
less_fit u less (Whole mesh octets) h = record {
  fields = (record { hops = let x = h.fields.0.hops in omega arith; origin = h.fields.0.origin; to = h.fields.0.to }, h.fields.1, h.fields.2);
  size = let x = less_hops mesh.hops (big_bytes 2 mesh.origin ++ (big_bytes 2 mesh.to ++ (0x41 ∷ octets))) in let y = h.size in omega arith;
}
less_fit u less (Part mesh piece) h = record {
  fields = (record { hops = let x = h.fields.0.hops in omega arith; origin = h.fields.0.origin; to = h.fields.0.to }, h.fields.1);
  size = let x = less_hops mesh.hops (big_bytes 2 mesh.origin ++ (big_bytes 2 mesh.to ++ piece_spelling piece)) in let y = h.size in omega arith;
}
less_fit u less (Carried mesh body) h = record {
  fields = record { hops = let x = h.fields.hops in omega arith; origin = h.fields.origin; to = h.fields.to };
  size = let x = less_hops mesh.hops (big_bytes 2 mesh.origin ++ (big_bytes 2 mesh.to ++ (0x40 ∷ 2 ∷ body))) in let y = h.size in omega arith;
}

-- a unit with one hop less that goes to a node
pub less_one : (to : ℕ) (u less : MeshUnit) → to < 0xFFFE → IsLess u less → GoesToOne to less
less_one to u less short (Whole mesh octets) = λ e. absurd (omega arith)
less_one to u less short (Part mesh piece) = λ e. absurd (omega arith)
less_one to u less short (Carried mesh body) = λ e. absurd (omega arith)

pub less_route : (u less : MeshUnit) → IsLess u less → IsRoute less
less_route u less (Whole mesh octets) = tt
less_route u less (Part mesh piece) = tt
less_route u less (Carried mesh body) = tt

-- # Pieces

-- a piece that is spelled has 5 octets in front
length-piece : (p : Placed) → length (piece_spelling p) ≡ 5 + length p.octets
unfolding piece_spelling
length-piece p = by_offset (p.offset == 0)
  where
    by_offset : (b : Bool) → length (if b then big_bytes 2 (0xC000 + p.size) ++ (big_bytes 2 p.tag ++ (0x41 ∷ p.octets))
        else big_bytes 2 (0xE000 + p.size) ++ (big_bytes 2 p.tag ++ (p.offset ∷ p.octets))) ≡ 5 + length p.octets
    by_offset true = omega arith
    by_offset false = omega arith

piece_length : (d : List ℕ) (tag k : ℕ) → length (piece_of d tag k).octets ≡ min 368 (length d - 368 * k)
piece_length d tag k = length-take 368 (drop (368 * k) d) ∙ ap (min 368) (length-drop (368 * k) d)

begins : (n k : ℕ) → k < div_ceil n 368 → 368 * k < n
begins n k lt = omega arith

-- no piece is empty
pub piece_some : (d : List ℕ) (tag k : ℕ) → k < div_ceil (length d) 368 → 0 < length (piece_of d tag k).octets
piece_some d tag k lt =
    let at = begins (length d) k lt in
    let len = piece_length d tag k in
    omega arith

-- this many pieces, and each begins within
count_bound : (n k : ℕ) → 375 < n → n ≤ 1280 → k < div_ceil n 368 → (k ≤ 3) × (368 * k < n)
count_bound n k above below lt = (omega arith, omega arith)

full_or_last : (n k len : ℕ) → len ≡ min 368 (n - 368 * k) → 46 * k * 8 + len < n → len % 8 ≡ 0
full_or_last n k len is lt = let full : len ≡ 368 = omega arith in rw full refl

is_piece : (d : List ℕ) (tag k : ℕ) → 375 < length d → length d ≤ 1280 → tag < 2 ^ 16 → k < div_ceil (length d) 368 → IsPiece (piece_of d tag k)
is_piece d tag k above below low lt =
    let at = count_bound (length d) k above below lt in
    let len = piece_length d tag k in
    record {
      size = (omega arith, below);
      tag = low;
      offset = omega arith;
      some = omega arith;
      within = omega arith;
      eighths = full_or_last (length d) k _ len;
    }

-- # The units of a body

module _ (own to : ℕ) (here : own < 0xFFFE) (there : to < 0xFFFE) where
  own_is : IsMesh (own_mesh own to)
  own_is = record { hops = omega arith; origin = here; to = there }

  part_fit : (d : List ℕ) (tag k : ℕ) → 375 < length d → length d ≤ 1280 → tag < 2 ^ 16 → k < div_ceil (length d) 368
      → IsFit (units.Part (own_mesh own to) (piece_of d tag k))
  part_fit d tag k above below low lt = record {
    fields = (own_is, is_piece d tag k above below low lt);
    size =
        let one = own_length own to (piece_spelling (piece_of d tag k)) in
        let two = length-piece (piece_of d tag k) in
        let three = piece_length d tag k in
        omega arith;
  }

  cut_fit : (d : List ℕ) (tag : ℕ) → 375 < length d → length d ≤ 1280 → tag < 2 ^ 16
      → All IsFit (map (λ piece. units.Part (own_mesh own to) piece) (map (piece_of d tag) (range_with_len 0 (div_ceil (length d) 368))))
  cut_fit d tag above below low =
      All-map IsFit (λ piece. units.Part (own_mesh own to) piece) (map (piece_of d tag) (range_with_len 0 (div_ceil (length d) 368)))
      (All-map (λ (p : Placed). IsFit (units.Part (own_mesh own to) p)) (piece_of d tag) (range_with_len 0 (div_ceil (length d) 368))
      (λ k e lt.
      let within : k < div_ceil (length d) 368 = omega (arith, length-range_with_len 0 (div_ceil (length d) 368)) in
      subst (λ (j : ℕ). IsFit (units.Part (own_mesh own to) (piece_of d tag j)))
      (sym (get_or-range_with_len 0 (div_ceil (length d) 368) k e within ∙ omega arith)) (part_fit d tag k above below low within)))

  pub units_fit : (load : Load) → HasRoomInFrames load → All IsFit (units_of own to load)
  unfolding pieces_cut
  units_fit (Command octets) h = All-cons IsFit _ [] (record {
    fields = own_is;
    size = let one = own_length own to (0x40 ∷ 2 ∷ drop 1 octets) in let two = length-drop 1 octets in omega arith;
  }) (All-nil IsFit)
  units_fit (Datagram octets tag) h = by_size (nat_le (length octets) 375) refl
    where
      by_size : (b : Bool) → nat_le (length octets) 375 ≡ b → All IsFit (units_of own to (Datagram octets tag))
      by_size true t = rw t (All-cons IsFit _ [] (record {
        fields = (own_is, h.0, leb-true _ _ t);
        size = let one = own_length own to (0x41 ∷ octets) in let two = leb-true _ _ t in omega arith;
      }) (All-nil IsFit))
      by_size false t = rw t (cut_fit octets tag (leb-false _ _ t) h.1 h.2)

  routeless : (load : Load) → All IsRoute (units_of own to load)
  routeless (Command octets) = All-cons IsRoute _ [] tt (All-nil IsRoute)
  routeless (Datagram octets tag) = by_size (nat_le (length octets) 375) (pieces_cut octets tag)
    where
      by_size : (b : Bool) (pieces : List Placed)
          → All IsRoute (if b then units.Whole (own_mesh own to) octets ∷ [] else map (λ piece. units.Part (own_mesh own to) piece) pieces)
      by_size true pieces = All-cons IsRoute _ [] tt (All-nil IsRoute)
      by_size false pieces = All-map IsRoute (λ piece. units.Part (own_mesh own to) piece) pieces (λ k p lt. tt)

  to_one : (hop : ℕ) (load : Load) → hop < 0xFFFE → All (GoesToOne hop) (units_of own to load)
  to_one hop (Command octets) short = All-cons (GoesToOne hop) _ [] (λ e. absurd (omega arith)) (All-nil (GoesToOne hop))
  to_one hop (Datagram octets tag) short = by_size (nat_le (length octets) 375) (pieces_cut octets tag)
    where
      by_size : (b : Bool) (pieces : List Placed)
          → All (GoesToOne hop) (if b then units.Whole (own_mesh own to) octets ∷ [] else map (λ piece. units.Part (own_mesh own to) piece) pieces)
      by_size true pieces = All-cons (GoesToOne hop) _ [] (λ e. absurd (omega arith)) (All-nil (GoesToOne hop))
      by_size false pieces =
          All-map (GoesToOne hop) (λ piece. units.Part (own_mesh own to) piece) pieces (λ k p lt. λ e. absurd (omega arith))

  pub all_out : (hop note : ℕ) (load : Load) → hop < 0xFFFE → HasRoomInFrames load → All IsOut (all_go hop note (units_of own to load))
  all_out hop note load short h = All-map IsOut (λ unit. record { to = hop; unit = unit; note = note }) (units_of own to load)
      (λ k u lt. record {
        to = (omega arith, omega arith);
        unit = units_fit load h k u lt;
        route = routeless load k u lt;
        one = to_one hop load short k u lt;
      })
