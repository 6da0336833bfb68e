-- What a unit carries of a datagram: all of it or a piece. A station takes both alike, up to the last node of their way.
use Rattle.std.proofs.Common.{◌≡◌, ℕ, ◌+◌, ◌-◌, ◌*◌, ◌%◌, ◌<◌, ◌≤◌, ◌^◌, min, true, false, List, length, take, drop, Some, None, Ok, refl, ap, ◌∙◌, arith}
use Rattle.std.specs.Prelude.{if◌then◌else◌, nat_lt, ◌==◌}
use Rattle.std.proofs.lemmas.Bool.{lt-ltb}
use Rattle.std.proofs.lemmas.List.{length-take, length-drop}
use Rattle.mesh_header.specs.declared.unit.Mesh.{Mesh}
use Rattle.mesh_header.specs.declared.unit.Unit.{Unit as MeshUnit}
use Rattle.mesh_header.specs.declared.unit.Unit.TheVariants as units
use Rattle.mesh_header.specs.Pieces.{Placed, IsPiece}
use Rattle.mesh_header.specs.Grammar.{IsMesh, IsUnit, spelling, spelled_length, header_length}
use Rattle.mesh_header.proofs.Readings.{length_read}
use Rattle.fragment_buffers.specs.Fragmentation.{piece_of}
use Rattle.node_rules.specs.HearingRules.{Hearing, forward, gather, hands_up, hear_sealed, hop_less}
use Rattle.node_rules.specs.Drafts.{choose}
use Rattle.node_rules.specs.Memory.{StationMemory}
use Rattle.node_rules.specs.Replies.{route_message}
use Rattle.reach_rules.specs.FurtherReceptions.{command_with}

pub data Content : Type 0 where
  Entire : (octets : List ℕ) → Content
  Piece : (piece : Placed) → Content

abbrev pub unit_with : Mesh → Content → MeshUnit
unit_with mesh (Entire octets) = units.Whole mesh octets
unit_with mesh (Piece piece) = units.Part mesh piece

pub carries_no_message : (mesh : Mesh) (content : Content) → route_message (unit_with mesh content) ≡ None
carries_no_message mesh (Entire octets) = refl
carries_no_message mesh (Piece piece) = refl

pub carries_no_command : (from : ℕ) (mesh : Mesh) (content : Content) → command_with from false (Some (unit_with mesh content)) ≡ None
carries_no_command from mesh (Entire octets) = refl
carries_no_command from mesh (Piece piece) = refl

-- # At a station

-- what its target makes of it
abbrev pub taken_up : StationMemory → Content → (origin note now : ℕ) → Hearing
taken_up l (Entire octets) origin note now = hands_up l origin note octets
taken_up l (Piece piece) origin note now = gather l origin piece note now

pub is_heard : (l : StationMemory) (own from : ℕ) (mesh : Mesh) (content : Content) (cost note now : ℕ)
    → hear_sealed l own from false (unit_with mesh content) cost note now
    ≡ choose (mesh.to == own) (taken_up l content mesh.origin note now) (forward l own mesh (unit_with (hop_less mesh) content) note)
unfolding choose
is_heard l own from mesh (Entire octets) cost note now = refl
is_heard l own from mesh (Piece piece) cost note now = refl

-- # In its ranges

-- A content that a unit may have, and whose unit a frame has room for.
pub record IsContent (content : Content) : Type 0 where
  pub unit : (mesh : Mesh) → IsMesh mesh → IsUnit (unit_with mesh content)
  pub size : (mesh : Mesh) → IsMesh mesh → mesh.hops ≤ 14 → length (spelling (unit_with mesh content)) ≤ 381

header : (mesh : Mesh) → mesh.hops ≤ 14 → header_length mesh.hops ≡ 5
header mesh few = let low : nat_lt mesh.hops 15 ≡ true = lt-ltb mesh.hops 15 (omega arith) in λ i. if low i then 5 else 6

spelled_so : (unit : MeshUnit) → IsUnit unit → spelled_length unit ≡ length (spelling unit)
spelled_so unit fits = length_read (spelling unit) (Ok unit) (fits, refl)

pub entire_fits : (octets : List ℕ) → 0 < length octets → length octets ≤ 375 → IsContent (Entire octets)
entire_fits octets some few = record {
  unit = λ mesh fits. (fits, some, few);
  size = λ mesh fits low. omega (arith, header mesh low, spelled_so (units.Whole mesh octets) (fits, some, few));
}

pub piece_fits : (piece : Placed) → IsPiece piece → length piece.octets ≤ 368 → IsContent (Piece piece)
piece_fits piece rule few = record {
  unit = λ mesh fits. (fits, rule);
  size = λ mesh fits low. omega (arith, header mesh low, spelled_so (units.Part mesh piece) (fits, rule));
}

-- # The pieces of a datagram

full_or_last : (n k len : ℕ) → len ≡ min 368 (n - 368 * k) → 46 * k * 8 + len < n → len % 8 ≡ 0
full_or_last n k len is lt = let full : len ≡ 368 = omega arith in rw full refl

pub piece_in_range : (d : List ℕ) (tag k : ℕ) → length d ≤ 1280 → tag < 2 ^ 16 → 368 * k < length d → IsContent (Piece (piece_of d tag k))
piece_in_range d tag k below low lt =
    let len : length (take 368 (drop (368 * k) d)) ≡ min 368 (length d - 368 * k) =
    length-take 368 (drop (368 * k) d) ∙ ap (λ n. min 368 n) (length-drop (368 * k) d) in
    let few : k ≤ 3 = omega (arith, below, lt) in
    piece_fits (piece_of d tag k) (record {
      size = (omega arith, below);
      tag = low;
      offset = omega arith;
      some = omega (arith, len);
      within = omega (arith, len);
      eighths = full_or_last (length d) k _ len;
    }) (omega (arith, len))
