-- Lists with a place for what stands in them; and that the units of a load have each of its octets.
use Rattle.std.proofs.Common.{◌≡◌, ℕ, zero, suc, ◌+◌, ◌-◌, ◌*◌, ◌/◌, ◌≤◌, ◌<◌, min, Bool, true, false, List, [], ◌∷◌, ◌++◌, length, get_or, map}
use Rattle.std.proofs.Common.{Some, refl, ap, ◌∙◌, subst, arith}
use Rattle.std.specs.Prelude.{All, nat_le, slice_get, take, drop}
use Rattle.std.specs.Int.{div_ceil}
use Rattle.std.specs.List.{range_with_len}
use Rattle.std.proofs.lemmas.Bool.Decides.{nat_tests}
use Rattle.std.proofs.lemmas.List.{length-take, length-drop}
use Rattle.std.proofs.lemmas.List.Elements.{All-head, All-tail}
use Rattle.std.proofs.lemmas.List.FromFn.{length-range_with_len, get_or-range_with_len}
use Rattle.mesh_header.specs.declared.unit.Unit.{Unit as MeshUnit}
use Rattle.mesh_header.specs.declared.unit.Unit.TheVariants as units
use Rattle.fragment_buffers.specs.Fragmentation.{piece_of, pieces_cut}
use Rattle.fragment_buffers.specs.Loads.{Load, Datagram, Command, own_mesh, units_of}
use Rattle.line_laws.specs.Custody.{below, content_is, covers, load_is}
use Rattle.line_progress.specs.Lists.{Among, Here, Later}
use Rattle.line_progress.proofs.EventFates.{among_mapped}

-- # What stands in a list

pub among_all : {A : Type 0} (P : A → Type 0) (x : A) (xs : List A) → All P xs → Among x xs → P x
among_all P x xs all (Here rest) = All-head P x rest all
among_all P x xs all (Later y rest more) = among_all P x rest (All-tail P y rest all) more

pub among_at : {A : Type 0} (xs : List A) (k : ℕ) (d : A) → k < length xs → Among (get_or xs k d) xs
among_at [] k d lt = absurd (omega arith)
among_at (x ∷ xs) zero d lt = Here xs
among_at (x ∷ xs) (suc k) d lt = Later x xs (among_at xs k d (omega arith))

-- It stands at a place.
pub record Stands {A : Type 0} (x : A) (xs : List A) : Type 0 where
  pub place : ℕ
  pub is : slice_get xs place ≡ Some x

pub stands : {A : Type 0} (x : A) (xs : List A) → Among x xs → Stands x xs
stands x xs (Here rest) = record { place = 0; is = refl }
stands x xs (Later y rest more) = let s = stands x rest more in record { place = suc s.place; is = s.is }

pub behind_all : {A : Type 0} (xs ys : List A) (k : ℕ) (x : A) → slice_get ys k ≡ Some x → slice_get (xs ++ ys) (length xs + k) ≡ Some x
behind_all [] ys k x e = let same : k ≡ 0 + k = omega arith in subst (λ j. slice_get ys j ≡ Some x) same e
behind_all (y ∷ xs) ys k x e =
    let same : suc (length xs + k) ≡ length (y ∷ xs) + k = omega arith in
    subst (λ j. slice_get (y ∷ (xs ++ ys)) j ≡ Some x) same (behind_all xs ys k x e)

-- # The units of a load

-- A unit of them has the octet at a position.
pub record HasUnit (i : ℕ) (us : List MeshUnit) : Type 0 where
  pub unit : MeshUnit
  pub among : Among unit us
  pub octet : content_is i unit ≡ 1

below_is : (i size : ℕ) → below i size ≡ 1 → i < size
below_is i size e = grind (arith, nat_tests)

pub inside : (i from count : ℕ) → from ≤ i → i < from + count → covers i from count ≡ 1
inside i from count low high = grind (arith, nat_tests)

at_piece : (n i : ℕ) → i < n → (i / 368 < div_ceil n 368) × (368 * (i / 368) ≤ i) × (i < 368 * (i / 368) + 368)
at_piece n i lt = (omega arith, omega arith, omega arith)

piece_has : (d : List ℕ) (tag i k : ℕ) → i < length d → 368 * k ≤ i → i < 368 * k + 368
    → covers i ((46 * k) * 8) (length (take 368 (drop (368 * k) d))) ≡ 1
piece_has d tag i k lt low high =
    let len : length (take 368 (drop (368 * k) d)) ≡ min 368 (length d - 368 * k) = length-take 368 (drop (368 * k) d)
    ∙ ap (min 368) (length-drop (368 * k) d) in
    inside i ((46 * k) * 8) (length (take 368 (drop (368 * k) d))) (omega arith) (omega arith)

module _ (own to i : ℕ) where
  in_pieces : (octets : List ℕ) (tag : ℕ) → i < length octets
      → HasUnit i (map (λ piece. units.Part (own_mesh own to) piece) (map (piece_of octets tag) (range_with_len 0 (div_ceil (length octets) 368))))
  in_pieces octets tag lt =
      let at = at_piece (length octets) i lt in
      let k : ℕ = i / 368 in
      let n : ℕ = div_ceil (length octets) 368 in
      let long : k < length (range_with_len 0 n) = omega (arith, length-range_with_len 0 n, at.0) in
      let same : get_or (range_with_len 0 n) k 0 ≡ k = get_or-range_with_len 0 n k 0 at.0 ∙ omega arith in
      let there : Among k (range_with_len 0 n) = subst (λ j. Among j (range_with_len 0 n)) same (among_at (range_with_len 0 n) k 0 long) in
      record {
        unit = units.Part (own_mesh own to) (piece_of octets tag k);
        among = among_mapped (λ piece. units.Part (own_mesh own to) piece) (piece_of octets tag k) _
            (among_mapped (piece_of octets tag) k (range_with_len 0 n) there);
        octet = piece_has octets tag i k lt at.1 at.2;
      }

  pub covers_all : (load : Load) → load_is i load ≡ 1 → HasUnit i (units_of own to load)
  unfolding pieces_cut
  covers_all (Command octets) e = absurd (cc)
  covers_all (Datagram octets tag) e = by_size (nat_le (length octets) 375) refl
    where
      by_size : (b : Bool) → nat_le (length octets) 375 ≡ b → HasUnit i (units_of own to (Datagram octets tag))
      by_size true t = rw t (record { unit = units.Whole (own_mesh own to) octets; among = Here []; octet = e })
      by_size false t = rw t (in_pieces octets tag (below_is i (length octets) e))
