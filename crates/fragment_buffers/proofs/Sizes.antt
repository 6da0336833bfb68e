-- How many units the bodies that wait are.
use Rattle.std.proofs.Common.{◌≡◌, ℕ, suc, ◌+◌, ◌*◌, ◌<◌, ◌≤◌, Bool, true, false, not, List, [], ◌∷◌, length, refl, ◌∙◌, arith}
use Rattle.std.specs.Prelude.{nat_le, All}
use Rattle.std.specs.List.{filter, sum_by, flat_map}
use Rattle.std.specs.Int.{div_ceil}
use Rattle.std.proofs.lemmas.Bool.{leb-false}
use Rattle.std.proofs.lemmas.List.{length-map}
use Rattle.std.proofs.lemmas.List.Concat.{length-flat_map}
use Rattle.std.proofs.lemmas.List.FromFn.{length-map-range_with_len}
use Rattle.std.proofs.lemmas.List.Filters.{sum_by-filter_both}
use Rattle.std.proofs.lemmas.List.Sums.{sum_by-cons}
use Rattle.fragment_buffers.specs.Fragmentation.{pieces_cut, pieces_of, piece_of}
use Rattle.mesh_header.specs.declared.unit.Unit.{Unit as MeshUnit}
use Rattle.fragment_buffers.specs.PieceIntake.{blocks}
use Rattle.fragment_buffers.specs.Loads.{Load, Datagram, Command, load_octets, IsShort, UnsealedUnit, units_of, units_in, all_go}
use Rattle.fragment_buffers.specs.WaitingBodies.{Body, waits_for, pending_in}

pub length-units_of : (own to : ℕ) (load : Load) → length (units_of own to load) ≡ units_in load
unfolding pieces_cut
length-units_of own to (Command octets) = refl
length-units_of own to (Datagram octets tag) = by_size (nat_le (length octets) 375) refl
  where
    by_size : (b : Bool) → nat_le (length octets) 375 ≡ b → length (units_of own to (Datagram octets tag)) ≡ units_in (Datagram octets tag)
    by_size true t = rw t refl
    by_size false t = rw t (length-map _ _ ∙ length-map-range_with_len (piece_of octets tag) 0 _)

pub length-all_go : (hop note : ℕ) (us : List MeshUnit) → length (all_go hop note us) ≡ length us
length-all_go hop note us = length-map us _

-- # What waits

-- the units of those that leave
pub leaving_units : (own dest hop : ℕ) (bodies : List Body)
    → length (flat_map (λ b. all_go hop b.note (units_of own b.to b.load)) (filter (waits_for dest) bodies)) ≤ pending_in bodies
leaving_units own dest hop bodies =
    let f : Body → List UnsealedUnit = λ b. all_go hop b.note (units_of own b.to b.load) in
    let long : (b : Body) → length (f b) ≡ units_in b.load = λ b. length-all_go hop b.note _ ∙ length-units_of own b.to b.load in
    let sum : length (flat_map f (filter (waits_for dest) bodies)) ≡ pending_in (filter (waits_for dest) bodies) =
    length-flat_map f (filter (waits_for dest) bodies) ∙ (λ i. sum_by (λ b. long b i) (filter (waits_for dest) bodies)) in
    let both : pending_in (filter (waits_for dest) bodies) + pending_in (filter (λ b. not (waits_for dest b)) bodies) ≡ pending_in bodies =
    sum_by-filter_both (waits_for dest) (λ b. not (waits_for dest b)) (λ b. refl) (λ b. units_in b.load) bodies in
    omega arith

-- # Blocks

long_units : (n : ℕ) → 375 < n → n ≤ 1280 → (6 * div_ceil n 368 ≤ blocks n + 6) × (div_ceil n 368 ≤ 4)
long_units n above below = (omega arith, omega arith)

units_bound : (n : ℕ) → n ≤ 1280 → (6 * pieces_of n ≤ blocks n + 6) × (pieces_of n ≤ 4)
units_bound n below = by_size (nat_le n 375) refl
  where
    by_size : (b : Bool) → nat_le n 375 ≡ b → (6 * pieces_of n ≤ blocks n + 6) × (pieces_of n ≤ 4)
    by_size true t = rw t (omega arith, omega arith)
    by_size false t = rw t (long_units n (leb-false _ _ t) below)

pub load_bound : (load : Load) → IsShort load → (6 * units_in load ≤ blocks (length (load_octets load)) + 6) × (units_in load ≤ 4)
load_bound (Datagram octets tag) short = units_bound (length octets) short
load_bound (Command octets) short = (omega arith, omega arith)

bodies_bound : (bodies : List Body) → All (λ (b : Body). IsShort b.load) bodies
    → 6 * pending_in bodies ≤ sum_by (λ (b : Body). blocks (length (load_octets b.load))) bodies + 6 * length bodies
bodies_bound [] short = omega arith
bodies_bound (b ∷ rest) short =
    let first : 6 * units_in b.load ≤ blocks (length (load_octets b.load)) + 6 = (load_bound b.load (short 0 b (omega arith))).0 in
    let more : 6 * pending_in rest ≤ sum_by (λ (b : Body). blocks (length (load_octets b.load))) rest + 6
    * length rest = bodies_bound rest (λ k d lt. short (suc k) d (omega arith)) in
    rw (sum_by-cons (λ (b : Body). units_in b.load) b rest, sum_by-cons (λ (b : Body). blocks (length (load_octets b.load))) b rest) (omega arith)

-- bodies that are within their sizes: at most 8 of at most 80 blocks
pub few_pending : (bodies : List Body) → length bodies ≤ 8 → sum_by (λ (b : Body). blocks (length (load_octets b.load))) bodies ≤ 80
    → All (λ (b : Body). IsShort b.load) bodies → pending_in bodies ≤ 21
few_pending bodies count room short =
    let sum = bodies_bound bodies short in
    omega arith
