-- How units are sealed one after another.
use Rattle.std.proofs.Common.{◌≡◌, ℕ, zero, suc, ◌+◌, ◌<◌, ◌≤◌, ◌*◌, ◌%◌, not, List, [], ◌∷◌, ◌++◌, length, map, take, drop, get_or, Some, refl, sym, ap}
use Rattle.std.proofs.Common.{◌∙◌, arith}
use Rattle.std.specs.Prelude.{◌==◌, nat_le}
use Rattle.std.specs.List.{slice_get, range_with_len}
use Rattle.std.proofs.Math.Seq.{take-suc}
use Rattle.std.proofs.lemmas.Bool.{cond-false, lt-leb}
use Rattle.std.proofs.lemmas.List.{length-map, take_all}
use Rattle.std.proofs.lemmas.List.FromFn.{length-map-range_with_len}
use Rattle.std.proofs.lemmas.Option.{get_or_from_slice_get}
use Rattle.aes_modes.specs.Ccm.{ccm_text, ccm_tag}
use Rattle.plc_base.specs.declared.address.TheConstants.{PAN}
use Rattle.plc_base.specs.declared.key.Key.{Key}
use Rattle.plc_base.specs.declared.out_frame.OutFrame.{OutFrame}
use Rattle.plc_base.specs.Grant.{Granted}
use Rattle.mac_frames.specs.declared.head.MacHead.{MacHead}
use Rattle.mac_frames.specs.declared.head.MacHead.TheVariants as heads
use Rattle.mac_frames.specs.Grammar.{header, header_then}
use Rattle.mac_frames.specs.SealedFrames.{nonce_of}
use Rattle.mac_frames.specs.Sent.{to_all}
use Rattle.mesh_header.specs.declared.unit.Unit.{Unit as MeshUnit}
use Rattle.mesh_header.specs.declared.unit.Mesh.{Mesh}
use Rattle.mesh_header.specs.declared.unit.Unit.TheVariants.{Part}
use Rattle.mesh_header.specs.Grammar.{spelling}
use Rattle.mesh_header.specs.Pieces.{Placed}
use Rattle.fragment_buffers.specs.Fragmentation.{pieces_cut, pieces_of, piece_of}
use Rattle.fragment_buffers.specs.Loads.{UnsealedUnit, all_go, own_mesh}
use Rattle.station_queues.specs.Frames.{unit_frame, frames_of, pieces_sent}

-- a unit that was sealed is the frame of its letter
pub sealed_is : (g : Granted) (key : Key) (counter to note : ℕ) (unit : MeshUnit) (head : MacHead) (aes payload octets : List ℕ)
    → head ≡ heads.Sealed (not (to == to_all)) (counter % 256) PAN to g.address counter g.active → aes ≡ key.0 → payload ≡ spelling unit
    → octets ≡ header_then head (ccm_text aes (nonce_of head) payload ++ ccm_tag 4 aes (nonce_of head) (header head) payload)
    → ◌≡◌ {A = OutFrame} (record { octets = octets; note = note; key = Some key }) (unit_frame g key counter (record { to = to; unit = unit; note = note }))
unfolding unit_frame
sealed_is g key counter to note unit head aes payload octets h a p o =
    ap (λ (os : List ℕ). record { octets = os; note = note; key = Some key })
    (o ∙ (λ i. header_then (h i) (ccm_text (a i) (nonce_of (h i)) (p i) ++ ccm_tag 4 (a i) (nonce_of (h i)) (header (h i)) (p i))))

-- # Units one after another

pub frames-append : (g : Granted) (key : Key) (first : ℕ) (xs ys : List UnsealedUnit)
    → frames_of g key first (xs ++ ys) ≡ frames_of g key first xs ++ frames_of g key (first + length xs) ys
frames-append g key first [] ys = ap (λ n. frames_of g key n ys) (sym (zero-right first))
  where
    zero-right : (n : ℕ) → n + 0 ≡ n
    zero-right n = omega arith
frames-append g key first (x ∷ xs) ys =
    let same : first + 1 + length xs ≡ first + length (x ∷ xs) = omega arith in
    ap (λ zs. unit_frame g key first x ∷ zs) (frames-append g key (first + 1) xs ys ∙ ap (λ n. frames_of g key (first + 1) xs ++ frames_of g key n ys) same)

pub length-frames : (g : Granted) (key : Key) (first : ℕ) (us : List UnsealedUnit) → length (frames_of g key first us) ≡ length us
length-frames g key first [] = refl
length-frames g key first (u ∷ us) = ap suc (length-frames g key (first + 1) us)

-- the frames of one unit more
frames-suc : (g : Granted) (key : Key) (first k : ℕ) (units : List UnsealedUnit) (o : UnsealedUnit) → k < length units
    → ((d : UnsealedUnit) → get_or units k d ≡ o)
    → frames_of g key first (take (suc k) units) ≡ frames_of g key first (take k units) ++ unit_frame g key (first + k) o ∷ []
frames-suc g key first k units o lt is =
    ap (frames_of g key first) (take-suc units k o lt)
    ∙ frames-append g key first (take k units) (get_or units k o ∷ [])
    ∙ (λ i. frames_of g key first (take k units) ++ unit_frame g key (first + length-take k units lt i) (is o i) ∷ [])
  where
    length-take : (n : ℕ) (xs : List UnsealedUnit) → n < length xs → length (take n xs) ≡ n
    length-take zero [] h = refl
    length-take zero (x ∷ xs) h = refl
    length-take (suc n) [] h = absurd (omega arith)
    length-take (suc n) (x ∷ xs) h = ap suc (length-take n xs (omega arith))

-- # The pieces of a datagram

units : Mesh → (hop note : ℕ) → List ℕ → ℕ → List UnsealedUnit
units mesh hop note datagram tag = all_go hop note (map (λ piece. Part mesh piece) (pieces_cut datagram tag))

pub length-cut : (datagram : List ℕ) (tag : ℕ) → 376 ≤ length datagram → length (pieces_cut datagram tag) ≡ pieces_of (length datagram)
unfolding pieces_cut
length-cut datagram tag long =
    let all : List Placed = map (piece_of datagram tag) (range_with_len 0 (pieces_of (length datagram))) in
    ap length (cond-false (nat_le (length datagram) 375) [] all (lt-leb (length datagram) 375 (omega arith)))
    ∙ length-map-range_with_len (piece_of datagram tag) 0 (pieces_of (length datagram))

length-units : (mesh : Mesh) (hop note : ℕ) (datagram : List ℕ) (tag : ℕ) → 376 ≤ length datagram
    → length (units mesh hop note datagram tag) ≡ pieces_of (length datagram)
unfolding units
length-units mesh hop note datagram tag long = length-map _ _ ∙ length-map _ _ ∙ length-cut datagram tag long

pub pieces-suc : (g : Granted) (key : Key) (first to hop note : ℕ) (datagram : List ℕ) (tag k : ℕ) (piece : Placed) → 376 ≤ length datagram
    → k < pieces_of (length datagram)
    → slice_get (pieces_cut datagram tag) k ≡ Some piece
    → pieces_sent g key first to hop note datagram tag (k + 1) ≡ pieces_sent g key first to hop note datagram tag k
    ++ unit_frame g key (first + k) (record { to = hop; unit = Part (own_mesh g.address to) piece; note = note }) ∷ []
unfolding units
pieces-suc g key first to hop note datagram tag k piece long lt is =
    ap (pieces_sent g key first to hop note datagram tag) (one-more k)
    ∙ frames-suc g key first k (units (own_mesh g.address to) hop note datagram tag) _
    (omega (arith, length-units (own_mesh g.address to) hop note datagram tag long)) (λ d.
    get_or-two (pieces_cut datagram tag) k d (omega (arith, length-cut datagram tag long))
    ∙ ap (λ (p : Placed). record { to = hop; unit = Part (own_mesh g.address to) p; note = note })
    (get_or_from_slice_get (pieces_cut datagram tag) k piece piece is))
  where
    one-more : (n : ℕ) → n + 1 ≡ suc n
    one-more n = omega arith

    get_or-two : (xs : List Placed) (n : ℕ) (d : UnsealedUnit) → n < length xs
        → get_or (all_go hop note (map (λ p. Part (own_mesh g.address to) p) xs)) n d
        ≡ record { to = hop; unit = Part (own_mesh g.address to) (get_or xs n piece); note = note }
    get_or-two [] n d h = absurd (omega arith)
    get_or-two (x ∷ xs) zero d h = refl
    get_or-two (x ∷ xs) (suc n) d h = get_or-two xs n d (omega arith)

pub pieces-length : (g : Granted) (key : Key) (first to hop note : ℕ) (datagram : List ℕ) (tag k : ℕ)
    → length (pieces_sent g key first to hop note datagram tag k) ≤ k
pieces-length g key first to hop note datagram tag k =
    let us : List UnsealedUnit = all_go hop note (map (λ p. Part (own_mesh g.address to) p) (pieces_cut datagram tag)) in
    omega (arith, length-frames g key first (take k us), length-take k us)
  where
    length-take : (n : ℕ) (xs : List UnsealedUnit) → length (take n xs) ≤ n
    length-take zero xs = omega arith
    length-take (suc n) [] = omega arith
    length-take (suc n) (x ∷ xs) = omega (arith, length-take n xs)

-- all of them
pub pieces-whole : (g : Granted) (key : Key) (first to hop note : ℕ) (datagram : List ℕ) (tag k : ℕ) → 376 ≤ length datagram → pieces_of (length datagram) ≤ k
    → pieces_sent g key first to hop note datagram tag k
    ≡ frames_of g key first (all_go hop note (map (λ piece. Part (own_mesh g.address to) piece) (pieces_cut datagram tag)))
unfolding units
pieces-whole g key first to hop note datagram tag k long all =
    ap (frames_of g key first) (take_all k (units (own_mesh g.address to) hop note datagram tag)
    (omega (arith, length-units (own_mesh g.address to) hop note datagram tag long)))

-- a piece in its unit is short
pub piece-short : (datagram : List ℕ) (tag k : ℕ) → length (piece_of datagram tag k).octets ≤ 368
piece-short datagram tag k = length-take-at-most 368 (drop (368 * k) datagram)
  where
    length-take-at-most : (n : ℕ) (xs : List ℕ) → length (take n xs) ≤ n
    length-take-at-most zero xs = omega arith
    length-take-at-most (suc n) [] = omega arith
    length-take-at-most (suc n) (x ∷ xs) = omega (arith, length-take-at-most n xs)
