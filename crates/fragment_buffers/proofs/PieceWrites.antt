-- What writing a piece into a chain makes of an entry.
use Rattle.std.proofs.Common.{◌≡◌, ℕ, ◌*◌, true, false, List, [], ◌∷◌, ◌++◌, length, map, is_some, refl, sym, ap, subst, ◌∙◌, arith}
use Rattle.std.proofs.lemmas.List.Elements.{All-nil, All-push}
use Rattle.std.proofs.lemmas.Bool.{cond-true, cond-false}
use Rattle.std.specs.List.{list_any, All}
use Rattle.std.specs.FinMap.{insert, remove, get}
use Rattle.mesh_header.specs.Pieces.{Placed, IsPiece}
use Rattle.block_pool.specs.Pool.{PoolState, IsChain, chain_octets, overwrite}
use Rattle.block_pool.proofs.Chains.{get-insert_other, get-remove_other}
use Rattle.block_pool.proofs.Callers.{chain_octets-insert, chain_octets-insert_other, chain_octets-remove_other}
use Rattle.block_pool.proofs.Overwrites.{length-overwrite}
use Rattle.fragment_buffers.specs.declared.piece_span.PieceSpan.{PieceSpan}
use Rattle.fragment_buffers.specs.Reassembly.{PlacedPiece, Reassembly, begun, placed, overlaps}
use Rattle.fragment_buffers.specs.PieceIntake.{grown}
use Rattle.fragment_buffers.specs.Entries.{Entry, IsEntry, IsPlace, place_of, meet, piece_in, reassembly_in}
pub use Rattle.fragment_buffers.specs.Steps.{Stays}
use Rattle.fragment_buffers.proofs.Places.{piece_place, apart_push}
use Rattle.fragment_buffers.proofs.PiecesHeld.{overlaps_in, written_in}

-- a piece is written into the chain of e, which is then f: p is the pool before, q after it
pub record Writes (p q : PoolState) (e f : Entry) (piece : Placed) : Type 0 where
  pub places : f ≡ record e { places = e.places ++ place_of piece ∷ [] }
  pub chains : q.chains ≡ insert p.chains e.chain (overwrite (chain_octets p e.chain) (piece.offset * 8) piece.octets)

-- what the piece has to be for it
pub record Fits (p : PoolState) (e : Entry) (piece : Placed) : Type 0 where
  pub rule : IsPiece piece
  pub size_is : e.size ≡ piece.size
  pub long : length (chain_octets p e.chain) ≡ e.size
  pub entry : IsEntry e
  pub none : list_any (meet (place_of piece)) e.places ≡ false

pub entry_written : (e : Entry) (p : PieceSpan) → IsEntry e → IsPlace e.size p → list_any (meet p) e.places ≡ false
    → IsEntry (record e { places = e.places ++ p ∷ [] })
entry_written e p rule place none = record {
  size = rule.size;
  places = All-push (IsPlace e.size) e.places p rule.places place;
  apart = apart_push e.places p rule.apart none;
}

pub place_fits : (e : Entry) (piece : Placed) → IsPiece piece → e.size ≡ piece.size → IsPlace e.size (place_of piece)
place_fits e piece is size = subst (λ n. IsPlace n (place_of piece)) (sym size) (piece_place piece is)

-- an entry with these pieces
abbrev with_pieces : Entry → List PlacedPiece → Reassembly
with_pieces e ps = record { origin = e.origin; size = e.size; tag = e.tag; note = e.note; since = e.since; pieces = ps }

pub gathered_written : (p q : PoolState) (e f : Entry) (piece : Placed) → Fits p e piece → Writes p q e f piece
    → reassembly_in q f ≡ record (reassembly_in p e) { pieces = (reassembly_in p e).pieces ++ placed piece ∷ [] }
gathered_written p q e f piece fits w =
    let os : List ℕ = chain_octets p e.chain in
    let places : All (IsPlace (length os)) e.places = subst (λ n. All (IsPlace n) e.places) (sym fits.long) fits.entry.places in
    ap (reassembly_in q) w.places
    ∙ ap (λ xs. with_pieces e (map (piece_in xs) (e.places ++ place_of piece ∷ []))) (chain_octets-insert p q e.chain _ w.chains)
    ∙ ap (with_pieces e) (written_in os e.places piece fits.rule (fits.long ∙ fits.size_is) places fits.none)

pub long_written : (p q : PoolState) (e f : Entry) (piece : Placed) → Fits p e piece → Writes p q e f piece → length (chain_octets q f.chain) ≡ f.size
long_written p q e f piece fits w =
    ap (λ g. length (chain_octets q g.chain)) w.places
    ∙ ap length (chain_octets-insert p q e.chain _ w.chains)
    ∙ length-overwrite (chain_octets p e.chain) (piece.offset * 8) piece.octets (omega (arith, fits.rule.within, fits.long, fits.size_is))
    ∙ fits.long ∙ sym (ap (λ g. g.size) w.places)

pub stays-insert : (p q : PoolState) (c d : ℕ) (os : List ℕ) → q.chains ≡ insert p.chains c os → (d ≡ c → ⊥) → IsChain p d → Stays p q d
stays-insert p q c d os e ne is = (ap is_some (ap (λ m. get m d) e ∙ get-insert_other p.chains c d os ne) ∙ is, chain_octets-insert_other p q c d os e ne)

pub stays-remove : (p q : PoolState) (c d : ℕ) → q.chains ≡ remove p.chains c → (d ≡ c → ⊥) → IsChain p d → Stays p q d
stays-remove p q c d e ne is = (ap is_some (ap (λ m. get m d) e ∙ get-remove_other p.chains c d ne) ∙ is, chain_octets-remove_other p q c d e ne)

-- # Growing

-- the entry as it is before the piece is written: where the piece overlaps another one, it is empty
pub data Before (e e' : Entry) (piece : Placed) (note now : ℕ) : Type 0 where
  anew : list_any (meet (place_of piece)) e.places ≡ true → e' ≡ record e { note = note; since = now; places = [] } → Before e e' piece note now
  same : list_any (meet (place_of piece)) e.places ≡ false → e' ≡ e → Before e e' piece note now

pub empty_entry : (e : Entry) (note now : ℕ) → IsEntry e → IsEntry (record e { note = note; since = now; places = [] })
empty_entry e note now rule = record { size = rule.size; places = All-nil (IsPlace e.size); apart = λ i j d li lj. absurd (omega arith) }

pub before_fits : (p : PoolState) (e e' : Entry) (piece : Placed) (note now : ℕ) → Before e e' piece note now → IsEntry e → IsPiece piece → e.size ≡ piece.size
    → length (chain_octets p e.chain) ≡ e.size → Fits p e' piece
before_fits p e e' piece note now (anew h is) rule ok size long =
    subst (λ g. Fits p g piece) (sym is) (record { rule = ok; size_is = size; long = long; entry = empty_entry e note now rule; none = refl })
before_fits p e e' piece note now (same h is) rule ok size long =
    subst (λ g. Fits p g piece) (sym is) (record { rule = ok; size_is = size; long = long; entry = rule; none = h })

pub before_chain : (e e' : Entry) (piece : Placed) (note now : ℕ) → Before e e' piece note now → e'.chain ≡ e.chain
before_chain e e' piece note now (anew h is) = ap (λ g. g.chain) is
before_chain e e' piece note now (same h is) = ap (λ g. g.chain) is

pub before_size : (e e' : Entry) (piece : Placed) (note now : ℕ) → Before e e' piece note now → e'.size ≡ e.size
before_size e e' piece note now (anew h is) = ap (λ g. g.size) is
before_size e e' piece note now (same h is) = ap (λ g. g.size) is

pub gathered_grown : (p q : PoolState) (e e' f : Entry) (piece : Placed) (note now : ℕ) → Before e e' piece note now → IsEntry e → IsPiece piece
    → e.size ≡ piece.size → e.tag ≡ piece.tag
    → length (chain_octets p e.chain) ≡ e.size → Writes p q e' f piece
    → reassembly_in q f ≡ grown (reassembly_in p e) (begun e.origin piece note now) (placed piece)
gathered_grown p q e e' f piece note now before rule ok size tag long w =
    let fits : Fits p e' piece = before_fits p e e' piece note now before rule ok size long in
    let places : All (IsPlace (length (chain_octets p e.chain))) e.places = subst (λ n. All (IsPlace n) e.places) (sym long) rule.places in
    let test : overlaps (reassembly_in p e).pieces (placed piece)
    ≡ list_any (meet (place_of piece)) e.places = overlaps_in (chain_octets p e.chain) e.places piece places in
    gathered_written p q e' f piece fits w ∙ gathered_before p e e' piece note now before size tag test where
      gathered_before : (p : PoolState) (e e' : Entry) (piece : Placed) (note now : ℕ) → Before e e' piece note now → e.size ≡ piece.size → e.tag ≡ piece.tag
          → overlaps (reassembly_in p e).pieces (placed piece) ≡ list_any (meet (place_of piece)) e.places
          → record (reassembly_in p e') { pieces = (reassembly_in p e').pieces ++ placed piece ∷ [] }
          ≡ grown (reassembly_in p e) (begun e.origin piece note now) (placed piece)
      gathered_before p e e' piece note now (anew h is) size tag test =
          ap (λ g. record (reassembly_in p g) { pieces = (reassembly_in p g).pieces ++ placed piece ∷ [] }) is
          ∙ ap (λ n. record { origin = e.origin; size = n; tag = e.tag; note = note; since = now; pieces = placed piece ∷ [] }) size
          ∙ ap (λ t. record { origin = e.origin; size = piece.size; tag = t; note = note; since = now; pieces = placed piece ∷ [] }) tag
          ∙ sym (cond-true _ _ _ (test ∙ h))
      gathered_before p e e' piece note now (same h is) size tag test =
          ap (λ g. record (reassembly_in p g) { pieces = (reassembly_in p g).pieces ++ placed piece ∷ [] }) is
          ∙ sym (cond-false _ _ _ (test ∙ h))

-- # Beginning

abbrev pub entry_begun : (origin : ℕ) → Placed → (note now chain : ℕ) → List PieceSpan → Entry
entry_begun origin piece note now chain places =
    record { origin = origin; size = piece.size; tag = piece.tag; note = note; since = now; chain = chain; places = places }

pub begun_fits : (p : PoolState) (piece : Placed) (origin note now chain : ℕ) → IsPiece piece → length (chain_octets p chain) ≡ piece.size
    → Fits p (entry_begun origin piece note now chain []) piece
begun_fits p piece origin note now chain rule long = record {
  rule = rule;
  size_is = refl;
  long = long;
  none = refl;
  entry = record { size = rule.size.1; places = All-nil (IsPlace piece.size); apart = λ i j d li lj. absurd (omega arith) };
}

pub gathered_begun : (p q : PoolState) (f : Entry) (piece : Placed) (origin note now chain : ℕ) → IsPiece piece → length (chain_octets p chain) ≡ piece.size
    → Writes p q (entry_begun origin piece note now chain []) f piece → reassembly_in q f ≡ begun origin piece note now
gathered_begun p q f piece origin note now chain rule long w =
    gathered_written p q (entry_begun origin piece note now chain []) f piece (begun_fits p piece origin note now chain rule long) w
