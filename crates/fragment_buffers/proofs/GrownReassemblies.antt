-- A reassembly that begins or grows by a piece, in the list of all.
use Rattle.std.proofs.Common.{◌≡◌, ℕ, ◌*◌, ◌<◌, true, false, List, [], ◌∷◌, ◌++◌, length, set, refl, sym, ap, ◌∙◌, arith}
use Rattle.std.proofs.Common.{length-set, get_or-set_same, set-set}
use lib.Seq.{set_at}
use Rattle.std.proofs.lemmas.List.{get_or_push}
use Rattle.std.specs.List.{list_any}
use Rattle.std.specs.FinMap.{insert}
use Rattle.mesh_header.specs.Pieces.{Placed, IsPiece}
use Rattle.block_pool.specs.Pool.{PoolState, chain_octets, overwrite}
use Rattle.fragment_buffers.specs.declared.piece_span.PieceSpan.{PieceSpan}
use Rattle.fragment_buffers.specs.Reassembly.{begun, placed}
use Rattle.fragment_buffers.specs.PieceIntake.{grown}
use Rattle.fragment_buffers.specs.Entries.{Entry, IsEntry, entry_at, no_entry, place_of, meet, reassembly_in, blocks_used}
use Rattle.fragment_buffers.specs.Steps.{Changes}
use Rattle.fragment_buffers.proofs.PoolEntries.{used_set}
use Rattle.fragment_buffers.proofs.PieceWrites.{Before, anew, same, Writes, Fits, gathered_grown, long_written, before_fits, before_chain, before_size}
use Rattle.fragment_buffers.proofs.PieceWrites.{stays-insert}

-- the entry with a further place
abbrev pub with_place : Entry → PieceSpan → Entry
with_place e p = record e { places = e.places ++ p ∷ [] }

-- # Beginning

-- the entry e is put last, and then has a place
pub begun_last : (es fs gs : List Entry) (i : ℕ) (e : Entry) (p : PieceSpan) → fs ≡ es ++ e ∷ [] → i ≡ length es → gs ≡ set fs i (with_place (entry_at fs i) p)
    → gs ≡ es ++ with_place e p ∷ []
begun_last es fs gs i e p pushed last written =
    written ∙ ap (λ l. set l i (with_place (entry_at l i) p)) pushed
    ∙ ap (λ x. set (es ++ e ∷ []) i (with_place x p)) (get_or_push es e no_entry i (sym last)) ∙ set_at es e [] (with_place e p) i (sym last)

pub last_is : (es gs : List Entry) (e : Entry) → gs ≡ es ++ e ∷ [] → entry_at gs (length es) ≡ e
last_is es gs e is = ap (λ l. entry_at l (length es)) is ∙ get_or_push es e no_entry (length es) refl

pub same_last : (es gs : List Entry) (e : Entry) → gs ≡ es ++ e ∷ [] → gs ≡ es ++ entry_at gs (length es) ∷ []
same_last es gs e is = is ∙ ap (λ x. es ++ x ∷ []) (sym (last_is es gs e is))

-- # Growing

-- all entries before the piece is written: where it overlaps another one, the one of its name is empty
pub data AllBefore (es fs : List Entry) (i : ℕ) (piece : Placed) (note now : ℕ) : Type 0 where
  emptied : list_any (meet (place_of piece)) (entry_at es i).places ≡ true → fs ≡ set es i (record (entry_at es i) { note = note; since = now; places = [] })
      → AllBefore es fs i piece note now
  left : list_any (meet (place_of piece)) (entry_at es i).places ≡ false → fs ≡ es → AllBefore es fs i piece note now

pub one_before : (es fs : List Entry) (i : ℕ) (piece : Placed) (note now : ℕ) → i < length es → AllBefore es fs i piece note now
    → Before (entry_at es i) (entry_at fs i) piece note now
one_before es fs i piece note now lt (emptied h is) = anew h (ap (λ l. entry_at l i) is ∙ get_or-set_same es i _ no_entry lt)
one_before es fs i piece note now lt (left h is) = same h (ap (λ l. entry_at l i) is)

length_before : (es fs : List Entry) (i : ℕ) (piece : Placed) (note now : ℕ) → AllBefore es fs i piece note now → length fs ≡ length es
length_before es fs i piece note now (emptied h is) = ap length is ∙ length-set es i _
length_before es fs i piece note now (left h is) = ap length is

set_before : (es fs : List Entry) (i : ℕ) (piece : Placed) (note now : ℕ) (f : Entry) → AllBefore es fs i piece note now → set fs i f ≡ set es i f
set_before es fs i piece note now f (emptied h is) = ap (λ l. set l i f) is ∙ set-set es i _ f
set_before es fs i piece note now f (left h is) = ap (λ l. set l i f) is

pub used_before : (es fs : List Entry) (i : ℕ) (piece : Placed) (note now : ℕ) → i < length es → AllBefore es fs i piece note now
    → blocks_used fs ≡ blocks_used es
used_before es fs i piece note now lt (emptied h is) = ap (λ l. blocks_used l) is ∙ used_set es i _ lt refl
used_before es fs i piece note now lt (left h is) = ap (λ l. blocks_used l) is

-- what is known of the piece, its entry and the pool before
pub record Meets (p : PoolState) (es : List Entry) (i : ℕ) (piece : Placed) : Type 0 where
  pub there : i < length es
  pub entry : IsEntry (entry_at es i)
  pub rule : IsPiece piece
  pub size_is : (entry_at es i).size ≡ piece.size
  pub long : length (chain_octets p (entry_at es i).chain) ≡ (entry_at es i).size

module _ (p q : PoolState) (es fs gs : List Entry) (i : ℕ) (piece : Placed) (note now : ℕ) (meets : Meets p es i piece)
    (before : AllBefore es fs i piece note now) where
  abbrev e : Entry
  e = entry_at es i

  abbrev e' : Entry
  e' = entry_at fs i

  one : Before e e' piece note now
  one = one_before es fs i piece note now meets.there before

  pub fits_grown : Fits p e' piece
  fits_grown = before_fits p e e' piece note now one meets.entry meets.rule meets.size_is meets.long

  pub within_grown : i < length fs
  within_grown = omega (arith, length_before es fs i piece note now before, meets.there)

  module _ (written : gs ≡ set fs i (with_place e' (place_of piece)))
      (chains : q.chains ≡ insert p.chains e'.chain (overwrite (chain_octets p e'.chain) (piece.offset * 8) piece.octets)) where
    list_is : gs ≡ set es i (with_place e' (place_of piece))
    list_is = written ∙ set_before es fs i piece note now _ before

    grown_is : entry_at gs i ≡ with_place e' (place_of piece)
    grown_is = ap (λ l. entry_at l i) list_is ∙ get_or-set_same es i _ no_entry meets.there

    writes : Writes p q e' (entry_at gs i) piece
    writes = record { places = grown_is; chains = chains }

    pub items_grown : gs ≡ set es i (entry_at gs i)
    items_grown = list_is ∙ ap (set es i) (sym grown_is)

    pub changes_grown : q.free ≡ p.free → Changes p q es i (entry_at gs i)
    changes_grown free = record {
      there = meets.there;
      chain = ap (λ (x : Entry). x.chain) grown_is ∙ before_chain e e' piece note now one;
      size_is = ap (λ (x : Entry). x.size) grown_is ∙ before_size e e' piece note now one;
      long = long_written p q e' (entry_at gs i) piece fits_grown writes;
      free = free;
      others = λ c ne is. stays-insert p q e'.chain c _ chains (λ bad. ne (bad ∙ before_chain e e' piece note now one)) is;
    }

    pub gathered_all : e.tag ≡ piece.tag → reassembly_in q (entry_at gs i) ≡ grown (reassembly_in p e) (begun e.origin piece note now) (placed piece)
    gathered_all tag =
        gathered_grown p q e e' (entry_at gs i) piece note now one meets.entry meets.rule meets.size_is tag meets.long writes
