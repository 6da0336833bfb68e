-- What becomes of a piece that is held, where another one comes.
use Rattle.std.proofs.Common.{◌≡◌, ℕ, Bool, true, false, List, [], ◌∷◌, ◌++◌, Option, Some, None, refl}
use Rattle.std.specs.Prelude.{if◌then◌else◌, ◌==◌, ◌&&◌}
use Rattle.std.proofs.lemmas.Bool.{and_from, eq-eqb}
use Rattle.fragment_buffers.specs.Reassembly.{PlacedPiece, Reassembly, begun, datagram_of, overlaps, placed, repeats}
use Rattle.fragment_buffers.specs.PieceIntake.{Taking, Full, Held, behind, grown, has_room, joined, same_name, settled, taken, taken_in}
use Rattle.line_progress.specs.Lists.{Among, Here, Later}
use Rattle.line_progress.specs.PieceFates.{IsSameOne, PieceFate, StaysHeld, CameUp, Discarded, PiecesHaveFates}

pub among_front : {A : Type 0} (x : A) (xs ys : List A) → Among x xs → Among x (xs ++ ys)
among_front x xs ys (Here rest) = Here (rest ++ ys)
among_front x xs ys (Later y rest more) = Later y (rest ++ ys) (among_front x rest ys more)

pub same_self : (r : Reassembly) → same_name r r ≡ true
same_self r =
    and_from (r.origin == r.origin) ((r.size == r.size) && (r.tag == r.tag)) (eq-eqb r.origin r.origin refl)
    (and_from (r.size == r.size) (r.tag == r.tag) (eq-eqb r.size r.size refl) (eq-eqb r.tag r.tag refl))

pub is_itself : (r : Reassembly) → IsSameOne r r
is_itself r = record { name = same_self r; note = refl }

-- the reassembly that it stands in takes the piece
module _ (r anew : Reassembly) (p q : PlacedPiece) (rest : List Reassembly) (in_r : Among p r.pieces) (named : same_name anew r ≡ true) where
  added : Reassembly
  added = record r { pieces = r.pieces ++ q ∷ [] }

  by_datagram : (o : Option (List ℕ)) → datagram_of added ≡ o → PieceFate r p anew q (settled o added rest)
  unfolding added
  by_datagram None e = StaysHeld added (Here rest) (record { name = same_self r; note = refl }) (among_front p r.pieces (q ∷ []) in_r)
  by_datagram (Some octets) e = CameUp added octets (record { name = same_self r; note = refl }) (among_front p r.pieces (q ∷ []) in_r) e refl

  by_overlap : (b : Bool) → overlaps r.pieces q ≡ b
      → PieceFate r p anew q (settled (datagram_of (if b then anew else added)) (if b then anew else added) rest)
  by_overlap true e = Discarded named e
  by_overlap false e = by_datagram (datagram_of added) refl

  by_repeat : (b : Bool) → PieceFate r p anew q
      (if b then record { held = r ∷ rest; outcome = Held } else settled (datagram_of (grown r anew q)) (grown r anew q) rest)
  unfolding added
  by_repeat true = StaysHeld r (Here rest) (is_itself r) in_r
  by_repeat false = by_overlap (overlaps r.pieces q) refl

  joined_fate : PieceFate r p anew q (joined r anew q rest)
  joined_fate = by_repeat (repeats r.pieces q)

-- another one takes it
module _ (r s anew : Reassembly) (p q : PlacedPiece) (rest : List Reassembly) (in_rest : Among r rest) (in_r : Among p r.pieces) where
  other_settled : (o : Option (List ℕ)) (t : Reassembly) → PieceFate r p anew q (settled o t rest)
  other_settled None t = StaysHeld r (Later t rest in_rest) (is_itself r) in_r
  other_settled (Some octets) t = StaysHeld r in_rest (is_itself r) in_r

  other_repeat : (b : Bool) → PieceFate r p anew q
      (if b then record { held = s ∷ rest; outcome = Held } else settled (datagram_of (grown s anew q)) (grown s anew q) rest)
  other_repeat true = StaysHeld r (Later s rest in_rest) (is_itself r) in_r
  other_repeat false = other_settled (datagram_of (grown s anew q)) (grown s anew q)

  other_joined : PieceFate r p anew q (joined s anew q rest)
  other_joined = other_repeat (repeats s.pieces q)

-- one more before it changes nothing
fate_behind : (r s anew : Reassembly) (p q : PlacedPiece) (t : Taking) → PieceFate r p anew q t → PieceFate r p anew q (behind s t)
fate_behind r s anew p q t (StaysHeld u among same piece) = StaysHeld u (Later s t.held among) same piece
fate_behind r s anew p q t (CameUp u octets same piece whole is) = CameUp u octets same piece whole is
fate_behind r s anew p q t (Discarded named over) = Discarded named over

module _ (anew : Reassembly) (q p : PlacedPiece) where
  taken_fate : (r : Reassembly) (held : List Reassembly) → Among r held → Among p r.pieces → PieceFate r p anew q (taken_in held anew q)
  unfolding taken_in
  taken_fate r held (Here rest) in_r = by_name (same_name anew r) refl
    where
      by_name : (b : Bool) → same_name anew r ≡ b → PieceFate r p anew q (if b then joined r anew q rest else behind r (taken_in rest anew q))
      by_name true e = joined_fate r anew p q rest in_r e
      by_name false e = StaysHeld r (Here (taken_in rest anew q).held) (is_itself r) in_r
  taken_fate r held (Later s rest more) in_r = by_name (same_name anew s) (taken_fate r rest more in_r)
    where
      by_name : (b : Bool) → PieceFate r p anew q (taken_in rest anew q)
          → PieceFate r p anew q (if b then joined s anew q rest else behind s (taken_in rest anew q))
      by_name true fate = other_joined r s anew p q rest more in_r
      by_name false fate = fate_behind r s anew p q (taken_in rest anew q) fate

pub piece_fates : PiecesHaveFates
unfolding taken
piece_fates held origin piece note now r p among in_r = by_room (has_room held (begun origin piece note now))
  where
    by_room : (b : Bool)
        → PieceFate r p (begun origin piece note now) (placed piece)
        (if b then taken_in held (begun origin piece note now) (placed piece) else record { held = held; outcome = Full })
    by_room true = taken_fate (begun origin piece note now) (placed piece) p r held among in_r
    by_room false = StaysHeld r among (is_itself r) in_r
