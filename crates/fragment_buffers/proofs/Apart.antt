-- What holds of every reassembly: the octets of a whole one, and that its pieces do not overlap.
use Rattle.std.proofs.Common.{◌≡◌, ℕ, zero, suc, ◌+◌, ◌<◌, ◌≤◌, false, nat_lt, List, [], ◌∷◌, ◌++◌, length, get_or, Option, Some, None, refl, sym, ap, ◌∙◌}
use Rattle.std.proofs.Common.{arith}
use Rattle.std.proofs.lemmas.Bool.{cond_both}
use Rattle.std.proofs.lemmas.Bool.Decides.{nat_tests}
use Rattle.std.proofs.lemmas.Option.{slice_get-get_or}
use Rattle.std.proofs.lemmas.List.Elements.{All-nil, All-cons, All-head, All-tail, All-filter}
use Rattle.std.proofs.lemmas.List.Quantifiers.{all_pairs_push}
use Rattle.std.specs.List.{slice_get, All}
use Rattle.mesh_header.specs.Pieces.{Placed}
use Rattle.fragment_buffers.specs.Reassembly.{PlacedPiece, Reassembly, placed, begun, overlap, overlaps, repeats, octet_of, octet_at, first_of, before_all}
use Rattle.fragment_buffers.specs.Reassembly.{gathered, datagram_of}
use Rattle.fragment_buffers.specs.PieceIntake.{Taking, same_name, has_room, grown, settled, joined, taken_in, taken, unexpired}
use Rattle.fragment_buffers.specs.Laws.{no_piece, AreApart, WholeIsOfItsPieces, GapIsInNoPiece, PiecesStayApart}
use Rattle.fragment_buffers.proofs.Places.{none_passes}
use Rattle.fragment_buffers.specs.declared.times.TheConstants.{REASSEMBLY_TIME}

-- # Whole

before_some : (o : Option ℕ) (rest : Option (List ℕ)) (os : List ℕ) → before_all o rest ≡ Some os
    → (x : ℕ) × (xs : List ℕ) × (o ≡ Some x) × (rest ≡ Some xs) × (os ≡ x ∷ xs)
before_some None rest os e = cc
before_some (Some x) None os e = cc
before_some (Some x) (Some xs) os e = (x, xs, refl, refl, cc)

gathered_reads : (ps : List PlacedPiece) (from count : ℕ) (os : List ℕ) → gathered ps from count ≡ Some os
    → (length os ≡ count) × ((j : ℕ) → j < count → octet_at ps (from + j) ≡ slice_get os j)
gathered_reads ps from zero os e =
    let none : os ≡ [] = cc in
    (ap length none, λ j lt. absurd (omega arith))
gathered_reads ps from (suc count) os e =
    let b = before_some (octet_at ps from) (gathered ps (suc from) count) os e in
    let rest = gathered_reads ps (suc from) count b.1 b.3 in
    (omega (arith, ap length b.4, rest.0), reads b.0 b.1 b.2 b.4 rest.1) where
      reads : (x : ℕ) (xs : List ℕ) → octet_at ps from ≡ Some x → os ≡ x ∷ xs → ((j : ℕ) → j < count → octet_at ps (suc from + j) ≡ slice_get xs j) → (j : ℕ)
          → j < suc count → octet_at ps (from + j) ≡ slice_get os j
      reads x xs here is later zero lt =
          let e : from + 0 ≡ from = omega arith in
          ap (octet_at ps) e ∙ here ∙ ap (λ ys. slice_get ys 0) (sym is)
      reads x xs here is later (suc j) lt =
          let e : from + suc j ≡ suc from + j = omega arith in
          ap (octet_at ps) e ∙ later j (omega arith) ∙ ap (λ ys. slice_get ys (suc j)) (sym is)

-- the k-th of the pieces has the octet at the position
abbrev HasOctet : List PlacedPiece → ℕ → ℕ → Type 0
HasOctet ps i x = (k : ℕ) × (k < length ps) × (octet_of (get_or ps k no_piece) i ≡ Some x)

first_or_later : (p : PlacedPiece) (ps : List PlacedPiece) (i x : ℕ) (o : Option ℕ) → octet_of p i ≡ o → first_of o (octet_at ps i) ≡ Some x
    → (octet_at ps i ≡ Some x → HasOctet ps i x) → HasOctet (p ∷ ps) i x
first_or_later p ps i x None is e later =
    let rest : HasOctet ps i x = later e in
    (suc rest.0, omega (arith, rest.1), rest.2)
first_or_later p ps i x (Some y) is e later = (0, omega arith, is ∙ e)

in_a_piece : (ps : List PlacedPiece) (i x : ℕ) → octet_at ps i ≡ Some x → HasOctet ps i x
in_a_piece [] i x e = cc
in_a_piece (p ∷ ps) i x e = first_or_later p ps i x (octet_of p i) refl e (λ rest. in_a_piece ps i x rest)

pub whole_reads : WholeIsOfItsPieces
unfolding datagram_of
whole_reads r os e =
    let g = gathered_reads r.pieces 0 r.size os e in (
      g.0,
      λ i lt.
          let at : 0 + i ≡ i = omega arith in
          let read = slice_get-get_or os i 0 (omega (arith, g.0)) in
          let found = in_a_piece r.pieces i (get_or os i 0) (ap (octet_at r.pieces) (sym at) ∙ g.1 i lt ∙ read) in
          (found.0, found.1, found.2 ∙ sym read),
    )

rest_none : (x : ℕ) (rest : Option (List ℕ)) → before_all (Some x) rest ≡ None → rest ≡ None
rest_none x None e = refl
rest_none x (Some xs) e = cc

-- a position from one on that lies in no piece
abbrev Gap : List PlacedPiece → ℕ → ℕ → Type 0
Gap ps from count = (i : ℕ) × (from ≤ i) × (i < from + count) × (octet_at ps i ≡ None)

here_or_later : (ps : List PlacedPiece) (from count : ℕ) (o : Option ℕ) → octet_at ps from ≡ o → before_all o (gathered ps (suc from) count) ≡ None
    → (gathered ps (suc from) count ≡ None → Gap ps (suc from) count) → Gap ps from (suc count)
here_or_later ps from count None is e later = (from, omega arith, omega arith, is)
here_or_later ps from count (Some x) is e later =
    let rest : Gap ps (suc from) count = later (rest_none x _ e) in
    (rest.0, omega (arith, rest.1), omega (arith, rest.2), rest.3)

gathered_none : (ps : List PlacedPiece) (from count : ℕ) → gathered ps from count ≡ None → Gap ps from count
gathered_none ps from zero e = cc
gathered_none ps from (suc count) e = here_or_later ps from count (octet_at ps from) refl e (λ rest. gathered_none ps (suc from) count rest)

first_of_none : (o rest : Option ℕ) → first_of o rest ≡ None → (o ≡ None) × (rest ≡ None)
first_of_none None rest e = (refl, e)
first_of_none (Some x) rest e = cc

in_no_piece : (ps : List PlacedPiece) (i : ℕ) → octet_at ps i ≡ None → All (λ p. octet_of p i ≡ None) ps
in_no_piece [] i e = All-nil (λ p. octet_of p i ≡ None)
in_no_piece (p ∷ ps) i e =
    let both = first_of_none (octet_of p i) (octet_at ps i) e in
    All-cons (λ p. octet_of p i ≡ None) p ps both.0 (in_no_piece ps i both.1)

pub gap_in_none : GapIsInNoPiece
unfolding datagram_of
gap_in_none r e =
    let gap = gathered_none r.pieces 0 r.size e in
    (gap.0, omega (arith, gap.2), in_no_piece r.pieces gap.0 gap.3)

-- # Apart

overlap_flips : (p q : PlacedPiece) → overlap p q ≡ false → overlap q p ≡ false
overlap_flips p q h = grind (arith, nat_tests)

apart_alone : (origin : ℕ) (piece : Placed) (note now : ℕ) → AreApart (begun origin piece note now)
apart_alone origin piece note now = λ i j d lt lj. absurd (omega arith)

apart_grown : (r anew : Reassembly) (p : PlacedPiece) → AreApart r → AreApart anew → AreApart (grown r anew p)
apart_grown r anew p ar aa = cond_both (overlaps r.pieces p) anew (record r { pieces = r.pieces ++ p ∷ [] }) AreApart (λ _. aa)
    (λ none. all_pairs_push (λ p q. overlap p q ≡ false) r.pieces p ar
    (λ k d lt. overlap_flips p (get_or r.pieces k d) (none_passes (overlap p) r.pieces none k d lt)))

apart_settled : (o : Option (List ℕ)) (r : Reassembly) (rest : List Reassembly) → AreApart r → All AreApart rest → All AreApart (settled o r rest).held
apart_settled None r rest ar all = All-cons AreApart r rest ar all
apart_settled (Some octets) r rest ar all = all

apart_joined : (r anew : Reassembly) (p : PlacedPiece) (rest : List Reassembly) → AreApart r → AreApart anew → All AreApart rest
    → All AreApart (joined r anew p rest).held
apart_joined r anew p rest ar aa all = cond_both (repeats r.pieces p) _ _ (λ (t : Taking). All AreApart t.held) (λ _. All-cons AreApart r rest ar all)
    (λ _. apart_settled _ (grown r anew p) rest (apart_grown r anew p ar aa) all)

apart_taken_in : (held : List Reassembly) (anew : Reassembly) (p : PlacedPiece) → All AreApart held → AreApart anew → All AreApart (taken_in held anew p).held
unfolding taken_in
apart_taken_in [] anew p all aa = apart_settled _ anew [] aa all
apart_taken_in (r ∷ rest) anew p all aa =
    cond_both (same_name anew r) _ _ (λ (t : Taking). All AreApart t.held)
    (λ _. apart_joined r anew p rest (All-head AreApart r rest all) aa (All-tail AreApart r rest all))
    (λ _. All-cons AreApart r _ (All-head AreApart r rest all) (apart_taken_in rest anew p (All-tail AreApart r rest all) aa))

pub stay_apart : PiecesStayApart
unfolding taken unexpired
stay_apart held origin piece note now all = (
  cond_both (has_room held (begun origin piece note now)) _ _ (λ (t : Taking). All AreApart t.held)
      (λ _. apart_taken_in held (begun origin piece note now) (placed piece) all (apart_alone origin piece note now)) (λ _. all),
  All-filter (λ r. nat_lt now (r.since + REASSEMBLY_TIME)) AreApart held all,
)
