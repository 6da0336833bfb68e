-- Taking a piece in doubles no octet: what is handed up stood in the pieces.
use Rattle.std.proofs.Common.{zero-le, ◌≡◌, ◌≢◌, ℕ, zero, suc, ◌+◌, ◌-◌, ◌*◌, ◌≤◌, ◌<◌, ⊎_elim, Bool, true, false, cond, eqb, List, [], ◌∷◌, ◌++◌, length}
use Rattle.std.proofs.Common.{Option, Some, None, refl, sym, ap, ◌∙◌, subst, arith}
use Rattle.std.specs.Prelude.{if◌then◌else◌, nat_le, slice_get}
use Rattle.std.specs.List.{sum_by, AllByRecursion}
use Rattle.std.proofs.lemmas.List.Sums.{sum_by-cons, sum_by-append}
use Rattle.std.proofs.lemmas.Option.{same_Some, none-some, slice_get_within}
use Rattle.std.proofs.lemmas.Bool.{cases_eq}
use Rattle.std.proofs.lemmas.Bool.Decides.{nat_tests}
use Rattle.mesh_header.specs.Pieces.{Placed}
use Rattle.fragment_buffers.specs.Reassembly.{PlacedPiece, Reassembly, placed, begun, octet_of, first_of, octet_at, before_all, gathered, datagram_of, overlaps}
use Rattle.fragment_buffers.specs.PieceIntake as pieces
use Rattle.fragment_buffers.specs.PieceIntake.{same_name, grown, settled, joined, behind, taken_in, taken, has_room}
use Rattle.line_laws.specs.Custody.{weigh, below, covers, placed_is, held_is}

-- a position at which a piece has an octet lies in it
octet_covers : (p : PlacedPiece) (i : ℕ) (o : ℕ) → octet_of p i ≡ Some o → placed_is i p ≡ 1
octet_covers p i o = by_test (nat_le p.start i) refl
  where
    lies : (from count : ℕ) → nat_le from i ≡ true → i - from < count → covers i from count ≡ 1
    lies from count t h = grind (arith, nat_tests)

    by_test : (b : Bool) → nat_le p.start i ≡ b → (if b then slice_get p.octets (i - p.start) else None) ≡ Some o → placed_is i p ≡ 1
    by_test true t e = lies p.start (length p.octets) t (slice_get_within p.octets (i - p.start) o e)
    by_test false t e = absurd (none-some o e)

octets_cover : (ps : List PlacedPiece) (i : ℕ) (o : ℕ) → octet_at ps i ≡ Some o → 1 ≤ sum_by (placed_is i) ps
octets_cover [] i o e = absurd (none-some o e)
octets_cover (p ∷ ps) i o e = rw (sum_by-cons (placed_is i) p ps) (by_octet (octets_cover ps i o) (octet_of p i) refl e)
  where
    by_octet : (octet_at ps i ≡ Some o → 1 ≤ sum_by (placed_is i) ps) → (found : Option ℕ) → octet_of p i ≡ found → first_of found (octet_at ps i) ≡ Some o
        → 1 ≤ placed_is i p + sum_by (placed_is i) ps
    by_octet rest None is t = let more : 1 ≤ sum_by (placed_is i) ps = rest t in omega arith
    by_octet rest (Some x) is t = let one : placed_is i p ≡ 1 = octet_covers p i x is in omega arith

pub gathered_length : (ps : List PlacedPiece) (from count : ℕ) (os : List ℕ) → gathered ps from count ≡ Some os → length os ≡ count
gathered_length ps from zero os e = sym (ap length (same_Some [] os e))
gathered_length ps from (suc count) os e = by_parts (octet_at ps from) (gathered ps (suc from) count) (gathered_length ps (suc from) count) e
  where
    by_parts : (first : Option ℕ) (rest : Option (List ℕ)) → ((more : List ℕ) → rest ≡ Some more → length more ≡ count) → before_all first rest ≡ Some os
        → length os ≡ suc count
    by_parts None rest h t = absurd (none-some os t)
    by_parts (Some x) None h t = absurd (none-some os t)
    by_parts (Some x) (Some xs) h t = sym (ap length (same_Some (x ∷ xs) os t)) ∙ ap suc (h xs refl)

-- each position of what is gathered lies in a piece
gathered_covers : (ps : List PlacedPiece) (i from count : ℕ) (os : List ℕ) → gathered ps from count ≡ Some os → covers i from count ≤ sum_by (placed_is i) ps
gathered_covers ps i from zero os e = grind (arith, nat_tests)
gathered_covers ps i from (suc count) os e = by_parts (octet_at ps from) refl (gathered ps (suc from) count) (gathered_covers ps i (suc from) count) e
  where
    further : (k : ℕ) → 1 ≤ sum_by (placed_is from) ps → covers i (suc from) count ≤ sum_by (placed_is i) ps → (q : ℕ) → sum_by (placed_is q) ps ≡ k → q ≡ from
        → covers i from (suc count) ≤ sum_by (placed_is i) ps
    further k first rest q is e = ⊎_elim
        (λ (here : i ≡ from). let one : 1 ≤ sum_by (placed_is i) ps = subst (λ j. 1 ≤ sum_by (placed_is j) ps) (sym here) first in less_one i from count _ one)
        (λ (past : i ≢ from). less_rest i from count _ past rest)
        (cases_eq i from)
      where
        less_one : (i from count k : ℕ) → 1 ≤ k → covers i from (suc count) ≤ k
        less_one i from count k h = grind (arith, nat_tests)

        less_rest : (i from count k : ℕ) → i ≢ from → covers i (suc from) count ≤ k → covers i from (suc count) ≤ k
        less_rest i from count k h m = grind (arith, nat_tests)

    by_parts : (first : Option ℕ) → octet_at ps from ≡ first → (rest : Option (List ℕ))
        → ((more : List ℕ) → rest ≡ Some more → covers i (suc from) count ≤ sum_by (placed_is i) ps) → before_all first rest ≡ Some os
        → covers i from (suc count) ≤ sum_by (placed_is i) ps
    by_parts None is rest h t = absurd (none-some os t)
    by_parts (Some x) is None h t = absurd (none-some os t)
    by_parts (Some x) is (Some xs) h t = further _ (octets_cover ps from x is) (h xs refl) from refl refl

below_covers : (i count : ℕ) → below i count ≤ covers i 0 count
below_covers i count = grind (arith, nat_tests)

-- what is handed up has each octet where a piece has it
whole_sum : (i : ℕ) (r : Reassembly) (os : List ℕ) → datagram_of r ≡ Some os → below i (length os) ≤ sum_by (placed_is i) r.pieces
unfolding datagram_of
whole_sum i r os e =
    let all : covers i 0 r.size ≤ sum_by (placed_is i) r.pieces = gathered_covers r.pieces i 0 r.size os e in
    let has : below i (length os) ≤ covers i 0 r.size = rw (gathered_length r.pieces 0 r.size os e) (below_covers i r.size) in
    omega arith

-- what an outcome hands up
abbrev pub outcome_is : ℕ → ℕ → pieces.Outcome → ℕ
outcome_is n i pieces.Full = 0
outcome_is n i pieces.Held = 0
outcome_is n i (pieces.Whole note octets) = weigh n note (below i (length octets))

abbrev pub taken_sum : ℕ → ℕ → pieces.Taking → ℕ
taken_sum n i t = sum_by (held_is n i) t.held + outcome_is n i t.outcome

weigh_less : (b : Bool) (k m : ℕ) → k ≤ m → cond b k 0 ≤ cond b m 0
weigh_less true k m h = h
weigh_less false k m h = zero-le

settled_sum : (n i : ℕ) (r : Reassembly) (rest : List Reassembly) (whole : Option (List ℕ)) → datagram_of r ≡ whole
    → taken_sum n i (settled whole r rest) ≤ held_is n i r + sum_by (held_is n i) rest
settled_sum n i r rest None is = rw (sum_by-cons (held_is n i) r rest) (omega arith)
settled_sum n i r rest (Some os) is =
    let less : weigh n r.note (below i (length os)) ≤ held_is n i r = weigh_less (eqb r.note n) _ _ (whole_sum i r os is) in
    omega arith

one_more : (b : Bool) (k m : ℕ) → cond b (k + m) 0 ≤ cond b k 0 + cond b m 0
one_more true k m = omega arith
one_more false k m = zero-le

-- the reassemblies of the name have the note
abbrev pub NameHasNote : Reassembly → List Reassembly → Type 0
NameHasNote anew held = AllByRecursion (λ (r : Reassembly). same_name anew r ≡ true → r.note ≡ anew.note) held

module _ (n i : ℕ) (anew : Reassembly) (p : PlacedPiece) (first : anew.pieces ≡ p ∷ []) where
  piece_sum : ℕ
  piece_sum = weigh n anew.note (placed_is i p)

  anew_sum : held_is n i anew ≤ weigh n anew.note (placed_is i p)
  anew_sum = weigh_less (eqb anew.note n) _ _ (rw (first, sum_by-cons (placed_is i) p []) (omega arith))

  grown_sum : (r : Reassembly) → r.note ≡ anew.note → held_is n i (grown r anew p) ≤ held_is n i r + weigh n anew.note (placed_is i p)
  grown_sum r same = by_test (overlaps r.pieces p)
    where
      by_test : (b : Bool) → held_is n i (if b then anew else record r { pieces = r.pieces ++ p ∷ [] }) ≤ held_is n i r + weigh n anew.note (placed_is i p)
      by_test true = let one : held_is n i anew ≤ weigh n anew.note (placed_is i p) = anew_sum in omega arith
      by_test false = let single : sum_by (placed_is i) (p ∷ []) ≡ placed_is i p = sum_by-cons (placed_is i) p [] ∙ omega arith in
          subst (λ m. weigh n r.note (sum_by (placed_is i) (r.pieces ++ p ∷ [])) ≤ held_is n i r + weigh n m (placed_is i p)) same
          (rw (sum_by-append (placed_is i) r.pieces (p ∷ []), single) (one_more (eqb r.note n) (sum_by (placed_is i) r.pieces) (placed_is i p)))

  taken_in_sum : (held : List Reassembly) → NameHasNote anew held
      → taken_sum n i (taken_in held anew p) ≤ sum_by (held_is n i) held + weigh n anew.note (placed_is i p)
  unfolding taken_in
  taken_in_sum [] agrees =
      let end = settled_sum n i anew [] _ refl in
      let one : held_is n i anew ≤ weigh n anew.note (placed_is i p) = anew_sum in
      omega arith
  taken_in_sum (r ∷ rest) agrees = rw (sum_by-cons (held_is n i) r rest) (by_name (same_name anew r) refl (taken_in_sum rest agrees.1))
    where
      joined_sum : r.note ≡ anew.note → (b : Bool)
          → taken_sum n i (if b then record { held = r ∷ rest; outcome = pieces.Held } else settled (datagram_of (grown r anew p)) (grown r anew p) rest)
          ≤ (held_is n i r + sum_by (held_is n i) rest) + weigh n anew.note (placed_is i p)
      joined_sum same true = rw (sum_by-cons (held_is n i) r rest) (omega arith)
      joined_sum same false =
          let end = settled_sum n i (grown r anew p) rest _ refl in
          let grew : held_is n i (grown r anew p) ≤ held_is n i r + weigh n anew.note (placed_is i p) = grown_sum r same in
          omega arith

      by_name : (b : Bool) → same_name anew r ≡ b → taken_sum n i (taken_in rest anew p) ≤ sum_by (held_is n i) rest + weigh n anew.note (placed_is i p)
          → taken_sum n i (if b then joined r anew p rest else behind r (taken_in rest anew p))
          ≤ (held_is n i r + sum_by (held_is n i) rest) + weigh n anew.note (placed_is i p)
      by_name true t more = joined_sum (agrees.0 t) _
      by_name false t more = rw (sum_by-cons (held_is n i) r (taken_in rest anew p).held) (omega arith)

-- a piece that came adds what it has
pub piece_taken : (n i : ℕ) (held : List Reassembly) (origin : ℕ) (piece : Placed) (note now : ℕ) → NameHasNote (begun origin piece note now) held
    → taken_sum n i (taken held origin piece note now) ≤ sum_by (held_is n i) held + weigh n note (covers i (piece.offset * 8) (length piece.octets))
unfolding taken
piece_taken n i held origin piece note now agrees = by_room (has_room held (begun origin piece note now))
  where
    by_room : (b : Bool) → taken_sum n i (if b then taken_in held (begun origin piece note now) (placed piece)
        else record { held = held; outcome = pieces.Full }) ≤ sum_by (held_is n i) held + weigh n note (covers i (piece.offset * 8) (length piece.octets))
    by_room true = taken_in_sum n i (begun origin piece note now) (placed piece) refl held agrees
    by_room false = omega arith
