-- The rule of taking a piece, at the place of the reassembly that it joins.
use Rattle.std.proofs.Common.{◌≡◌, ℕ, zero, suc, ◌+◌, ◌<◌, ◌≤◌, ◌⊎◌, inl, inr, Bool, true, false, ◌&&◌, nat_lt, nat_le, cond, List, [], ◌∷◌, ◌++◌, length}
use Rattle.std.proofs.Common.{get_or, set, Option, Some, None, Ok, refl, sym, ap, ◌∙◌, arith}
use Rattle.std.proofs.lemmas.Bool.{cond-true, cond-false, or_left, or_right, or_from, and_left, and_right, and_from, lt-ltb, le-ltb, le-leb, lt-leb}
use Rattle.std.proofs.lemmas.List.{get_or_push}
use Rattle.std.proofs.lemmas.List.Folds.{list_any_at, list_any_none}
use Rattle.std.proofs.lemmas.List.Elements.{All-from_get_or}
use Rattle.std.specs.List.{list_any}
use Rattle.mesh_header.specs.Pieces.{Placed}
use Rattle.fragment_buffers.specs.Reassembly.{PlacedPiece, Reassembly, begun, placed, datagram_of, repeats}
use Rattle.fragment_buffers.specs.PieceIntake.{Taking, Full, Held, blocks, blocks_held, same_name, grown, settled, behind, taken_in, taken}
use Rattle.fragment_buffers.specs.Answers.{answer_of, taken_of, nothing, settled_by, settled_at, joined_at}

-- # Behind others

settled_first : (o : Option (List ℕ)) (r : Reassembly) (rest : List Reassembly) → settled o r rest ≡ settled_by o (r ∷ rest) 0
settled_first None r rest = refl
settled_first (Some octets) r rest = refl

behind_settled : (o : Option (List ℕ)) (r : Reassembly) (held : List Reassembly) (i : ℕ) → behind r (settled_by o held i) ≡ settled_by o (r ∷ held) (suc i)
behind_settled None r held i = refl
behind_settled (Some octets) r held i = refl

behind_cond : (b : Bool) (r : Reassembly) (s t : Taking) → behind r (cond b s t) ≡ cond b (behind r s) (behind r t)
behind_cond true r s t = refl
behind_cond false r s t = refl

-- # The reassembly of its name is there

abbrev joined_in : List Reassembly → ℕ → Reassembly → PlacedPiece → Taking
joined_in held i anew p =
    let r = get_or held i nothing in
    cond (repeats r.pieces p) (record { held = held; outcome = Held }) (settled_by (datagram_of (grown r anew p)) (set held i (grown r anew p)) i)

taken_in_at : (held : List Reassembly) (anew : Reassembly) (p : PlacedPiece) (i : ℕ) → i < length held → same_name anew (get_or held i nothing) ≡ true
    → ((k : ℕ) → k < i → same_name anew (get_or held k nothing) ≡ false) → taken_in held anew p ≡ joined_in held i anew p
unfolding taken_in
taken_in_at [] anew p i lt named first = absurd (omega arith)
taken_in_at (r ∷ rest) anew p zero lt named first =
    cond-true _ _ _ named ∙ ap (λ t. cond (repeats r.pieces p) (record { held = r ∷ rest; outcome = Held }) t)
    (settled_first (datagram_of (grown r anew p)) (grown r anew p) rest)
taken_in_at (r ∷ rest) anew p (suc i) lt named first =
    let g : Reassembly = grown (get_or rest i nothing) anew p in
    cond-false _ _ _ (first 0 (omega arith))
    ∙ ap (behind r) (taken_in_at rest anew p i (omega arith) named (λ k lk. first (suc k) (omega arith)))
    ∙ behind_cond (repeats (get_or rest i nothing).pieces p) r _ _
    ∙ ap (λ t. cond (repeats (get_or rest i nothing).pieces p) (record { held = r ∷ rest; outcome = Held }) t)
    (behind_settled (datagram_of g) r (set rest i g) i)

get_or-set_here : (held : List Reassembly) (i : ℕ) (r : Reassembly) → i < length held → get_or (set held i r) i nothing ≡ r
get_or-set_here [] i r lt = absurd (omega arith)
get_or-set_here (x ∷ xs) zero r lt = refl
get_or-set_here (x ∷ xs) (suc i) r lt = get_or-set_here xs i r (omega arith)

pub taken_found : (held : List Reassembly) (origin : ℕ) (piece : Placed) (note now i : ℕ) → i < length held → origin ≡ (get_or held i nothing).origin
    → same_name (begun origin piece note now) (get_or held i nothing) ≡ true
    → ((k : ℕ) → k < i → same_name (begun origin piece note now) (get_or held k nothing) ≡ false)
    → taken held origin piece note now ≡ joined_at held i piece note now
unfolding taken joined_at settled_at
taken_found held origin piece note now i lt origin_is named first =
    let anew : Reassembly = begun origin piece note now in
    let r : Reassembly = get_or held i nothing in
    let there : list_any (same_name anew) held ≡ true = list_any_at (same_name anew) held i nothing lt named in
    let g : Reassembly = grown r anew (placed piece) in
    cond-true _ _ _ (or_left (list_any (same_name anew) held) (nat_lt (length held) 8 && nat_le (blocks_held held + blocks piece.size) 80) there)
    ∙ taken_in_at held anew (placed piece) i lt named first
    ∙ ap (λ s. cond (repeats r.pieces (placed piece)) (record { held = held; outcome = Held }) (settled_by (datagram_of s) (set held i g) i))
    (sym (get_or-set_here held i g lt))
    ∙ ap (λ o. let h = grown r (begun o piece note now) (placed piece) in
    cond (repeats r.pieces (placed piece)) (record { held = held; outcome = Held })
    (settled_by (datagram_of (get_or (set held i h) i nothing)) (set held i h) i)) origin_is

-- # No reassembly of its name is there

taken_in_none : (held : List Reassembly) (anew : Reassembly) (p : PlacedPiece) → ((k : ℕ) → k < length held → same_name anew (get_or held k nothing) ≡ false)
    → taken_in held anew p ≡ settled_by (datagram_of anew) (held ++ anew ∷ []) (length held)
unfolding taken_in
taken_in_none [] anew p none = settled_first (datagram_of anew) anew []
taken_in_none (r ∷ rest) anew p none =
    cond-false _ _ _ (none 0 (omega arith))
    ∙ ap (behind r) (taken_in_none rest anew p (λ k lk. none (suc k) (omega arith)))
    ∙ behind_settled (datagram_of anew) r (rest ++ anew ∷ []) (length rest)

no_name : (held : List Reassembly) (anew : Reassembly) → ((k : ℕ) → k < length held → same_name anew (get_or held k nothing) ≡ false)
    → list_any (same_name anew) held ≡ false
no_name held anew none = list_any_none (same_name anew) held (All-from_get_or (λ r. same_name anew r ≡ false) held nothing none)

pub taken_new : (held : List Reassembly) (origin : ℕ) (piece : Placed) (note now : ℕ)
    → ((k : ℕ) → k < length held → same_name (begun origin piece note now) (get_or held k nothing) ≡ false)
    → length held < 8 → blocks_held held + blocks piece.size ≤ 80
    → taken held origin piece note now ≡ settled_at (held ++ begun origin piece note now ∷ []) (length held)
unfolding taken settled_at
taken_new held origin piece note now none few fits =
    let anew : Reassembly = begun origin piece note now in
    cond-true _ _ _ (or_right (list_any (same_name anew) held) _
    (and_from _ _ (lt-ltb (length held) 8 few) (le-leb (blocks_held held + blocks piece.size) 80 fits)))
    ∙ taken_in_none held anew (placed piece) none
    ∙ ap (λ r. settled_by (datagram_of r) (held ++ anew ∷ []) (length held)) (sym (get_or_push held anew nothing (length held) refl))

pub taken_full : (held : List Reassembly) (origin : ℕ) (piece : Placed) (note now : ℕ)
    → ((k : ℕ) → k < length held → same_name (begun origin piece note now) (get_or held k nothing) ≡ false)
    → (8 ≤ length held) ⊎ (80 < blocks_held held + blocks piece.size) → taken held origin piece note now ≡ record { held = held; outcome = Full }
unfolding taken
taken_full held origin piece note now none full =
    let no : (nat_lt (length held) 8 && nat_le (blocks_held held + blocks piece.size) 80) ≡ false = elim full [
      | inl many ↦ and_left _ _ (le-ltb (length held) 8 many)
      | inr more ↦ and_right _ _ (lt-leb (blocks_held held + blocks piece.size) 80 more)
    ] in
    cond-false _ _ _ (or_from _ _ (no_name held (begun origin piece note now) none) no)

-- # A piece that has a reassembly is not refused

settled_not_full : (o : Option (List ℕ)) (held : List Reassembly) (i : ℕ)
    → answer_of (settled_by o held i).outcome ≡ Ok (taken_of (settled_by o held i).outcome)
settled_not_full None held i = refl
settled_not_full (Some octets) held i = refl

pub settled_answer : (held : List Reassembly) (i : ℕ) → answer_of (settled_at held i).outcome ≡ Ok (taken_of (settled_at held i).outcome)
unfolding settled_at
settled_answer held i = settled_not_full (datagram_of (get_or held i nothing)) held i

cond_answer : (b : Bool) (s t : Taking) → answer_of s.outcome ≡ Ok (taken_of s.outcome) → answer_of t.outcome ≡ Ok (taken_of t.outcome)
    → answer_of (cond b s t).outcome ≡ Ok (taken_of (cond b s t).outcome)
cond_answer true s t hs ht = hs
cond_answer false s t hs ht = ht

pub joined_answer : (held : List Reassembly) (i : ℕ) (piece : Placed) (note now : ℕ)
    → answer_of (joined_at held i piece note now).outcome ≡ Ok (taken_of (joined_at held i piece note now).outcome)
unfolding joined_at
joined_answer held i piece note now =
    let r : Reassembly = get_or held i nothing in
    cond_answer (repeats r.pieces (placed piece)) (record { held = held; outcome = Held }) _ refl
    (settled_answer (set held i (grown r (begun r.origin piece note now) (placed piece))) i)
