-- The pieces of a datagram come together again.
use Rattle.std.proofs.Common.{◌≡◌, ℕ, ◌+◌, ◌-◌, ◌*◌, ◌/◌, ◌<◌, ◌≤◌, inl, inr, Bool, true, false, ◌&&◌, ◌||◌, ◌==◌, nat_lt, nat_le, cond, List, [], ◌∷◌, ◌++◌}
use Rattle.std.proofs.Common.{length, map, get_or, set, drop, Option, Some, None, refl, sym, ap, subst, ◌∙◌, arith, eq-eqb, length-append, length-take}
use Rattle.std.proofs.Common.{length-drop}
use Rattle.std.proofs.lemmas.Bool.{cases_Bool, cases_eq, cond-true, cond-false, or_parts, or_from, and_from, lt-leb, eqb-true, eqb-false, le-leb, leb-true}
use Rattle.std.proofs.Math.Bool.{or-false}
use Rattle.std.proofs.lemmas.Bool.Decides.{nat_tests}
use Rattle.std.proofs.lemmas.Option.{slice_get-get_or, slice_get_past}
use Rattle.std.proofs.lemmas.List.{map-append, take_all, get_or_append_left, get_or_push, get_or-take, get_or-drop}
use Rattle.std.specs.Int.{div_ceil}
use Rattle.std.specs.List.{list_any, slice_get, remove}
use Rattle.fragment_buffers.specs.Fragmentation.{pieces_of, piece_of}
use Rattle.fragment_buffers.specs.Reassembly.{PlacedPiece, Reassembly, placed, begun, overlap, overlaps, repeats, octet_of, octet_at, datagram_of}
use Rattle.fragment_buffers.specs.PieceIntake.{Taking, Held, Whole, same_name, grown, taken}
use Rattle.fragment_buffers.specs.Answers.{nothing, settled_by, settled_at, joined_at}
use Rattle.fragment_buffers.specs.Laws.{Coming, after, has_come, Awaits, PiecesComeTogether}
use Rattle.fragment_buffers.proofs.Octets.{list_any-map}
use Rattle.fragment_buffers.proofs.Places.{none_passes}
use Rattle.fragment_buffers.proofs.PiecesHeld.{first_some, first_none, gathered_all, gathered_gap}
use Rattle.fragment_buffers.proofs.Rule.{taken_found, taken_new}

-- # The pieces of one datagram

-- where the k-th piece stands
abbrev part : List ℕ → ℕ → ℕ → PlacedPiece
part d tag k = placed (piece_of d tag k)

-- how long the k-th piece is
part_length : (d : List ℕ) (tag k : ℕ) → length (part d tag k).octets ≤ 368
part_length d tag k = omega (arith, length-take 368 (drop (368 * k) d))

apart_tests : (j k m n : ℕ) → (j ≡ k → ⊥) → m ≤ 368 → n ≤ 368 → (nat_lt (46 * k * 8) (46 * j * 8 + m) && nat_lt (46 * j * 8) (46 * k * 8 + n)) ≡ false
apart_tests j k m n ne le le' = grind (arith, nat_tests)

parts_apart : (d : List ℕ) (tag j k : ℕ) → (j ≡ k → ⊥) → overlap (part d tag j) (part d tag k) ≡ false
parts_apart d tag j k ne = apart_tests j k (length (part d tag j).octets) (length (part d tag k).octets) ne (part_length d tag j) (part_length d tag k)

other_start : (j k : ℕ) (b : Bool) → (j ≡ k → ⊥) → ((46 * j * 8 == 46 * k * 8) && b) ≡ (k == j)
other_start j k true ne = grind (arith, nat_tests)
other_start j k false ne = grind (arith, nat_tests)

same_start : (k n : ℕ) → ((46 * k * 8 == 46 * k * 8) && (n == n)) ≡ (k == k)
same_start k n = grind (arith, nat_tests)

part_repeats : (d : List ℕ) (tag j k : ℕ)
    → (((part d tag j).start == (part d tag k).start) && (length (part d tag j).octets == length (part d tag k).octets)) ≡ (k == j)
part_repeats d tag j k = elim (cases_eq j k) [
  | inl same ↦ subst (λ m. (((part d tag m).start == (part d tag k).start) && (length (part d tag m).octets == length (part d tag k).octets)) ≡ (k == m))
      (sym same) (same_start k (length (part d tag k).octets))
  | inr ne ↦ other_start j k (length (part d tag j).octets == length (part d tag k).octets) ne
]

repeats_parts : (d : List ℕ) (tag k : ℕ) (ks : List ℕ) → repeats (map (part d tag) ks) (part d tag k) ≡ list_any (λ j. k == j) ks
repeats_parts d tag k ks =
    list_any-map (λ q. (q.start == (part d tag k).start) && (length q.octets == length (part d tag k).octets)) (λ j. k == j) (part d tag) ks
    (λ i e lt. part_repeats d tag (get_or ks i e) k)

overlaps_parts : (d : List ℕ) (tag k : ℕ) (ks : List ℕ) → list_any (λ j. k == j) ks ≡ false → overlaps (map (part d tag) ks) (part d tag k) ≡ false
overlaps_parts d tag k ks none =
    list_any-map (overlap (part d tag k)) (λ j. k == j) (part d tag) ks (λ i e lt.
    let differ : (k == get_or ks i e) ≡ false = none_passes (λ j. k == j) ks none i e lt in
    parts_apart d tag k (get_or ks i e) (eqb-false _ _ differ) ∙ sym differ)
    ∙ none

-- # Octets

part_in : (d : List ℕ) (tag k i : ℕ) → i < length d → k ≡ i / 368 → octet_of (part d tag k) i ≡ slice_get d i
part_in d tag k i lt is =
    let back : 368 * k + (i - 46 * k * 8) ≡ i = omega arith in
    let long : i - 46 * k * 8 < length (part d tag k).octets = omega (arith, length-take 368 (drop (368 * k) d), length-drop (368 * k) d) in
    cond-true _ _ _ (le-leb (46 * k * 8) i (omega arith))
    ∙ slice_get-get_or (part d tag k).octets (i - 46 * k * 8) 0 long
    ∙ ap Some (get_or-take 368 (drop (368 * k) d) (i - 46 * k * 8) 0 (omega arith) ∙ get_or-drop (368 * k) d (i - 46 * k * 8) 0 ∙ ap (λ j. get_or d j 0) back)
    ∙ sym (slice_get-get_or d i 0 lt)

late_part : (d : List ℕ) (tag k i : ℕ) (b : Bool) → nat_le (46 * k * 8) i ≡ b → (k ≡ i / 368 → ⊥)
    → cond b (slice_get (part d tag k).octets (i - 46 * k * 8)) None ≡ None
late_part d tag k i false e ne = refl
late_part d tag k i true e ne =
    let le = leb-true _ _ e in
    slice_get_past (part d tag k).octets (i - 46 * k * 8) (omega (arith, le, part_length d tag k))

part_out : (d : List ℕ) (tag k i : ℕ) → (k ≡ i / 368 → ⊥) → octet_of (part d tag k) i ≡ None
part_out d tag k i ne = late_part d tag k i _ refl ne

parts_in : (d : List ℕ) (tag i : ℕ) (ks : List ℕ) → i < length d → list_any (λ j. i / 368 == j) ks ≡ true → octet_at (map (part d tag) ks) i ≡ slice_get d i
parts_in d tag i [] lt h = cc
parts_in d tag i (k ∷ ks) lt h =
    let rest : Option ℕ = octet_at (map (part d tag) ks) i in
    elim (cases_Bool (i / 368 == k)) [
      | inl here ↦
          let read = slice_get-get_or d i 0 lt in
          first_some _ rest (get_or d i 0) (part_in d tag k i lt (sym (eqb-true _ _ here)) ∙ read) ∙ sym read
      | inr not_here ↦
          first_none _ rest (part_out d tag k i (λ e. eqb-false _ _ not_here (sym e)))
          ∙ parts_in d tag i ks lt (sym (ap (λ b. b || list_any (λ j. i / 368 == j) ks) not_here) ∙ h)
    ]

parts_out : (d : List ℕ) (tag i : ℕ) (ks : List ℕ) → list_any (λ j. i / 368 == j) ks ≡ false → octet_at (map (part d tag) ks) i ≡ None
parts_out d tag i [] h = refl
parts_out d tag i (k ∷ ks) h =
    let parts = or_parts (i / 368 == k) (list_any (λ j. i / 368 == j) ks) h in
    first_none _ _ (part_out d tag k i (λ e. eqb-false _ _ parts.0 (sym e))) ∙ parts_out d tag i ks parts.1

-- # The reassembly of some of the pieces

abbrev of_parts : ℕ → List ℕ → ℕ → ℕ → ℕ → List ℕ → Reassembly
of_parts origin d tag note since ks = record { origin = origin; size = length d; tag = tag; note = note; since = since; pieces = map (part d tag) ks }

count_is : (d : List ℕ) → 376 ≤ length d → pieces_of (length d) ≡ div_ceil (length d) 368
count_is d long = cond-false _ _ _ (lt-leb (length d) 375 (omega arith))

all_parts : (origin : ℕ) (d : List ℕ) (tag note since : ℕ) (ks : List ℕ) → 376 ≤ length d
    → ((k : ℕ) → k < pieces_of (length d) → list_any (λ j. k == j) ks ≡ true)
    → datagram_of (of_parts origin d tag note since ks) ≡ Some d
unfolding datagram_of
all_parts origin d tag note since ks long all =
    gathered_all d (map (part d tag) ks) 0 (length d) (omega arith)
    (λ i le lt. parts_in d tag i ks (omega arith) (all (i / 368) (omega (arith, count_is d long))))
    ∙ ap Some (take_all (length d) d (omega arith))

some_part_missing : (origin : ℕ) (d : List ℕ) (tag note since : ℕ) (ks : List ℕ) (k : ℕ) → 376 ≤ length d → k < pieces_of (length d)
    → list_any (λ j. k == j) ks ≡ false
    → datagram_of (of_parts origin d tag note since ks) ≡ None
unfolding datagram_of
some_part_missing origin d tag note since ks k long lt none =
    let unit : 368 * k / 368 ≡ k = omega arith in
    gathered_gap (map (part d tag) ks) 0 (length d) (368 * k) (omega arith) (omega (arith, count_is d long))
    (parts_out d tag (368 * k) ks (subst (λ n. list_any (λ j. n == j) ks ≡ false) (sym unit) none))

grown_parts : (origin : ℕ) (d : List ℕ) (tag note since note' now k : ℕ) (ks : List ℕ) → list_any (λ j. k == j) ks ≡ false
    → grown (of_parts origin d tag note since ks) (begun origin (piece_of d tag k) note' now) (part d tag k) ≡ of_parts origin d tag note since (ks ++ k ∷ [])
grown_parts origin d tag note since note' now k ks none =
    cond-false _ _ _ (overlaps_parts d tag k ks none)
    ∙ ap (λ ps. record { origin = origin; size = length d; tag = tag; note = note; since = since; pieces = ps }) (sym (map-append (part d tag) ks (k ∷ [])))

-- # The last of a list

set_last : (held : List Reassembly) (r g : Reassembly) → set (held ++ r ∷ []) (length held) g ≡ held ++ g ∷ []
set_last [] r g = refl
set_last (x ∷ xs) r g = ap (λ ys. x ∷ ys) (set_last xs r g)

remove_last : (held : List Reassembly) (g : Reassembly) → remove (held ++ g ∷ []) (length held) ≡ held
remove_last [] g = refl
remove_last (x ∷ xs) g = ap (λ ys. x ∷ ys) (remove_last xs g)

settled_last : (held : List Reassembly) (g : Reassembly) → settled_at (held ++ g ∷ []) (length held) ≡ settled_by (datagram_of g) (held ++ g ∷ []) (length held)
unfolding settled_at
settled_last held g = ap (λ r. settled_by (datagram_of r) (held ++ g ∷ []) (length held)) (get_or_push held g nothing (length held) refl)

whole_last : (held : List Reassembly) (g : Reassembly) (octets : List ℕ) → datagram_of g ≡ Some octets
    → settled_at (held ++ g ∷ []) (length held) ≡ record { held = held; outcome = Whole g.note octets }
whole_last held g octets e =
    settled_last held g ∙ ap (λ o. settled_by o (held ++ g ∷ []) (length held)) e
    ∙ ap (λ (r : Reassembly). record { held = remove (held ++ g ∷ []) (length held); outcome = Whole r.note octets })
    (get_or_push held g nothing (length held) refl)
    ∙ ap (λ rs. record { held = rs; outcome = Whole g.note octets }) (remove_last held g)

open_last : (held : List Reassembly) (g : Reassembly) → datagram_of g ≡ None
    → settled_at (held ++ g ∷ []) (length held) ≡ record { held = held ++ g ∷ []; outcome = Held }
open_last held g e = settled_last held g ∙ ap (λ o. settled_by o (held ++ g ∷ []) (length held)) e

-- # One piece comes

unnamed : (held : List Reassembly) (origin : ℕ) (d : List ℕ) (tag : ℕ) → Awaits held origin d tag → (k note now i : ℕ) → i < length held
    → same_name (begun origin (piece_of d tag k) note now) (get_or held i nothing) ≡ false
unnamed held origin d tag w k note now i lt = none_passes (same_name (begun origin (piece_of d tag 0) 0 0)) held w.none i nothing lt

first_comes : (held : List Reassembly) (origin : ℕ) (d : List ℕ) (tag : ℕ) → Awaits held origin d tag → (k note now : ℕ)
    → taken held origin (piece_of d tag k) note now ≡ settled_at (held ++ of_parts origin d tag note now (k ∷ []) ∷ []) (length held)
first_comes held origin d tag w k note now =
    taken_new held origin (piece_of d tag k) note now (unnamed held origin d tag w k note now) w.few w.fits

joined_last : (held : List Reassembly) (origin : ℕ) (d : List ℕ) (tag : ℕ) → Awaits held origin d tag → (note since k note' now : ℕ) (ks : List ℕ)
    → taken (held ++ of_parts origin d tag note since ks ∷ []) origin (piece_of d tag k) note' now
    ≡ joined_at (held ++ of_parts origin d tag note since ks ∷ []) (length held) (piece_of d tag k) note' now
joined_last held origin d tag w note since k note' now ks =
    let r : Reassembly = of_parts origin d tag note since ks in
    let last : get_or (held ++ r ∷ []) (length held) nothing ≡ r = get_or_push held r nothing (length held) refl in
    taken_found (held ++ r ∷ []) origin (piece_of d tag k) note' now (length held) (omega (arith, length-append held (r ∷ [])))
    (sym (ap (λ (s : Reassembly). s.origin) last))
    (ap (same_name (begun origin (piece_of d tag k) note' now)) last
    ∙ and_from _ _ (eq-eqb origin origin refl) (and_from _ _ (eq-eqb (length d) (length d) refl) (eq-eqb tag tag refl)))
    (λ i lt. ap (same_name (begun origin (piece_of d tag k) note' now)) (get_or_append_left held (r ∷ []) nothing i lt)
    ∙ unnamed held origin d tag w k note' now i lt)

again_comes : (held : List Reassembly) (origin : ℕ) (d : List ℕ) (tag : ℕ) → Awaits held origin d tag → (note since k note' now : ℕ) (ks : List ℕ)
    → list_any (λ j. k == j) ks ≡ true
    → taken (held ++ of_parts origin d tag note since ks ∷ []) origin (piece_of d tag k) note' now
    ≡ record { held = held ++ of_parts origin d tag note since ks ∷ []; outcome = Held }
unfolding joined_at
again_comes held origin d tag w note since k note' now ks there =
    let r : Reassembly = of_parts origin d tag note since ks in
    joined_last held origin d tag w note since k note' now ks
    ∙ cond-true _ _ _ (ap (λ (s : Reassembly). repeats s.pieces (part d tag k)) (get_or_push held r nothing (length held) refl) ∙ repeats_parts d tag k ks
    ∙ there)

other_comes : (held : List Reassembly) (origin : ℕ) (d : List ℕ) (tag : ℕ) → Awaits held origin d tag → (note since k note' now : ℕ) (ks : List ℕ)
    → list_any (λ j. k == j) ks ≡ false
    → taken (held ++ of_parts origin d tag note since ks ∷ []) origin (piece_of d tag k) note' now
    ≡ settled_at (held ++ of_parts origin d tag note since (ks ++ k ∷ []) ∷ []) (length held)
unfolding joined_at
other_comes held origin d tag w note since k note' now ks none =
    let r : Reassembly = of_parts origin d tag note since ks in
    let last = get_or_push held r nothing (length held) refl in
    joined_last held origin d tag w note since k note' now ks
    ∙ cond-false _ _ _ (ap (λ (s : Reassembly). repeats s.pieces (part d tag k)) last ∙ repeats_parts d tag k ks ∙ none)
    ∙ ap (λ (s : Reassembly). settled_at (set (held ++ r ∷ []) (length held) (grown s (begun s.origin (piece_of d tag k) note' now) (part d tag k)))
    (length held)) last
    ∙ ap (λ rs. settled_at rs (length held)) (set_last held r _)
    ∙ ap (λ g. settled_at (held ++ g ∷ []) (length held)) (grown_parts origin d tag note since note' now k ks none)

-- # Many pieces come

or_assoc : (a b c : Bool) → ((a || b) || c) ≡ (a || (b || c))
or_assoc true b c = refl
or_assoc false b c = refl

absorbed : (b : Bool) (k j : ℕ) → (k ≡ j → b ≡ true) → b ≡ (b || (k == j))
absorbed true k j h = refl
absorbed false k j h = elim (cases_Bool (k == j)) [
  | inl same ↦ cc (h (eqb-true k j same))
  | inr differ ↦ sym differ
]

two_pieces : (d : List ℕ) → 376 ≤ length d → (n : ℕ) → ((k : ℕ) → k < pieces_of (length d) → k ≡ n) → ⊥
two_pieces d long n all = omega (arith, count_is d long, all 0 (omega (arith, count_is d long)), all 1 (omega (arith, count_is d long)))

came_push : (k : ℕ) (ks : List ℕ) (j : ℕ) → list_any (λ i. k == i) (ks ++ j ∷ []) ≡ (list_any (λ i. k == i) ks || (k == j))
came_push k [] j = or-false (k == j)
came_push k (i ∷ ks) j = ap (λ b. (k == i) || b) (came_push k ks j) ∙ sym (or_assoc (k == i) (list_any (λ i. k == i) ks) (k == j))

has_come_push : (k : ℕ) (cs : List Coming) (c : Coming) → has_come k (cs ++ c ∷ []) ≡ (has_come k cs || (k == c.piece))
has_come_push k [] c = or-false (k == c.piece)
has_come_push k (b ∷ cs) c = ap (λ x. (k == b.piece) || x) (has_come_push k cs c) ∙ sym (or_assoc (k == b.piece) (has_come k cs) (k == c.piece))

-- the reassembly stands after the others, of the pieces ks
pub record Gathers (held : List Reassembly) (origin : ℕ) (d : List ℕ) (tag note : ℕ) (here : List Reassembly) (came : ℕ → Bool) : Type 0 where
  pub since : ℕ
  pub parts : List ℕ
  pub is : here ≡ held ++ of_parts origin d tag note since parts ∷ []
  pub same : (k : ℕ) → list_any (λ j. k == j) parts ≡ came k

one_more : (held : List Reassembly) (origin : ℕ) (d : List ℕ) (tag : ℕ) → Awaits held origin d tag → (note : ℕ) (here : List Reassembly) (came : ℕ → Bool)
    → Gathers held origin d tag note here came
    → (c : Coming) → (missing : ℕ) → missing < pieces_of (length d) → (came missing || (missing == c.piece)) ≡ false
    → Gathers held origin d tag note (taken here origin (piece_of d tag c.piece) c.note c.now).held (λ k. came k || (k == c.piece))
    × ((taken here origin (piece_of d tag c.piece) c.note c.now).outcome ≡ Held)
one_more held origin d tag w note here came g c missing lt lacks = more (list_any (λ j. c.piece == j) g.parts) refl where
  more : (b : Bool) → list_any (λ j. c.piece == j) g.parts ≡ b
      → Gathers held origin d tag note (taken here origin (piece_of d tag c.piece) c.note c.now).held (λ k. came k || (k == c.piece))
      × ((taken here origin (piece_of d tag c.piece) c.note c.now).outcome ≡ Held)
  more true there =
      let t = ap (λ rs. taken rs origin (piece_of d tag c.piece) c.note c.now) g.is
      ∙ again_comes held origin d tag w note g.since c.piece c.note c.now g.parts there in (
        record {
          since = g.since;
          parts = g.parts;
          is = ap (λ (s : Taking). s.held) t;
          same = λ k. g.same k ∙ absorbed (came k) k c.piece (λ e. sym (g.same k) ∙ ap (λ n. list_any (λ j. n == j) g.parts) e ∙ there);
        },
        ap (λ (s : Taking). s.outcome) t,
      )
  more false none =
      let lacking : list_any (λ j. missing == j) (g.parts ++ c.piece ∷ [])
      ≡ false = came_push missing g.parts c.piece ∙ ap (λ b. b || (missing == c.piece)) (g.same missing) ∙ lacks in
      let t = ap (λ rs. taken rs origin (piece_of d tag c.piece) c.note c.now) g.is
      ∙ other_comes held origin d tag w note g.since c.piece c.note c.now g.parts none
      ∙ open_last held _ (some_part_missing origin d tag note g.since (g.parts ++ c.piece ∷ []) missing w.long lt lacking) in (
        record {
          since = g.since;
          parts = g.parts ++ c.piece ∷ [];
          is = ap (λ (s : Taking). s.held) t;
          same = λ k. came_push k g.parts c.piece ∙ ap (λ b. b || (k == c.piece)) (g.same k);
        },
        ap (λ (s : Taking). s.outcome) t,
      )

the_last : (held : List Reassembly) (origin : ℕ) (d : List ℕ) (tag : ℕ) → Awaits held origin d tag → (note : ℕ) (here : List Reassembly) (came : ℕ → Bool)
    → Gathers held origin d tag note here came
    → (c : Coming) → (missing : ℕ) → missing < pieces_of (length d) → came missing ≡ false
    → ((k : ℕ) → k < pieces_of (length d) → (came k || (k == c.piece)) ≡ true)
    → taken here origin (piece_of d tag c.piece) c.note c.now ≡ record { held = held; outcome = Whole note d }
the_last held origin d tag w note here came g c missing lt lacks all =
    let is : missing ≡ c.piece = eqb-true missing c.piece (sym (ap (λ b. b || (missing == c.piece)) lacks) ∙ all missing lt) in
    let none : list_any (λ j. c.piece == j) g.parts ≡ false = ap (λ n. list_any (λ j. n == j) g.parts) (sym is) ∙ g.same missing ∙ lacks in
    ap (λ rs. taken rs origin (piece_of d tag c.piece) c.note c.now) g.is ∙ other_comes held origin d tag w note g.since c.piece c.note c.now g.parts none
    ∙ whole_last held _ d (all_parts origin d tag note g.since (g.parts ++ c.piece ∷ []) w.long
    (λ k lk. came_push k g.parts c.piece ∙ ap (λ b. b || (k == c.piece)) (g.same k) ∙ all k lk))

-- this many come that one is missing
some_come : (held : List Reassembly) (origin : ℕ) (d : List ℕ) (tag : ℕ) → Awaits held origin d tag → (note : ℕ) (here : List Reassembly) (came : ℕ → Bool)
    → Gathers held origin d tag note here came
    → (cs : List Coming) → (missing : ℕ) → missing < pieces_of (length d) → (came missing || has_come missing cs) ≡ false
    → Gathers held origin d tag note (after here origin d tag cs) (λ k. came k || has_come k cs)
some_come held origin d tag w note here came g [] missing lt lacks =
    record { since = g.since; parts = g.parts; is = g.is; same = λ k. g.same k ∙ sym (or-false (came k)) }
some_come held origin d tag w note here came g (c ∷ cs) missing lt lacks =
    let both = or_parts (came missing || (missing == c.piece)) (has_come missing cs)
    (or_assoc (came missing) (missing == c.piece) (has_come missing cs) ∙ lacks) in
    let next = one_more held origin d tag w note here came g c missing lt both.0 in
    let rest = some_come held origin d tag w note (taken here origin (piece_of d tag c.piece) c.note c.now).held (λ k. came k || (k == c.piece)) next.0 cs
    missing lt
    (or_assoc (came missing) (missing == c.piece) (has_come missing cs) ∙ lacks) in
    record { since = rest.since; parts = rest.parts; is = rest.is; same = λ k. rest.same k ∙ or_assoc (came k) (k == c.piece) (has_come k cs) }

-- the first of them
first_of_them : (held : List Reassembly) (origin : ℕ) (d : List ℕ) (tag : ℕ) → Awaits held origin d tag → (c : Coming) → (missing : ℕ)
    → missing < pieces_of (length d) → (missing == c.piece) ≡ false
    → Gathers held origin d tag c.note (taken held origin (piece_of d tag c.piece) c.note c.now).held (λ k. k == c.piece)
    × ((taken held origin (piece_of d tag c.piece) c.note c.now).outcome ≡ Held)
first_of_them held origin d tag w c missing lt lacks =
    let t = first_comes held origin d tag w c.piece c.note c.now
    ∙ open_last held _ (some_part_missing origin d tag c.note c.now (c.piece ∷ []) missing w.long lt (or_from _ _ lacks refl)) in
    (record { since = c.now; parts = c.piece ∷ []; is = ap (λ (s : Taking). s.held) t; same = λ k. or-false (k == c.piece) }, ap (λ (s : Taking). s.outcome) t)

pub come_together : PiecesComeTogether
come_together held origin d tag w [] c missing lt lacks = (
  λ all. absurd (two_pieces d w.long c.piece (λ k lk. eqb-true k c.piece (sym (or-false (k == c.piece)) ∙ all k lk))),
  λ k lk none. (first_of_them held origin d tag w c k lk (sym (or-false (k == c.piece)) ∙ none)).1,
)
come_together held origin d tag w (b ∷ cs) c missing lt lacks =
    let parts = or_parts (missing == b.piece) (has_come missing cs) lacks in
    let begun_by = (first_of_them held origin d tag w b missing lt parts.0).0 in
    let here = after (taken held origin (piece_of d tag b.piece) b.note b.now).held origin d tag cs in
    let g = some_come held origin d tag w b.note (taken held origin (piece_of d tag b.piece) b.note b.now).held (λ k. k == b.piece) begun_by cs missing lt
    lacks in (
      λ all. the_last held origin d tag w b.note here (λ k. (k == b.piece) || has_come k cs) g c missing lt lacks
          (λ k lk. sym (has_come_push k (b ∷ cs) c) ∙ all k lk),
      λ k lk none. (one_more held origin d tag w b.note here (λ k. (k == b.piece) || has_come k cs) g c k lk (sym (has_come_push k (b ∷ cs) c) ∙ none)).1,
    )
