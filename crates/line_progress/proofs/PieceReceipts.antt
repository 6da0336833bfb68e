-- What becomes of a piece that comes.
use Rattle.std.proofs.Common.{◌≡◌, ℕ, Bool, true, false, List, [], ◌∷◌, ◌++◌, length, Option, Some, None, refl}
use Rattle.std.specs.Prelude.{if◌then◌else◌, ◌==◌, ◌&&◌, ◌||◌}
use Rattle.std.specs.List.{list_any}
use Rattle.std.proofs.lemmas.Bool.{and_parts, eqb-true}
use Rattle.fragment_buffers.specs.Reassembly.{PlacedPiece, Reassembly, begun, datagram_of, overlaps, placed, repeats}
use Rattle.fragment_buffers.specs.PieceIntake.{Taking, Full, Held, behind, grown, has_room, joined, same_name, settled, taken, taken_in}
use Rattle.line_progress.specs.Lists.{Among, Here, Later}
use Rattle.line_progress.specs.PieceFates.{ComingFate, ComesIn, Completes, NoRoom, PiecesComeIn}
use Rattle.line_progress.proofs.PieceFates.{same_self}

-- one of a list that meets a test
record Found {A : Type 0} (test : A → Bool) (xs : List A) : Type 0 where
  one : A
  among : Among one xs
  meets : test one ≡ true

found : {A : Type 0} (test : A → Bool) (xs : List A) → list_any test xs ≡ true → Found test xs
found test [] e = absurd (cc)
found {A} test (x ∷ xs) e = by_test (test x) refl e (found test xs)
  where
    by_test : (b : Bool) → test x ≡ b → (b || list_any test xs) ≡ true → (list_any test xs ≡ true → Found test xs) → Found test (x ∷ xs)
    by_test true t e more = record { one = x; among = Here xs; meets = t }
    by_test false t e more = let f = more e in record { one = f.one; among = Later x xs f.among; meets = f.meets }

last_one : {A : Type 0} (x : A) (xs : List A) → Among x (xs ++ x ∷ [])
last_one x [] = Here []
last_one x (y ∷ xs) = Later y (xs ++ x ∷ []) (last_one x xs)

module _ (anew : Reassembly) (q : PlacedPiece) (first : Among q anew.pieces) where
  begins : (rest : List Reassembly) (o : Option (List ℕ)) → datagram_of anew ≡ o → ComingFate anew q (settled o anew rest)
  begins rest None e = ComesIn anew q (Here rest) (same_self anew) first (record { start = refl; long = refl }) refl
  begins rest (Some octets) e = Completes anew octets (same_self anew) first e refl

  module _ (r : Reassembly) (rest : List Reassembly) (named : same_name anew r ≡ true) where
    added : Reassembly
    added = record r { pieces = r.pieces ++ q ∷ [] }

    grows : (o : Option (List ℕ)) → datagram_of added ≡ o → ComingFate anew q (settled o added rest)
    unfolding added
    grows None e = ComesIn added q (Here rest) named (last_one q r.pieces) (record { start = refl; long = refl }) refl
    grows (Some octets) e = Completes added octets named (last_one q r.pieces) e refl

    by_overlap : (b : Bool) → ComingFate anew q (settled (datagram_of (if b then anew else added)) (if b then anew else added) rest)
    by_overlap true = begins rest (datagram_of anew) refl
    by_overlap false = grows (datagram_of added) refl

    by_repeat : (b : Bool) → repeats r.pieces q ≡ b → ComingFate anew q
        (if b then record { held = r ∷ rest; outcome = Held } else settled (datagram_of (grown r anew q)) (grown r anew q) rest)
    unfolding added
    by_repeat true e =
        let f = found (λ (p : PlacedPiece). (p.start == q.start) && (length p.octets == length q.octets)) r.pieces e in
        let both = and_parts (f.one.start == q.start) (length f.one.octets == length q.octets) f.meets in
        ComesIn r f.one (Here rest) named f.among (record { start = eqb-true _ _ both.0; long = eqb-true _ _ both.1 }) refl
    by_repeat false e = by_overlap (overlaps r.pieces q)

  one_later : (r : Reassembly) (t : Taking) → ComingFate anew q t → ComingFate anew q (behind r t)
  one_later r t (ComesIn s p here named in_s same is) = ComesIn s p (Later r t.held here) named in_s same is
  one_later r t (Completes s octets named in_s whole is) = Completes s octets named in_s whole is
  one_later r t (NoRoom is) = NoRoom is

  comes_in : (held : List Reassembly) → ComingFate anew q (taken_in held anew q)
  unfolding taken_in
  comes_in [] = begins [] (datagram_of anew) refl
  comes_in (r ∷ rest) = by_name (same_name anew r) refl (comes_in rest)
    where
      by_name : (b : Bool) → same_name anew r ≡ b → ComingFate anew q (taken_in rest anew q)
          → ComingFate anew q (if b then joined r anew q rest else behind r (taken_in rest anew q))
      by_name true e more = by_repeat r rest e (repeats r.pieces q) refl
      by_name false e more = one_later r (taken_in rest anew q) more

pub pieces_come : PiecesComeIn
unfolding taken
pieces_come held origin piece note now = by_room (has_room held (begun origin piece note now))
  where
    by_room : (b : Bool)
        → ComingFate (begun origin piece note now) (placed piece)
        (if b then taken_in held (begun origin piece note now) (placed piece) else record { held = held; outcome = Full })
    by_room true = comes_in (begun origin piece note now) (placed piece) (Here []) held
    by_room false = NoRoom refl
