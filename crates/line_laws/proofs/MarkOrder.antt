-- Marks that rise: what admitting a counter and a restart make of a table, and which counters it admits then.
use Rattle.std.proofs.Common.{◌≡◌, ◌≢◌, ◌⊎◌, inl, inr, ℕ, ◌≤◌, ◌<◌, ◌^◌, Bool, true, false, [], ◌∷◌, ◌++◌, length, map, set, Option, Some, None, Ok, Err, refl}
use Rattle.std.proofs.Common.{sym, ap, ◌∙◌, subst, arith}
use Rattle.std.specs.Prelude.{if◌then◌else◌, nat_le, nat_lt, ◌==◌, is_some}
use Rattle.std.specs.Option.{option_map, option_map_or}
use Rattle.std.proofs.lemmas.Bool.{ltb-true, eq-eqb, ne_eqb, cases_eq}
use Rattle.std.proofs.lemmas.Bool.Decides.{nat_tests}
use Rattle.std.proofs.lemmas.List.{length-map, length-append, get_or-map, get_or-set_same, get_or-set_other, get_or_append_left, get_or_push}
use Rattle.std.proofs.lemmas.List.Sums.{position_or_len_is}
use Rattle.std.proofs.lemmas.List.Elements.{All-push, All-set}
use Rattle.store_tables.proofs.SlotTables.{found, apart, same_place, place_of-set, place_of-push}
use Rattle.frame_counters.specs.declared.fault.PeerFault.TheVariants.{Replayed, PeersFull}
use Rattle.frame_counters.specs.PeerMarks.{PeerMark}
use Rattle.frame_counters.specs.PeerMarks as marks
use Rattle.line_laws.specs.Live.{admits}

abbrev no_peer : PeerMark
no_peer = record { address = 0; mark = 0; stored = 0 }

-- Each sender that is held stays at its place, and its mark does not fall.
pub record Raised (t u : marks.Table) : Type 0 where
  pub stays : (from place : ℕ) → marks.place_of t from ≡ Some place
      → (marks.place_of u from ≡ Some place) × ((marks.peer_at t place).mark ≤ (marks.peer_at u place).mark)

pub raised_same : (t : marks.Table) → Raised t t
raised_same t = record { stays = λ from place at. (at, omega arith) }

pub raised_trans : (s t u : marks.Table) → Raised s t → Raised t u → Raised s u
raised_trans s t u f g = record {
  stays = λ from place at.
      let a = f.stays from place at in
      let b = g.stays from place a.0 in
      let low = a.1 in
      let high = b.1 in
      (b.0, omega arith);
}

-- what marks admit, the lower ones did
pub raised_admits : (t u : marks.Table) → Raised t u → (from counter : ℕ) → admits u from counter ≡ true → admits t from counter ≡ true
raised_admits t u r from counter h = by_place (marks.place_of t from) refl
  where
    by_place : (o : Option ℕ) → marks.place_of t from ≡ o
        → option_map_or (λ (mark : ℕ). nat_lt mark counter) (option_map (λ place. (marks.peer_at t place).mark) o) true ≡ true
    by_place None e = refl
    by_place (Some place) e =
        let a = r.stays from place e in
        let low = a.1 in
        let at : nat_lt (marks.peer_at u place).mark counter ≡ true = sym
        (ap (λ (o : Option ℕ). option_map_or (λ (mark : ℕ). nat_lt mark counter) (option_map (λ (p : ℕ). (marks.peer_at u p).mark) o) true) a.0) ∙ h in
        let less : (marks.peer_at u place).mark < counter = ltb-true _ _ at in
        grind (arith, nat_tests)

-- # A restart

pub rest_raised : (t : marks.Table) → marks.IsCovered t → Raised t (map marks.at_rest t)
rest_raised t covered = record {
  stays = λ from place at.
      let there = found marks.peers t from place no_peer at in
      let long = length-map t marks.at_rest in
      let rests : marks.peer_at (map marks.at_rest t) place
      ≡ marks.at_rest (marks.peer_at t place) = get_or-map marks.at_rest t place no_peer no_peer there.0 in
      let over : (marks.peer_at t place).mark ≤ (marks.peer_at t place).stored = covered place no_peer there.0 in (
        same_place marks.peers t (map marks.at_rest t) no_peer from place (omega arith)
            (λ k h. ap (λ (p : PeerMark). p.address) (get_or-map marks.at_rest t k no_peer no_peer h)) at,
        subst (λ (p : PeerMark). (marks.peer_at t place).mark ≤ p.mark) (sym rests) over,
      );
}

pub rest_covered : (t : marks.Table) → marks.IsCovered (map marks.at_rest t)
rest_covered t place d within =
    let same = get_or-map marks.at_rest t place d d (omega (arith, length-map t marks.at_rest)) in
    subst (λ (p : PeerMark). p.mark ≤ p.stored) (sym same) (omega arith)

-- # A counter that is admitted

module _ (t : marks.Table) (from counter : ℕ) (fits : counter < 2 ^ 32) where
  -- the entry that a sender has afterwards
  advanced_is : (p : PeerMark) → p.address ≡ from
      → ((marks.advanced p from counter).address ≡ from) × ((marks.advanced p from counter).mark ≡ counter)
      × ((marks.advanced p from counter).mark ≤ (marks.advanced p from counter).stored)
  advanced_is p same = by_stored (nat_le counter p.stored) refl
    where
      by_stored : (b : Bool) → nat_le counter p.stored ≡ b → let q : PeerMark = (if b then record p { mark = counter } else marks.peer_ahead from counter) in
          (q.address ≡ from) × (q.mark ≡ counter) × (q.mark ≤ q.stored)
      by_stored true e = (same, refl, grind (arith, nat_tests))
      by_stored false e = (refl, refl, omega arith)

  ahead_covered : counter ≤ (marks.peer_ahead from counter).stored
  ahead_covered = omega arith

  room_above : (place : ℕ) → marks.place_of t from ≡ Some place → marks.room_for t from counter ≡ Ok (tt {0}) → (marks.peer_at t place).mark < counter
  room_above place at room = by_test (nat_le counter (marks.peer_at t place).mark) refl
      (sym (ap (λ (o : Option ℕ). option_map_or (λ (p : ℕ). if nat_le counter (marks.peer_at t p).mark then Err Replayed else Ok (tt {0})) o
      (if length t == 64 then Err PeersFull else Ok (tt {0}))) at) ∙ room)
    where
      by_test : (b : Bool) → nat_le counter (marks.peer_at t place).mark ≡ b → (if b then Err Replayed else Ok (tt {0})) ≡ Ok (tt {0})
          → (marks.peer_at t place).mark < counter
      by_test true e h = absurd (cc)
      by_test false e h = grind (arith, nat_tests)

  -- it was admitted
  pub room_admits : marks.room_for t from counter ≡ Ok (tt {0}) → admits t from counter ≡ true
  room_admits room = by_place (marks.place_of t from) refl
    where
      by_place : (o : Option ℕ) → marks.place_of t from ≡ o
          → option_map_or (λ (mark : ℕ). nat_lt mark counter) (option_map (λ place. (marks.peer_at t place).mark) o) true ≡ true
      by_place None e = refl
      by_place (Some place) e = let low = room_above place e room in grind (arith, nat_tests)

  pub kept_covered : marks.IsCovered t → marks.IsCovered (marks.kept_after t from counter)
  kept_covered covered = by_place (marks.place_of t from) refl
    where
      by_place : (o : Option ℕ) → marks.place_of t from ≡ o
          → marks.IsCovered (option_map_or (λ place. set t place (marks.advanced (marks.peer_at t place) from counter)) o
          (t ++ marks.peer_ahead from counter ∷ []))
      by_place None e = All-push (λ (p : PeerMark). p.mark ≤ p.stored) t (marks.peer_ahead from counter) covered ahead_covered
      by_place (Some place) e =
          let there = found marks.peers t from place no_peer e in
          All-set (λ (p : PeerMark). p.mark ≤ p.stored) t place (marks.advanced (marks.peer_at t place) from counter)
          (advanced_is (marks.peer_at t place) there.1).2 covered

  pub kept_raised : marks.room_for t from counter ≡ Ok (tt {0}) → Raised t (marks.kept_after t from counter)
  kept_raised room = by_place (marks.place_of t from) refl
    where
      by_place : (o : Option ℕ) → marks.place_of t from ≡ o
          → Raised t (option_map_or (λ place. set t place (marks.advanced (marks.peer_at t place) from counter)) o (t ++ marks.peer_ahead from counter ∷ []))
      by_place None e = record {
        stays = λ key at is.
            let there = found marks.peers t key at no_peer is in
            let same : marks.peer_at (t ++ marks.peer_ahead from counter ∷ []) at
            ≡ marks.peer_at t at = get_or_append_left t (marks.peer_ahead from counter ∷ []) no_peer at there.0 in (
              place_of-push marks.peers t (marks.peer_ahead from counter) key at is,
              subst (λ (p : PeerMark). (marks.peer_at t at).mark ≤ p.mark) (sym same) (omega arith),
            );
      }
      by_place (Some place) e =
          let there = found marks.peers t from place no_peer e in
          let p = marks.advanced (marks.peer_at t place) from counter in
          let is_it = advanced_is (marks.peer_at t place) there.1 in
          let above = room_above place e room in
          record {
            stays = λ key at is. (
              place_of-set marks.peers t p place key at (ap (marks.place_of t) is_it.0 ∙ e) is,
              by_same key at is place p there.0 (omega (arith, is_it.1)) (cases_eq at place),
            );
          }
        where
          by_same : (key at : ℕ) → marks.place_of t key ≡ Some at → (place : ℕ) (p : PeerMark) → place < length t → (marks.peer_at t place).mark ≤ p.mark
              → (at ≡ place) ⊎ (at ≢ place) → (marks.peer_at t at).mark ≤ (marks.peer_at (set t place p) at).mark
          by_same key at is place p within low (inl same) =
              subst (λ (k : ℕ). (marks.peer_at t k).mark ≤ (marks.peer_at (set t place p) k).mark) (sym same)
              (subst (λ (q : PeerMark). (marks.peer_at t place).mark ≤ q.mark) (sym (get_or-set_same t place p no_peer within)) low)
          by_same key at is place p within low (inr other) =
              subst (λ (q : PeerMark). (marks.peer_at t at).mark ≤ q.mark) (sym (get_or-set_other t place at p no_peer other)) (omega arith)

  past_at : (u : marks.Table) (place : ℕ) → marks.place_of u from ≡ Some place → (marks.peer_at u place).mark ≡ counter → admits u from counter ≡ false
  past_at u place at is =
      let none : nat_lt (marks.peer_at u place).mark counter ≡ false = grind (arith, nat_tests) in
      ap (λ (o : Option ℕ). option_map_or (λ (mark : ℕ). nat_lt mark counter) (option_map (λ (p : ℕ). (marks.peer_at u p).mark) o) true) at ∙ none

  -- a sender that is new stands at the end
  new_place : marks.place_of t from ≡ None → marks.place_of (t ++ marks.peer_ahead from counter ∷ []) from ≡ Some (length t)
  new_place e =
      let long = length-append t (marks.peer_ahead from counter ∷ []) in
      let first = position_or_len_is (λ (p : PeerMark). p.address == from) (t ++ marks.peer_ahead from counter ∷ []) (length t) no_peer (omega arith)
      (λ k h. ap (λ (q : PeerMark). q.address == from) (get_or_append_left t (marks.peer_ahead from counter ∷ []) no_peer k h)
      ∙ ne_eqb _ _ (apart marks.peers t from (ap is_some e) k no_peer h))
      (λ h. ap (λ (q : PeerMark). q.address == from) (get_or_push t (marks.peer_ahead from counter) no_peer (length t) refl) ∙ eq-eqb from from refl) in
      let inside : nat_lt (length t) (length (t ++ marks.peer_ahead from counter ∷ [])) ≡ true = grind (arith, nat_tests, long) in
      rw (first, inside) refl

  -- it is not admitted again
  pub kept_past : admits (marks.kept_after t from counter) from counter ≡ false
  kept_past = by_place (marks.place_of t from) refl
    where
      by_place : (o : Option ℕ) → marks.place_of t from ≡ o
          → admits (option_map_or (λ place. set t place (marks.advanced (marks.peer_at t place) from counter)) o (t ++ marks.peer_ahead from counter ∷ [])) from
          counter ≡ false
      by_place None e = past_at (t ++ marks.peer_ahead from counter ∷ []) (length t) (new_place e)
          (ap (λ (p : PeerMark). p.mark) (get_or_push t (marks.peer_ahead from counter) no_peer (length t) refl))
      by_place (Some place) e =
          let there = found marks.peers t from place no_peer e in
          let p = marks.advanced (marks.peer_at t place) from counter in
          let is_it = advanced_is (marks.peer_at t place) there.1 in
          past_at (set t place p) place (place_of-set marks.peers t p place from place (ap (marks.place_of t) is_it.0 ∙ e) e)
          (ap (λ (q : PeerMark). q.mark) (get_or-set_same t place p no_peer there.0) ∙ is_it.1)
