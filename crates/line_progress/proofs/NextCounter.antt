-- A node that has kept a counter of a sender admits the next one.
use Rattle.std.proofs.Common.{◌≡◌, ◌≢◌, ℕ, ◌+◌, ◌<◌, Bool, true, false, [], ◌∷◌, ◌++◌, length, get_or, set, Option, Some, None, Ok, Err, refl, sym}
use Rattle.std.proofs.Common.{ap, subst, ◌∙◌, arith, length-append}
use Rattle.std.specs.Prelude.{if◌then◌else◌, nat_le, nat_lt, is_some, ◌==◌}
use Rattle.std.specs.Option.{option_map_or}
use Rattle.std.proofs.lemmas.Bool.{eq-eqb, ne_eqb, lt-leb, lt-ltb}
use Rattle.std.proofs.lemmas.List.{get_or-set_same, get_or-set_other, get_or_append_left, get_or_push}
use Rattle.std.proofs.lemmas.List.Sums.{position_or_len_is}
use Rattle.store_tables.proofs.SlotTables.{found, apart, place_of-push, place_of-set}
use Rattle.frame_counters.specs.declared.fault.PeerFault.TheVariants.{Replayed, PeersFull}
use Rattle.frame_counters.specs.PeerMarks.{PeerMark, Table, peers, place_of, peer_at, peer_ahead, advanced, room_for, kept_after}

advanced_address : (p : PeerMark) (from counter : ℕ) → p.address ≡ from → (advanced p from counter).address ≡ from
advanced_address p from counter same = by_stored (nat_le counter p.stored)
  where
    by_stored : (b : Bool) → (if b then record p { mark = counter } else peer_ahead from counter).address ≡ from
    by_stored true = same
    by_stored false = refl

advanced_mark : (p : PeerMark) (from counter : ℕ) → (advanced p from counter).mark ≡ counter
advanced_mark p from counter = by_stored (nat_le counter p.stored)
  where
    by_stored : (b : Bool) → (if b then record p { mark = counter } else peer_ahead from counter).mark ≡ counter
    by_stored true = refl
    by_stored false = refl

-- A sender is held in a table, and its mark is this counter.
pub record IsMarked (table : Table) (from counter : ℕ) : Type 0 where
  pub place : ℕ
  pub at : place_of table from ≡ Some place
  pub mark : (peer_at table place).mark ≡ counter

-- each later counter is admitted
pub room_above : (table : Table) (from counter next : ℕ) → counter < next → IsMarked table from counter → room_for table from next ≡ Ok tt
room_above table from counter next later is =
    let above : nat_le next counter ≡ false = lt-leb next counter (omega (arith, later)) in
    let at = is.at in
    let mark = is.mark in
    (λ i. option_map_or (λ p. if nat_le next (peer_at table p).mark then Err Replayed else Ok tt) (at i)
    (if length table == 64 then Err PeersFull else Ok tt))
    ∙ (λ i. if nat_le next (mark i) then Err Replayed else Ok tt)
    ∙ (λ i. if above i then Err Replayed else Ok tt)

module _ (table : Table) (from counter : ℕ) where
  abbrev none : PeerMark
  none = record { address = 0; mark = 0; stored = 0 }

  of_held : (place : ℕ) → place_of table from ≡ Some place → IsMarked (kept_after table from counter) from counter
  of_held place at =
      let p : PeerMark = advanced (peer_at table place) from counter in
      let there = found peers table from place none at in
      let key : p.address ≡ from = advanced_address (peer_at table place) from counter there.1 in
      let here : get_or (set table place p) place none ≡ p = get_or-set_same table place p none there.0 in
      let after : kept_after table from counter ≡ set table place p =
      λ i. option_map_or (λ q. set table q (advanced (peer_at table q) from counter)) (at i) (table ++ peer_ahead from counter ∷ []) in
      subst (λ t. IsMarked t from counter) (sym after) (record {
        place = place;
        at = place_of-set peers table p place from place (ap (place_of table) key ∙ at) at;
        mark = ap (λ (q : PeerMark). q.mark) here ∙ advanced_mark (peer_at table place) from counter;
      })

  of_new : place_of table from ≡ None → IsMarked (kept_after table from counter) from counter
  of_new at =
      let p : PeerMark = peer_ahead from counter in
      let more : Table = table ++ p ∷ [] in
      let longer : length more ≡ length table + 1 = length-append table (p ∷ []) in
      let here : get_or more (length table) none ≡ p = get_or_push table p none (length table) refl in
      let first = position_or_len_is (λ (entry : PeerMark). entry.address == from) more (length table) none (omega (arith, longer))
      (λ k h. ap (λ (entry : PeerMark). entry.address == from) (get_or_append_left table (p ∷ []) none k h)
      ∙ ne_eqb _ _ (apart peers table from (ap is_some at) k none h))
      (λ h. ap (λ (entry : PeerMark). entry.address == from) here ∙ eq-eqb from from refl) in
      let inside : nat_lt (length table) (length more) ≡ true = lt-ltb (length table) (length more) (omega (arith, longer)) in
      let place : place_of more from ≡ Some (length table) = rw (first, inside) refl in
      let after : kept_after table from counter ≡ more =
      λ i. option_map_or (λ q. set table q (advanced (peer_at table q) from counter)) (at i) more in
      subst (λ t. IsMarked t from counter) (sym after)
      (record { place = length table; at = place; mark = ap (λ (q : PeerMark). q.mark) here })

  -- a counter that is kept is the mark of its sender
  pub is_marked : IsMarked (kept_after table from counter) from counter
  is_marked = by_place (place_of table from) refl
    where
      by_place : (o : Option ℕ) → place_of table from ≡ o → IsMarked (kept_after table from counter) from counter
      by_place None at = of_new at
      by_place (Some place) at = of_held place at

  pub admits_next : room_for (kept_after table from counter) from (counter + 1) ≡ Ok tt
  admits_next = room_above (kept_after table from counter) from counter (counter + 1) (omega arith) is_marked

-- and stays it where one of another sender is kept
module _ (table : Table) (from counter other next : ℕ) (apart_from : other ≢ from) (is : IsMarked table from counter) where
  abbrev blank : PeerMark
  blank = record { address = 0; mark = 0; stored = 0 }

  pub stays_marked : IsMarked (kept_after table other next) from counter
  stays_marked = by_place (place_of table other) refl
    where
      by_place : (o : Option ℕ) → place_of table other ≡ o → IsMarked (kept_after table other next) from counter
      by_place None at =
          let p : PeerMark = peer_ahead other next in
          let after : kept_after table other next ≡ table ++ p ∷ [] =
          λ i. option_map_or (λ q. set table q (advanced (peer_at table q) other next)) (at i) (table ++ p ∷ []) in
          let held = is.at in
          let mark = is.mark in
          let there = found peers table from is.place blank held in
          subst (λ t. IsMarked t from counter) (sym after) (record {
            place = is.place;
            at = place_of-push peers table p from is.place held;
            mark = ap (λ (q : PeerMark). q.mark) (get_or_append_left table (p ∷ []) blank is.place there.0) ∙ mark;
          })
      by_place (Some place) at =
          let p : PeerMark = advanced (peer_at table place) other next in
          let after : kept_after table other next ≡ set table place p =
          λ i. option_map_or (λ q. set table q (advanced (peer_at table q) other next)) (at i) (table ++ peer_ahead other next ∷ []) in
          let held = is.at in
          let mark = is.mark in
          let there = found peers table from is.place blank held in
          let here = found peers table other place blank at in
          let key : p.address ≡ other = advanced_address (peer_at table place) other next here.1 in
          let away : is.place ≢ place = λ e. apart_from (sym here.1 ∙ ap (λ k. (get_or table k blank).address) (sym e) ∙ there.1) in
          subst (λ t. IsMarked t from counter) (sym after) (record {
            place = is.place;
            at = place_of-set peers table p place from is.place (ap (place_of table) key ∙ at) held;
            mark = ap (λ (q : PeerMark). q.mark) (get_or-set_other table place is.place p blank away) ∙ mark;
          })
