-- What an offer that is taken puts, and what is kept then.
use Rattle.std.proofs.Common.{◌≡◌, ◌≢◌, ◌⊎◌, inl, inr, ℕ, zero, suc, ◌<◌, ◌≤◌, Bool, true, false, cond, List, [], ◌∷◌, ◌++◌, Option, Some, None, length, set}
use Rattle.std.proofs.Common.{get_or, Result, Ok, Err, refl, sym, ap, subst, ◌∙◌, arith}
use Rattle.std.specs.Prelude.{◌==◌, ◌&&◌, is_some, is_ok, is_err, OnOk, fold, unwrap_or}
use Rattle.std.specs.Bool.{OnTrue}
use Rattle.std.specs.Option.{option_map_or}
use Rattle.std.proofs.lemmas.Bool.{cases_lt}
use Rattle.std.specs.List.{list_all}
use Rattle.std.specs.FinMap.{get}
use Rattle.std.proofs.lemmas.Option.{slice_get_within, slice_get-get_or}
use Rattle.plc_base.specs.Keeper.{Records, Store, Write, Stores, SameOutside}
use Rattle.store_tables.specs.Writes.{Wrote, puts_of}
use Rattle.store_tables.proofs.WritesLemmas.{wrote_none, wrote_then, wrote_stop}
use Rattle.store_tables.specs.SlotTables as slots
use Rattle.store_tables.proofs.SlotTables.{apart, stored_elsewhere}
use Rattle.routing_set.specs.declared.entry.RoutingEntry.{RoutingEntry}
use Rattle.routing_set.specs.Laws.{Among}
use Rattle.routing_set.specs.RoutingSet.{Routing, ranks, place_of, AgreesWith, Keeps, floor_slot, floors_in, is_fresh, goes_before, first_of, first_to_go}
use Rattle.routing_set.specs.RoutingSet.{is_full}
use Rattle.routing_set.specs.RoutingSet.{forgotten, raised, floors_due, writes_of, half_of, after_of, half_entered, entered, entry_writes}

-- # Which entry is forgotten

some_stays : (now : ℕ) (best : RoutingEntry) (entries : List RoutingEntry) → is_some (fold (first_of now) (Some best) entries) ≡ true
some_stays now best [] = refl
some_stays now best (e ∷ entries) = by_test (is_fresh now e) (goes_before e best) (some_stays now best entries) (some_stays now e entries)
  where
    by_test : (fresh before : Bool) → is_some (fold (first_of now) (Some best) entries) ≡ true → is_some (fold (first_of now) (Some e) entries) ≡ true
        → is_some (fold (first_of now) (cond fresh (Some best) (cond before (Some e) (Some best))) entries) ≡ true
    by_test true before stays changes = stays
    by_test false true stays changes = changes
    by_test false false stays changes = stays

behind_fresh : (a b : Bool) → a ≡ true → (a && b) ≡ false → b ≡ false
behind_fresh true b is h = h
behind_fresh false b is h = cc

-- where some entry is not fresh, one is forgotten
pub one_goes : (now : ℕ) (entries : List RoutingEntry) → list_all (is_fresh now) entries ≡ false → is_some (first_to_go now entries) ≡ true
unfolding first_to_go
one_goes now [] h = cc
one_goes now (e ∷ entries) h = by_test (is_fresh now e) refl (one_goes now entries)
  where
    by_test : (fresh : Bool) → is_fresh now e ≡ fresh → (list_all (is_fresh now) entries ≡ false → is_some (fold (first_of now) None entries) ≡ true)
        → is_some (fold (first_of now) (cond (is_fresh now e) None (Some e)) entries) ≡ true
    by_test true is more =
        ap (λ (b : Bool). is_some (fold (first_of now) (cond b None (Some e)) entries)) is
        ∙ more (behind_fresh (is_fresh now e) (list_all (is_fresh now) entries) is h)
    by_test false is more = ap (λ (b : Bool). is_some (fold (first_of now) (cond b None (Some e)) entries)) is ∙ some_stays now e entries

pub behind : (x : RoutingEntry) (entries : List RoutingEntry) (e : RoutingEntry) → Among entries e → Among (x ∷ entries) e
behind x entries e h = record { place = suc h.place; there = h.there }

first_is : (now : ℕ) (best : Option RoutingEntry) (e : RoutingEntry) → (first_of now best e ≡ best) ⊎ (first_of now best e ≡ Some e)
first_is now best e = by_fresh (is_fresh now e) best
  where
    by_before : (before : Bool) (b : RoutingEntry) → (cond before (Some e) (Some b) ≡ Some b) ⊎ (cond before (Some e) (Some b) ≡ Some e)
    by_before true b = inr refl
    by_before false b = inl refl

    by_fresh : (fresh : Bool) (best : Option RoutingEntry)
        → (cond fresh best (cond (option_map_or (goes_before e) best true) (Some e) best) ≡ best)
        ⊎ (cond fresh best (cond (option_map_or (goes_before e) best true) (Some e) best) ≡ Some e)
    by_fresh true best = inl refl
    by_fresh false None = inr refl
    by_fresh false (Some b) = by_before (goes_before e b) b

-- the entry that is chosen is the one so far or one of the others
pub chosen_among : (now : ℕ) (best : Option RoutingEntry) (entries : List RoutingEntry) (e : RoutingEntry) → fold (first_of now) best entries ≡ Some e
    → (best ≡ Some e) ⊎ Among entries e
chosen_among now best [] e h = inl h
chosen_among now best (x ∷ entries) e h = by_rest (chosen_among now (first_of now best x) entries e h)
  where
    by_first : first_of now best x ≡ Some e → (first_of now best x ≡ best) ⊎ (first_of now best x ≡ Some x) → (best ≡ Some e) ⊎ Among (x ∷ entries) e
    by_first is (inl same) = inl (sym same ∙ is)
    by_first is (inr other) = inr (record { place = zero; there = sym other ∙ is })

    by_rest : (first_of now best x ≡ Some e) ⊎ Among entries e → (best ≡ Some e) ⊎ Among (x ∷ entries) e
    by_rest (inl is) = by_first is (first_is now best x)
    by_rest (inr among) = inr (behind x entries e among)

pub gone_among : (now : ℕ) (entries : List RoutingEntry) (e : RoutingEntry) → first_to_go now entries ≡ Some e → Among entries e
unfolding first_to_go
gone_among now entries e h = by_rest (chosen_among now None entries e h)
  where
    by_rest : (None ≡ Some e) ⊎ Among entries e → Among entries e
    by_rest (inl is) = absurd (cc (is))
    by_rest (inr among) = among

-- the address of an entry that stands in the table is found
pub place_there : (entries : List RoutingEntry) (e : RoutingEntry) → Among entries e → is_some (place_of entries e.address) ≡ true
place_there entries e h = by_found (is_some (place_of entries e.address)) refl
  where
    by_found : (found : Bool) → is_some (place_of entries e.address) ≡ found → is_some (place_of entries e.address) ≡ true
    by_found true is = is
    by_found false is =
        let within = slice_get_within entries h.place e h.there in
        let at = slice_get-get_or entries h.place e within in
        let here : get_or entries h.place e ≡ e = cc (at, h.there) in
        absurd (apart ranks entries e.address is h.place e within (ap (λ (x : RoutingEntry). x.address) here))

-- # What an offer forgets

pub forgets_none : (r : Routing) (dest now place : ℕ) → place_of r.entries dest ≡ Some place → forgotten r dest now ≡ None
unfolding forgotten
forgets_none r dest now place e = ap (λ (o : Option ℕ). cond (is_some o) None (cond (length r.entries == 64) (first_to_go now r.entries) None)) e

pub forgets_short : (r : Routing) (dest now : ℕ) → place_of r.entries dest ≡ None → (length r.entries == 64) ≡ false → forgotten r dest now ≡ None
unfolding forgotten
forgets_short r dest now e short =
    ap (λ (o : Option ℕ). cond (is_some o) None (cond (length r.entries == 64) (first_to_go now r.entries) None)) e
    ∙ ap (λ (b : Bool). cond b (first_to_go now r.entries) None) short

pub forgets_first : (r : Routing) (dest now : ℕ) → place_of r.entries dest ≡ None → (length r.entries == 64) ≡ true
    → forgotten r dest now ≡ first_to_go now r.entries
unfolding forgotten
forgets_first r dest now e whole =
    ap (λ (o : Option ℕ). cond (is_some o) None (cond (length r.entries == 64) (first_to_go now r.entries) None)) e
    ∙ ap (λ (b : Bool). cond b (first_to_go now r.entries) None) whole

-- where there is room in a full table, not every entry is fresh
pub room_old : (r : Routing) (dest now : ℕ) → place_of r.entries dest ≡ None → (length r.entries == 64) ≡ true → is_full r dest now ≡ false
    → list_all (is_fresh now) r.entries ≡ false
unfolding is_full
room_old r dest now e whole room =
    let is : is_full r dest now ≡ list_all (is_fresh now) r.entries
    = ap (λ (o : Option ℕ). cond (is_some o) false (length r.entries == 64 && list_all (is_fresh now) r.entries)) e
    ∙ ap (λ (b : Bool). b && list_all (is_fresh now) r.entries) whole in
    sym is ∙ room

-- # What becomes of the records

-- only ranks were put
pub one_put : (old : Routing) (entries : List RoutingEntry) (ok : Bool) (s t : Records) → AgreesWith old s → OnTrue ok (slots.IsStored ranks entries t)
    → slots.IsStored ranks old.entries t ⊎ slots.IsStored ranks entries t → SameOutside 0x0200 0x023F s t
    → Keeps old old (record old { entries = entries }) ok s t
one_put old entries ok s t kept stored either same = record {
  kept = by_ok ok stored;
  either = by_either either;
  elsewhere = λ slot ne outside. same slot outside;
}
  where
    floors : floors_in (get t floor_slot) ≡ Some old.floors
    floors = ap floors_in (same floor_slot (inl (omega arith))) ∙ kept.floors

    by_ok : (ok : Bool) → OnTrue ok (slots.IsStored ranks entries t) → OnTrue ok (AgreesWith (record old { entries = entries }) t)
    by_ok true h = record { floors = floors; ranks = h }
    by_ok false h = tt

    by_either : slots.IsStored ranks old.entries t ⊎ slots.IsStored ranks entries t
        → AgreesWith old t ⊎ AgreesWith old t ⊎ AgreesWith (record old { entries = entries }) t
    by_either (inl h) = inl (record { floors = floors; ranks = h })
    by_either (inr h) = inr (inr (record { floors = floors; ranks = h }))

-- the put of the floors failed
pub no_put : (old after : Routing) (floors : List ℕ) (s t : Records) → AgreesWith old s
    → (floors_in (get t floor_slot) ≡ Some old.floors) ⊎ (floors_in (get t floor_slot) ≡ Some floors)
    → SameOutside 5 5 s t → Keeps old (record old { floors = floors }) after false s t
no_put old after floors s t kept either same = record {
  kept = tt;
  either = by_either either;
  elsewhere = λ slot ne outside. same slot (apart_from slot ne);
}
  where
    ranked : slots.IsStored ranks old.entries t
    ranked = stored_elsewhere ranks old.entries s t 5 5 kept.ranks same (inl (omega arith))

    by_either : (floors_in (get t floor_slot) ≡ Some old.floors) ⊎ (floors_in (get t floor_slot) ≡ Some floors)
        → AgreesWith old t ⊎ AgreesWith (record old { floors = floors }) t ⊎ AgreesWith after t
    by_either (inl h) = inl (record { floors = h; ranks = ranked })
    by_either (inr h) = inr (inl (record { floors = h; ranks = ranked }))

    apart_from : (slot : ℕ) → slot ≢ 5 → (slot < 5) ⊎ (5 < slot)
    apart_from slot ne = by_order (cases_lt slot 5)
      where
        by_order : (slot < 5) ⊎ (5 ≤ slot) → (slot < 5) ⊎ (5 < slot)
        by_order (inl low) = inl low
        by_order (inr high) = inr (omega arith)

-- # One put after another

pub wrote_last : (s t : Store) (w : Write) (ok : Bool) → Stores s (Some w) ok t → Wrote s (w ∷ []) ok t
wrote_last s t w true h = wrote_then s t t (Some w) [] true h (wrote_none t)
wrote_last s t w false h = wrote_stop s t (Some w) [] h

pub on_ok : {T E : Type 0} (P : Type 0) (r : Result T E) → OnOk r P → OnTrue (is_ok r) P
on_ok P (Ok t) h = h
on_ok P (Err e) h = tt

-- # An offer that is taken, by where its entry goes

-- an entry at the place that was found for it, or after the others
abbrev placed : Routing → RoutingEntry → Option ℕ → Routing
placed r e o = record r { entries = option_map_or (λ place. set r.entries place e) o (r.entries ++ e ∷ []) }

-- in the place of its address
pub entered_held : (r : Routing) (e : RoutingEntry) (now place : ℕ) → place_of r.entries e.address ≡ Some place
    → entered r e now ≡ record r { entries = set r.entries place e }
unfolding entered
entered_held r e now place at =
    ap (λ gone. after_of r gone e) (forgets_none r e.address now place at)
    ∙ ap (λ (o : Option ℕ). placed r e o) at

pub writes_held : (r : Routing) (e : RoutingEntry) (now place : ℕ) → place_of r.entries e.address ≡ Some place
    → entry_writes r e now ≡ slots.entry_write ranks place e ∷ []
unfolding entry_writes
writes_held r e now place at =
    ap (λ gone. writes_of r gone e) (forgets_none r e.address now place at)
    ∙ ap (λ (o : Option ℕ). slots.entry_write ranks (unwrap_or o (length r.entries)) e ∷ []) at

-- after the others
pub entered_new : (r : Routing) (e : RoutingEntry) (now : ℕ) → place_of r.entries e.address ≡ None → (length r.entries == 64) ≡ false
    → entered r e now ≡ record r { entries = r.entries ++ e ∷ [] }
unfolding entered
entered_new r e now at short =
    ap (λ gone. after_of r gone e) (forgets_short r e.address now at short)
    ∙ ap (λ (o : Option ℕ). placed r e o) at

pub writes_new : (r : Routing) (e : RoutingEntry) (now : ℕ) → place_of r.entries e.address ≡ None → (length r.entries == 64) ≡ false
    → entry_writes r e now ≡ slots.entry_write ranks (length r.entries) e ∷ []
unfolding entry_writes
writes_new r e now at short =
    ap (λ gone. writes_of r gone e) (forgets_short r e.address now at short)
    ∙ ap (λ (o : Option ℕ). slots.entry_write ranks (unwrap_or o (length r.entries)) e ∷ []) at

-- nothing is forgotten, and the floors stay
pub half_same : (r : Routing) (dest now : ℕ) → forgotten r dest now ≡ None → half_entered r dest now ≡ r
unfolding half_entered
half_same r dest now e = ap (half_of r) e

-- in the place of one that is forgotten
pub entered_first : (r : Routing) (e : RoutingEntry) (now : ℕ) → place_of r.entries e.address ≡ None → (length r.entries == 64) ≡ true
    → entered r e now ≡ after_of r (first_to_go now r.entries) e
unfolding entered
entered_first r e now at whole = ap (λ gone. after_of r gone e) (forgets_first r e.address now at whole)

pub writes_first : (r : Routing) (e : RoutingEntry) (now : ℕ) → place_of r.entries e.address ≡ None → (length r.entries == 64) ≡ true
    → entry_writes r e now ≡ writes_of r (first_to_go now r.entries) e
unfolding entry_writes
writes_first r e now at whole = ap (λ gone. writes_of r gone e) (forgets_first r e.address now at whole)

pub half_first : (r : Routing) (dest now : ℕ) → place_of r.entries dest ≡ None → (length r.entries == 64) ≡ true
    → half_entered r dest now ≡ half_of r (first_to_go now r.entries)
unfolding half_entered
half_first r dest now e whole = ap (half_of r) (forgets_first r dest now e whole)

-- # An entry in the place of one that is forgotten

pub after_gone : (r : Routing) (gone e : RoutingEntry) (place : ℕ) → place_of r.entries gone.address ≡ Some place
    → after_of r (Some gone) e ≡ record { entries = set r.entries place e; floors = raised r.floors gone }
after_gone r gone e place at =
    ap (λ (o : Option ℕ). let k : Routing =
    record { entries = option_map_or (λ p. set r.entries p e) o (r.entries ++ e ∷ []); floors = raised r.floors gone } in k) at

writes_gone : (r : Routing) (gone e : RoutingEntry) (place : ℕ) → place_of r.entries gone.address ≡ Some place
    → writes_of r (Some gone) e ≡ puts_of (floors_due r.floors (Some gone)) ++ slots.entry_write ranks place e ∷ []
writes_gone r gone e place at =
    ap (λ (o : Option ℕ). puts_of (floors_due r.floors (Some gone)) ++ slots.entry_write ranks (unwrap_or o (length r.entries)) e ∷ []) at

pub gone_stops : (r : Routing) (gone e : RoutingEntry) (place : ℕ) (s t : Store) → place_of r.entries gone.address ≡ Some place
    → Stores s (floors_due r.floors (Some gone)) false t → Wrote s (writes_of r (Some gone) e) false t
gone_stops r gone e place s t at first =
    subst (λ ws. Wrote s ws false t) (sym (writes_gone r gone e place at))
    (wrote_stop s t (floors_due r.floors (Some gone)) (slots.entry_write ranks place e ∷ []) first)

pub gone_goes_on : (r : Routing) (gone e : RoutingEntry) (place : ℕ) (ok : Bool) (s m t : Store) → place_of r.entries gone.address ≡ Some place
    → Stores s (floors_due r.floors (Some gone)) true m → Stores m (Some (slots.entry_write ranks place e)) ok t → Wrote s (writes_of r (Some gone) e) ok t
gone_goes_on r gone e place ok s m t at first second =
    subst (λ ws. Wrote s ws ok t) (sym (writes_gone r gone e place at))
    (wrote_then s m t (floors_due r.floors (Some gone)) (slots.entry_write ranks place e ∷ []) ok first
    (wrote_last m t (slots.entry_write ranks place e) ok second))

pub err_not_ok : {T E : Type 0} (r : Result T E) → is_err r ≡ true → is_ok r ≡ false
err_not_ok (Ok t) h = cc
err_not_ok (Err e) h = refl

-- # What becomes of the records in an offer that is taken

pub held_keeps : (r : Routing) (e : RoutingEntry) (now place : ℕ) (ok : Bool) (s t : Records) → place_of r.entries e.address ≡ Some place → AgreesWith r s
    → OnTrue ok (slots.IsStored ranks (set r.entries place e) t)
    → slots.IsStored ranks r.entries t ⊎ slots.IsStored ranks (set r.entries place e) t → SameOutside 0x0200 0x023F s t
    → Keeps r (half_entered r e.address now) (entered r e now) ok s t
held_keeps r e now place ok s t at kept stored either same =
    let k = one_put r (set r.entries place e) ok s t kept stored either same in
    let full = subst (λ (a : Routing). Keeps r r a ok s t) (sym (entered_held r e now place at)) k in
    subst (λ (h : Routing). Keeps r h (entered r e now) ok s t) (sym (half_same r e.address now (forgets_none r e.address now place at))) full

pub new_keeps : (r : Routing) (e : RoutingEntry) (now : ℕ) (ok : Bool) (s t : Records) → place_of r.entries e.address ≡ None → (length r.entries == 64) ≡ false
    → AgreesWith r s
    → OnTrue ok (slots.IsStored ranks (r.entries ++ e ∷ []) t)
    → slots.IsStored ranks r.entries t ⊎ slots.IsStored ranks (r.entries ++ e ∷ []) t → SameOutside 0x0200 0x023F s t
    → Keeps r (half_entered r e.address now) (entered r e now) ok s t
new_keeps r e now ok s t at short kept stored either same =
    let k = one_put r (r.entries ++ e ∷ []) ok s t kept stored either same in
    let full = subst (λ (a : Routing). Keeps r r a ok s t) (sym (entered_new r e now at short)) k in
    subst (λ (h : Routing). Keeps r h (entered r e now) ok s t) (sym (half_same r e.address now (forgets_short r e.address now at short))) full

pub first_keeps : (r : Routing) (e : RoutingEntry) (now : ℕ) (ok : Bool) (s t : Records) → place_of r.entries e.address ≡ None → (length r.entries == 64) ≡ true
    → Keeps r (half_of r (first_to_go now r.entries)) (after_of r (first_to_go now r.entries) e) ok s t
    → Keeps r (half_entered r e.address now) (entered r e now) ok s t
first_keeps r e now ok s t at whole k =
    let full = subst (λ (a : Routing). Keeps r (half_of r (first_to_go now r.entries)) a ok s t) (sym (entered_first r e now at whole)) k in
    subst (λ (h : Routing). Keeps r h (entered r e now) ok s t) (sym (half_first r e.address now at whole)) full

-- what an answer says of a table, at the list that the table is
pub stored_ok : {T E : Type 0} (r : Result T E) (next entries : List RoutingEntry) (t : Records) → OnOk r (next ≡ entries)
    → OnOk r (slots.IsStored ranks next t)
    → OnTrue (is_ok r) (slots.IsStored ranks entries t)
stored_ok (Ok u) next entries t is stored = subst (λ (es : List RoutingEntry). slots.IsStored ranks es t) is stored
stored_ok (Err e) next entries t is stored = tt

pub ok_is : {T E : Type 0} (A B : Type 0) (x y : A) (f : A → B) (z : B) (r : Result T E) → OnOk r (x ≡ y) → f y ≡ z → OnOk r (f x ≡ z)
ok_is A B x y f z (Ok u) is e = ap f is ∙ e
ok_is A B x y f z (Err u) is e = tt
