-- The puts of an offer and of a number lead from what the records gave to what they give.
use Rattle.std.proofs.Common.{◌≡◌, ◌≢◌, ◌⊎◌, inl, ⊎_elim, ℕ, zero, suc, ◌+◌, ◌<◌, ◌^◌, Bool, true, false, List, [], ◌∷◌, ◌++◌, length, get_or, set, Option}
use Rattle.std.proofs.Common.{Some, None, refl, sym, ap, ◌∙◌, subst, arith, length-append}
use Rattle.std.specs.Prelude.{if◌then◌else◌, All, is_some, ◌==◌, unwrap_or, slice_get}
use Rattle.std.specs.FinMap.{get, insert}
use Rattle.std.proofs.lemmas.Bool.{cases_eq, ltb-false}
use Rattle.std.proofs.lemmas.List.{get_or-set_same, get_or-set_other}
use Rattle.std.proofs.lemmas.List.Elements.{All-set, All-push}
use Rattle.plc_base.specs.Keeper.{Records}
use Rattle.store_tables.specs.Writes.{puts_of}
use Rattle.store_tables.specs.LeadingPuts.{PutsLead}
use Rattle.store_tables.specs.SlotTables as slots
use Rattle.store_tables.proofs.LeadingPuts.{leads_one, leads_beside, leads_append, leads_when}
use Rattle.store_tables.proofs.CutWrites.{put_outside}
use Rattle.store_tables.proofs.StoreLemmas.{get-insert_other}
use Rattle.store_tables.proofs.SlotTables.{found, stored_set, stored_push, stored_elsewhere}
use Rattle.routing_set.specs.declared.rank.Rank.{Rank}
use Rattle.routing_set.specs.declared.entry.RoutingEntry.{RoutingEntry}
use Rattle.routing_set.specs.RoutingSet.{Routing, AgreesWith, ranks, octets_of, floors_in, floor_slot, floors_due, floors_write, raised, raises, class_of}
use Rattle.routing_set.specs.RoutingSet.{place_of}
use Rattle.routing_set.specs.RoutingSet.{entered, entry_writes, writes_of, after_of, first_to_go, is_full, offered_entry, offer_writes, offered}
use Rattle.routing_set.specs.OwnNumber as numbers
use Rattle.routing_set.specs.Histories.{IsRouting}
use Rattle.routing_set.specs.Laws.{Among, IsReadableEntry, HasNumber, IsRanged, IsRoutingIn, IsNumberIn}
use Rattle.routing_set.proofs.Limits.{limit_in-insert}
use Rattle.routing_set.proofs.Entries.{entry_in-octets_of}
use Rattle.routing_set.proofs.FloorRecords.{floors_in-insert}
use Rattle.routing_set.proofs.Offers.{entered_held, writes_held, entered_new, writes_new, entered_first, writes_first, after_gone, gone_among, place_there}
use Rattle.routing_set.proofs.Offers.{one_goes, room_old}
use Rattle.routing_set.proofs.RisingRanks.{entered_sound}

-- # The own number

pub number_leads : (n : numbers.Numbering) → n.last < 65535 → PutsLead IsNumberIn n (puts_of (numbers.advance_write n)) (numbers.advanced n)
number_leads n left = by_due (numbers.passes n) refl
  where
    by_due : (b : Bool) → numbers.passes n ≡ b
        → PutsLead IsNumberIn n (puts_of (if b then numbers.limit_write (numbers.raised n.limit) else None))
        (record { limit = if b then numbers.raised n.limit else n.limit; last = n.last + 1 })
    by_due true e = leads_one IsNumberIn n _ _ (λ r k.
        let below = k.kept.below in let fits = k.fits in let low = k.low in
        record {
          kept = record { limit = limit_in-insert r (numbers.raised n.limit) (omega arith) (omega arith); below = omega arith };
          low = omega arith;
          fits = omega arith;
        })
    by_due false e = leads_beside IsNumberIn n _ (λ r k. record { kept = record { limit = k.kept.limit; below = ltb-false _ _ e }; low = k.low; fits = k.fits })

-- # Ranks and floors

-- the floors stay where a rank is written
floors_stay : (t : Routing) (r : Records) (place : ℕ) (octets : List ℕ) → AgreesWith t r
    → floors_in (get (insert r (0x0200 + place) octets) floor_slot) ≡ Some t.floors
floors_stay t r place octets kept = ap floors_in (get-insert_other r (0x0200 + place) floor_slot octets (omega arith)) ∙ kept.floors

reads_entry : (e : RoutingEntry) (place : ℕ) → IsReadableEntry e → ranks.read place (ranks.octets place e) ≡ Some (ranks.rest e)
reads_entry e place f = entry_in-octets_of e f.address f.low f.number f.cost

-- an entry in a place
place_leads : (t : Routing) (e : RoutingEntry) (place : ℕ) → place < length t.entries → place < 64 → IsReadableEntry e
    → IsRanged (record t { entries = set t.entries place e })
    → PutsLead IsRoutingIn t (slots.entry_write ranks place e ∷ []) (record t { entries = set t.entries place e })
place_leads t e place within inside f x = leads_one IsRoutingIn t _ _ (λ r k.
    record {
      ranged = x;
      kept = record {
        floors = floors_stay t r place (octets_of e) k.kept;
        ranks = stored_set ranks t.entries r _ place e k.kept.ranks within refl (reads_entry e place f);
      };
    })

-- an entry after the others
push_leads : (t : Routing) (e : RoutingEntry) → IsReadableEntry e → IsRanged (record t { entries = t.entries ++ e ∷ [] })
    → PutsLead IsRoutingIn t (slots.entry_write ranks (length t.entries) e ∷ []) (record t { entries = t.entries ++ e ∷ [] })
push_leads t e f x = leads_one IsRoutingIn t _ _ (λ r k.
    record {
      ranged = x;
      kept = record {
        floors = floors_stay t r (length t.entries) (octets_of e) k.kept;
        ranks = stored_push ranks t.entries r _ e k.kept.ranks (let longer = length-append t.entries (e ∷ []) in omega (arith, x.sound.entries.short)) refl
            (reads_entry e (length t.entries) f);
      };
    })

-- the floors before it
raised_range : (floors : List ℕ) (gone : RoutingEntry) → ((class : ℕ) → get_or floors class 0 < 2 ^ 16) → HasNumber gone → length floors ≡ 16
    → (class : ℕ) → get_or (raised floors gone) class 0 < 2 ^ 16
raised_range floors gone fits number long class = by_rise (raises floors gone)
  where
    by_rise : (b : Bool) → get_or (if b then set floors (class_of gone.address) gone.rank.number else floors) class 0 < 2 ^ 16
    by_rise false = fits class
    by_rise true =
        let within : class_of gone.address < length floors = omega arith in
        ⊎_elim (λ (here : class ≡ class_of gone.address). rw (here, get_or-set_same floors (class_of gone.address) gone.rank.number 0 within) number)
        (λ (other : class ≢ class_of gone.address). rw (get_or-set_other floors (class_of gone.address) class gone.rank.number 0 other) (fits class))
        (cases_eq class (class_of gone.address))

half_leads : (t : Routing) (gone : RoutingEntry) → IsRanged (record t { floors = raised t.floors gone })
    → PutsLead IsRoutingIn t (puts_of (floors_due t.floors (Some gone))) (record t { floors = raised t.floors gone })
half_leads t gone x = by_rise (raises t.floors gone) refl
  where
    rose : Bool → List ℕ
    rose b = if b then set t.floors (class_of gone.address) gone.rank.number else t.floors

    by_rise : (b : Bool) → raises t.floors gone ≡ b
        → PutsLead IsRoutingIn t (puts_of (if b then Some (floors_write (raised t.floors gone)) else None)) (record t { floors = raised t.floors gone })
    by_rise false e =
        let same : raised t.floors gone ≡ t.floors = ap rose e in
        subst (λ fs. PutsLead IsRoutingIn t [] (record t { floors = fs })) (sym same) (leads_beside IsRoutingIn t t (λ r k. k))
    by_rise true e = leads_one IsRoutingIn t _ _ (λ r k.
        record {
          ranged = x;
          kept = record {
            floors = floors_in-insert r (raised t.floors gone) x.sound.sixteen x.floors;
            ranks = stored_elsewhere ranks t.entries r _ 5 5 k.kept.ranks (put_outside r 5 _) (inl (omega arith));
          };
        })

-- # Ranges after an offer

sound_by : (r t : Routing) (e : RoutingEntry) (now : ℕ) → IsRouting r → is_full r e.address now ≡ false → entered r e now ≡ t → IsRouting t
sound_by r t e now s room is = subst IsRouting is (entered_sound r e now s room)

-- where the address is kept, or no place has to be made
held_leads : (t : Routing) (e : RoutingEntry) (now place : ℕ) → IsReadableEntry e → IsRanged t → is_full t e.address now ≡ false
    → place_of t.entries e.address ≡ Some place
    → PutsLead IsRoutingIn t (entry_writes t e now) (entered t e now)
held_leads t e now place f x room at =
    let there = found ranks t.entries e.address place e at in
    let is = entered_held t e now place at in
    let after : IsRanged (record t { entries = set t.entries place e }) = record {
      sound = sound_by t _ e now x.sound room is;
      floors = x.floors;
      ranks = All-set HasNumber t.entries place e f.number x.ranks;
    } in
    let short = x.sound.entries.short in
    rw (writes_held t e now place at, is) (place_leads t e place there.0 (omega arith) f after)

new_leads : (t : Routing) (e : RoutingEntry) (now : ℕ) → IsReadableEntry e → IsRanged t → is_full t e.address now ≡ false → place_of t.entries e.address ≡ None
    → (length t.entries == 64) ≡ false → PutsLead IsRoutingIn t (entry_writes t e now) (entered t e now)
new_leads t e now f x room at short =
    let is = entered_new t e now at short in
    let after : IsRanged (record t { entries = t.entries ++ e ∷ [] }) = record {
      sound = sound_by t _ e now x.sound room is;
      floors = x.floors;
      ranks = All-push HasNumber t.entries e x.ranks f.number;
    } in
    rw (writes_new t e now at short, is) (push_leads t e f after)

writes_gone : (r : Routing) (gone e : RoutingEntry) (place : ℕ) → place_of r.entries gone.address ≡ Some place
    → writes_of r (Some gone) e ≡ puts_of (floors_due r.floors (Some gone)) ++ slots.entry_write ranks place e ∷ []
writes_gone r gone e place at =
    ap (λ (o : Option ℕ). puts_of (floors_due r.floors (Some gone)) ++ slots.entry_write ranks (unwrap_or o (length r.entries)) e ∷ []) at

among_number : (entries : List RoutingEntry) (gone : RoutingEntry) → Among entries gone → All HasNumber entries → HasNumber gone
among_number entries gone a all = at_place entries a.place a.there all
  where
    at_place : (xs : List RoutingEntry) (place : ℕ) → slice_get xs place ≡ Some gone → All HasNumber xs → HasNumber gone
    at_place [] place e all = absurd (cc)
    at_place (x ∷ xs) zero e all = let is : x ≡ gone = cc in subst HasNumber is (all 0 x (omega arith))
    at_place (x ∷ xs) (suc place) e all = at_place xs place e (λ k d lt. all (suc k) d (omega arith))

gone_leads : (t : Routing) (e gone : RoutingEntry) (now place : ℕ) → IsReadableEntry e → IsRanged t → is_full t e.address now ≡ false
    → place_of t.entries e.address ≡ None
    → (length t.entries == 64) ≡ true → first_to_go now t.entries ≡ Some gone → place_of t.entries gone.address ≡ Some place
    → PutsLead IsRoutingIn t (entry_writes t e now) (entered t e now)
gone_leads t e gone now place f x room at whole first there =
    let t = t in
    let within = found ranks t.entries gone.address place gone there in
    let is : entered t e now ≡ record { entries = set t.entries place e; floors = raised t.floors gone }
    = entered_first t e now at whole ∙ ap (λ o. after_of t o e) first ∙ after_gone t gone e place there in
    let puts : entry_writes t e now ≡ puts_of (floors_due t.floors (Some gone)) ++ slots.entry_write ranks place e ∷ []
    = writes_first t e now at whole ∙ ap (λ o. writes_of t o e) first ∙ writes_gone t gone e place there in
    let number = among_number t.entries gone (gone_among now t.entries gone first) x.ranks in
    let low = raised_range t.floors gone x.floors number x.sound.sixteen in
    let sound = sound_by t _ e now x.sound room is in
    let half : IsRanged (record t { floors = raised t.floors gone }) = record {
      sound = record { entries = x.sound.entries; sixteen = sound.sixteen };
      floors = low;
      ranks = x.ranks;
    } in
    let after : IsRanged (record { entries = set t.entries place e; floors = raised t.floors gone }) = record {
      sound = sound;
      floors = low;
      ranks = All-set HasNumber t.entries place e f.number x.ranks;
    } in
    let short = x.sound.entries.short in
    rw (puts, is) (leads_append IsRoutingIn t (record t { floors = raised t.floors gone }) _ _ _ (half_leads t gone half)
    (place_leads (record t { floors = raised t.floors gone }) e place within.0 (omega arith) f after))

entered_leads : (t : Routing) (e : RoutingEntry) (now : ℕ) → IsReadableEntry e → IsRanged t → is_full t e.address now ≡ false
    → PutsLead IsRoutingIn t (entry_writes t e now) (entered t e now)
entered_leads t e now f x room = by_place (place_of t.entries e.address) refl
  where
    Goal : Type 0
    Goal = PutsLead IsRoutingIn t (entry_writes t e now) (entered t e now)

    by_found : (gone : RoutingEntry) (o : Option ℕ) → place_of t.entries gone.address ≡ o → is_some o ≡ true → place_of t.entries e.address ≡ None
        → (length t.entries == 64) ≡ true → first_to_go now t.entries ≡ Some gone → Goal
    by_found gone None there some at whole first = absurd (cc)
    by_found gone (Some place) there some at whole first = gone_leads t e gone now place f x room at whole first there

    by_gone : (o : Option RoutingEntry) → first_to_go now t.entries ≡ o → is_some o ≡ true → place_of t.entries e.address ≡ None
        → (length t.entries == 64) ≡ true → Goal
    by_gone None first some at whole = absurd (cc)
    by_gone (Some gone) first some at whole =
        let there = place_there t.entries gone (gone_among now t.entries gone first) in
        by_found gone (place_of t.entries gone.address) refl there at whole first

    by_length : (b : Bool) → (length t.entries == 64) ≡ b → place_of t.entries e.address ≡ None → Goal
    by_length false short at = new_leads t e now f x room at short
    by_length true whole at = by_gone (first_to_go now t.entries) refl (one_goes now t.entries (room_old t e.address now at whole room)) at whole

    by_place : (o : Option ℕ) → place_of t.entries e.address ≡ o → Goal
    by_place (Some place) at = held_leads t e now place f x room at
    by_place None at = by_length (length t.entries == 64) refl at

-- an offer that is taken
pub offer_leads : (t : Routing) (dest : ℕ) (rank : Rank) (next now : ℕ) → IsReadableEntry (offered_entry dest rank next now) → is_full t dest now ≡ false
    → PutsLead IsRoutingIn t (offer_writes t dest rank next now) (offered t dest rank next now)
offer_leads t dest rank next now f room = leads_when IsRoutingIn t _ _ (λ r k. entered_leads t (offered_entry dest rank next now) now f k.ranged room)
