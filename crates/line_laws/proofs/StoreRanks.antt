-- What an offer stores is what it leaves in memory, also between its two writes.
use Rattle.std.proofs.Common.{◌≡◌, ◌≢◌, ◌⊎◌, inl, inr, ⊎_elim, ℕ, zero, suc, ◌+◌, ◌<◌, ◌≤◌, ◌^◌, Bool, true, false, List, [], ◌∷◌, ◌++◌, length, get_or, set}
use Rattle.std.proofs.Common.{Option, Some, None, refl, sym, ap, ◌∙◌, subst, arith}
use Rattle.std.specs.Prelude.{if◌then◌else◌, All, is_some, ◌==◌, unwrap_or, slice_get}
use Rattle.std.specs.FinMap.{get, insert}
use Rattle.std.proofs.lemmas.Bool.{cases_eq}
use Rattle.std.proofs.lemmas.List.{get_or-set_same, get_or-set_other, length-append}
use Rattle.std.proofs.lemmas.List.Elements.{All-set, All-push}
use Rattle.plc_base.specs.Keeper.{Records}
use Rattle.store_tables.specs.Writes.{puts_of}
use Rattle.store_tables.specs.SlotTables as slots
use Rattle.store_tables.proofs.StoreLemmas.{get-insert_other}
use Rattle.store_tables.proofs.SlotTables.{found, stored_set, stored_push, stored_elsewhere}
use Rattle.routing_set.specs.declared.rank.Rank.{Rank}
use Rattle.routing_set.specs.declared.entry.RoutingEntry.{RoutingEntry}
use Rattle.routing_set.specs.RoutingSet as routing
use Rattle.routing_set.specs.Histories.{IsRouting}
use Rattle.routing_set.specs.Laws.{Among}
use Rattle.routing_set.proofs.Entries.{entry_in-octets_of}
use Rattle.routing_set.proofs.FloorRecords.{floors_in-insert}
use Rattle.routing_set.proofs.Offers.{entered_held, writes_held, entered_new, writes_new, entered_first, writes_first, after_gone, gone_among, place_there}
use Rattle.routing_set.proofs.Offers.{one_goes, room_old}
use Rattle.routing_set.proofs.RisingRanks.{entered_sound}
use Rattle.node_rules.specs.Memory.{StationMemory}
use Rattle.line_laws.specs.Stores.{HasShortRank, IsStationKept}
use Rattle.line_laws.proofs.KeptMemory.{Leads, leads_append}
use Rattle.line_laws.proofs.Beside.{Lasts, With, low_one, low_beside, low_when}
use Rattle.line_laws.proofs.Slots.{put_outside, ring_stays, counter_stays, number_stays, tag_stays, marks_stay}

-- An entry whose record is read back.
pub record EntryFits (e : RoutingEntry) : Type 0 where
  pub address : e.address < 0xFFFE
  pub low : 1 ≤ e.rank.number
  pub number : e.rank.number < 2 ^ 16
  pub cost : e.rank.cost < 2 ^ 16

-- What is in range of ranks and floors.
pub record IsRanged (t : routing.Routing) : Type 0 where
  pub sound : IsRouting t
  pub floors : (class : ℕ) → get_or t.floors class 0 < 2 ^ 16
  pub ranks : All HasShortRank t.entries

-- the others stay
routing_kept : (l : StationMemory) (r : Records) (slot : ℕ) (octets : List ℕ) (t : routing.Routing) → IsStationKept l r → 4 < slot
    → (slot < 0x0100) ⊎ (0x0140 ≤ slot) → IsRanged t
    → routing.AgreesWith t (insert r slot octets) → IsStationKept (record l { routing = t }) (insert r slot octets)
routing_kept l r slot octets t k above apart x kept = record {
  range = record {
    ring = k.range.ring;
    counter = k.range.counter;
    number = k.range.number;
    tag = k.range.tag;
    routing = x.sound;
    floors = x.floors;
    ranks = x.ranks;
    marks = k.range.marks;
  };
  ring = ring_stays r slot octets l.ring k.ring (omega arith);
  counter = counter_stays r slot octets l.counter k.counter (omega arith);
  number = number_stays r slot octets l.own_number k.number (omega arith);
  tag = tag_stays r slot octets l.next_tag k.tag (omega arith);
  routing = kept;
  marks = marks_stay r slot octets l.marks k.marks apart;
}

-- the floors stay where a rank is written
floors_stay : (t : routing.Routing) (r : Records) (place : ℕ) (octets : List ℕ) → routing.AgreesWith t r
    → routing.floors_in (get (insert r (0x0200 + place) octets) routing.floor_slot) ≡ Some t.floors
floors_stay t r place octets kept = ap routing.floors_in (get-insert_other r (0x0200 + place) routing.floor_slot octets (omega arith)) ∙ kept.floors

reads_entry : (e : RoutingEntry) (place : ℕ) → EntryFits e → routing.ranks.read place (routing.ranks.octets place e) ≡ Some (routing.ranks.rest e)
reads_entry e place f = entry_in-octets_of e f.address f.low f.number f.cost

-- an entry in a place
place_leads : (B : Records → Type 0) (lasts : Lasts B) (l : StationMemory) (e : RoutingEntry) (place : ℕ) → place < length l.routing.entries → place < 64
    → EntryFits e → IsRanged (record l.routing { entries = set l.routing.entries place e })
    → Leads (With B) l (slots.entry_write routing.ranks place e ∷ []) (record l { routing = record l.routing { entries = set l.routing.entries place e } })
place_leads B lasts l e place within inside f x = low_one B lasts l _ _ (omega arith) (λ r k.
    routing_kept l r (0x0200 + place) (routing.octets_of e) _ k (omega arith) (inr (omega arith)) x (record {
      floors = floors_stay l.routing r place (routing.octets_of e) k.routing;
      ranks = stored_set routing.ranks l.routing.entries r _ place e k.routing.ranks within refl (reads_entry e place f);
    }))

-- an entry after the others
push_leads : (B : Records → Type 0) (lasts : Lasts B) (l : StationMemory) (e : RoutingEntry) → EntryFits e
    → IsRanged (record l.routing { entries = l.routing.entries ++ e ∷ [] })
    → Leads (With B) l (slots.entry_write routing.ranks (length l.routing.entries) e ∷ [])
    (record l { routing = record l.routing { entries = l.routing.entries ++ e ∷ [] } })
push_leads B lasts l e f x =
    low_one B lasts l _ _ (let short = x.sound.entries.short in let longer = length-append l.routing.entries (e ∷ []) in omega arith) (λ r k.
    routing_kept l r (0x0200 + length l.routing.entries) (routing.octets_of e) _ k (omega arith) (inr (omega arith)) x (record {
      floors = floors_stay l.routing r (length l.routing.entries) (routing.octets_of e) k.routing;
      ranks = stored_push routing.ranks l.routing.entries r _ e k.routing.ranks
          (let longer = length-append l.routing.entries (e ∷ []) in omega (arith, x.sound.entries.short)) refl (reads_entry e (length l.routing.entries) f);
    }))

-- the floors before it
raised_range : (floors : List ℕ) (gone : RoutingEntry) → ((class : ℕ) → get_or floors class 0 < 2 ^ 16) → HasShortRank gone → length floors ≡ 16
    → (class : ℕ) → get_or (routing.raised floors gone) class 0 < 2 ^ 16
raised_range floors gone fits number long class = by_rise (routing.raises floors gone)
  where
    by_rise : (b : Bool) → get_or (if b then set floors (routing.class_of gone.address) gone.rank.number else floors) class 0 < 2 ^ 16
    by_rise false = fits class
    by_rise true =
        let within : routing.class_of gone.address < length floors = omega arith in
        ⊎_elim (λ (here : class ≡ routing.class_of gone.address). rw (here, get_or-set_same floors (routing.class_of gone.address) gone.rank.number 0 within)
        number.0)
        (λ (other : class ≢ routing.class_of gone.address). rw (get_or-set_other floors (routing.class_of gone.address) class gone.rank.number 0 other)
        (fits class)) (cases_eq class (routing.class_of gone.address))

half_leads : (B : Records → Type 0) (lasts : Lasts B) (l : StationMemory) (gone : RoutingEntry)
    → IsRanged (record l.routing { floors = routing.raised l.routing.floors gone })
    → Leads (With B) l (puts_of (routing.floors_due l.routing.floors (Some gone)))
    (record l { routing = record l.routing { floors = routing.raised l.routing.floors gone } })
half_leads B lasts l gone x = by_rise (routing.raises l.routing.floors gone) refl
  where
    rose : Bool → List ℕ
    rose b = if b then set l.routing.floors (routing.class_of gone.address) gone.rank.number else l.routing.floors

    by_rise : (b : Bool) → routing.raises l.routing.floors gone ≡ b
        → Leads (With B) l (puts_of (if b then Some (routing.floors_write (routing.raised l.routing.floors gone)) else None))
        (record l { routing = record l.routing { floors = routing.raised l.routing.floors gone } })
    by_rise false e =
        let same : routing.raised l.routing.floors gone ≡ l.routing.floors = ap rose e in
        subst (λ fs. Leads (With B) l [] (record l { routing = record l.routing { floors = fs } })) (sym same) (low_beside B lasts l l (λ r k. k))
    by_rise true e = low_one B lasts l _ _ (omega arith) (λ r k.
        routing_kept l r 5 _ _ k (omega arith) (inl (omega arith)) x (record {
          floors = floors_in-insert r (routing.raised l.routing.floors gone) x.sound.sixteen x.floors;
          ranks = stored_elsewhere routing.ranks l.routing.entries r _ 5 5 k.routing.ranks (put_outside r 5 _) (inl (omega arith));
        }))

-- # Ranges after an offer

sound_by : (r t : routing.Routing) (e : RoutingEntry) (now : ℕ) → IsRouting r → routing.is_full r e.address now ≡ false → routing.entered r e now ≡ t
    → IsRouting t
sound_by r t e now s room is = subst IsRouting is (entered_sound r e now s room)

-- where the address is kept, or no place has to be made
held_leads : (B : Records → Type 0) (lasts : Lasts B) (l : StationMemory) (e : RoutingEntry) (now place : ℕ) → EntryFits e → IsRanged l.routing
    → routing.is_full l.routing e.address now ≡ false → routing.place_of l.routing.entries e.address ≡ Some place
    → Leads (With B) l (routing.entry_writes l.routing e now) (record l { routing = routing.entered l.routing e now })
held_leads B lasts l e now place f x room at =
    let there = found routing.ranks l.routing.entries e.address place e at in
    let is = entered_held l.routing e now place at in
    let after : IsRanged (record l.routing { entries = set l.routing.entries place e }) = record {
      sound = sound_by l.routing _ e now x.sound room is;
      floors = x.floors;
      ranks = All-set HasShortRank l.routing.entries place e (f.number, f.cost) x.ranks;
    } in
    let short = x.sound.entries.short in
    rw (writes_held l.routing e now place at, is) (place_leads B lasts l e place there.0 (omega arith) f after)

new_leads : (B : Records → Type 0) (lasts : Lasts B) (l : StationMemory) (e : RoutingEntry) (now : ℕ) → EntryFits e → IsRanged l.routing
    → routing.is_full l.routing e.address now ≡ false → routing.place_of l.routing.entries e.address ≡ None
    → (length l.routing.entries == 64) ≡ false
    → Leads (With B) l (routing.entry_writes l.routing e now) (record l { routing = routing.entered l.routing e now })
new_leads B lasts l e now f x room at short =
    let is = entered_new l.routing e now at short in
    let after : IsRanged (record l.routing { entries = l.routing.entries ++ e ∷ [] }) = record {
      sound = sound_by l.routing _ e now x.sound room is;
      floors = x.floors;
      ranks = All-push HasShortRank l.routing.entries e x.ranks (f.number, f.cost);
    } in
    rw (writes_new l.routing e now at short, is) (push_leads B lasts l e f after)

writes_gone : (r : routing.Routing) (gone e : RoutingEntry) (place : ℕ) → routing.place_of r.entries gone.address ≡ Some place
    → routing.writes_of r (Some gone) e ≡ puts_of (routing.floors_due r.floors (Some gone)) ++ slots.entry_write routing.ranks place e ∷ []
writes_gone r gone e place at =
    ap (λ (o : Option ℕ). puts_of (routing.floors_due r.floors (Some gone)) ++ slots.entry_write routing.ranks (unwrap_or o (length r.entries)) e ∷ []) at

among_number : (entries : List RoutingEntry) (gone : RoutingEntry) → Among entries gone → All HasShortRank entries → HasShortRank gone
among_number entries gone a all = at_place entries a.place a.there all
  where
    at_place : (xs : List RoutingEntry) (place : ℕ) → slice_get xs place ≡ Some gone → All HasShortRank xs → HasShortRank gone
    at_place [] place e all = absurd (cc)
    at_place (x ∷ xs) zero e all = let is : x ≡ gone = cc in subst HasShortRank is (all 0 x (omega arith))
    at_place (x ∷ xs) (suc place) e all = at_place xs place e (λ k d lt. all (suc k) d (omega arith))

gone_leads : (B : Records → Type 0) (lasts : Lasts B) (l : StationMemory) (e gone : RoutingEntry) (now place : ℕ) → EntryFits e → IsRanged l.routing
    → routing.is_full l.routing e.address now ≡ false → routing.place_of l.routing.entries e.address ≡ None
    → (length l.routing.entries == 64) ≡ true → routing.first_to_go now l.routing.entries ≡ Some gone
    → routing.place_of l.routing.entries gone.address ≡ Some place
    → Leads (With B) l (routing.entry_writes l.routing e now) (record l { routing = routing.entered l.routing e now })
gone_leads B lasts l e gone now place f x room at whole first there =
    let t = l.routing in
    let within = found routing.ranks t.entries gone.address place gone there in
    let is : routing.entered t e now ≡ record { entries = set t.entries place e; floors = routing.raised t.floors gone }
    = entered_first t e now at whole ∙ ap (λ o. routing.after_of t o e) first ∙ after_gone t gone e place there in
    let puts : routing.entry_writes t e now ≡ puts_of (routing.floors_due t.floors (Some gone)) ++ slots.entry_write routing.ranks place e ∷ []
    = writes_first t e now at whole ∙ ap (λ o. routing.writes_of t o e) first ∙ writes_gone t gone e place there in
    let number = among_number t.entries gone (gone_among now t.entries gone first) x.ranks in
    let low = raised_range t.floors gone x.floors number x.sound.sixteen in
    let sound = sound_by t _ e now x.sound room is in
    let half : IsRanged (record t { floors = routing.raised t.floors gone }) = record {
      sound = record { entries = x.sound.entries; sixteen = sound.sixteen };
      floors = low;
      ranks = x.ranks;
    } in
    let after : IsRanged (record { entries = set t.entries place e; floors = routing.raised t.floors gone }) = record {
      sound = sound;
      floors = low;
      ranks = All-set HasShortRank t.entries place e (f.number, f.cost) x.ranks;
    } in
    let short = x.sound.entries.short in
    rw (puts, is) (leads_append (With B) l (record l { routing = record t { floors = routing.raised t.floors gone } }) _ _ _ (half_leads B lasts l gone half)
    (place_leads B lasts (record l { routing = record t { floors = routing.raised t.floors gone } }) e place within.0 (omega arith) f after))

entered_leads : (B : Records → Type 0) (lasts : Lasts B) (l : StationMemory) (e : RoutingEntry) (now : ℕ) → EntryFits e → IsRanged l.routing
    → routing.is_full l.routing e.address now ≡ false
    → Leads (With B) l (routing.entry_writes l.routing e now) (record l { routing = routing.entered l.routing e now })
entered_leads B lasts l e now f x room = by_place (routing.place_of l.routing.entries e.address) refl
  where
    Goal : Type 0
    Goal = Leads (With B) l (routing.entry_writes l.routing e now) (record l { routing = routing.entered l.routing e now })

    by_found : (gone : RoutingEntry) (o : Option ℕ) → routing.place_of l.routing.entries gone.address ≡ o → is_some o ≡ true
        → routing.place_of l.routing.entries e.address ≡ None
        → (length l.routing.entries == 64) ≡ true → routing.first_to_go now l.routing.entries ≡ Some gone → Goal
    by_found gone None there some at whole first = absurd (cc)
    by_found gone (Some place) there some at whole first = gone_leads B lasts l e gone now place f x room at whole first there

    by_gone : (o : Option RoutingEntry) → routing.first_to_go now l.routing.entries ≡ o → is_some o ≡ true → routing.place_of l.routing.entries e.address ≡ None
        → (length l.routing.entries == 64) ≡ true → Goal
    by_gone None first some at whole = absurd (cc)
    by_gone (Some gone) first some at whole =
        let there = place_there l.routing.entries gone (gone_among now l.routing.entries gone first) in
        by_found gone (routing.place_of l.routing.entries gone.address) refl there at whole first

    by_length : (b : Bool) → (length l.routing.entries == 64) ≡ b → routing.place_of l.routing.entries e.address ≡ None → Goal
    by_length false short at = new_leads B lasts l e now f x room at short
    by_length true whole at =
        by_gone (routing.first_to_go now l.routing.entries) refl (one_goes now l.routing.entries (room_old l.routing e.address now at whole room)) at whole

    by_place : (o : Option ℕ) → routing.place_of l.routing.entries e.address ≡ o → Goal
    by_place (Some place) at = held_leads B lasts l e now place f x room at
    by_place None at = by_length (length l.routing.entries == 64) refl at

-- an offer that is taken
pub ranks_lead : (B : Records → Type 0) (lasts : Lasts B) (l : StationMemory) (dest : ℕ) (rank : Rank) (next now : ℕ)
    → EntryFits (routing.offered_entry dest rank next now) → routing.is_full l.routing dest now ≡ false
    → Leads (With B) l (routing.offer_writes l.routing dest rank next now) (record l { routing = routing.offered l.routing dest rank next now })
ranks_lead B lasts l dest rank next now f room = low_when B lasts l _ _ (λ r k.
    entered_leads B lasts l (routing.offered_entry dest rank next now) now f
    (record { sound = k.range.routing; floors = k.range.floors; ranks = k.range.ranks }) room)
