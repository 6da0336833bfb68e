-- What is opened has no valid route.
use Rattle.std.proofs.Common.{◌≡◌, ℕ, zero, Bool, true, false, cond, List, [], ◌∷◌, Option, Some, None, get_or, refl, sym, ap, ◌∙◌}
use Rattle.std.specs.List.{find}
use Rattle.std.specs.Option.{option_and_then}
use Rattle.std.specs.FinMap.{get}
use Rattle.std.proofs.lemmas.Option.{slice_get_within, slice_get-get_or}
use Rattle.plc_base.specs.Keeper.{Records}
use Rattle.store_tables.specs.SlotTables as slots
use Rattle.routing_set.specs.declared.entry.RoutingEntry.{RoutingEntry}
use Rattle.routing_set.specs.RoutingSet.{ranks, entry_in, entry_in-rests, route_of}
use Rattle.routing_set.specs.Laws.{Among}
use Rattle.routing_set.proofs.Offers.{behind}
use Rattle.routing_set.proofs.RisingRanks.{route-by}
use Rattle.routing_set.proofs.LookUps.{is_at}
use Rattle.routing_set.specs.FirstEnd.{IsStill}
use Rattle.routing_set.proofs.FirstEnds.{still_unrouted}

find_among : (p : RoutingEntry → Bool) (entries : List RoutingEntry) (e : RoutingEntry) → find p entries ≡ Some e → Among entries e
find_among p [] e h = absurd (cc (h))
find_among p (x ∷ entries) e h = by_test (p x) h (find_among p entries e)
  where
    by_test : (test : Bool) → cond test (Some x) (find p entries) ≡ Some e → (find p entries ≡ Some e → Among entries e) → Among (x ∷ entries) e
    by_test true h more = record { place = zero; there = h }
    by_test false h more = behind x entries e (more h)

read_rests : (o : Option (List ℕ)) (e : RoutingEntry) → option_and_then entry_in o ≡ Some e → e.route ≡ None
read_rests None e h = absurd (cc (h))
read_rests (Some octets) e h = ap (λ (x : RoutingEntry). x.route) (sym (entry_in-rests octets e h))

entry_rests : (records : Records) (entries : List RoutingEntry) (e : RoutingEntry) → slots.IsReading ranks entries records → Among entries e → e.route ≡ None
entry_rests records entries e reading among =
    let within = slice_get_within entries among.place e among.there in
    read_rests (get records (slots.slot_of ranks among.place)) e (reading.each among.place within ∙ among.there)

found_rests : (records : Records) (entries : List RoutingEntry) (dest : ℕ) (o : Option RoutingEntry) → slots.IsReading ranks entries records
    → find (is_at dest) entries ≡ o
    → option_and_then (λ (e : RoutingEntry). e.route) o ≡ None
found_rests records entries dest None reading is = refl
found_rests records entries dest (Some e) reading is = entry_rests records entries e reading (find_among (is_at dest) entries e is)

-- no route is valid in what is read
pub read_unrouted : (records : Records) (floors : List ℕ) (entries : List RoutingEntry) (dest : ℕ) → slots.IsReading ranks entries records
    → route_of (record { entries = entries; floors = floors }) dest ≡ None
read_unrouted records floors entries dest reading =
    route-by (record { entries = entries; floors = floors }) dest ∙ found_rests records entries dest (find (is_at dest) entries) reading refl

-- so none ends before any time
pub read_still : (records : Records) (entries : List RoutingEntry) (time : ℕ) → slots.IsReading ranks entries records → IsStill time entries
read_still records entries time reading =
    still_unrouted time entries (λ k d lt. entry_rests records entries (get_or entries k d) reading
    (record { place = k; there = slice_get-get_or entries k d lt }))
