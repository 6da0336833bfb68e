-- What a meter or the coordinator stores is what it leaves in memory: the book, and the words over all of the memory.
use Rattle.std.proofs.Common.{◌≡◌, inl, inr, ℕ, zero, suc, ◌+◌, ◌≤◌, ◌<◌, Bool, true, false, List, [], ◌∷◌, ◌++◌, length, set, Option, Some, None, refl, sym}
use Rattle.std.proofs.Common.{ap, ◌∙◌, subst, arith}
use Rattle.std.specs.Prelude.{if◌then◌else◌, All, is_some, ◌||◌, nat_lt, slice_get, position, get_or, not}
use Rattle.std.specs.Option.{option_map_or, option_and_then}
use Rattle.std.specs.FinMap.{insert}
use Rattle.std.proofs.lemmas.Bool.{ltb-true}
use Rattle.std.proofs.lemmas.List.Elements.{All-set, All-push, All-filter}
use Rattle.std.proofs.lemmas.Option.{slice_get-get_or, same_Some}
use Rattle.plc_base.specs.Keeper.{Records, Write}
use Rattle.store_tables.specs.Writes.{puts_of}
use Rattle.store_tables.specs.SlotTables as slots
use Rattle.store_tables.proofs.SlotTables.{found, free_new, free_found, IsTable-set, IsTable-push, stored_set, stored_push}
use Rattle.plc_base.specs.declared.address.Eui.{Eui}
use Rattle.plc_base.specs.declared.key.Key.{Key}
use Rattle.plc_base.specs.Grant.{Granted}
use Rattle.group_keys.specs.declared.key_book.BookEntry.{BookEntry}
use Rattle.group_keys.specs.KeyBook as book
use Rattle.group_keys.proofs.Books.{entry_in-entry_octets, entry_same}
use Rattle.node_rules.specs.Memory.{StationMemory, Memory, Role, Coordinator, Meter}
use Rattle.line_laws.specs.Stores.{IsHeld, IsStationKept, IsReadableEntry, IsBookKept, BookKept, IsNamed, IsKept, HasEui, IsPair}
use Rattle.routing_set.specs.declared.rank.Rank.{Rank}
use Rattle.routing_set.specs.RoutingSet as routing
use Rattle.node_rules.specs.Drafts.{Draft, empty_draft}
use Rattle.node_rules.specs.MemoryDrafts.{with_station, on_station, station_part, with_memory_by, with_pair_tags, goes_up, goes_down}
use Rattle.node_rules.specs.Coordinators as coordinators
use Rattle.node_rules.specs.Coordinators.{with_book_entry}
use Rattle.line_laws.proofs.StorableGrants.{none_held}
use Rattle.line_laws.proofs.KeptMemory.{Leads, leads_beside, leads_one, leads_map}
use Rattle.line_laws.proofs.Beside.{Lasts, With}
use Rattle.line_laws.proofs.StoreRanks.{EntryFits}
use Rattle.line_laws.proofs.StoreFold.{WordFits, Adds, adds_none, adds_then, adds_beside, made_adds}
use Rattle.line_laws.proofs.Made.{RingWord, Given, ByRequest, ByReply, ByItself, Offered}
use Rattle.line_laws.proofs.MadeIn.{unheard, Beside, Ends, Asks, Replies, Opens, Answers, Closes, Gives, EuiFrom, Known, OfSession, EntryChange, Allows, Issues}
use Rattle.line_laws.proofs.MadeIn.{Kicks, MadeIn, Begins, Station, OnStation, Remembers, Tags, Enters, Up, Down}
use Rattle.line_laws.proofs.Slots.{book_stays, ring_stays, counter_stays, number_stays, tag_stays, routing_stays, marks_stay}

-- the line stays where the book is written
pub station_stays : (l : StationMemory) (r : Records) (slot : ℕ) (octets : List ℕ) → IsStationKept l r → 0x1000 ≤ slot → IsStationKept l (insert r slot octets)
station_stays l r slot octets k high = record {
  range = k.range;
  ring = ring_stays r slot octets l.ring k.ring (omega arith);
  counter = counter_stays r slot octets l.counter k.counter (omega arith);
  number = number_stays r slot octets l.own_number k.number (omega arith);
  tag = tag_stays r slot octets l.next_tag k.tag (omega arith);
  routing = routing_stays r slot octets l.routing k.routing (omega arith) (inr (omega arith));
  marks = marks_stay r slot octets l.marks k.marks (inr (omega arith));
}

reads_entry : (place : ℕ) (e : BookEntry) → place < 999 → IsReadableEntry e → book.entries.read place (book.entries.octets place e) ≡ Some (book.entries.rest e)
reads_entry place e within h = entry_in-entry_octets place e within h.eui.0 h.psk.0 h.key0.0 h.key1.0

-- the book with an entry is what the records with its record give
book_with : (b : book.Book) (e : BookEntry) (r : Records) → IsBookKept b r → IsReadableEntry e → book.has_room b e.eui ≡ true
    → IsBookKept (book.with_entry b e) (insert r (0x1000 + book.place_for b e.eui) (book.entry_octets (book.place_for b e.eui) e))
book_with b e r k fits room = by_place (book.place_of b e.eui) refl
  where
    by_place : (o : Option ℕ) → book.place_of b e.eui ≡ o
        → let place = option_map_or (λ p. p) o (length b) in
        IsBookKept (option_map_or (λ p. set b p e) o (b ++ e ∷ [])) (insert r (0x1000 + place) (book.entry_octets place e))
    by_place (Some place) is =
        let there = found book.entries b (book.eui_number e.eui) place e is in
        let short = k.table.short in
        record {
          table = IsTable-set book.entries b place e k.table there.0 (free_found book.entries b (book.eui_number e.eui) place k.table is);
          each = All-set IsReadableEntry b place e fits k.each;
          stored = stored_set book.entries b r _ place e k.stored there.0 refl (reads_entry place e (omega arith) fits);
        }
    by_place None is =
        let some : nat_lt (length b) 999 ≡ true = subst (λ (o : Option ℕ). (is_some o || nat_lt (length b) 999) ≡ true) is room in
        let less : length b < 999 = ltb-true _ _ some in
        record {
          table = IsTable-push book.entries b e k.table less (free_new book.entries b (book.eui_number e.eui) (length b) (ap is_some is));
          each = All-push IsReadableEntry b e k.each fits;
          stored = stored_push book.entries b r _ e k.stored less refl (reads_entry (length b) e less fits);
        }

-- an entry that the book has is no change of it
pub holds_same : (b : book.Book) (e : BookEntry) → book.holds b e ≡ true → book.with_entry b e ≡ b
holds_same b e = by_place (book.place_of b e.eui) refl
  where
    by_entry : (place : ℕ) (o : Option BookEntry) → book.place_of b e.eui ≡ Some place → slice_get b place ≡ o
        → option_map_or (λ before. book.same_entry before e) o false ≡ true → book.with_entry b e ≡ b
    by_entry place None is got same = absurd (cc)
    by_entry place (Some before) is got same = entry_same b e before place is got same

    by_place : (o : Option ℕ) → book.place_of b e.eui ≡ o → option_map_or (λ before. book.same_entry before e) (option_and_then (slice_get b) o) false ≡ true
        → book.with_entry b e ≡ b
    by_place None is same = absurd (cc)
    by_place (Some place) is same = by_entry place (slice_get b place) is refl same

-- # The memory of a role

module _ (role : Role) where
  pub kept_with : (m : Memory) (e : BookEntry) (r : Records) → IsKept role m r → ((r : Records) → IsBookKept m.book r → IsReadableEntry e)
      → book.has_room m.book e.eui ≡ true → role ≡ Coordinator
      → IsKept role (record m { book = book.with_entry m.book e })
      (insert r (0x1000 + book.place_for m.book e.eui) (book.entry_octets (book.place_for m.book e.eui) e))
  kept_with m e r k fits room coordinator = record {
    station = station_stays m.station r _ _ k.station (omega arith);
    book = by_role role coordinator k.book (fits r) room;
    sessions = k.sessions;
  }
    where
      by_role : (x : Role) → x ≡ Coordinator → BookKept x m.book r → (IsBookKept m.book r → IsReadableEntry e) → book.has_room m.book e.eui ≡ true
          → BookKept x (book.with_entry m.book e) (insert r (0x1000 + book.place_for m.book e.eui) (book.entry_octets (book.place_for m.book e.eui) e))
      by_role Coordinator c b f g = book_with m.book e r b (f b) g
      by_role (Meter psk) c b f g = absurd (cc)

  pub same_book : (m : Memory) (b : book.Book) (r : Records) → IsKept role m r → b ≡ m.book → IsKept role (record m { book = b }) r
  same_book m b r k e = record { station = k.station; book = subst (λ c. BookKept role c r) (sym e) k.book; sessions = k.sessions }

  -- an entry is stored where it changes
  pub entry_leads : (m : Memory) (e : BookEntry) → ((r : Records) → IsBookKept m.book r → IsReadableEntry e) → book.has_room m.book e.eui ≡ true
      → role ≡ Coordinator
      → Leads (IsKept role) m (puts_of (book.change_write m.book e)) (record m { book = book.with_entry m.book e })
  entry_leads m e fits room coordinator = by_holding (book.holds m.book e) refl
    where
      by_holding : (b : Bool) → book.holds m.book e ≡ b
          → Leads (IsKept role) m (puts_of (if b then None else book.entry_write m.book e)) (record m { book = book.with_entry m.book e })
      by_holding true same = leads_beside (IsKept role) m _ (λ r k. same_book m _ r k (holds_same m.book e same))
      by_holding false other = leads_one (IsKept role) m _ _ (λ r k. kept_with m e r k fits room coordinator)

-- # What is looked up

pub looked_up : {A : Type 0} (P : A → Type 0) (xs : List A) (o : Option ℕ) (x : A) → option_and_then (slice_get xs) o ≡ Some x → All P xs → P x
looked_up P xs None x e all = absurd (cc)
looked_up {A = A} P xs (Some place) x e all = at_place xs place e all
  where
    at_place : (ys : List A) (k : ℕ) → slice_get ys k ≡ Some x → All P ys → P x
    at_place [] k e all = absurd (cc)
    at_place (y ∷ ys) zero e all = subst P (same_Some _ _ e) (all 0 y (omega arith))
    at_place (y ∷ ys) (suc k) e all = at_place ys k e (λ i d lt. all (suc i) d (omega arith))

-- an allowed entry stands in the book
pub stands : (b : book.Book) (eui : Eui) (e : BookEntry) → book.allowed_one b eui ≡ Some e → book.entry_for b eui ≡ Some e
stands b eui e = by_entry (book.entry_for b eui)
  where
    by_flag : (f : Bool) (x : BookEntry) → (if f then Some x else None) ≡ Some e → Some x ≡ Some e
    by_flag true x h = h
    by_flag false x h = absurd (cc)

    by_entry : (o : Option BookEntry) → option_map_or (λ (x : BookEntry). if x.allowed then Some x else None) o None ≡ Some e → o ≡ Some e
    by_entry None h = absurd (cc)
    by_entry (Some x) h = by_flag x.allowed x h

has_place : (b : book.Book) (eui : Eui) (e : BookEntry) → book.entry_for b eui ≡ Some e → book.has_room b eui ≡ true
has_place b eui e = by_place (book.place_of b eui) refl
  where
    by_place : (o : Option ℕ) → book.place_of b eui ≡ o → option_and_then (slice_get b) o ≡ Some e → (is_some o || nat_lt (length b) 999) ≡ true
    by_place None is h = absurd (cc)
    by_place (Some place) is h = refl

-- its number is the one that it was looked up by
same_number : (b : book.Book) (eui : Eui) (e : BookEntry) → book.entry_for b eui ≡ Some e → book.eui_number e.eui ≡ book.eui_number eui
same_number b eui e = by_place (book.place_of b eui) refl
  where
    by_place : (o : Option ℕ) → book.place_of b eui ≡ o → option_and_then (slice_get b) o ≡ Some e → book.eui_number e.eui ≡ book.eui_number eui
    by_place None is h = absurd (cc)
    by_place (Some place) is h =
        let there = found book.entries b (book.eui_number eui) place e is in
        let here : get_or b place e ≡ e = same_Some _ _ (sym (slice_get-get_or b place e there.0) ∙ h) in
        ap (λ (x : BookEntry). book.eui_number x.eui) (sym here) ∙ there.1

-- # A doing of a meter or the coordinator

-- the book stays while lower slots are written
book_lasts : (role : Role) (b : book.Book) (r : Records) (slot : ℕ) (octets : List ℕ) → slot < 0x1000 → BookKept role b r
    → BookKept role b (insert r slot octets)
book_lasts Coordinator b r slot octets low k = record { table = k.table; each = k.each; stored = book_stays r slot octets b k.stored (inl low) }
book_lasts (Meter psk) b r slot octets low k = k

-- what stands beside the line
unfoldable pub Rest : Role → Memory → Records → Type 0
Rest role n r = BookKept role n.book r × All IsNamed n.sessions

pub rest_lasts : (role : Role) (n : Memory) → Lasts (Rest role n)
unfolding Rest
rest_lasts role n r slot octets low k = (book_lasts role n.book r slot octets low k.0, k.1)

-- a line's writes over all of the memory
pub station_leads : (role : Role) (n : Memory) (l k : StationMemory) (ps : List Write) → Leads (With (Rest role n)) l ps k
    → Leads (IsKept role) (with_station l n) ps (with_station k n)
unfolding Rest
station_leads role n l k ps x = leads_map (With (Rest role n)) (IsKept role) (λ (j : StationMemory). with_station j n)
    (λ j r q. record { station = q.kept; book = q.rest.0; sessions = q.rest.1 }) (λ j r q. record { kept = q.station; rest = (q.book, q.sessions) }) l k ps x

module _ (role : Role) (W : RingWord → Type 0) (L : Granted → Type 0) (P : Eui → Key → Type 0) (E : Eui → Type 0) (g : Given) (m : Memory)
    (words : (w : RingWord) → W w → WordFits w)
    (offers : (address : Option ℕ) (by origin : ℕ) (rank : Rank) → Offered g address by origin rank → EntryFits (routing.offered_entry origin rank by g.now))
    (known : (eui : Eui) → E eui → HasEui eui) (pairs : (eui : Eui) (psk : Key) → P eui psk → IsPair psk)
    (coordinator : (b : book.Book) (e : BookEntry) → EntryChange L P E m b e → role ≡ Coordinator)
    (grants : (granted : Granted) → L granted → IsHeld granted.key0 × IsHeld granted.key1) (sessions : All IsNamed m.sessions) where
  named : (eui : Eui) → EuiFrom E m eui → HasEui eui
  named eui (Known x is) = known x is
  named eui (OfSession x s there) = looked_up IsNamed m.sessions (position (coordinators.is_of x) m.sessions) s there sessions

  -- an entry is read back
  pub entry_fits : (b : book.Book) (e : BookEntry) → EntryChange L P E m b e → (r : Records) → IsBookKept b r → IsReadableEntry e
  entry_fits b e (Allows eui psk is pair room) r k = by_entry (book.entry_for b eui) refl
    where
      by_entry : (o : Option BookEntry) → book.entry_for b eui ≡ o → IsReadableEntry (book.allowed_entry eui psk o)
      by_entry None at = record { eui = known eui is; psk = pairs eui psk pair; key0 = none_held; key1 = none_held }
      by_entry (Some x) at =
          let h = looked_up IsReadableEntry b (book.place_of b eui) x at k.each in
          record { eui = known eui is; psk = pairs eui psk pair; key0 = h.key0; key1 = h.key1 }
  entry_fits b e (Issues eui granted x from given allowed) r k =
      let h = looked_up IsReadableEntry b (book.place_of b eui) x (stands b eui x allowed) k.each in
      let keys = grants granted given in
      record { eui = named eui from; psk = h.psk; key0 = keys.0; key1 = keys.1 }
  entry_fits b e (Kicks eui x is allowed) r k =
      let h = looked_up IsReadableEntry b (book.place_of b eui) x (stands b eui x allowed) k.each in
      record { eui = h.eui; psk = h.psk; key0 = none_held; key1 = none_held }

  pub entry_room : (b : book.Book) (e : BookEntry) → EntryChange L P E m b e → book.has_room b e.eui ≡ true
  entry_room b e (Allows eui psk is pair room) = by_entry (book.entry_for b eui)
    where
      by_entry : (o : Option BookEntry) → book.has_room b (book.allowed_entry eui psk o).eui ≡ true
      by_entry None = room
      by_entry (Some x) = room
  entry_room b e (Issues eui granted x from given allowed) = has_place b eui x (stands b eui x allowed)
  entry_room b e (Kicks eui x is allowed) =
      let at = stands b eui x allowed in
      ap (λ k. is_some (slots.place_of book.entries b k) || nat_lt (length b) 999) (same_number b eui x at) ∙ has_place b eui x at

  -- what changes beside line and book leaves the names of the sessions
  beside_named : (n k : Memory) → Beside E n k → All IsNamed n.sessions → All IsNamed k.sessions
  beside_named n k Ends all = all
  beside_named n k (Asks s) all = all
  beside_named n k (Replies s value here) all = all
  beside_named n k (Opens s value here room is) all = by_place (position (coordinators.is_of s.server.eui) n.sessions)
    where
      by_place : (o : Option ℕ) → All IsNamed (option_map_or (λ place. set n.sessions place s) o (n.sessions ++ s ∷ []))
      by_place None = All-push IsNamed n.sessions s all (known s.server.eui is)
      by_place (Some place) = All-set IsNamed n.sessions place s (known s.server.eui is) all
  beside_named n k (Answers s t eui there same) all = by_place (position (coordinators.is_of s.server.eui) n.sessions)
    where
      name : IsNamed s
      name = subst HasEui (sym same) (looked_up IsNamed n.sessions (position (coordinators.is_of eui) n.sessions) t there all)

      by_place : (o : Option ℕ) → All IsNamed (option_map_or (λ place. set n.sessions place s) o (n.sessions ++ s ∷ []))
      by_place None = All-push IsNamed n.sessions s all name
      by_place (Some place) = All-set IsNamed n.sessions place s name all
  beside_named n k (Closes eui) all = All-filter (λ s. not (coordinators.is_of eui s)) IsNamed n.sessions all
  beside_named n k (Gives value room) all = all

  beside_station : (n k : Memory) → Beside E n k → (k.station ≡ n.station) × (k.book ≡ n.book)
  beside_station n k Ends = (refl, refl)
  beside_station n k (Asks s) = (refl, refl)
  beside_station n k (Replies s value here) = (refl, refl)
  beside_station n k (Opens s value here room is) = (refl, refl)
  beside_station n k (Answers s t eui there same) = (refl, refl)
  beside_station n k (Closes eui) = (refl, refl)
  beside_station n k (Gives value room) = (refl, refl)

  pub beside_stays : (n k : Memory) (r : Records) → Beside E n k → IsKept role n r → IsKept role k r
  beside_stays n k r x q =
      let same = beside_station n k x in record { station = rw same.0 q.station; book = rw same.1 q.book; sessions = beside_named n k x q.sessions }

  -- nothing is offered where nothing is heard
  pub unheard_offers : (k : Given) (address : Option ℕ) (by origin : ℕ) (rank : Rank) → Offered (unheard k) address by origin rank
      → EntryFits (routing.offered_entry origin rank by k.now)
  unheard_offers k address by origin rank (ByRequest own number c o dest here apart few came_so) = let x = came_so.came.is in absurd (cc)
  unheard_offers k address by origin rank (ByReply own number c o to here apart few came_so) = let x = came_so.came.is in absurd (cc)
  unheard_offers k address by origin rank (ByItself is) = absurd (cc)

  pub made_in_adds : (d : Draft Memory) → MadeIn W L P E g m d → Adds (IsKept role) (empty_draft m) d
  unfolding empty_draft on_station with_memory_by with_pair_tags with_book_entry goes_up goes_down
  made_in_adds d Begins = adds_none (IsKept role) (empty_draft m)
  made_in_adds d (Station e made) =
      let a = made_adds (Rest role m) (rest_lasts role m) W g words offers (empty_draft m.station) e made in
      record { more = a.more; puts = a.puts; leads = station_leads role m m.station e.memory a.more a.leads }
  made_in_adds d (OnStation word e made step) =
      let a = made_adds (Rest role e.memory) (rest_lasts role e.memory) W (unheard g) words (unheard_offers g) (station_part e) (word (station_part e)) step in
      adds_then (IsKept role) (empty_draft m) e d a.more (made_in_adds e made) a.puts
      (station_leads role e.memory e.memory.station (word (station_part e)).memory a.more a.leads)
  made_in_adds d (Remembers change e made beside) =
      adds_beside (IsKept role) (empty_draft m) e d (made_in_adds e made) refl (λ r k. beside_stays e.memory (change e.memory) r beside k)
  made_in_adds d (Tags made opened e x) = adds_beside (IsKept role) (empty_draft m) e d (made_in_adds e x) refl (λ r k. k)
  made_in_adds d (Enters x e made change) = adds_then (IsKept role) (empty_draft m) e d _ (made_in_adds e made) refl
      (entry_leads role e.memory x (entry_fits e.memory.book x change) (entry_room e.memory.book x change) (coordinator e.memory.book x change))
  made_in_adds d (Up agent own message e made) = adds_beside (IsKept role) (empty_draft m) e d (made_in_adds e made) refl (λ r k. k)
  made_in_adds d (Down own message e made) = adds_beside (IsKept role) (empty_draft m) e d (made_in_adds e made) refl (λ r k. k)
