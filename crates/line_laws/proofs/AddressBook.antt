-- The book that the records of the coordinator give: whatever becomes of a plan's writes, every address in it stays.
use Rattle.std.proofs.Common.{◌≡◌, ℕ, zero, suc, ◌<◌, ◌≤◌, Bool, true, false, List, [], ◌∷◌, length, Option, Some, None, Result, refl, sym, ap, ◌∙◌, subst}
use Rattle.std.proofs.Common.{arith}
use Rattle.std.specs.Prelude.{if◌then◌else◌, All, slice_get}
use Rattle.std.specs.Option.{option_map}
use Rattle.std.proofs.lemmas.Option.{same_Some}
use Rattle.plc_base.specs.declared.address.Eui.{Eui}
use Rattle.plc_base.specs.declared.key.Key.{Key}
use Rattle.plc_base.specs.Grant.{Granted}
use Rattle.plc_base.specs.Keeper.{Records, Write}
use Rattle.store_tables.specs.Writes.{puts_of}
use Rattle.frame_counters.specs.SendCounter as counter
use Rattle.group_keys.specs.declared.key_book.BookEntry.{BookEntry}
use Rattle.group_keys.specs.KeyBook as book
use Rattle.group_keys.proofs.Books.{address_kept}
use Rattle.routing_set.specs.declared.rank.Rank.{Rank}
use Rattle.routing_set.specs.RoutingSet as routing
use Rattle.node_rules.specs.Memory.{StationMemory, Memory, Coordinator}
use Rattle.node_rules.specs.Plans.{Plan, resting}
use Rattle.node_rules.specs.Drafts.{Draft, Ends, empty_draft, counters_left, counted}
use Rattle.node_rules.specs.MemoryDrafts.{in_memory, with_station, on_station, station_part, with_memory_by, with_pair_tags, goes_up, goes_down}
use Rattle.node_rules.specs.Coordinators.{with_book_entry}
use Rattle.node_rules.proofs.Sizes.{pending}
use Rattle.line_laws.specs.Stores.{IsHeld, IsReadableEntry, IsBookKept, IsNamed, IsKept, HasEui, IsPair}
use Rattle.line_laws.proofs.KeptMemory.{Leads, leads_beside, leads_one, leads_append, leads_when, leads_map}
use Rattle.line_laws.proofs.Beside.{With, low_when}
use Rattle.line_laws.proofs.StoreWords.{counter_leads}
use Rattle.line_laws.proofs.StoreRanks.{EntryFits}
use Rattle.line_laws.proofs.StoreFold.{WordFits, Adds, adds_none, adds_then, adds_beside, made_adds}
use Rattle.line_laws.proofs.StoreBook.{Rest, rest_lasts, holds_same, kept_with, same_book, entry_fits, entry_room, beside_stays, unheard_offers}
use Rattle.line_laws.proofs.StorePlans.{made_in_counter}
use Rattle.line_laws.proofs.Planned.{Planned, Refuses, Keeps, Ended}
use Rattle.line_laws.proofs.Made.{RingWord, Given, Offered}
use Rattle.line_laws.proofs.MadeIn.{unheard, EntryChange, MadeIn, Begins, Station, OnStation, Remembers, Tags as TagsIn, Enters, Up, Down, Beside}
use Rattle.line_laws.proofs.MadeIn.{Ends as EndsIn, Asks, Replies, Opens, Answers, Closes, Gives}
use Rattle.line_laws.proofs.CallForms.{Few}

-- every address stays
abbrev pub Grows : book.Book → book.Book → Type 0
Grows b c = (eui : Eui) (a : ℕ) → book.address_of b eui ≡ Some a → book.address_of c eui ≡ Some a

pub grows_entry : (b c : book.Book) (e : BookEntry) → Grows b c → Grows b (book.with_entry c e)
grows_entry b c e g eui a h = address_kept c e eui a (g eui a h)

-- The memory of the coordinator is what the records give, and V holds of its book, as that every address of an earlier one stays.
pub record Grown (V : book.Book → Type 0) (m : Memory) (r : Records) : Type 0 where
  pub kept : IsKept Coordinator m r
  pub grows : V m.book

beside_book : (E : Eui → Type 0) (n k : Memory) → Beside E n k → k.book ≡ n.book
beside_book E n k EndsIn = refl
beside_book E n k (Asks s) = refl
beside_book E n k (Replies s value here) = refl
beside_book E n k (Opens s value here room is) = refl
beside_book E n k (Answers s t eui there same) = refl
beside_book E n k (Closes eui) = refl
beside_book E n k (Gives value room) = refl

module _ (V : book.Book → Type 0) where
  -- a line's writes
  pub station_grown : (n : Memory) (l k : StationMemory) (ps : List Write) → Leads (With (Rest Coordinator n)) l ps k
      → Leads (Grown V) (with_station l n) ps (with_station k n)
  unfolding Rest
  station_grown n l k ps x = leads_when (Grown V) (with_station l n) (with_station k n) ps (λ s t.
      leads_map (With (Rest Coordinator n)) (Grown V) (λ (j : StationMemory). with_station j n)
      (λ j r q. record { kept = record { station = q.kept; book = q.rest.0; sessions = q.rest.1 }; grows = t.grows })
      (λ j r q. record { kept = q.kept.station; rest = (q.kept.book, q.kept.sessions) }) l k ps x)

  -- an entry is stored where it changes
  entry_grown : (m : Memory) (e : BookEntry) → ((r : Records) → IsBookKept m.book r → IsReadableEntry e) → book.has_room m.book e.eui ≡ true
      → (V m.book → V (book.with_entry m.book e))
      → Leads (Grown V) m (puts_of (book.change_write m.book e)) (record m { book = book.with_entry m.book e })
  entry_grown m e fits room step = by_holding (book.holds m.book e) refl
    where
      by_holding : (h : Bool) → book.holds m.book e ≡ h
          → Leads (Grown V) m (puts_of (if h then None else book.entry_write m.book e)) (record m { book = book.with_entry m.book e })
      by_holding true same =
          leads_beside (Grown V) m _ (λ r k. record { kept = same_book Coordinator m _ r k.kept (holds_same m.book e same); grows = step k.grows })
      by_holding false other = leads_one (Grown V) m _ _ (λ r k. record { kept = kept_with Coordinator m e r k.kept fits room refl; grows = step k.grows })

  module _ (W : RingWord → Type 0) (L : Granted → Type 0) (P : Eui → Key → Type 0) (E : Eui → Type 0) (g : Given) (m : Memory)
      (words : (w : RingWord) → W w → WordFits w)
      (offers : (address : Option ℕ) (by origin : ℕ) (rank : Rank) → Offered g address by origin rank → EntryFits (routing.offered_entry origin rank by g.now))
      (known : (eui : Eui) → E eui → HasEui eui) (pairs : (eui : Eui) (psk : Key) → P eui psk → IsPair psk)
      (steps : (x : book.Book) (e : BookEntry) → EntryChange L P E m x e → V x → V (book.with_entry x e)) where
    abbrev coordinator : (x : book.Book) (e : BookEntry) → EntryChange L P E m x e → Coordinator ≡ Coordinator
    coordinator x e change = refl

    made_in_grown : (grants : (granted : Granted) → L granted → IsHeld granted.key0 × IsHeld granted.key1) (sessions : All IsNamed m.sessions)
        (d : Draft Memory) → MadeIn W L P E g m d → Adds (Grown V) (empty_draft m) d
    unfolding empty_draft on_station with_memory_by with_pair_tags with_book_entry goes_up goes_down
    made_in_grown grants sessions d Begins = adds_none (Grown V) (empty_draft m)
    made_in_grown grants sessions d (Station e made) =
        let a = made_adds (Rest Coordinator m) (rest_lasts Coordinator m) W g words offers (empty_draft m.station) e made in
        record { more = a.more; puts = a.puts; leads = station_grown m m.station e.memory a.more a.leads }
    made_in_grown grants sessions d (OnStation word e made step) =
        let a = made_adds (Rest Coordinator e.memory) (rest_lasts Coordinator e.memory) W (unheard g) words
        (unheard_offers Coordinator W L P E g m words offers known pairs coordinator grants sessions g) (station_part e) (word (station_part e)) step in
        adds_then (Grown V) (empty_draft m) e d a.more (made_in_grown grants sessions e made) a.puts
        (station_grown e.memory e.memory.station (word (station_part e)).memory a.more a.leads)
    made_in_grown grants sessions d (Remembers change e made beside) =
        adds_beside (Grown V) (empty_draft m) e d (made_in_grown grants sessions e made) refl (λ r k.
        record {
          kept = beside_stays Coordinator W L P E g m words offers known pairs coordinator grants sessions e.memory (change e.memory) r beside k.kept;
          grows = subst V (sym (beside_book E e.memory (change e.memory) beside)) k.grows;
        })
    made_in_grown grants sessions d (TagsIn made opened e x) =
        adds_beside (Grown V) (empty_draft m) e d (made_in_grown grants sessions e x) refl (λ r k. record { kept = k.kept; grows = k.grows })
    made_in_grown grants sessions d (Enters x e made change) = adds_then (Grown V) (empty_draft m) e d _ (made_in_grown grants sessions e made) refl
        (entry_grown e.memory x (entry_fits Coordinator W L P E g m words offers known pairs coordinator grants sessions e.memory.book x change)
        (entry_room Coordinator W L P E g m words offers known pairs coordinator grants sessions e.memory.book x change) (steps e.memory.book x change))
    made_in_grown grants sessions d (Up agent own message e made) =
        adds_beside (Grown V) (empty_draft m) e d (made_in_grown grants sessions e made) refl (λ r k. record { kept = k.kept; grows = k.grows })
    made_in_grown grants sessions d (Down own message e made) =
        adds_beside (Grown V) (empty_draft m) e d (made_in_grown grants sessions e made) refl (λ r k. record { kept = k.kept; grows = k.grows })

    counted_grown : (d : Draft Memory) (count : ℕ) → count ≤ 24 → count ≤ counters_left m.station → d.memory.station.counter ≡ m.station.counter
        → Leads (Grown V) d.memory (puts_of (counter.reserve_write d.memory.station.counter count)) (counted in_memory count d.memory)
    counted_grown d count few left same =
        station_grown d.memory d.memory.station (record d.memory.station { counter = counter.reserved d.memory.station.counter count }) _
        (low_when (Rest Coordinator d.memory) (rest_lasts Coordinator d.memory) _ _ _ (λ r k.
        let below = k.counter.below in
        let fits = k.range.counter in
        let next = ap (λ (c : counter.Counting). c.next) same in
        counter_leads (Rest Coordinator d.memory) (rest_lasts Coordinator d.memory) d.memory.station count (omega arith) (omega arith)))

    pub plan_grown : (grants : (r : Records) → IsKept Coordinator m r → (granted : Granted) → L granted → IsHeld granted.key0 × IsHeld granted.key1)
        {H F : Type 0} (ends : Ends F) (K : Memory → H → Type 0)
        → ((n : Memory) (answer : H) → K n answer → (r : Records) → Grown V m r → Grown V n r)
        → (p : Plan Memory (Result H F)) → Planned in_memory ends m K (λ d (a : H). MadeIn W L P E g m d × Few m.station d) p → pending m.station ≤ 21
        → Leads (Grown V) m p.puts p.memory
    unfolding resting empty_draft
    plan_grown grants ends K beside p (Refuses reason) waits = leads_beside (Grown V) m m (λ r k. k)
    plan_grown grants ends K beside p (Keeps n answer k) waits = leads_beside (Grown V) m n (beside n answer k)
    plan_grown grants ends K beside p (Ended d answer done left) waits = leads_when (Grown V) m _ _ (λ r k.
        let a = made_in_grown (grants r k.kept) k.kept.sessions d done.0 in
        let few = done.1.few waits in
        leads_append (Grown V) m d.memory _ d.puts _ (subst (λ ps. Leads (Grown V) m ps d.memory) (sym a.puts) a.leads)
        (counted_grown d (length d.units) (omega arith) left (made_in_counter W L P E g m d done.0)))

-- # The book that the records give is one

some_same : (a b : Option BookEntry) → option_map (λ e. Some e) a ≡ option_map (λ e. Some e) b → a ≡ b
some_same None None e = refl
some_same None (Some y) e = absurd (cc)
some_same (Some x) None e = absurd (cc)
some_same (Some x) (Some y) e = same_Some _ _ e

lists_same : (n : ℕ) (xs ys : List BookEntry) → length xs ≤ n → length ys ≤ n → ((k : ℕ) → k < n → slice_get xs k ≡ slice_get ys k) → xs ≡ ys
lists_same n [] [] a b f = refl
lists_same zero [] (y ∷ ys) a b f = absurd (omega arith)
lists_same (suc n) [] (y ∷ ys) a b f = absurd (nothing y (f 0 (omega arith)))
  where
    nothing : (y : BookEntry) → None ≡ Some y → ⊥
    nothing y e = cc
lists_same zero (x ∷ xs) ys a b f = absurd (omega arith)
lists_same (suc n) (x ∷ xs) [] a b f = absurd (something x (f 0 (omega arith)))
  where
    something : (y : BookEntry) → Some y ≡ None → ⊥
    something y e = cc
lists_same (suc n) (x ∷ xs) (y ∷ ys) a b f =
    let first : x ≡ y = same_Some _ _ (f 0 (omega arith)) in
    let rest : xs ≡ ys = lists_same n xs ys (omega arith) (omega arith) (λ k lt. f (suc k) (omega arith)) in
    ap (λ z. z ∷ xs) first ∙ ap (λ zs. y ∷ zs) rest

pub one_book : (a b : book.Book) (r : Records) → IsBookKept a r → IsBookKept b r → a ≡ b
one_book a b r h k = lists_same 999 a b h.table.short k.table.short
    (λ place within. some_same (slice_get a place) (slice_get b place) (sym (h.stored.each place within) ∙ k.stored.each place within))
