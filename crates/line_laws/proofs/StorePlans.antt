-- A plan of a meter or the coordinator keeps its memory with its records, whatever becomes of its writes.
use Rattle.std.proofs.Common.{◌≡◌, ℕ, ◌≤◌, ◌++◌, length, Option, Result, refl, sym, ap, ◌∙◌, subst, arith}
use Rattle.plc_base.specs.Keeper.{Records}
use Rattle.store_tables.specs.Writes.{puts_of}
use Rattle.plc_base.specs.declared.address.Eui.{Eui}
use Rattle.plc_base.specs.declared.key.Key.{Key}
use Rattle.plc_base.specs.Grant.{Granted}
use Rattle.group_keys.specs.declared.key_book.BookEntry.{BookEntry}
use Rattle.group_keys.specs.KeyBook as book
use Rattle.frame_counters.specs.SendCounter as counter
use Rattle.routing_set.specs.declared.rank.Rank.{Rank}
use Rattle.routing_set.specs.RoutingSet as routing
use Rattle.node_rules.specs.Memory.{StationMemory, Memory, Role, Coordinator}
use Rattle.node_rules.specs.Plans.{Plan, resting}
use Rattle.node_rules.specs.Drafts.{Draft, Ends, empty_draft, counters_left, counted, with_rank, with_own_number, with_next_tag, with_ring, with_routing_by}
use Rattle.node_rules.specs.Drafts.{goes, body_goes, waits, leave}
use Rattle.node_rules.specs.MemoryDrafts.{in_memory, on_station, station_part, with_memory_by, with_pair_tags, goes_up, goes_down}
use Rattle.node_rules.specs.Coordinators.{with_book_entry}
use Rattle.node_rules.proofs.Sizes.{pending}
use Rattle.line_laws.specs.Stores.{IsHeld, IsKept, HasEui, IsPair}
use Rattle.line_laws.proofs.KeptMemory.{Leads, leads_beside, leads_append, leads_when}
use Rattle.line_laws.proofs.Beside.{low_when}
use Rattle.line_laws.proofs.StoreWords.{counter_leads}
use Rattle.line_laws.proofs.StoreRanks.{EntryFits}
use Rattle.line_laws.proofs.StoreFold.{WordFits}
use Rattle.line_laws.proofs.StoreBook.{Rest, rest_lasts, station_leads, made_in_adds}
use Rattle.line_laws.proofs.Planned.{Planned, Refuses, Keeps, Ended}
use Rattle.line_laws.proofs.Made.{RingWord, Given, Offered, Made, Starts, Ranks, Numbers, Tags, Rings, Idles, Loses, Goes, Sends, Waits, Leaves}
use Rattle.line_laws.proofs.MadeIn.{unheard, EntryChange, MadeIn, Begins, Station, OnStation, Remembers, Tags as TagsIn, Enters, Up, Down, Beside}
use Rattle.line_laws.proofs.MadeIn.{Ends as EndsIn, Asks, Replies, Opens, Answers, Closes, Gives}
use Rattle.line_laws.proofs.CallForms.{Few}

-- # The counter stays until the units are sealed

pub made_counter : (W : RingWord → Type 0) (g : Given) (s d : Draft StationMemory) → Made W g s d → d.memory.counter ≡ s.memory.counter
unfolding with_rank with_own_number with_next_tag with_ring with_routing_by goes body_goes waits leave
made_counter W g s d Starts = refl
made_counter W g s d (Ranks by origin rank e made o fits) = made_counter W g s e made
made_counter W g s d (Numbers e made left) = made_counter W g s e made
made_counter W g s d (Tags e made first) = made_counter W g s e made
made_counter W g s d (Rings x e made change) = made_counter W g s e made
made_counter W g s d (Idles e made) = made_counter W g s e made
made_counter W g s d (Loses lost by e made) = made_counter W g s e made
made_counter W g s d (Goes to unit note e made said alone) = made_counter W g s e made
made_counter W g s d (Sends own hop to note load e made here there short carried alone) = made_counter W g s e made
made_counter W g s d (Waits to note load now e made none room short carried alone) = made_counter W g s e made
made_counter W g s d (Leaves own dest hop rank e made here offered) = made_counter W g s e made

pub beside_station_of : (E : Eui → Type 0) (n k : Memory) → Beside E n k → k.station ≡ n.station
beside_station_of E n k EndsIn = refl
beside_station_of E n k (Asks s) = refl
beside_station_of E n k (Replies s value here) = refl
beside_station_of E n k (Opens s value here room is) = refl
beside_station_of E n k (Answers s t eui there same) = refl
beside_station_of E n k (Closes eui) = refl
beside_station_of E n k (Gives value room) = refl

pub made_in_counter : (W : RingWord → Type 0) (L : Granted → Type 0) (P : Eui → Key → Type 0) (E : Eui → Type 0) (g : Given) (m : Memory) (d : Draft Memory)
    → MadeIn W L P E g m d
    → d.memory.station.counter ≡ m.station.counter
unfolding empty_draft on_station with_memory_by with_pair_tags with_book_entry goes_up goes_down
made_in_counter W L P E g m d Begins = refl
made_in_counter W L P E g m d (Station e made) = made_counter W g (empty_draft m.station) e made
made_in_counter W L P E g m d (OnStation word e made step) =
    made_counter W (unheard g) (station_part e) (word (station_part e)) step ∙ made_in_counter W L P E g m e made
made_in_counter W L P E g m d (Remembers change e made beside) =
    ap (λ (l : StationMemory). l.counter) (beside_station_of E e.memory (change e.memory) beside) ∙ made_in_counter W L P E g m e made
made_in_counter W L P E g m d (TagsIn made opened e x) = made_in_counter W L P E g m e x
made_in_counter W L P E g m d (Enters x e made change) = made_in_counter W L P E g m e made
made_in_counter W L P E g m d (Up agent own message e made) = made_in_counter W L P E g m e made
made_in_counter W L P E g m d (Down own message e made) = made_in_counter W L P E g m e made

-- # Plans

module _ (role : Role) (W : RingWord → Type 0) (L : Granted → Type 0) (P : Eui → Key → Type 0) (E : Eui → Type 0) (g : Given) (m : Memory)
    (words : (w : RingWord) → W w → WordFits w)
    (offers : (address : Option ℕ) (by origin : ℕ) (rank : Rank) → Offered g address by origin rank → EntryFits (routing.offered_entry origin rank by g.now))
    (known : (eui : Eui) → E eui → HasEui eui) (pairs : (eui : Eui) (psk : Key) → P eui psk → IsPair psk)
    (coordinator : (b : book.Book) (e : BookEntry) → EntryChange L P E m b e → role ≡ Coordinator)
    (grants : (r : Records) → IsKept role m r → (granted : Granted) → L granted → IsHeld granted.key0 × IsHeld granted.key1) where
  abbrev pub MadeFew : {H : Type 0} → Draft Memory → H → Type 0
  MadeFew d said = MadeIn W L P E g m d × Few m.station d

  -- the frames take their counters
  counted_leads : (d : Draft Memory) (count : ℕ) → count ≤ 24 → count ≤ counters_left m.station → d.memory.station.counter ≡ m.station.counter
      → Leads (IsKept role) d.memory (puts_of (counter.reserve_write d.memory.station.counter count)) (counted in_memory count d.memory)
  counted_leads d count few left same =
      station_leads role d.memory d.memory.station (record d.memory.station { counter = counter.reserved d.memory.station.counter count }) _
      (low_when (Rest role d.memory) (rest_lasts role d.memory) _ _ _ (λ r k.
      let below = k.counter.below in
      let fits = k.range.counter in
      let next = ap (λ (c : counter.Counting). c.next) same in
      counter_leads (Rest role d.memory) (rest_lasts role d.memory) d.memory.station count (omega arith) (omega arith)))

  ended_leads : (d : Draft Memory) → MadeIn W L P E g m d → Few m.station d → length d.units ≤ counters_left m.station → pending m.station ≤ 21
      → Leads (IsKept role) m (d.puts ++ puts_of (counter.reserve_write d.memory.station.counter (length d.units)))
      (counted in_memory (length d.units) d.memory)
  unfolding empty_draft
  ended_leads d made f left waits = leads_when (IsKept role) m _ _ (λ r k.
      let a = made_in_adds role W L P E g m words offers known pairs coordinator (grants r k) k.sessions d made in
      let few = f.few waits in
      leads_append (IsKept role) m d.memory _ d.puts _ (subst (λ ps. Leads (IsKept role) m ps d.memory) (sym a.puts) a.leads)
      (counted_leads d (length d.units) (omega arith) left (made_in_counter W L P E g m d made)))

  pub plan_leads : {H F : Type 0} (ends : Ends F) (K : Memory → H → Type 0)
      → ((n : Memory) (answer : H) → K n answer → (r : Records) → IsKept role m r → IsKept role n r)
      → (p : Plan Memory (Result H F)) → Planned in_memory ends m K MadeFew p → pending m.station ≤ 21 → Leads (IsKept role) m p.puts p.memory
  unfolding resting
  plan_leads ends K beside p (Refuses reason) waits = leads_beside (IsKept role) m m (λ r k. k)
  plan_leads ends K beside p (Keeps n answer k) waits = leads_beside (IsKept role) m n (beside n answer k)
  plan_leads ends K beside p (Ended d answer done left) waits = ended_leads d done.0 done.1 left waits
