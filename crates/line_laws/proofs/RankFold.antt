-- A doing that is made of words has the account of ranks, in memory and after each front of its writes.
use Rattle.std.proofs.Common.{◌≡◌, inl, inr, ℕ, ◌<◌, Bool, true, false, List, [], ◌∷◌, ◌++◌, Option, Some, None, refl, sym, ap, ◌∙◌, subst, append_assoc}
use Rattle.std.proofs.Common.{append-nil, arith}
use Rattle.std.specs.Prelude.{IfSome, if◌then◌else◌}
use Rattle.std.specs.Option.{option_map}
use Rattle.plc_base.specs.Keeper.{Write}
use Rattle.store_tables.specs.Writes.{puts_of}
use Rattle.plc_base.specs.declared.address.Eui.{Eui}
use Rattle.plc_base.specs.declared.key.Key.{Key}
use Rattle.plc_base.specs.Grant.{Granted, keyed}
use Rattle.frame_counters.specs.SendCounter as counter
use Rattle.group_keys.specs.declared.key_book.BookEntry.{BookEntry}
use Rattle.group_keys.specs.KeyRing as ring
use Rattle.group_keys.specs.KeyBook as book
use Rattle.routing_set.specs.declared.rank.Rank.{Rank}
use Rattle.routing_set.specs.RoutingSet as routing
use Rattle.routing_set.specs.declared.entry.RoutingEntry.{RoutingEntry}
use Rattle.routing_set.proofs.RouteEnds.{kept_ended}
use Rattle.routing_set.specs.OwnNumber as own_number
use Rattle.node_rules.specs.Memory.{StationMemory, Memory, address_of}
use Rattle.node_rules.specs.Drafts.{Draft, empty_draft, with_rank, with_own_number, with_next_tag, with_ring, with_routing_by, goes, body_goes, waits, leave}
use Rattle.node_rules.specs.MemoryDrafts.{on_station, station_part, with_memory_by, with_pair_tags, goes_up, goes_down}
use Rattle.node_rules.specs.Coordinators.{with_book_entry}
use Rattle.line_laws.proofs.KeptMemory.{Leads, leads_beside, leads_append}
use Rattle.line_laws.proofs.StoreRanks.{EntryFits, IsRanged}
use Rattle.line_laws.proofs.Made.{RingWord, Install, RingChange, Drops, Installs, Draws, Activates, Given, Offered, Made, Starts, Ranks, Numbers, Tags, Rings}
use Rattle.line_laws.proofs.Made.{Idles, Loses, Goes, Sends, Waits, Leaves, ByRequest, ByReply, ByItself}
use Rattle.line_laws.proofs.MadeIn.{unheard, MadeIn, Begins, Station, OnStation, Remembers, Tags as TagsIn, Enters, Up, Down, Beside, Ends as EndsIn, Asks}
use Rattle.line_laws.proofs.MadeIn.{Replies, Opens, Answers, Closes, Gives}
use Rattle.std.proofs.lemmas.List.Elements.{All-map, All-weaker}
use Rattle.std.specs.Prelude.{All, ◌==◌}
use Rattle.routing_set.specs.Histories.{IsRouting}
use Rattle.line_laws.proofs.RankAccount.{Account, account_same, account_trans, offered_account, ended_account}
use Rattle.line_laws.specs.Stores.{HasShortRank}
use Rattle.line_laws.proofs.RankWrites.{RankKept, AreAway, away_leads, offered_leads}

-- # Writes beside ranks

low_away : (slot : ℕ) (octets : List ℕ) → slot < 5 → AreAway (record { slot = slot; octets = octets } ∷ [])
low_away slot octets low = (record { floors = omega arith; ranks = inl (omega arith) }, tt)

number_away : (n : own_number.Numbering) → AreAway (puts_of (own_number.advance_write n))
number_away n = by_due (own_number.passes n)
  where
    by_due : (b : Bool) → AreAway (puts_of (if b then own_number.limit_write (own_number.raised n.limit) else None))
    by_due true = low_away 3 _ (omega arith)
    by_due false = tt

pub counter_away : (c : counter.Counting) (count : ℕ) → AreAway (puts_of (counter.reserve_write c count))
counter_away c count = by_due (counter.passes c count)
  where
    by_due : (b : Bool) → AreAway (puts_of (if b then counter.limit_write (counter.raised c.limit) else None))
    by_due true = low_away 2 _ (omega arith)
    by_due false = tt

entry_away : (b : book.Book) (e : BookEntry) → AreAway (puts_of (book.change_write b e))
entry_away b e = by_held (book.holds b e)
  where
    by_held : (h : Bool) → AreAway (puts_of (if h then None else book.entry_write b e))
    by_held true = tt
    by_held false = (record { floors = omega arith; ranks = inr (omega arith) }, tt)

-- # The address

-- the address of a node, where it has one, is one of these
abbrev pub IsAt : (ℕ → Type 0) → Option ℕ → Type 0
IsAt At address = IfSome address At

module _ (At : ℕ → Type 0) (W : RingWord → Type 0) (installs : (granted : Granted) → W (Install granted) → At granted.address) where
  keyed_at : (g : Granted) (index : ℕ) (key : Key) → At g.address → At (keyed g index key).address
  keyed_at g index key e = by_index (index == 0)
    where
      by_index : (b : Bool) → At (if b then record g { key0 = Some key } else record g { key1 = Some key }).address
      by_index true = e
      by_index false = e

  ring_at : (r s : ring.Ring) → RingChange W r s → IsAt At (option_map (λ (g : Granted). g.address) r) → IsAt At (option_map (λ (g : Granted). g.address) s)
  ring_at r s Drops h = tt
  ring_at r s (Installs granted w) h = installs granted w
  ring_at None s (Draws index key w) h = tt
  ring_at (Some g) s (Draws index key w) h = keyed_at g index key h
  ring_at None s (Activates index w held) h = tt
  ring_at (Some g) s (Activates index w held) h = h

  pub made_at : (g : Given) (s d : Draft StationMemory) → Made W g s d → IsAt At (address_of s.memory) → IsAt At (address_of d.memory)
  unfolding with_rank with_own_number with_next_tag with_ring with_routing_by goes body_goes waits leave
  made_at g s d Starts h = h
  made_at g s d (Ranks by origin rank e made o fits) h = made_at g s e made h
  made_at g s d (Numbers e made left) h = made_at g s e made h
  made_at g s d (Tags e made first) h = made_at g s e made h
  made_at g s d (Rings r e made change) h = ring_at e.memory.ring r change (made_at g s e made h)
  made_at g s d (Idles e made) h = made_at g s e made h
  made_at g s d (Loses lost by e made) h = made_at g s e made h
  made_at g s d (Goes to unit note e made said alone) h = made_at g s e made h
  made_at g s d (Sends x hop to note load e made here there short carried alone) h = made_at g s e made h
  made_at g s d (Waits to note load now e made none room short carried alone) h = made_at g s e made h
  made_at g s d (Leaves x dest hop rank e made here offered) h = made_at g s e made h

-- # The account in memory

-- What is offered is in range, is no own address, and has its cause.
pub record OfferFits (Own : ℕ → Type 0) (C : ℕ → ℕ → Rank → Type 0) (by origin : ℕ) (rank : Rank) (now : ℕ) : Type 0 where
  pub fits : EntryFits (routing.offered_entry origin rank by now)
  pub apart : ¬ (Own origin)
  pub cause : C by origin rank

-- the routing after a word, in one step
module _ (At Own : ℕ → Type 0) (C : ℕ → ℕ → Rank → Type 0) (W : RingWord → Type 0) (g : Given)
    (installs : (granted : Granted) → W (Install granted) → At granted.address)
    (offers : (address : Option ℕ) → IsAt At address → (by origin : ℕ) (rank : Rank) → Offered g address by origin rank
    → OfferFits Own C by origin rank g.now) where
  abbrev routes : Draft StationMemory → routing.Routing
  routes d = d.memory.routing

  pub made_account : (s d : Draft StationMemory) → Made W g s d → IsAt At (address_of s.memory) → IsRouting s.memory.routing
      → Account Own C s.memory.routing d.memory.routing
  unfolding with_rank with_own_number with_next_tag with_ring with_routing_by goes body_goes waits leave
  made_account s d Starts h sound = account_same s.memory.routing sound
  made_account s d (Ranks by origin rank e made o fits) h sound =
      let a = made_account s e made h sound in
      let f = offers (address_of e.memory) (made_at At W installs g s e made h) by origin rank o in
      account_trans s.memory.routing e.memory.routing _ a (offered_account e.memory.routing origin rank by g.now a.sound fits.better fits.room f.apart f.cause)
  made_account s d (Numbers e made left) h sound = made_account s e made h sound
  made_account s d (Tags e made first) h sound = made_account s e made h sound
  made_account s d (Rings r e made change) h sound = made_account s e made h sound
  made_account s d (Idles e made) h sound =
      let a = made_account s e made h sound in account_trans s.memory.routing e.memory.routing _ a (ended_account e.memory.routing (λ _. true) a.sound)
  made_account s d (Loses lost by e made) h sound =
      let a = made_account s e made h sound in account_trans s.memory.routing e.memory.routing _ a (ended_account e.memory.routing _ a.sound)
  made_account s d (Goes to unit note e made said alone) h sound = made_account s e made h sound
  made_account s d (Sends x hop to note load e made here there short carried alone) h sound = made_account s e made h sound
  made_account s d (Waits to note load now e made none room short carried alone) h sound = made_account s e made h sound
  made_account s d (Leaves x dest hop rank e made here offered) h sound = made_account s e made h sound

  -- # The writes

  -- The writes that a doing has more lead from the ranks of the one to those of the other.
  pub record RankAdds (first : routing.Routing) (before : List Write) (t : routing.Routing) (after : List Write) (s : routing.Routing) : Type 0 where
    pub more : List Write
    pub puts : after ≡ before ++ more
    pub leads : Leads (RankKept Own C first) t more s

  module _ (first : routing.Routing) where
    number_range : (test : RoutingEntry → Bool) (t : routing.Routing) → IsRanged t → All HasShortRank (routing.ended test t).entries
    number_range test t x = All-map HasShortRank (λ e. if test e then routing.without_route e else e) t.entries
        (All-weaker HasShortRank (λ e. HasShortRank (if test e then routing.without_route e else e)) (λ e h. same (test e) e h) t.entries x.ranks)
      where
        same : (b : Bool) (e : RoutingEntry) → HasShortRank e → HasShortRank (if b then routing.without_route e else e)
        same true e h = h
        same false e h = h

    pub adds_none : (ps : List Write) (t : routing.Routing) → RankAdds first ps t ps t
    adds_none ps t = record { more = []; puts = sym (append-nil ps); leads = leads_beside (RankKept Own C first) t t (λ r q. q) }

    pub adds_then : (ps qs rs ws : List Write) (t s v : routing.Routing) → RankAdds first ps t qs s → rs ≡ qs ++ ws → Leads (RankKept Own C first) s ws v
        → RankAdds first ps t rs v
    adds_then ps qs rs ws t s v a is leads = record {
      more = a.more ++ ws;
      puts = is ∙ ap (λ xs. xs ++ ws) a.puts ∙ append_assoc ps a.more ws;
      leads = leads_append (RankKept Own C first) t s v a.more ws a.leads leads;
    }

    pub ended_leads : (t : routing.Routing) (test : RoutingEntry → Bool) → Leads (RankKept Own C first) t [] (routing.ended test t)
    ended_leads t test = leads_beside (RankKept Own C first) t _ (λ r q.
        let a = account_trans first t _ q.account (ended_account t test q.account.sound) in
        record {
          account = a;
          ranged = record { sound = a.sound; floors = q.ranged.floors; ranks = number_range test t q.ranged };
          kept = kept_ended test t r q.kept;
        })

    abbrev StationAdds : Draft StationMemory → Draft StationMemory → Type 0
    StationAdds s d = RankAdds first s.puts s.memory.routing d.puts d.memory.routing

    beside : (s d e : Draft StationMemory) → StationAdds s d → e.puts ≡ d.puts → e.memory.routing ≡ d.memory.routing → StationAdds s e
    beside s d e a is same =
        record { more = a.more; puts = is ∙ a.puts; leads = subst (λ t. Leads (RankKept Own C first) s.memory.routing a.more t) (sym same) a.leads }

    away : (s d e : Draft StationMemory) (ws : List Write) → StationAdds s d → e.puts ≡ d.puts ++ ws → AreAway ws
        → StationAdds s (record e { memory = record e.memory { routing = d.memory.routing } })
    away s d e ws a is far =
        adds_then s.puts d.puts e.puts ws s.memory.routing d.memory.routing d.memory.routing a is (away_leads Own C first d.memory.routing ws far)

    pub made_adds : (s d : Draft StationMemory) → Made W g s d → IsAt At (address_of s.memory) → StationAdds s d
    unfolding with_rank with_own_number with_next_tag with_ring with_routing_by goes body_goes waits leave
    made_adds s d Starts h = adds_none s.puts s.memory.routing
    made_adds s d (Ranks by origin rank e made o fits) h =
        let f = offers (address_of e.memory) (made_at At W installs g s e made h) by origin rank o in
        adds_then s.puts e.puts _ _ s.memory.routing e.memory.routing _ (made_adds s e made h) refl
        (offered_leads Own C first e.memory.routing origin rank by g.now f.fits fits.better fits.room f.apart f.cause)
    made_adds s d (Numbers e made left) h = away s e d _ (made_adds s e made h) refl (number_away e.memory.own_number)
    made_adds s d (Tags e made first) h = away s e d _ (made_adds s e made h) refl (low_away 4 _ (omega arith))
    made_adds s d (Rings r e made change) h = away s e d _ (made_adds s e made h) refl (low_away 1 _ (omega arith))
    made_adds s d (Idles e made) h = adds_then s.puts e.puts _ [] s.memory.routing e.memory.routing _ (made_adds s e made h) (sym (append-nil e.puts))
        (ended_leads e.memory.routing (λ _. true))
    made_adds s d (Loses lost by e made) h =
        adds_then s.puts e.puts _ [] s.memory.routing e.memory.routing _ (made_adds s e made h) (sym (append-nil e.puts)) (ended_leads e.memory.routing _)
    made_adds s d (Goes to unit note e made said alone) h = beside s e d (made_adds s e made h) refl refl
    made_adds s d (Sends x hop to note load e made here there short carried alone) h = beside s e d (made_adds s e made h) refl refl
    made_adds s d (Waits to note load now e made none room short carried alone) h = beside s e d (made_adds s e made h) refl refl
    made_adds s d (Leaves x dest hop rank e made here offered) h = beside s e d (made_adds s e made h) refl refl

-- # Over all of the memory

-- nothing is offered where nothing is heard
unheard_none : (g : Given) (address : Option ℕ) (by origin : ℕ) (rank : Rank) → Offered (unheard g) address by origin rank → ⊥
unheard_none g address by origin rank (ByRequest own number c o dest here apart few came_so) = let x = came_so.came.is in absurd (cc)
unheard_none g address by origin rank (ByReply own number c o to here apart few came_so) = let x = came_so.came.is in absurd (cc)
unheard_none g address by origin rank (ByItself is) = absurd (cc)

pub unheard_fits : (At Own : ℕ → Type 0) (C : ℕ → ℕ → Rank → Type 0) (g : Given) (address : Option ℕ) → IsAt At address → (by origin : ℕ) (rank : Rank)
    → Offered (unheard g) address by origin rank → OfferFits Own C by origin rank g.now
unheard_fits At Own C g address at by origin rank o = absurd (unheard_none g address by origin rank o)

pub beside_station : (E : Eui → Type 0) (n k : Memory) → Beside E n k → k.station ≡ n.station
beside_station E n k EndsIn = refl
beside_station E n k (Asks s) = refl
beside_station E n k (Replies s value here) = refl
beside_station E n k (Opens s value here room is) = refl
beside_station E n k (Answers s t eui there same) = refl
beside_station E n k (Closes eui) = refl
beside_station E n k (Gives value room) = refl

module _ (At Own : ℕ → Type 0) (C : ℕ → ℕ → Rank → Type 0) (W : RingWord → Type 0) (L : Granted → Type 0) (P : Eui → Key → Type 0) (E : Eui → Type 0)
    (g : Given) (m : Memory)
    (installs : (granted : Granted) → W (Install granted) → At granted.address)
    (offers : (address : Option ℕ) → IsAt At address → (by origin : ℕ) (rank : Rank) → Offered g address by origin rank
    → OfferFits Own C by origin rank g.now) where
  pub made_in_at : (d : Draft Memory) → MadeIn W L P E g m d → IsAt At (address_of m.station) → IsAt At (address_of d.memory.station)
  unfolding empty_draft on_station with_memory_by with_pair_tags with_book_entry goes_up goes_down
  made_in_at d Begins h = h
  made_in_at d (Station e made) h = made_at At W installs g (empty_draft m.station) e made h
  made_in_at d (OnStation word e made step) h = made_at At W installs (unheard g) (station_part e) (word (station_part e)) step (made_in_at e made h)
  made_in_at d (Remembers change e made beside) h =
      subst (λ (l : StationMemory). IsAt At (address_of l)) (sym (beside_station E e.memory (change e.memory) beside)) (made_in_at e made h)
  made_in_at d (TagsIn made opened e x) h = made_in_at e x h
  made_in_at d (Enters x e made change) h = made_in_at e made h
  made_in_at d (Up agent x message e made) h = made_in_at e made h
  made_in_at d (Down x message e made) h = made_in_at e made h

  pub made_in_account : (d : Draft Memory) → MadeIn W L P E g m d → IsAt At (address_of m.station) → IsRouting m.station.routing
      → Account Own C m.station.routing d.memory.station.routing
  unfolding empty_draft on_station with_memory_by with_pair_tags with_book_entry goes_up goes_down
  made_in_account d Begins h sound = account_same m.station.routing sound
  made_in_account d (Station e made) h sound = made_account At Own C W g installs offers (empty_draft m.station) e made h sound
  made_in_account d (OnStation word e made step) h sound =
      let a = made_in_account e made h sound in
      account_trans m.station.routing e.memory.station.routing _ a
      (made_account At Own C W (unheard g) installs (unheard_fits At Own C g) (station_part e) (word (station_part e)) step (made_in_at e made h) a.sound)
  made_in_account d (Remembers change e made beside) h sound = subst (λ (l : StationMemory). Account Own C m.station.routing l.routing)
      (sym (beside_station E e.memory (change e.memory) beside)) (made_in_account e made h sound)
  made_in_account d (TagsIn made opened e x) h sound = made_in_account e x h sound
  made_in_account d (Enters x e made change) h sound = made_in_account e made h sound
  made_in_account d (Up agent x message e made) h sound = made_in_account e made h sound
  made_in_account d (Down x message e made) h sound = made_in_account e made h sound

  module _ (first : routing.Routing) where
    abbrev MemoryAdds : Draft Memory → Type 0
    MemoryAdds d = RankAdds At Own C W g installs offers first [] m.station.routing d.puts d.memory.station.routing

    pub made_in_adds : (d : Draft Memory) → MadeIn W L P E g m d → IsAt At (address_of m.station) → MemoryAdds d
    unfolding empty_draft on_station with_memory_by with_pair_tags with_book_entry goes_up goes_down
    made_in_adds d Begins h = adds_none At Own C W g installs offers first [] m.station.routing
    made_in_adds d (Station e made) h = made_adds At Own C W g installs offers first (empty_draft m.station) e made h
    made_in_adds d (OnStation word e made step) h =
        let a = made_adds At Own C W (unheard g) installs (unheard_fits At Own C g) first (station_part e) (word (station_part e)) step (made_in_at e made h) in
        adds_then At Own C W g installs offers first [] e.puts _ a.more m.station.routing e.memory.station.routing _ (made_in_adds e made h) a.puts a.leads
    made_in_adds d (Remembers change e made beside) h =
        subst (λ (l : StationMemory). RankAdds At Own C W g installs offers first [] m.station.routing e.puts l.routing)
        (sym (beside_station E e.memory (change e.memory) beside)) (made_in_adds e made h)
    made_in_adds d (TagsIn made opened e x) h = made_in_adds e x h
    made_in_adds d (Enters x e made change) h =
        adds_then At Own C W g installs offers first [] e.puts _ _ m.station.routing e.memory.station.routing e.memory.station.routing (made_in_adds e made h)
        refl (away_leads Own C first e.memory.station.routing _ (entry_away e.memory.book x))
    made_in_adds d (Up agent x message e made) h = made_in_adds e made h
    made_in_adds d (Down x message e made) h = made_in_adds e made h
