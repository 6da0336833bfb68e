-- What plans do to the marks: all but accepting a frame leave them, in memory and in the store.
use Rattle.std.proofs.Common.{◌≡◌, ◌⊎◌, inl, inr, ℕ, ◌<◌, ◌≤◌, Bool, true, false, List, [], ◌∷◌, ◌++◌, length, Option, Some, None, Result, refl, sym, ap, ◌∙◌}
use Rattle.std.proofs.Common.{subst, arith}
use Rattle.std.specs.Prelude.{if◌then◌else◌}
use Rattle.std.specs.FinMap.{insert}
use Rattle.plc_base.specs.Keeper.{Records, Write}
use Rattle.store_tables.specs.Writes.{puts_of}
use Rattle.plc_base.specs.declared.address.Eui.{Eui}
use Rattle.plc_base.specs.declared.key.Key.{Key}
use Rattle.plc_base.specs.Grant.{Granted}
use Rattle.frame_counters.specs.SendCounter as counter
use Rattle.frame_counters.specs.PeerMarks as marks
use Rattle.frame_counters.specs.Laws.{AreMarksIn}
use Rattle.group_keys.specs.declared.key_book.BookEntry.{BookEntry}
use Rattle.group_keys.specs.KeyBook as book
use Rattle.routing_set.specs.declared.entry.RoutingEntry.{RoutingEntry}
use Rattle.routing_set.specs.RoutingSet as routing
use Rattle.routing_set.specs.OwnNumber as own_number
use Rattle.node_rules.specs.Memory.{StationMemory, Memory}
use Rattle.node_rules.specs.Plans.{Plan, resting}
use Rattle.node_rules.specs.Drafts.{Draft, Ends, empty_draft, counted, with_rank, with_own_number, with_next_tag, with_ring, with_routing_by, goes, body_goes}
use Rattle.node_rules.specs.Drafts.{waits, leave}
use Rattle.node_rules.specs.MemoryDrafts.{in_memory, on_station, station_part, with_memory_by, with_pair_tags, goes_up, goes_down}
use Rattle.node_rules.specs.Coordinators.{with_book_entry}
use Rattle.line_laws.proofs.KeptMemory.{Leads}
use Rattle.line_laws.proofs.Slots.{marks_stay}
use Rattle.line_laws.proofs.MarkOrder.{Raised}
use Rattle.line_laws.proofs.Planned.{Planned, Refuses, Keeps, Ended}
use Rattle.line_laws.proofs.Made.{RingWord, Given, Made, Starts, Ranks, Numbers, Tags, Rings, Idles, Loses, Goes, Sends, Waits, Leaves}
use Rattle.line_laws.proofs.MadeIn.{unheard, MadeIn, Begins, Station, OnStation, Remembers, Tags as TagsIn, Enters, Up, Down}
use Rattle.line_laws.proofs.StorePlans.{beside_station_of}

-- Marks in memory are what the records give, none is above the stored one, and none is lower than in an earlier table.
pub record MarksFrom (first : marks.Table) (m : Memory) (r : Records) : Type 0 where
  pub stored : AreMarksIn m.station.marks r
  pub covered : marks.IsCovered m.station.marks
  pub raised : Raised first m.station.marks

-- whatever becomes of a plan's writes, the marks do not fall
abbrev pub PlanMarks : {A : Type 0} → Memory → Plan Memory A → Type 0
PlanMarks m p = (first : marks.Table) → Leads (MarksFrom first) m p.puts p.memory

-- # Writes that leave the marks

abbrev pub IsAway : Write → Type 0
IsAway w = (w.slot < 0x0100) ⊎ (0x0140 ≤ w.slot)

abbrev pub AreAway : List Write → Type 0
AreAway [] = Unit {0}
AreAway (w ∷ ws) = IsAway w × AreAway ws

pub away_append : (ps qs : List Write) → AreAway ps → AreAway qs → AreAway (ps ++ qs)
away_append [] qs h k = k
away_append (p ∷ ps) qs h k = (h.0, away_append ps qs h.1 k)

module _ (first : marks.Table) where
  put_away : (m : Memory) (r : Records) (w : Write) → IsAway w → MarksFrom first m r → MarksFrom first m (insert r w.slot w.octets)
  put_away m r w away k = record {
    stored = record { kept = marks_stay r w.slot w.octets m.station.marks k.stored.kept away; sound = k.stored.sound };
    covered = k.covered;
    raised = k.raised;
  }

  same_marks : (m n : Memory) (r : Records) → n.station.marks ≡ m.station.marks → MarksFrom first m r → MarksFrom first n r
  same_marks m n r e k = record {
    stored = subst (λ (t : marks.Table). AreMarksIn t r) (sym e) k.stored;
    covered = subst (λ (t : marks.Table). marks.IsCovered t) (sym e) k.covered;
    raised = subst (Raised first) (sym e) k.raised;
  }

  away_run : (m n : Memory) (ps : List Write) → AreAway ps → n.station.marks ≡ m.station.marks → (r : Records) → MarksFrom first m r
      → Leads (MarksFrom first) m ps n
  away_run m n [] away e r k = record { run = λ s q. (record { memory = m; kept = q }, same_marks m n s e q) }
  away_run m n (p ∷ ps) away e r k = record {
    run = λ s q.
        let next = put_away m s p away.0 q in
        let rest = (away_run m n ps away.1 e (insert s p.slot p.octets) next).run (insert s p.slot p.octets) next in
        ((record { memory = m; kept = q }, rest.0), rest.1);
  }

  pub away_leads : (m n : Memory) (ps : List Write) → AreAway ps → n.station.marks ≡ m.station.marks → Leads (MarksFrom first) m ps n
  away_leads m n ps away e = record { run = λ r q. (away_run m n ps away e r q).run r q }

-- # The words

due_away : (floors : List ℕ) (gone : Option RoutingEntry) → AreAway (puts_of (routing.floors_due floors gone))
due_away floors None = tt
due_away floors (Some e) = by_rise (routing.raises floors e)
  where
    by_rise : (b : Bool) → AreAway (puts_of (if b then Some (routing.floors_write (routing.raised floors e)) else None))
    by_rise true = (inl (omega arith), tt)
    by_rise false = tt

offer_away : (r : routing.Routing) (e : RoutingEntry) (now : ℕ) → AreAway (routing.entry_writes r e now)
unfolding routing.entry_writes
offer_away r e now = away_append _ _ (due_away r.floors (routing.forgotten r e.address now)) (inr (omega arith), tt)

number_away : (n : own_number.Numbering) → AreAway (puts_of (own_number.advance_write n))
number_away n = by_limit (own_number.passes n)
  where
    by_limit : (b : Bool) → AreAway (puts_of (if b then own_number.limit_write (own_number.raised n.limit) else None))
    by_limit true = (inl (omega arith), tt)
    by_limit false = tt

pub reserve_away : (c : counter.Counting) (count : ℕ) → AreAway (puts_of (counter.reserve_write c count))
reserve_away c count = by_due (counter.passes c count)
  where
    by_due : (b : Bool) → AreAway (puts_of (if b then counter.limit_write (counter.raised c.limit) else None))
    by_due true = (inl (omega arith), tt)
    by_due false = tt

entry_away : (b : book.Book) (e : BookEntry) → AreAway (puts_of (book.change_write b e))
entry_away b e = by_holding (book.holds b e)
  where
    by_holding : (h : Bool) → AreAway (puts_of (if h then None else book.entry_write b e))
    by_holding true = tt
    by_holding false = (inr (omega arith), tt)

-- The writes so far are away from the marks, and the marks in memory are those from the beginning.
pub record Unmarked (t : marks.Table) (puts : List Write) (l : StationMemory) : Type 0 where
  pub away : AreAway puts
  pub same : l.marks ≡ t

module _ (W : RingWord → Type 0) (t : marks.Table) where
  unmarked_more : (ps qs : List Write) (k l : StationMemory) → l.marks ≡ k.marks → AreAway qs → Unmarked t ps k → Unmarked t (ps ++ qs) l
  unmarked_more ps qs k l e away x = record { away = away_append ps qs x.away away; same = e ∙ x.same }

  made_unmarked : (g : Given) (s d : Draft StationMemory) → Made W g s d → Unmarked t s.puts s.memory → Unmarked t d.puts d.memory
  unfolding with_rank with_own_number with_next_tag with_ring with_routing_by goes body_goes waits leave
  made_unmarked g s d Starts h = h
  made_unmarked g s d (Ranks by origin rank e made o fits) h = unmarked_more e.puts _ e.memory d.memory refl
      (offer_away e.memory.routing (routing.offered_entry origin rank by g.now) g.now) (made_unmarked g s e made h)
  made_unmarked g s d (Numbers e made left) h = unmarked_more e.puts _ e.memory d.memory refl (number_away e.memory.own_number) (made_unmarked g s e made h)
  made_unmarked g s d (Tags e made taken) h = unmarked_more e.puts _ e.memory d.memory refl (inl (omega arith), tt) (made_unmarked g s e made h)
  made_unmarked g s d (Rings x e made change) h = unmarked_more e.puts _ e.memory d.memory refl (inl (omega arith), tt) (made_unmarked g s e made h)
  made_unmarked g s d (Idles e made) h = let x = made_unmarked g s e made h in record { away = x.away; same = x.same }
  made_unmarked g s d (Loses lost by e made) h = let x = made_unmarked g s e made h in record { away = x.away; same = x.same }
  made_unmarked g s d (Goes to unit note e made said alone) h = let x = made_unmarked g s e made h in record { away = x.away; same = x.same }
  made_unmarked g s d (Sends own hop to note load e made here there short carried alone) h =
      let x = made_unmarked g s e made h in record { away = x.away; same = x.same }
  made_unmarked g s d (Waits to note load now e made none room short carried alone) h =
      let x = made_unmarked g s e made h in record { away = x.away; same = x.same }
  made_unmarked g s d (Leaves own dest hop rank e made here o) h = let x = made_unmarked g s e made h in record { away = x.away; same = x.same }

module _ (W : RingWord → Type 0) (L : Granted → Type 0) (P : Eui → Key → Type 0) (E : Eui → Type 0) (g : Given) (m : Memory) where
  abbrev Is : Draft Memory → Type 0
  Is d = Unmarked m.station.marks d.puts d.memory.station

  made_in_unmarked : (d : Draft Memory) → MadeIn W L P E g m d → Is d
  unfolding empty_draft on_station with_memory_by with_pair_tags with_book_entry goes_up goes_down
  made_in_unmarked d Begins = record { away = tt; same = refl }
  made_in_unmarked d (Station e made) =
      let x = made_unmarked W m.station.marks g (empty_draft m.station) e made (record { away = tt; same = refl }) in record { away = x.away; same = x.same }
  made_in_unmarked d (OnStation word e made step) =
      let h = made_in_unmarked e made in
      let x = made_unmarked W m.station.marks (unheard g) (station_part e) (word (station_part e)) step (record { away = h.away; same = h.same }) in
      record { away = x.away; same = x.same }
  made_in_unmarked d (Remembers change e made beside) = let x = made_in_unmarked e made in
      record { away = x.away; same = ap (λ (l : StationMemory). l.marks) (beside_station_of E e.memory (change e.memory) beside) ∙ x.same }
  made_in_unmarked d (TagsIn made opened e x) = let h = made_in_unmarked e x in record { away = h.away; same = h.same }
  made_in_unmarked d (Enters x e made change) =
      unmarked_more W m.station.marks e.puts _ e.memory.station e.memory.station refl (entry_away e.memory.book x) (made_in_unmarked e made)
  made_in_unmarked d (Up agent own message e made) = let x = made_in_unmarked e made in record { away = x.away; same = x.same }
  made_in_unmarked d (Down own message e made) = let x = made_in_unmarked e made in record { away = x.away; same = x.same }

  -- # Plans

  pub plan_marks : {H F : Type 0} (ends : Ends F) (K : Memory → H → Type 0) (D : Draft Memory → H → Type 0)
      → ((n : Memory) (answer : H) → K n answer → n.station.marks ≡ m.station.marks) → ((d : Draft Memory) (answer : H) → D d answer → MadeIn W L P E g m d)
      → (p : Plan Memory (Result H F)) → Planned in_memory ends m K D p
      → PlanMarks m p
  unfolding resting
  plan_marks ends K D same made p (Refuses reason) first = away_leads first m m [] tt refl
  plan_marks ends K D same made p (Keeps n answer k) first = away_leads first m n [] tt (same n answer k)
  plan_marks ends K D same made p (Ended d answer done left) first =
      let x = made_in_unmarked d (made d answer done) in
      away_leads first m (counted in_memory (length d.units) d.memory) (d.puts ++ puts_of (counter.reserve_write d.memory.station.counter (length d.units)))
      (away_append d.puts _ x.away (reserve_away d.memory.station.counter (length d.units))) x.same
