-- The counters of a node rise: what it sends is numbered from its frontier on, and no failed write lowers the frontier.
use Rattle.line_laws.proofs.MadeIn.{unheard}
use Rattle.std.proofs.Common.{◌≡◌, ◌≢◌, ⊎_elim, ℕ, ◌+◌, ◌≤◌, ◌<◌, ◌^◌, Bool, true, false, List, [], ◌∷◌, ◌++◌, length, Option, Some, None, Result, refl, sym}
use Rattle.std.proofs.Common.{ap, ◌∙◌, subst, append_assoc, arith}
use Rattle.std.specs.Prelude.{if◌then◌else◌, unwrap_or, nat_le}
use Rattle.std.specs.Option.{option_map_or}
use Rattle.std.specs.FinMap.{get, insert}
use Rattle.byteorder.specs.Endian.{big_bytes}
use Rattle.plc_base.specs.Keeper.{Records, Write}
use Rattle.store_tables.specs.Writes.{puts_of}
use Rattle.store_tables.specs.SlotTables as slots
use Rattle.plc_base.specs.declared.keeper.Cut.{Cut}
use Rattle.plc_base.specs.declared.address.Eui.{Eui}
use Rattle.plc_base.specs.declared.key.Key.{Key}
use Rattle.plc_base.specs.Grant.{Granted}
use Rattle.store_tables.proofs.StoreLemmas.{get-insert_other}
use Rattle.frame_counters.specs.SendCounter as counter
use Rattle.frame_counters.specs.PeerMarks as marks
use Rattle.frame_counters.proofs.Limits.{limit_in-insert}
use Rattle.group_keys.specs.declared.key_book.BookEntry.{BookEntry}
use Rattle.group_keys.specs.KeyBook as book
use Rattle.group_keys.specs.KeyRing as ring
use Rattle.routing_set.specs.declared.entry.RoutingEntry.{RoutingEntry}
use Rattle.routing_set.specs.RoutingSet as routing
use Rattle.routing_set.specs.OwnNumber as own_number
use Rattle.node_rules.specs.Frames.{Sent, Sealed, Up, Down}
use Rattle.node_rules.specs.Memory.{StationMemory, Memory, Node}
use Rattle.node_rules.specs.Plans.{Plan, carry_out, resting}
use Rattle.node_rules.specs.Drafts.{Draft, Ends, UnsealedUnit, sealed_units, sealed_by, sealing_key, empty_draft, with_rank, with_own_number, with_next_tag}
use Rattle.node_rules.specs.Drafts.{with_ring}
use Rattle.node_rules.specs.Drafts.{with_routing_by, goes, body_goes, waits, leave}
use Rattle.node_rules.specs.MemoryDrafts.{in_memory, on_station, station_part, with_memory_by, with_pair_tags, goes_up, goes_down}
use Rattle.node_rules.specs.Coordinators.{with_book_entry}
use Rattle.node_rules.specs.Laws.{all_put, IsWhole, IsCutOff}
use Rattle.node_rules.specs.NodeSteps.{acts, stays, left_by}
use Rattle.node_rules.proofs.FailedWrites.{clean}
use Rattle.line_laws.proofs.Planned.{Planned, Refuses, Keeps, Ended}
use Rattle.line_laws.proofs.Made.{RingWord, Given, Made, Starts, Ranks, Numbers, Tags, Rings, Idles, Loses, Goes, Sends, Waits, Leaves}
use Rattle.line_laws.proofs.MadeIn.{MadeIn, Begins, Station, OnStation, Remembers, Tags as TagsIn, Enters, Up as UpIn, Down as DownIn}
use Rattle.line_laws.proofs.StorePlans.{made_in_counter}
pub use Rattle.line_laws.specs.Lines.{next_of, frontier}

-- # No write lowers the limit

-- a write of another slot, or of a limit that is not lower
pub data IsHigh (floor : ℕ) (w : Write) : Type 0 where
  Elsewhere : w.slot ≢ 2 → IsHigh floor w
  Limit : (limit : ℕ) → w ≡ record { slot = 2; octets = big_bytes 4 limit } → floor ≤ limit → limit < 2 ^ 32 → IsHigh floor w

abbrev pub High : ℕ → List Write → Type 0
High floor [] = Unit {0}
High floor (w ∷ ws) = IsHigh floor w × High floor ws

pub High-append : (floor : ℕ) (ps qs : List Write) → High floor ps → High floor qs → High floor (ps ++ qs)
High-append floor [] qs h k = k
High-append floor (p ∷ ps) qs h k = (h.0, High-append floor ps qs h.1 k)

High-front : (floor : ℕ) (ps qs : List Write) → High floor (ps ++ qs) → High floor ps
High-front floor [] qs h = tt
High-front floor (p ∷ ps) qs h = (h.0, High-front floor ps qs h.1)

-- The limit that the records give is not below this one.
pub record HasLimit (floor : ℕ) (r : Records) : Type 0 where
  pub limit : ℕ
  pub is : counter.limit_in (get r 2) ≡ Some limit
  pub low : floor ≤ limit

put_high : (floor : ℕ) (w : Write) (r : Records) → IsHigh floor w → HasLimit floor r → HasLimit floor (insert r w.slot w.octets)
put_high floor w r (Elsewhere ne) h =
    record { limit = h.limit; is = ap counter.limit_in (get-insert_other r w.slot 2 w.octets (λ e. ne (sym e))) ∙ h.is; low = h.low }
put_high floor w r (Limit limit e low fits) h =
    subst (λ (x : Write). HasLimit floor (insert r x.slot x.octets)) (sym e) (record { limit = limit; is = limit_in-insert r limit fits; low = low })

all_high : (floor : ℕ) (ps : List Write) (r : Records) → High floor ps → HasLimit floor r → HasLimit floor (all_put ps r)
all_high floor [] r h k = k
all_high floor (p ∷ ps) r h k = all_high floor ps (insert r p.slot p.octets) h.1 (put_high floor p r h.0 k)

-- whatever becomes of a plan's writes
pub carried_high : {M A : Type 0} (floor : ℕ) (r : Records) (cut : Option Cut) (p : Plan M A) → High floor p.puts → HasLimit floor r
    → HasLimit floor (carry_out r cut p).records
carried_high {M = M} {A = A} floor r cut p high h = ⊎_elim whole cut_off (clean r cut p)
  where
    whole : IsWhole r cut p (carry_out r cut p) → HasLimit floor (carry_out r cut p).records
    whole w = rw w.left (all_high floor p.puts r high h)

    by_kind : (b : Bool) (front rest : List Write) (one : Write) → High floor (front ++ one ∷ rest)
        → HasLimit floor (if b then all_put (front ++ one ∷ []) r else all_put front r)
    by_kind false front rest one k = all_high floor front r (High-front floor front (one ∷ rest) k) h
    by_kind true front rest one k = all_high floor (front ++ one ∷ []) r
        (High-front floor (front ++ one ∷ []) rest (subst (λ ws. High floor ws) (sym (append_assoc front (one ∷ []) rest)) k)) h

    cut_off : IsCutOff r cut p (carry_out r cut p) → HasLimit floor (carry_out r cut p).records
    cut_off c = rw c.left (by_kind c.by.keeps_new c.front c.rest c.write (subst (High floor) c.split high))

-- # The words

due_high : (floor : ℕ) (floors : List ℕ) (gone : Option RoutingEntry) → High floor (puts_of (routing.floors_due floors gone))
due_high floor floors None = tt
due_high floor floors (Some e) = by_rise (routing.raises floors e)
  where
    by_rise : (b : Bool) → High floor (puts_of (if b then Some (routing.floors_write (routing.raised floors e)) else None))
    by_rise true = (Elsewhere (omega arith), tt)
    by_rise false = tt

offer_high : (floor : ℕ) (r : routing.Routing) (e : RoutingEntry) (now : ℕ) → High floor (routing.entry_writes r e now)
unfolding routing.entry_writes
offer_high floor r e now = High-append floor _ _ (due_high floor r.floors (routing.forgotten r e.address now)) (Elsewhere (omega arith), tt)

number_high : (floor : ℕ) (n : own_number.Numbering) → High floor (puts_of (own_number.advance_write n))
number_high floor n = by_limit (own_number.passes n)
  where
    by_limit : (b : Bool) → High floor (puts_of (if b then own_number.limit_write (own_number.raised n.limit) else None))
    by_limit true = (Elsewhere (omega arith), tt)
    by_limit false = tt

entry_high : (floor : ℕ) (b : book.Book) (e : BookEntry) → High floor (puts_of (book.change_write b e))
entry_high floor b e = by_holding (book.holds b e)
  where
    by_holding : (h : Bool) → High floor (puts_of (if h then None else book.entry_write b e))
    by_holding true = tt
    by_holding false = (Elsewhere (omega arith), tt)

pub reserve_high : (c : counter.Counting) (count floor : ℕ) → floor ≤ c.limit → c.limit < 2 ^ 32 → High floor (puts_of (counter.reserve_write c count))
reserve_high c count floor low fits = by_due (counter.passes c count)
  where
    by_due : (b : Bool) → High floor (puts_of (if b then counter.limit_write (counter.raised c.limit) else None))
    by_due true = (Limit (counter.raised c.limit) refl (omega arith) (omega arith), tt)
    by_due false = tt

pub marks_high : (floor : ℕ) (t : marks.Table) (from count : ℕ) → High floor (puts_of (marks.keep_write t from count))
marks_high floor t from count = by_place (marks.place_of t from)
  where
    by_stored : (place : ℕ) (b : Bool) → High floor (puts_of (if b then None else Some (slots.entry_write marks.peers place (marks.peer_ahead from count))))
    by_stored place true = tt
    by_stored place false = (Elsewhere (omega arith), tt)

    by_place : (o : Option ℕ) → High floor (puts_of (option_map_or
        (λ place. if nat_le count (marks.peer_at t place).stored then None else Some (slots.entry_write marks.peers place (marks.peer_ahead from count))) o
        (Some (slots.entry_write marks.peers (length t) (marks.peer_ahead from count)))))
    by_place None = (Elsewhere (omega arith), tt)
    by_place (Some place) = by_stored place (nat_le count (marks.peer_at t place).stored)

made_high : (floor : ℕ) (W : RingWord → Type 0) (g : Given) (s d : Draft StationMemory) → Made W g s d → High floor s.puts → High floor d.puts
unfolding with_rank with_own_number with_next_tag with_ring with_routing_by goes body_goes waits leave
made_high floor W g s d Starts h = h
made_high floor W g s d (Ranks by origin rank e made o fits) h =
    High-append floor e.puts _ (made_high floor W g s e made h) (offer_high floor e.memory.routing (routing.offered_entry origin rank by g.now) g.now)
made_high floor W g s d (Numbers e made left) h = High-append floor e.puts _ (made_high floor W g s e made h) (number_high floor e.memory.own_number)
made_high floor W g s d (Tags e made first) h = High-append floor e.puts _ (made_high floor W g s e made h) (Elsewhere (omega arith), tt)
made_high floor W g s d (Rings x e made change) h = High-append floor e.puts _ (made_high floor W g s e made h) (Elsewhere (omega arith), tt)
made_high floor W g s d (Idles e made) h = made_high floor W g s e made h
made_high floor W g s d (Loses lost by e made) h = made_high floor W g s e made h
made_high floor W g s d (Goes to unit note e made said alone) h = made_high floor W g s e made h
made_high floor W g s d (Sends own hop to note load e made here there short carried alone) h = made_high floor W g s e made h
made_high floor W g s d (Waits to note load now e made none room short carried alone) h = made_high floor W g s e made h
made_high floor W g s d (Leaves own dest hop rank e made here o) h = made_high floor W g s e made h

made_in_high : (floor : ℕ) (W : RingWord → Type 0) (L : Granted → Type 0) (P : Eui → Key → Type 0) (E : Eui → Type 0) (g : Given) (m : Memory)
    (d : Draft Memory) → MadeIn W L P E g m d → High floor d.puts
unfolding empty_draft on_station with_memory_by with_pair_tags with_book_entry goes_up goes_down
made_in_high floor W L P E g m d Begins = tt
made_in_high floor W L P E g m d (Station e made) = made_high floor W g (empty_draft m.station) e made tt
made_in_high floor W L P E g m d (OnStation word e made step) =
    made_high floor W (unheard g) (station_part e) (word (station_part e)) step (made_in_high floor W L P E g m e made)
made_in_high floor W L P E g m d (Remembers change e made beside) = made_in_high floor W L P E g m e made
made_in_high floor W L P E g m d (TagsIn made opened e x) = made_in_high floor W L P E g m e x
made_in_high floor W L P E g m d (Enters x e made change) =
    High-append floor e.puts _ (made_in_high floor W L P E g m e made) (entry_high floor e.memory.book x)
made_in_high floor W L P E g m d (UpIn agent own message e made) = made_in_high floor W L P E g m e made
made_in_high floor W L P E g m d (DownIn own message e made) = made_in_high floor W L P E g m e made

-- # Frames

-- The letters among these frames have rising counters, from the first to below the last.
abbrev pub Numbered : (first last : ℕ) → List Sent → Type 0
Numbered first last [] = first ≤ last
Numbered first last (Sealed l ∷ rest) = (first ≤ l.counter) × Numbered (l.counter + 1) last rest
Numbered first last (Up agent from message ∷ rest) = Numbered first last rest
Numbered first last (Down from message ∷ rest) = Numbered first last rest

-- plain frames have none
abbrev pub ArePlain : List Sent → Type 0
ArePlain [] = Unit {0}
ArePlain (Sealed l ∷ rest) = ⊥
ArePlain (Up agent from message ∷ rest) = ArePlain rest
ArePlain (Down from message ∷ rest) = ArePlain rest

plain_numbered : (ps fs : List Sent) (first last : ℕ) → ArePlain ps → Numbered first last fs → Numbered first last (ps ++ fs)
plain_numbered [] fs first last p n = n
plain_numbered (Sealed l ∷ ps) fs first last p n = absurd p
plain_numbered (Up agent from message ∷ ps) fs first last p n = plain_numbered ps fs first last p n
plain_numbered (Down from message ∷ ps) fs first last p n = plain_numbered ps fs first last p n

sealed_units_numbered : (g : Granted) (key : Key) (first last : ℕ) (units : List UnsealedUnit) → first + length units ≤ last
    → Numbered first last (sealed_units g key first units)
sealed_units_numbered g key first last [] h = omega arith
sealed_units_numbered g key first last (o ∷ rest) h = (omega arith, sealed_units_numbered g key (first + 1) last rest (omega arith))

pub sealed_numbered : (r : ring.Ring) (first last : ℕ) (units : List UnsealedUnit) → first + length units ≤ last → Numbered first last (sealed_by r first units)
sealed_numbered None first last units h = omega arith
sealed_numbered (Some g) first last units h = by_key (sealing_key g)
  where
    by_key : (key : Option Key) → Numbered first last (option_map_or (λ k. sealed_units g k first units) key [])
    by_key None = omega arith
    by_key (Some key) = sealed_units_numbered g key first last units h

-- # Plans and nodes

plain_push : (ps qs : List Sent) → ArePlain ps → ArePlain qs → ArePlain (ps ++ qs)
plain_push [] qs p q = q
plain_push (Sealed l ∷ ps) qs p q = absurd p
plain_push (Up agent from message ∷ ps) qs p q = plain_push ps qs p q
plain_push (Down from message ∷ ps) qs p q = plain_push ps qs p q

made_plain : (W : RingWord → Type 0) (g : Given) (s d : Draft StationMemory) → Made W g s d → ArePlain s.plain → ArePlain d.plain
unfolding with_rank with_own_number with_next_tag with_ring with_routing_by goes body_goes waits leave
made_plain W g s d Starts h = h
made_plain W g s d (Ranks by origin rank e made o fits) h = made_plain W g s e made h
made_plain W g s d (Numbers e made left) h = made_plain W g s e made h
made_plain W g s d (Tags e made first) h = made_plain W g s e made h
made_plain W g s d (Rings x e made change) h = made_plain W g s e made h
made_plain W g s d (Idles e made) h = made_plain W g s e made h
made_plain W g s d (Loses lost by e made) h = made_plain W g s e made h
made_plain W g s d (Goes to unit note e made said alone) h = made_plain W g s e made h
made_plain W g s d (Sends own hop to note load e made here there short carried alone) h = made_plain W g s e made h
made_plain W g s d (Waits to note load now e made none room short carried alone) h = made_plain W g s e made h
made_plain W g s d (Leaves own dest hop rank e made here o) h = made_plain W g s e made h

pub made_in_plain : (W : RingWord → Type 0) (L : Granted → Type 0) (P : Eui → Key → Type 0) (E : Eui → Type 0) (g : Given) (m : Memory) (d : Draft Memory)
    → MadeIn W L P E g m d → ArePlain d.plain
unfolding empty_draft on_station with_memory_by with_pair_tags with_book_entry goes_up goes_down
made_in_plain W L P E g m d Begins = tt
made_in_plain W L P E g m d (Station e made) = made_plain W g (empty_draft m.station) e made tt
made_in_plain W L P E g m d (OnStation word e made step) =
    made_plain W (unheard g) (station_part e) (word (station_part e)) step (made_in_plain W L P E g m e made)
made_in_plain W L P E g m d (Remembers change e made beside) = made_in_plain W L P E g m e made
made_in_plain W L P E g m d (TagsIn made opened e x) = made_in_plain W L P E g m e x
made_in_plain W L P E g m d (Enters x e made change) = made_in_plain W L P E g m e made
made_in_plain W L P E g m d (UpIn agent own message e made) = plain_push e.plain _ (made_in_plain W L P E g m e made) tt
made_in_plain W L P E g m d (DownIn own message e made) = plain_push e.plain _ (made_in_plain W L P E g m e made) tt

-- What a plan does to the counter.
pub record PlanRises (m : Memory) {A : Type 0} (p : Plan Memory A) : Type 0 where
  pub high : High m.station.counter.limit p.puts
  pub with_own_number : Numbered m.station.counter.next p.memory.station.counter.next p.frames

pub plan_rises : {H F : Type 0} (W : RingWord → Type 0) (L : Granted → Type 0) (P : Eui → Key → Type 0) (E : Eui → Type 0) (g : Given) (m : Memory)
    (ends : Ends F) (K : Memory → H → Type 0) (D : Draft Memory → H → Type 0)
    → ((n : Memory) (answer : H) → K n answer → n.station.counter ≡ m.station.counter) → ((d : Draft Memory) (answer : H) → D d answer → MadeIn W L P E g m d)
    → (p : Plan Memory (Result H F)) → Planned in_memory ends m K D p
    → m.station.counter.limit < 2 ^ 32 → PlanRises m p
unfolding resting
plan_rises W L P E g m ends K D same made p (Refuses reason) fits = record { high = tt; with_own_number = omega arith }
plan_rises W L P E g m ends K D same made p (Keeps n answer k) fits =
    record { high = tt; with_own_number = let e = ap (λ (c : counter.Counting). c.next) (same n answer k) in omega arith }
plan_rises W L P E g m ends K D same made p (Ended d answer done left) fits =
    let x = made d answer done in
    let e = made_in_counter W L P E g m d x in
    let next = ap (λ (c : counter.Counting). c.next) e in
    let limit = ap (λ (c : counter.Counting). c.limit) e in
    record {
      high = High-append m.station.counter.limit d.puts _ (made_in_high m.station.counter.limit W L P E g m d x)
          (reserve_high d.memory.station.counter (length d.units) m.station.counter.limit (omega arith) (omega arith));
      with_own_number = plain_numbered d.plain _ m.station.counter.next (d.memory.station.counter.next + length d.units) (made_in_plain W L P E g m d x)
          (subst (λ n. Numbered m.station.counter.next (n + length d.units) (sealed_by d.memory.station.ring n d.units)) (sym next)
          (sealed_numbered d.memory.station.ring m.station.counter.next (m.station.counter.next + length d.units) d.units (omega arith)));
    }

pub same_low : (n : ℕ) → n ≤ n
same_low n = omega arith

limit_low : (floor : ℕ) (r : Records) → HasLimit floor r → floor ≤ counter.stored_limit r
limit_low floor r h = let e : counter.stored_limit r ≡ h.limit = ap (λ o. unwrap_or o 0) h.is in let low = h.low in omega arith

-- what a node sends is numbered from its frontier on, and the frontier never falls, also where a write fails
pub acts_rise : {A : Type 0} (x : Node) (halted : A) (plan : Memory → Plan Memory A)
    → ((m : Memory) → x.memory ≡ Some m → PlanRises m (plan m) × (counter.limit_in (get x.store.records 2) ≡ Some m.station.counter.limit)
    × (m.station.counter.next ≤ m.station.counter.limit))
    → Numbered (frontier x) (frontier (acts x halted plan).node) (acts x halted plan).frames
unfolding acts
acts_rise {A = A} x halted plan f = by_memory x.memory refl
  where
    by_memory : (o : Option Memory) → x.memory ≡ o
        → let d = option_map_or (λ m. left_by x (carry_out x.store.records x.store.cut (plan m))) o (stays x halted) in
        Numbered (next_of o x.store.records) (frontier d.node) d.frames
    by_memory None e = subst (λ o. next_of None x.store.records ≤ next_of o x.store.records) (sym e) (same_low (counter.stored_limit x.store.records))
    by_memory (Some m) e =
        let p = f m e in
        let kept : HasLimit m.station.counter.limit x.store.records = record { limit = m.station.counter.limit; is = p.1; low = omega arith } in
        let after = carried_high m.station.counter.limit x.store.records x.store.cut (plan m) p.0.high kept in
        let low = limit_low m.station.counter.limit _ after in
        ⊎_elim
        (λ (w : IsWhole x.store.records x.store.cut (plan m) (carry_out x.store.records x.store.cut (plan m))). rw (w.memory, w.frames) p.0.with_own_number)
        (λ (c : IsCutOff x.store.records x.store.cut (plan m) (carry_out x.store.records x.store.cut (plan m))). rw (c.memory, c.frames) (omega arith))
        (clean x.store.records x.store.cut (plan m))

pub numbered_lower : (low first last : ℕ) (fs : List Sent) → low ≤ first → Numbered first last fs → Numbered low last fs
numbered_lower low first last [] h n = omega arith
numbered_lower low first last (Sealed l ∷ rest) h n = let at : first ≤ l.counter = n.0 in (omega arith, n.1)
numbered_lower low first last (Up agent from message ∷ rest) h n = numbered_lower low first last rest h n
numbered_lower low first last (Down from message ∷ rest) h n = numbered_lower low first last rest h n

pub numbered_le : (first last : ℕ) (fs : List Sent) → Numbered first last fs → first ≤ last
numbered_le first last [] n = n
numbered_le first last (Sealed l ∷ rest) n =
    let at : first ≤ l.counter = n.0 in let more : l.counter + 1 ≤ last = numbered_le (l.counter + 1) last rest n.1 in omega arith
numbered_le first last (Up agent from message ∷ rest) n = numbered_le first last rest n
numbered_le first last (Down from message ∷ rest) n = numbered_le first last rest n
