-- The account of keys of every call of a node.
use Rattle.std.proofs.Common.{◌≡◌, ℕ, ◌≤◌, ◌<◌, ◌^◌, Bool, true, false, List, [], ◌∷◌, ◌++◌, length, Option, Some, None, Result, Ok, Err, refl, sym, subst}
use Rattle.std.proofs.Common.{arith}
use Rattle.std.specs.Prelude.{if◌then◌else◌, IfSome, nat_le, nat_lt, ◌==◌}
use Rattle.std.specs.Option.{option_map_or}
use Rattle.plc_base.specs.declared.address.Eui.{Eui}
use Rattle.plc_base.specs.declared.key.Key.{Key}
use Rattle.plc_base.specs.declared.key.RandomOctets.{RandomOctets}
use Rattle.plc_base.specs.Grant.{Granted, keyed}
use Rattle.plc_base.specs.Keeper.{Records}
use Rattle.store_tables.specs.Writes.{puts_of}
use Rattle.store_tables.specs.SlotTables as slots
use Rattle.frame_counters.specs.SendCounter as counter
use Rattle.frame_counters.specs.PeerMarks as marks
use Rattle.group_keys.specs.KeyRing as ring
use Rattle.group_keys.specs.declared.key_book.BookEntry.{BookEntry}
use Rattle.group_keys.specs.KeyBook as book
use Rattle.routing_set.specs.declared.rank.Rank.{Rank}
use Rattle.routing_set.specs.RoutingSet as routing
use Rattle.routing_set.specs.OwnNumber as own_number
use Rattle.node_rules.specs.Accepted.{Accepted}
use Rattle.node_rules.specs.declared.heard.CoordinatorHeard.{CoordinatorHeard}
use Rattle.node_rules.specs.declared.heard.CoordinatorHeard.TheVariants as coordinator_heard
use Rattle.node_rules.specs.declared.refusal.Dropped.{Dropped}
use Rattle.node_rules.specs.declared.refusal.RandomFault.{RandomFault}
use Rattle.node_rules.specs.declared.refusal.RandomFault.TheVariants.{RandomsFull}
use Rattle.node_rules.specs.declared.refusal.CoordinatorRefusal.{CoordinatorRefusal}
use Rattle.node_rules.specs.Ciphers.{Ciphers}
use Rattle.node_rules.specs.Frames.{arrived}
use Rattle.line_rules.specs.Answers.{SentGrant, CompletedJoining}
use Rattle.node_rules.specs.Memory.{StationMemory, Memory, Coordinator}
use Rattle.node_rules.specs.Plans.{Plan, resting}
use Rattle.node_rules.specs.Acceptance.{Accepting, accept, marking}
use Rattle.node_rules.specs.Drafts.{Ends, alone, empty_draft, choose, sealing, refused}
use Rattle.node_rules.specs.HearingRules.{dropped}
use Rattle.node_rules.specs.MemoryDrafts.{in_memory, with_station, give_random, given_ends, with_memory_by}
use Rattle.node_rules.specs.Calls as calls
use Rattle.node_rules.specs.Coordinators as coordinators
use Rattle.node_rules.specs.NodeSteps.{of_station}
use Rattle.line_laws.specs.Stores.{IsHeld, IsReadable, HasEui, IsPair}
use Rattle.line_laws.specs.Sizes.{IsAnyLoad, IsMemorySized}
use Rattle.line_laws.specs.Owed.{AreOctets, KeepsRanges}
use Rattle.line_laws.proofs.KeptMemory.{Leads, leads_beside}
use Rattle.line_laws.proofs.Beside.{low_one}
use Rattle.line_laws.proofs.StoreWords.{limit_kept, number_kept}
use Rattle.line_laws.proofs.StoreRanks.{EntryFits}
use Rattle.line_laws.proofs.StoreFold.{WordFits, ring_fits, ended_kept}
use Rattle.line_laws.proofs.StoreBook.{Rest, rest_lasts}
use Rattle.line_laws.proofs.StoreMarks.{Accepts, Turned, Plain, Marked, accept_is, marks_lead}
use Rattle.line_laws.proofs.Planned.{Planned, Refuses, Keeps, Ended, planned_weaker}
use Rattle.line_laws.proofs.Made.{RingWord, Carry, Drop, Install, Draw, Activate, RingChange, Drops, Installs, Draws, Activates, Given, Offered, Made}
use Rattle.line_laws.proofs.MadeIn.{EntryChange, Allows as EntryAllows, Issues as EntryIssues, Kicks as EntryKicks}
use Rattle.line_laws.proofs.MemoryDraftForms.{AnyAnswer, HandedIn, ByStation, MadeBy}
use Rattle.line_laws.proofs.CoordinatorForms.{HandsNothingUp, IsGranted, coordinator_is, allow_is, depot_is, rekey_is, activate_self_is, challenge_is}
use Rattle.line_laws.proofs.CoordinatorForms.{activate_is, kick_is}
use Rattle.line_laws.proofs.CallForms.{Few, Nothing, send_is, near_is, random_is}
use Rattle.line_laws.proofs.Nodes.{waits_little}
use Rattle.line_laws.proofs.NodeCalls.{RoutesFit, heard_given, call_given, near_given, heard_offers, call_offers, near_offers, granted_keys, few_of}
use Rattle.line_laws.proofs.NodeCalls.{handed_kept, of_station_planned}
use Rattle.line_laws.proofs.CoordinatorCalls.{admitted_fits, heard_euis}
use Rattle.line_laws.proofs.AddressPuts.{Away, RingWrites, writes_append, counter_away, made_rung}
use Rattle.line_laws.proofs.AddressBook.{Grows, Grown, station_grown, plan_grown, grows_entry}
use Rattle.line_laws.proofs.IssueWords.{Each, made_tags}
use Rattle.line_laws.proofs.IssueMeters.{Held, same_here, From}
use Rattle.line_laws.proofs.IssueCoordinator.{CoordinatorTag, CoordinatorTags, plan_rung, keyed_in, done_in, coordinator_hears, says_tags}
use Rattle.line_laws.proofs.IssueNodes.{Nought, CoordinatorPlan}
use Rattle.line_laws.proofs.Untagged.{allow_untagged, depot_untagged, rekey_untagged, activate_self_untagged, challenge_untagged, activate_untagged}
use Rattle.line_laws.proofs.Untagged.{kick_untagged}

-- a body is sent out, and the ring stays
abbrev NoWord : RingWord → Type 0
NoWord (Carry to note load) = IsAnyLoad load
NoWord Drop = ⊥
NoWord (Install granted) = ⊥
NoWord (Draw index key) = ⊥
NoWord (Activate index) = ⊥

no_words : (w : RingWord) → NoWord w → WordFits w
no_words (Carry to note load) w = w
no_words Drop w = absurd w
no_words (Install granted) w = absurd w
no_words (Draw index key) w = absurd w
no_words (Activate index) w = absurd w

abbrev NoGrant : Granted → Type 0
NoGrant granted = ⊥

abbrev NoPair : Eui → Key → Type 0
NoPair eui psk = ⊥

abbrev NoEui : Eui → Type 0
NoEui eui = ⊥

-- no entry of the book changes
no_entry : (m : Memory) (V : book.Book → Type 0) (x : book.Book) (e : BookEntry) → EntryChange NoGrant NoPair NoEui m x e → V x → V (book.with_entry x e)
no_entry m V x e (EntryAllows eui psk known pair room) h = absurd known
no_entry m V x e (EntryIssues eui granted old from held allowed) h = absurd held
no_entry m V x e (EntryKicks eui old known allowed) h = absurd known

-- # Calls that leave the ring, the session and the book

-- What such a plan does, at any node.
pub record Quietly (m : Memory) {A : Type 0} (p : Plan Memory A) : Type 1 where
  pub leads : (V : book.Book → Type 0) → Leads (Grown V) m p.puts p.memory
  pub ring : (S : ring.Ring → Type 0) → S None → S m.station.ring → IfSome m.station.ring IsReadable → RingWrites S p.puts
  pub session : p.memory.session ≡ m.session
  pub made : p.made ≡ []

held_in : (eui : Eui) (opened : _) (x : ring.Ring) → From eui x opened x
held_in eui opened None = tt
held_in eui opened (Some g) = Held g refl (same_here g)

pub quiet_coordinator : {A : Type 0} (b : book.Book) (keyed : Option SentGrant) (m : Memory) (p : Plan Memory A) → Quietly m p → Nought m.station.ring
    → IfSome m.station.ring IsReadable → CoordinatorPlan b m keyed p
quiet_coordinator b keyed m p q nought reads =
    record { leads = q.leads (Grows b); ring = q.ring Nought tt nought reads; made = subst (Each (CoordinatorTag m keyed)) (sym q.made) tt }

no_changes : (S : ring.Ring → Type 0) → S None → (r y : ring.Ring) → RingChange NoWord r y → IfSome r IsReadable → S r → S y × IfSome y IsReadable
no_changes S none r y Drops h k = (none, tt)
no_changes S none r y (Installs granted w) h k = absurd w
no_changes S none r y (Draws index key w) h k = absurd w
no_changes S none r y (Activates index w held) h k = absurd w

module _ (g : Given) (m : Memory) (h : IsMemorySized m)
    (offers : (address : Option ℕ) (by origin : ℕ) (rank : Rank) → Offered g address by origin rank
    → EntryFits (routing.offered_entry origin rank by g.now)) where
  station_puts : {H F : Type 0} {ends : Ends F} (p : Plan StationMemory (Result H F))
      → Planned alone ends m.station Nothing (λ d (a : H). Made NoWord g (empty_draft m.station) d × Few m.station d) p
      → (S : ring.Ring → Type 0) → S None → S m.station.ring → IfSome m.station.ring IsReadable → RingWrites S (of_station m p).puts
  unfolding resting empty_draft
  station_puts p (Refuses reason) S none here reads = tt
  station_puts p (Keeps n answer k) S none here reads = absurd k
  station_puts p (Ended d answer done left) S none here reads =
      writes_append S d.puts _ (made_rung S NoWord g (no_changes S none) (empty_draft m.station) d done.0
      (record { puts = tt; ring = here; reads = reads })).puts (counter_away S d.memory.counter (length d.units))

  station_rest : {H F : Type 0} {ends : Ends F} (p : Plan StationMemory (Result H F))
      → Planned alone ends m.station Nothing (λ d (a : H). Made NoWord g (empty_draft m.station) d × Few m.station d) p
      → ((of_station m p).memory.session ≡ m.session) × ((of_station m p).made ≡ [])
  unfolding resting empty_draft
  station_rest p (Refuses reason) = (refl, refl)
  station_rest p (Keeps n answer k) = absurd k
  station_rest p (Ended d answer done left) = (refl, (made_tags NoWord g (empty_draft m.station) d done.0).0)

  pub station_quietly : {H F : Type 0} (ends : Ends F) (p : Plan StationMemory (Result H F))
      → Planned alone ends m.station Nothing (λ d (a : H). Made NoWord g (empty_draft m.station) d × Few m.station d) p → Quietly m (of_station m p)
  station_quietly ends p s = record {
    leads = λ V. plan_grown V NoWord NoGrant NoPair NoEui g m no_words offers (λ eui k. absurd k) (λ eui psk k. absurd k) (no_entry m V)
        (λ r k granted none. absurd none) ends Nothing (λ n answer k. absurd k) (of_station m p)
        (of_station_planned Coordinator NoWord no_words g m offers p s) (waits_little m h);
    ring = station_puts p s;
    session = (station_rest p s).0;
    made = (station_rest p s).1;
  }

given_rest : (m : Memory) (value : RandomOctets) → ((give_random m value).memory.session ≡ m.session) × ((give_random m value).made ≡ [])
unfolding choose empty_draft resting with_memory_by
given_rest m value = by_room (nat_lt 7 (length m.randoms))
  where
    by_room : (b : Bool) → let p : Plan Memory (Result (Unit {0}) RandomFault) =
        (if b then refused given_ends m RandomsFull
        else sealing in_memory given_ends (with_memory_by (λ n. record n { randoms = n.randoms ++ value ∷ [] }) (empty_draft m)) tt) in
        (p.memory.session ≡ m.session) × (p.made ≡ [])
    by_room true = (refl, refl)
    by_room false = (refl, refl)

module _ (m : Memory) (h : IsMemorySized m) where
  pub send_quietly : (to : ℕ) (datagram : List ℕ) (note now : ℕ) → Quietly m (of_station m (calls.send m.station to datagram note now))
  send_quietly to datagram note now = station_quietly (call_given 0 note now) m h (call_offers 0 note now) calls.sending_ends _
      (send_is NoWord (call_given 0 note now) m.station to datagram (λ some short. (some, short, h.station.tag)))

  pub near_quietly : (to cost now : ℕ) → to < 0xFFFE → cost < 2 ^ 16 → Quietly m (of_station m (calls.preset_near m.station to cost now))
  near_quietly to cost now short low = station_quietly (near_given to cost now) m h (near_offers to cost now short low) calls.presetting_ends _
      (near_is NoWord (near_given to cost now) m.station to refl)

  pub counter_quietly : (value : ℕ) → value < 2 ^ 32 → Quietly m (of_station m (calls.preset_counter m.station value))
  unfolding resting
  counter_quietly value fits = record {
    leads = λ V. station_grown V m m.station (record m.station { counter = counter.counting_at value }) _
        (low_one (Rest Coordinator m) (rest_lasts Coordinator m) m.station _ _ (omega arith)
        (λ r k. limit_kept m.station r (counter.counting_at value) k fits (omega arith)));
    ring = λ S none here reads. (Away _ (omega arith), tt);
    session = refl;
    made = refl;
  }

  pub number_quietly : (value : ℕ) → 1 ≤ value → value < 2 ^ 16 → Quietly m (of_station m (calls.preset_number m.station value))
  unfolding resting
  number_quietly value low fits = record {
    leads = λ V. station_grown V m m.station (record m.station { own_number = own_number.numbering_at value }) _
        (low_one (Rest Coordinator m) (rest_lasts Coordinator m) m.station _ _ (omega arith)
        (λ r k. number_kept m.station r (own_number.numbering_at value) k low fits (omega arith)));
    ring = λ S none here reads. (Away _ (omega arith), tt);
    session = refl;
    made = refl;
  }

  pub broke_quietly : {A : Type 0} (next : ℕ) (answer : A) → Quietly m (resting (with_station (calls.broke next m.station) m) answer answer)
  unfolding resting
  broke_quietly next answer = record {
    leads = λ V. leads_beside (Grown V) m _ (λ r k. record {
      kept = record { station = ended_kept m.station r (routing.goes_by next) k.kept.station; book = k.kept.book; sessions = k.kept.sessions };
      grows = k.grows;
    });
    ring = λ S none here reads. tt;
    session = refl;
    made = refl;
  }

  pub random_quietly : (value : RandomOctets) → Quietly m (give_random m value)
  random_quietly value = record {
    leads = λ V. plan_grown V NoWord NoGrant NoPair NoEui (call_given 0 0 0) m no_words (call_offers 0 0 0) (λ eui k. absurd k) (λ eui psk k. absurd k)
        (no_entry m V) (λ r k granted none. absurd none) given_ends Nothing (λ n answer k. absurd k) _
        (planned_weaker _ (λ n answer k. k) (few_of AnyAnswer m NoWord NoGrant NoPair NoEui (call_given 0 0 0))
        (random_is NoWord NoGrant NoPair NoEui (call_given 0 0 0) m value)) (waits_little m h);
    ring = λ S none here reads. plan_rung S NoWord NoGrant NoPair NoEui (call_given 0 0 0) m (no_changes S none) here reads given_ends Nothing _ (λ d a x. x.0)
        _ (random_is NoWord NoGrant NoPair NoEui (call_given 0 0 0) m value);
    session = (given_rest m value).0;
    made = (given_rest m value).1;
  }

-- # Accepting

-- the write of a mark
mark_away : (S : ring.Ring → Type 0) (table : marks.Table) (from counter : ℕ) → RingWrites S (puts_of (marks.keep_write table from counter))
mark_away S table from counter = by_place (marks.place_of table from)
  where
    by_stored : (place : ℕ) (b : Bool) → RingWrites S (puts_of (if b then None else Some (slots.entry_write marks.peers place (marks.peer_ahead from counter))))
    by_stored place true = tt
    by_stored place false = (Away _ (omega arith), tt)

    by_place : (o : Option ℕ) → RingWrites S (puts_of (option_map_or
        (λ place. if nat_le counter (marks.peer_at table place).stored then None
        else Some (slots.entry_write marks.peers place (marks.peer_ahead from counter))) o
        (Some (slots.entry_write marks.peers (length table) (marks.peer_ahead from counter)))))
    by_place None = (Away _ (omega arith), tt)
    by_place (Some place) = by_stored place (nat_le counter (marks.peer_at table place).stored)

module _ (ciphers : Ciphers) (fits : KeepsRanges ciphers) (octets : List ℕ) (are : AreOctets octets) where
  accepting_quietly : (m : Memory) (p : Accepting) → Accepts m.station (arrived ciphers octets) p → Quietly m (of_station m p)
  unfolding resting marking
  accepting_quietly m p (Turned reason) =
      record { leads = λ V. leads_beside (Grown V) m m (λ r k. k); ring = λ S none here reads. tt; session = refl; made = refl }
  accepting_quietly m p (Plain got plain) =
      record { leads = λ V. leads_beside (Grown V) m m (λ r k. k); ring = λ S none here reads. tt; session = refl; made = refl }
  accepting_quietly m p (Marked from counter got a) =
      let in_range = admitted_fits ciphers fits octets are m.station from counter got a in
      record {
        leads = λ V. station_grown V m m.station (record m.station { marks = marks.kept_after m.station.marks from counter }) _
            (marks_lead (Rest Coordinator m) (rest_lasts Coordinator m) m.station from counter in_range.0 in_range.1 a.room);
        ring = λ S none here reads. mark_away S m.station.marks from counter;
        session = refl;
        made = refl;
      }

  pub accept_quietly : (m : Memory) (own : Eui) → Quietly m (of_station m (accept m.station own (arrived ciphers octets)))
  accept_quietly m own = accepting_quietly m _ (accept_is m.station own (arrived ciphers octets))

-- # The coordinator

-- what the coordinator does to its ring
abbrev pub CoordinatorWord : RingWord → Type 0
CoordinatorWord (Carry to note load) = IsAnyLoad load
CoordinatorWord Drop = ⊥
CoordinatorWord (Install granted) = ⊥
CoordinatorWord (Draw index key) = IsHeld (Some key)
CoordinatorWord (Activate index) = index ≤ 1

pub coordinator_words : (w : RingWord) → CoordinatorWord w → WordFits w
coordinator_words (Carry to note load) w = w
coordinator_words Drop w = absurd w
coordinator_words (Install granted) w = absurd w
coordinator_words (Draw index key) w = w
coordinator_words (Activate index) w = w

keyed_nought : (g : Granted) (index : ℕ) (key : Key) → g.address ≡ 0 → (keyed g index key).address ≡ 0
keyed_nought g index key e = by_index (index == 0)
  where
    by_index : (b : Bool) → (if b then record g { key0 = Some key } else record g { key1 = Some key }).address ≡ 0
    by_index true = e
    by_index false = e

coordinator_changes : (r y : ring.Ring) → RingChange CoordinatorWord r y → IfSome r IsReadable → Nought r → Nought y × IfSome y IsReadable
coordinator_changes r y change reads here = (nought r y change here, ring_fits CoordinatorWord coordinator_words r y change reads)
  where
    nought : (r y : ring.Ring) → RingChange CoordinatorWord r y → Nought r → Nought y
    nought r y Drops k = tt
    nought r y (Installs granted w) k = absurd w
    nought None y (Draws index key w) k = tt
    nought (Some g) y (Draws index key w) k = keyed_nought g index key k
    nought None y (Activates index w held) k = tt
    nought (Some g) y (Activates index w held) k = k

abbrev HasPair : Eui → Key → Type 0
HasPair eui psk = IsPair psk

pub handed_grown : (V : book.Book → Type 0) (m : Memory) (h : IsMemorySized m) (g : Given) (n : Memory) (a : CoordinatorHeard)
    → HandedIn coordinator_heard.Station g m n a → (r : Records) → Grown V m r → Grown V n r
handed_grown V m h g n a k r q =
    record { kept = handed_kept Coordinator m h coordinator_heard.Station g n a k r q.kept; grows = subst V (sym (same_book k)) q.grows }
  where
    same_book : {H : Type 0} {n : Memory} {a : H} {word : _ → H} → HandedIn word g m n a → n.book ≡ m.book
    same_book (ByStation l x y) = refl

module _ (ciphers : Ciphers) (fits : KeepsRanges ciphers) (own : coordinators.CoordinatorIdentity) (m : Memory) (h : IsMemorySized m) (b : book.Book)
    (nought : Nought m.station.ring) (reads : IfSome m.station.ring IsReadable) where
  coordinator_leads : {H F : Type 0} (g : Given)
      → ((address : Option ℕ) (by origin : ℕ) (rank : Rank) → Offered g address by origin rank → EntryFits (routing.offered_entry origin rank by g.now))
      → (ends : Ends F) (K : Memory → H → Type 0) (N : H → Type 0)
      → ((n : Memory) (answer : H) → K n answer → (r : Records) → Grown (Grows b) m r → Grown (Grows b) n r)
      → (p : Plan Memory (Result H F)) → Planned in_memory ends m K (MadeBy CoordinatorWord (IsGranted m) HasPair HasEui g m N) p
      → Leads (Grown (Grows b)) m p.puts p.memory × RingWrites Nought p.puts
  coordinator_leads g offers ends K N beside p s = (
    plan_grown (Grows b) CoordinatorWord (IsGranted m) HasPair HasEui g m coordinator_words offers (λ eui k. k) (λ eui psk k. k)
        (λ x e c q. grows_entry b x e q) (granted_keys Coordinator m) ends K beside p
        (planned_weaker p (λ n answer k. k) (few_of N m CoordinatorWord (IsGranted m) HasPair HasEui g) s) (waits_little m h),
    plan_rung Nought CoordinatorWord (IsGranted m) HasPair HasEui g m coordinator_changes nought reads ends K _ (λ d a x. x.0) p s,
  )

  pub hears_coordinator : (got : Accepted) (cost note now : ℕ) → RoutesFit got
      → (keyed : Result CoordinatorHeard Dropped → Option SentGrant) (done : Result CoordinatorHeard Dropped → Option CompletedJoining)
      → ((a : CoordinatorHeard) → keyed (Ok a) ≡ keyed_in a) → ((a : CoordinatorHeard) → done (Ok a) ≡ done_in a) → ((f : Dropped) → done (Err f) ≡ None)
      → let p : Plan Memory (Result CoordinatorHeard Dropped) = coordinators.hear_coordinator own m got cost note now in
      CoordinatorPlan b m (keyed p.answer) p × CoordinatorTags m (keyed p.answer) (done p.answer) p
  hears_coordinator got cost note now routes keyed done same finished failed =
      let g = heard_given got cost note now in
      let p = coordinators.hear_coordinator own m got cost note now in
      let l = coordinator_leads g (heard_offers got cost note now routes) dropped (HandedIn coordinator_heard.Station g m) HandsNothingUp
      (handed_grown (Grows b) m h g) p
      (coordinator_is CoordinatorWord HasPair HasEui g own m (λ to there join said. omega arith) got refl (heard_euis m got cost note now routes)) in
      let t = says_tags m dropped (λ n a. done_in a ≡ None) keyed done same finished failed (λ a n k. k) p (coordinator_hears own m g got refl) in
      (record { leads = l.0; ring = l.1; made = t.made }, t)

  order_plan : {H : Type 0} (now : ℕ) (p : Plan Memory (Result H CoordinatorRefusal))
      → Planned in_memory coordinators.orders m Nothing (MadeBy CoordinatorWord (IsGranted m) HasPair HasEui (call_given 0 0 now) m AnyAnswer) p → p.made ≡ []
      → CoordinatorPlan b m None p
  order_plan now p s none =
      let l = coordinator_leads (call_given 0 0 now) (call_offers 0 0 now) coordinators.orders Nothing AnyAnswer (λ n answer k. absurd k) p s in
      record { leads = l.0; ring = l.1; made = subst (Each (CoordinatorTag m None)) (sym none) tt }

module _ (ciphers : Ciphers) (fits : KeepsRanges ciphers) (own : coordinators.CoordinatorIdentity) (m : Memory) (h : IsMemorySized m) (b : book.Book)
    (nought : Nought m.station.ring) (reads : IfSome m.station.ring IsReadable) where
  abbrev Order : {H : Type 0} → Plan Memory (Result H CoordinatorRefusal) → Type 0
  Order p = CoordinatorPlan b m None p

  pub allow_coordinator : (eui : Eui) (psk : Key) → HasEui eui → HasPair eui psk → Order (coordinators.allow m eui psk)
  allow_coordinator eui psk known pair = order_plan ciphers fits own m h b nought reads 0 _
      (allow_is CoordinatorWord HasPair HasEui (call_given 0 0 0) own m (λ to there join said. omega arith) eui psk known pair) (allow_untagged m eui psk).0

  pub depot_coordinator : (eui : Eui) (psk : Key) → HasEui eui → HasPair eui psk → Order (coordinators.depot m eui psk)
  depot_coordinator eui psk known pair = order_plan ciphers fits own m h b nought reads 0 _
      (depot_is CoordinatorWord HasPair HasEui (call_given 0 0 0) own m (λ to there join said. omega arith) eui psk known pair) (depot_untagged m eui psk).0

  pub rekey_coordinator : (index : ℕ) (key : Key) → IsHeld (Some key) → Order (coordinators.rekey m index key)
  rekey_coordinator index key held = order_plan ciphers fits own m h b nought reads 0 _
      (rekey_is CoordinatorWord HasPair HasEui (call_given 0 0 0) own m (λ to there join said. omega arith) index key held) (rekey_untagged m index key).0

  pub activate_self_coordinator : (index : ℕ) → index ≤ 1 → Order (coordinators.activate_self m index)
  activate_self_coordinator index low = order_plan ciphers fits own m h b nought reads 0 _
      (activate_self_is CoordinatorWord HasPair HasEui (call_given 0 0 0) own m (λ to there join said. omega arith) index low)
      (activate_self_untagged m index).0

  pub challenge_coordinator : (eui : Eui) (now : ℕ) → HasEui eui → Order (coordinators.challenge own.eui m eui now)
  challenge_coordinator eui now known = order_plan ciphers fits own m h b nought reads now _
      (challenge_is CoordinatorWord HasPair HasEui (call_given 0 0 now) own m (λ to there join said. omega arith) eui known)
      (challenge_untagged m own.eui eui now).0

  pub activate_coordinator : (eui : Eui) (index now : ℕ) → Order (coordinators.activate m eui index now)
  activate_coordinator eui index now = order_plan ciphers fits own m h b nought reads now _
      (activate_is CoordinatorWord HasPair HasEui (call_given 0 0 now) own m (λ to there join said. omega arith) eui index)
      (activate_untagged m eui index now).0

  pub kick_coordinator : (eui : Eui) → HasEui eui → Order (coordinators.kick m eui)
  kick_coordinator eui known = order_plan ciphers fits own m h b nought reads 0 _
      (kick_is CoordinatorWord HasPair HasEui (call_given 0 0 0) own m (λ to there join said. omega arith) eui known) (kick_untagged m eui).0
