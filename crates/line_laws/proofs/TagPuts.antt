-- The slot of the next tag: no call but a send writes into it, and a send puts there the tag after the one that is held.
use Rattle.std.proofs.Common.{◌≡◌, ◌≢◌, ⊎_elim, ℕ, Bool, true, false, List, [], ◌∷◌, ◌++◌, length, Option, Some, None, Result, refl, sym, ap, ◌∙◌, subst, arith}
use Rattle.std.specs.Prelude.{⊤, if◌then◌else◌, nat_le}
use Rattle.std.specs.Option.{option_map_or}
use Rattle.std.specs.FinMap.{insert}
use Rattle.plc_base.specs.declared.address.Eui.{Eui}
use Rattle.plc_base.specs.declared.keeper.Cut.{Cut}
use Rattle.plc_base.specs.declared.key.Key.{Key}
use Rattle.plc_base.specs.declared.key.RandomOctets.{RandomOctets}
use Rattle.plc_base.specs.Grant.{Granted}
use Rattle.plc_base.specs.Keeper.{Records, Write}
use Rattle.store_tables.specs.SlotTables as slots
use Rattle.store_tables.specs.Writes.{puts_of}
use Rattle.frame_counters.specs.SendCounter as counter
use Rattle.frame_counters.specs.PeerMarks as marks
use Rattle.group_keys.specs.declared.key_book.BookEntry.{BookEntry}
use Rattle.group_keys.specs.KeyBook as book
use Rattle.routing_set.specs.declared.rank.Rank.{Rank}
use Rattle.routing_set.specs.declared.entry.RoutingEntry.{RoutingEntry}
use Rattle.routing_set.specs.RoutingSet as routing
use Rattle.routing_set.specs.OwnNumber as own_number
use Rattle.node_rules.specs.Accepted.{Accepted}
use Rattle.node_rules.specs.declared.heard.CoordinatorHeard.TheVariants as coordinator_heard
use Rattle.node_rules.specs.declared.heard.MeterHeard.TheVariants as meter_heard
use Rattle.node_rules.specs.Frames.{Arrived}
use Rattle.node_rules.specs.Memory.{StationMemory, Memory, Load, Datagram, Command}
use Rattle.node_rules.specs.Plans.{Plan, carry_out, resting}
use Rattle.node_rules.specs.Acceptance.{Accepting, accept, marking}
use Rattle.node_rules.specs.Calls as calls
use Rattle.node_rules.specs.Coordinators as coordinators
use Rattle.node_rules.specs.Coordinators.{with_book_entry}
use Rattle.node_rules.specs.Meters as meters
use Rattle.node_rules.specs.Drafts.{Draft, Ends, alone, empty_draft, tag_write, with_rank, with_own_number, with_next_tag, with_ring, with_routing_by, goes}
use Rattle.node_rules.specs.Drafts.{body_goes, waits, leave}
use Rattle.node_rules.specs.HearingRules.{dropped}
use Rattle.node_rules.specs.MemoryDrafts.{in_memory, on_station, station_part, with_memory_by, with_pair_tags, goes_up, goes_down, with_station, give_random}
use Rattle.node_rules.specs.MemoryDrafts.{given_ends}
use Rattle.node_rules.specs.NodeSteps.{of_station}
use Rattle.node_rules.specs.Laws.{all_put, IsWhole, IsCutOff}
use Rattle.node_rules.proofs.FailedWrites.{clean}
use Rattle.line_laws.proofs.Planned.{Planned, Refuses, Keeps, Ended}
use Rattle.line_laws.proofs.Made.{RingWord, Carry, Install, Given, TakesTag, Made, Starts, Ranks, Numbers, Tags, Rings, Idles, Loses, Goes, Sends, Waits}
use Rattle.line_laws.proofs.Made.{Leaves}
use Rattle.line_laws.proofs.MadeIn.{unheard, MadeIn, Begins, Station, OnStation, Remembers, Tags as TagsIn, Enters, Up as UpIn, Down as DownIn}
use Rattle.line_laws.proofs.MemoryDraftForms.{AnyAnswer, MadeBy, HandedIn}
use Rattle.line_laws.proofs.MeterForms.{RingCause, ToCoordinator, meter_is, joins_is, leaves_is}
use Rattle.line_laws.proofs.CoordinatorForms as coordinator
use Rattle.line_laws.proofs.CallForms.{Few, Nothing, send_is, install_is, near_is, random_is}
use Rattle.line_laws.proofs.StoreMarks.{Accepts, Turned, Plain, Marked, accept_is}
use Rattle.line_laws.proofs.NodeCalls.{NoGrant, NoPair, NoEui, NoWord, heard_given, call_given, near_given}
use Rattle.line_laws.proofs.CustodyCalls.{CoordinatorWord, Says, Draws, Activates, AnyEui, AnyPair}
use Rattle.line_laws.proofs.IssueWords.{Each, each_append, each_weaker}

-- # Writes of other slots, over the words

module _ (Q : Write → Type 0) (away : (w : Write) → w.slot ≢ 4 → Q w) where
  due_away : (floors : List ℕ) (gone : Option RoutingEntry) → Each Q (puts_of (routing.floors_due floors gone))
  due_away floors None = tt
  due_away floors (Some e) = by_rise (routing.raises floors e)
    where
      by_rise : (b : Bool) → Each Q (puts_of (if b then Some (routing.floors_write (routing.raised floors e)) else None))
      by_rise true = (away _ (omega arith), tt)
      by_rise false = tt

  offer_away : (r : routing.Routing) (dest : ℕ) (rank : Rank) (next now : ℕ) → Each Q (routing.offer_writes r dest rank next now)
  unfolding routing.entry_writes
  offer_away r dest rank next now = each_append Q _ _ (due_away r.floors (routing.forgotten r dest now)) (away _ (omega arith), tt)

  number_away : (n : own_number.Numbering) → Each Q (puts_of (own_number.advance_write n))
  number_away n = by_limit (own_number.passes n)
    where
      by_limit : (b : Bool) → Each Q (puts_of (if b then own_number.limit_write (own_number.raised n.limit) else None))
      by_limit true = (away _ (omega arith), tt)
      by_limit false = tt

  pub counter_away : (c : counter.Counting) (count : ℕ) → Each Q (puts_of (counter.reserve_write c count))
  counter_away c count = by_limit (counter.passes c count)
    where
      by_limit : (b : Bool) → Each Q (puts_of (if b then counter.limit_write (counter.raised c.limit) else None))
      by_limit true = (away _ (omega arith), tt)
      by_limit false = tt

  entry_away : (b : book.Book) (e : BookEntry) → Each Q (puts_of (book.change_write b e))
  entry_away b e = by_holding (book.holds b e)
    where
      by_holding : (h : Bool) → Each Q (puts_of (if h then None else book.entry_write b e))
      by_holding true = tt
      by_holding false = (away _ (omega arith), tt)

  mark_away : (table : marks.Table) (from count : ℕ) → Each Q (puts_of (marks.keep_write table from count))
  mark_away table from count = by_place (marks.place_of table from)
    where
      by_stored : (place : ℕ) (b : Bool) → Each Q (puts_of (if b then None else Some (slots.entry_write marks.peers place (marks.peer_ahead from count))))
      by_stored place true = tt
      by_stored place false = (away _ (omega arith), tt)

      by_place : (o : Option ℕ) → Each Q (puts_of (option_map_or (λ place. if nat_le count (marks.peer_at table place).stored then None
          else Some (slots.entry_write marks.peers place (marks.peer_ahead from count))) o
          (Some (slots.entry_write marks.peers (length table) (marks.peer_ahead from count)))))
      by_place None = (away _ (omega arith), tt)
      by_place (Some place) = by_stored place (nat_le count (marks.peer_at table place).stored)

  module _ (W : RingWord → Type 0) (g : Given) where
    made_puts : (s d : Draft StationMemory) → ((e : Draft StationMemory) → TakesTag W s e → Q (tag_write e.memory.next_tag)) → Made W g s d → Each Q s.puts
        → Each Q d.puts
    unfolding with_rank with_own_number with_next_tag with_ring with_routing_by goes body_goes waits leave
    made_puts s d tagged Starts h = h
    made_puts s d tagged (Ranks by origin rank e made o fits) h =
        each_append Q e.puts _ (made_puts s e tagged made h) (offer_away e.memory.routing origin rank by g.now)
    made_puts s d tagged (Numbers e made left) h = each_append Q e.puts _ (made_puts s e tagged made h) (number_away e.memory.own_number)
    made_puts s d tagged (Tags e made first) h = each_append Q e.puts _ (made_puts s e tagged made h) (tagged e first, tt)
    made_puts s d tagged (Rings x e made change) h = each_append Q e.puts _ (made_puts s e tagged made h) (away _ (omega arith), tt)
    made_puts s d tagged (Idles e made) h = made_puts s e tagged made h
    made_puts s d tagged (Loses lost by e made) h = made_puts s e tagged made h
    made_puts s d tagged (Goes to unit note e made said alone) h = made_puts s e tagged made h
    made_puts s d tagged (Sends own hop to note load e made here there short carried alone) h = made_puts s e tagged made h
    made_puts s d tagged (Waits to note load now e made none room short carried alone) h = made_puts s e tagged made h
    made_puts s d tagged (Leaves own dest hop rank e made here o) h = made_puts s e tagged made h

  -- whatever becomes of the writes
  module _ (R : Records → Type 0) (put : (r : Records) (w : Write) → Q w → R r → R (insert r w.slot w.octets)) where
    all_puts : (ps : List Write) (r : Records) → Each Q ps → R r → R (all_put ps r)
    all_puts [] r q h = h
    all_puts (p ∷ ps) r q h = all_puts ps (insert r p.slot p.octets) q.1 (put r p q.0 h)

    front_of : (front rest : List Write) → Each Q (front ++ rest) → Each Q front
    front_of [] rest q = tt
    front_of (p ∷ front) rest q = (q.0, front_of front rest q.1)

    pub carried_puts : {M A : Type 0} (r : Records) (cut : Option Cut) (p : Plan M A) → Each Q p.puts → R r → R (carry_out r cut p).records
    carried_puts r cut p q h = ⊎_elim whole cut_off (clean r cut p)
      where
        whole : IsWhole r cut p (carry_out r cut p) → R (carry_out r cut p).records
        whole x = subst R (sym x.left) (all_puts p.puts r q h)

        append_one : (front : List Write) (one : Write) (rest : List Write) → (front ++ one ∷ []) ++ rest ≡ front ++ one ∷ rest
        append_one [] one rest = refl
        append_one (x ∷ front) one rest = ap (λ ws. x ∷ ws) (append_one front one rest)

        by_kind : (b : Bool) (front rest : List Write) (one : Write) → p.puts ≡ front ++ one ∷ rest
            → R (if b then all_put (front ++ one ∷ []) r else all_put front r)
        by_kind true front rest one e =
            all_puts (front ++ one ∷ []) r (front_of (front ++ one ∷ []) rest (subst (Each Q) (e ∙ sym (append_one front one rest)) q)) h
        by_kind false front rest one e = all_puts front r (front_of front (one ∷ rest) (subst (Each Q) e q)) h

        cut_off : IsCutOff r cut p (carry_out r cut p) → R (carry_out r cut p).records
        cut_off c = subst R (sym c.left) (by_kind c.by.keeps_new c.front c.rest c.write c.split)

-- # Calls that leave the slot alone

-- a write of another slot
abbrev pub Away : Write → Type 0
Away w = w.slot ≢ 4

pub away_so : (w : Write) → w.slot ≢ 4 → Away w
away_so w ne = ne

-- no datagram is sent out
pub record NoneSent (W : RingWord → Type 0) : Type 0 where
  pub none : (to note tag : ℕ) (datagram : List ℕ) → W (Carry to note (Datagram datagram tag)) → ⊥

no_word : NoneSent NoWord
no_word = record { none = λ to note tag datagram w. w }

meter_word : (g : Given) (x : meters.Identity) (m : Memory) → NoneSent (RingCause g x m)
meter_word g x m = record { none = λ to note tag datagram w. by_cause to note (Datagram datagram tag) w }
  where
    IsCommand : Load → Type 0
    IsCommand (Datagram octets tag) = ⊥
    IsCommand (Command octets) = ⊤

    by_cause : (to note : ℕ) (load : Load) → RingCause g x m (Carry to note load) → IsCommand load
    by_cause to note load (ToCoordinator join said) = tt

coordinator_word : NoneSent CoordinatorWord
coordinator_word = record { none = λ to note tag datagram w. by_word to note (Datagram datagram tag) w }
  where
    IsCommand : Load → Type 0
    IsCommand (Datagram octets tag) = ⊥
    IsCommand (Command octets) = ⊤

    by_word : (to note : ℕ) (load : Load) → CoordinatorWord (Carry to note load) → IsCommand load
    by_word to note load (Says t join) = tt

module _ (W : RingWord → Type 0) (silent : NoneSent W) (L : Granted → Type 0) (P : Eui → Key → Type 0) (E : Eui → Type 0) (g : Given) (m : Memory) where
  untagged : (s e : Draft StationMemory) → TakesTag W s e → Away (tag_write e.memory.next_tag)
  untagged s e first = absurd (silent.none first.to first.note s.memory.next_tag first.datagram first.carries)

  made_in_away : (d : Draft Memory) → MadeIn W L P E g m d → Each Away d.puts
  unfolding empty_draft on_station with_memory_by with_pair_tags with_book_entry goes_up goes_down
  made_in_away d Begins = tt
  made_in_away d (Station e made) = made_puts Away away_so W g (empty_draft m.station) e (untagged (empty_draft m.station)) made tt
  made_in_away d (OnStation word e made step) =
      made_puts Away away_so W (unheard g) (station_part e) (word (station_part e)) (untagged (station_part e)) step (made_in_away e made)
  made_in_away d (Remembers change e made beside) = made_in_away e made
  made_in_away d (TagsIn made opened e x) = made_in_away e x
  made_in_away d (Enters x e made change) = each_append Away e.puts _ (made_in_away e made) (entry_away Away away_so e.memory.book x)
  made_in_away d (UpIn agent own message e made) = made_in_away e made
  made_in_away d (DownIn own message e made) = made_in_away e made

  plan_away : {H F : Type 0} (ends : Ends F) (K : Memory → H → Type 0) (N : H → Type 0) (p : Plan Memory (Result H F))
      → Planned in_memory ends m K (MadeBy W L P E g m N) p → Each Away p.puts
  unfolding resting
  plan_away ends K N p (Refuses reason) = tt
  plan_away ends K N p (Keeps n answer k) = tt
  plan_away ends K N p (Ended d answer done left) =
      each_append Away d.puts _ (made_in_away d done.0) (counter_away Away away_so d.memory.station.counter (length d.units))

  station_away : {H F : Type 0} {ends : Ends F} (p : Plan StationMemory (Result H F))
      → Planned alone ends m.station Nothing (λ d (a : H). Made W g (empty_draft m.station) d × Few m.station d) p → Each Away (of_station m p).puts
  unfolding resting empty_draft
  station_away p (Refuses reason) = tt
  station_away p (Keeps n answer k) = absurd k
  station_away p (Ended d answer done left) = each_append Away d.puts _
      (made_puts Away away_so W g (empty_draft m.station) d (untagged (empty_draft m.station)) done.0 tt)
      (counter_away Away away_so d.memory.counter (length d.units))

-- the one grant that is installed
abbrev Installed : Granted → RingWord → Type 0
Installed granted w = w ≡ Install granted

module _ (m : Memory) where
  pub random_away : (value : RandomOctets) → Each Away (give_random m value).puts
  random_away value = plan_away NoWord no_word NoGrant NoPair NoEui (call_given 0 0 0) m given_ends Nothing AnyAnswer _
      (random_is NoWord NoGrant NoPair NoEui (call_given 0 0 0) m value)

  pub join_away : (x : meters.Identity) (agent now : ℕ) → Each Away (meters.join x m agent now).puts
  join_away x agent now = plan_away (RingCause (call_given 0 0 now) x m) (meter_word (call_given 0 0 now) x m) NoGrant NoPair NoEui (call_given 0 0 now) m
      meters.joining_ends Nothing AnyAnswer _ (joins_is NoGrant NoPair NoEui (call_given 0 0 now) x m agent)

  pub leave_away : (x : meters.Identity) → Each Away (meters.leave m).puts
  leave_away x = plan_away (RingCause (call_given 0 0 0) x m) (meter_word (call_given 0 0 0) x m) NoGrant NoPair NoEui (call_given 0 0 0) m meters.leaving_ends
      Nothing AnyAnswer _ (leaves_is NoGrant NoPair NoEui (call_given 0 0 0) x m)

  pub broke_away : {A : Type 0} (next : ℕ) (answer : A) → Each Away (resting (with_station (calls.broke next m.station) m) answer answer).puts
  unfolding resting
  broke_away next answer = tt

  pub near_away : (to cost now : ℕ) → Each Away (of_station m (calls.preset_near m.station to cost now)).puts
  near_away to cost now =
      station_away NoWord no_word NoGrant NoPair NoEui (near_given to cost now) m _ (near_is NoWord (near_given to cost now) m.station to refl)

  pub counter_put_away : (value : ℕ) → Each Away (of_station m (calls.preset_counter m.station value)).puts
  unfolding resting
  counter_put_away value = (omega arith, tt)

  pub number_put_away : (value : ℕ) → Each Away (of_station m (calls.preset_number m.station value)).puts
  unfolding resting
  number_put_away value = (omega arith, tt)

  pub provision_away : (granted : Granted) → Each Away (meters.provision m granted).puts
  provision_away granted = station_away (Installed granted) (record { none = λ to note tag datagram w. absurd (cc) }) NoGrant NoPair NoEui (call_given 0 0 0) m
      _ (install_is (Installed granted) (call_given 0 0 0) m.station granted refl)

  accepting_away : (a : Option Arrived) (p : Accepting) → Accepts m.station a p → Each Away (of_station m p).puts
  unfolding resting marking
  accepting_away a p (Turned reason) = tt
  accepting_away a p (Plain got plain) = tt
  accepting_away a p (Marked from counter got x) = mark_away Away away_so m.station.marks from counter

  pub accept_away : (own : Eui) (a : Option Arrived) → Each Away (of_station m (accept m.station own a)).puts
  accept_away own a = accepting_away a _ (accept_is m.station own a)

  pub meter_away : (x : meters.Identity) (got : Accepted) (cost note now : ℕ) → Each Away (meters.hear_meter x m got cost note now).puts
  meter_away x got cost note now =
      let g = heard_given got cost note now in
      plan_away (RingCause g x m) (meter_word g x m) NoGrant NoPair NoEui g m dropped (HandedIn meter_heard.Station g m) _ _
      (meter_is NoGrant NoPair NoEui g x m got refl)

  pub coordinator_away : (own : coordinators.CoordinatorIdentity) (got : Accepted) (cost note now : ℕ)
      → Each Away (coordinators.hear_coordinator own m got cost note now).puts
  coordinator_away own got cost note now =
      let g = heard_given got cost note now in
      plan_away CoordinatorWord coordinator_word (λ granted. coordinator.IsGranted m granted) AnyPair AnyEui g m dropped
      (HandedIn coordinator_heard.Station g m) _ _
      (coordinator.coordinator_is CoordinatorWord AnyPair AnyEui g own m (λ to there join said. Says to join) got refl (λ u join e read. tt))

  module _ (own : coordinators.CoordinatorIdentity) (now : ℕ) where
    order_away : {A : Type 0} (p : coordinators.Ordering A)
        → coordinator.IsOrder CoordinatorWord AnyPair AnyEui (call_given 0 0 now) own m (λ to there join said. Says to join) p → Each Away p.puts
    order_away p s = plan_away CoordinatorWord coordinator_word (λ granted. coordinator.IsGranted m granted) AnyPair AnyEui (call_given 0 0 now) m
        coordinators.orders Nothing AnyAnswer p s

    pub allow_away : (eui : Eui) (psk : Key) → Each Away (coordinators.allow m eui psk).puts
    allow_away eui psk =
        order_away _ (coordinator.allow_is CoordinatorWord AnyPair AnyEui (call_given 0 0 now) own m (λ to there join said. Says to join) eui psk tt tt)

    pub depot_away : (eui : Eui) (psk : Key) → Each Away (coordinators.depot m eui psk).puts
    depot_away eui psk =
        order_away _ (coordinator.depot_is CoordinatorWord AnyPair AnyEui (call_given 0 0 now) own m (λ to there join said. Says to join) eui psk tt tt)

    pub rekey_away : (index : ℕ) (key : Key) → Each Away (coordinators.rekey m index key).puts
    rekey_away index key = order_away _
        (coordinator.rekey_is CoordinatorWord AnyPair AnyEui (call_given 0 0 now) own m (λ to there join said. Says to join) index key (Draws index key))

    pub activate_self_away : (index : ℕ) → Each Away (coordinators.activate_self m index).puts
    activate_self_away index = order_away _
        (coordinator.activate_self_is CoordinatorWord AnyPair AnyEui (call_given 0 0 now) own m (λ to there join said. Says to join) index (Activates index))

    pub challenge_away : (eui : Eui) → Each Away (coordinators.challenge own.eui m eui now).puts
    challenge_away eui =
        order_away _ (coordinator.challenge_is CoordinatorWord AnyPair AnyEui (call_given 0 0 now) own m (λ to there join said. Says to join) eui tt)

    pub activate_away : (eui : Eui) (index : ℕ) → Each Away (coordinators.activate m eui index now).puts
    activate_away eui index =
        order_away _ (coordinator.activate_is CoordinatorWord AnyPair AnyEui (call_given 0 0 now) own m (λ to there join said. Says to join) eui index)

    pub kick_away : (eui : Eui) → Each Away (coordinators.kick m eui).puts
    kick_away eui = order_away _ (coordinator.kick_is CoordinatorWord AnyPair AnyEui (call_given 0 0 now) own m (λ to there join said. Says to join) eui tt)

-- # A send

-- a write leaves the slot alone, or puts there the tag after an old one
pub data TagPut (old : ℕ) (w : Write) : Type 0 where
  Elsewhere : w.slot ≢ 4 → TagPut old w
  Next : w ≡ tag_write old → TagPut old w

abbrev AnyWord : RingWord → Type 0
AnyWord w = ⊤

pub away_tags : (old : ℕ) (ps : List Write) → Each Away ps → Each (TagPut old) ps
away_tags old ps h = each_weaker Away (TagPut old) (λ w ne. Elsewhere ne) ps h

pub send_tags : (m : Memory) (to : ℕ) (datagram : List ℕ) (note now : ℕ)
    → Each (TagPut m.station.next_tag) (of_station m (calls.send m.station to datagram note now)).puts
unfolding resting empty_draft
send_tags m to datagram note now = by_form _ (send_is AnyWord (call_given 0 note now) m.station to datagram (λ some short. tt))
  where
    tagged : (s e : Draft StationMemory) → s.memory.next_tag ≡ m.station.next_tag → TakesTag AnyWord s e
        → TagPut m.station.next_tag (tag_write e.memory.next_tag)
    tagged s e same first = Next (ap tag_write (first.same ∙ same))

    begun_tag : (empty_draft m.station).memory.next_tag ≡ m.station.next_tag
    begun_tag = refl

    begun_puts : Each (TagPut m.station.next_tag) (empty_draft m.station).puts
    begun_puts = tt

    by_form : {H F : Type 0} {ends : Ends F} (p : Plan StationMemory (Result H F))
        → Planned alone ends m.station Nothing (λ d (a : H). Made AnyWord (call_given 0 note now) (empty_draft m.station) d × Few m.station d) p
        → Each (TagPut m.station.next_tag) (of_station m p).puts
    by_form p (Refuses reason) = tt
    by_form p (Keeps n answer k) = absurd k
    by_form p (Ended d answer done left) = each_append (TagPut m.station.next_tag) d.puts _
        (made_puts (TagPut m.station.next_tag) (λ w ne. Elsewhere ne) AnyWord (call_given 0 note now) (empty_draft m.station) d
        (λ e first. tagged (empty_draft m.station) e begun_tag first) done.0 begun_puts)
        (counter_away (TagPut m.station.next_tag) (λ w ne. Elsewhere ne) d.memory.counter (length d.units))
