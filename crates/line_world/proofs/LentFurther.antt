-- What the further rules do over all that a node holds is what they do over what its station holds, and they write in slots that neither
-- the ring, nor a table of the station, nor the book has.
use Rattle.std.proofs.Common.{◌≡◌, ◌⊎◌, inl, inr, ℕ, ◌≤◌, ◌<◌, Bool, true, false, List, [], ◌∷◌, length, Option, Some, None, Result, Ok, Err, refl, arith}
use Rattle.std.specs.Prelude.{All, if◌then◌else◌, ◌==◌, nat_lt, nat_le}
use Rattle.std.specs.Option.{option_map_or}
use Rattle.std.proofs.lemmas.List.Elements.{All-nil, All-cons, All-append}
use Rattle.plc_base.proofs.Faults.{then_none}
use Rattle.plc_base.specs.Keeper.{Write}
use Rattle.store_tables.specs.Numberings.{limit_write, passes, raised}
use Rattle.store_tables.specs.SlotTables.{entry_write}
use Rattle.store_tables.specs.Writes.{puts_of}
use Rattle.store_tables.proofs.MarkEntries.{room_has, room_new}
use Rattle.store_tables.proofs.SlotTables.{found}
use Rattle.frame_counters.specs.SendCounter as counter
use Rattle.group_keys.specs.KeyBook as book
use Rattle.neighbour_checks.specs.Acks.{ack_in}
use Rattle.neighbour_checks.specs.Neighbours.{is_awaited, acked_after}
use Rattle.broadcast_log.specs.declared.broadcast.Broadcast.{Broadcast}
use Rattle.broadcast_log.specs.declared.fault.LogFault.{LogFault}
use Rattle.broadcast_log.specs.declared.fault.LogFault.TheVariants as log_faults
use Rattle.broadcast_log.specs.Grammar.{spelling}
use Rattle.broadcast_log.specs.Log.{admitted_log, numbered_log}
use Rattle.broadcast_log.specs.NextNumber as numbers
use Rattle.broadcast_log.specs.OriginMarks.{Marks, keep_write, mark_ahead, mark_at, place_of, room_for}
use Rattle.broadcast_log.specs.OriginMarks as origins
use Rattle.broadcast_log.specs.Reader.{broadcast_in}
use Rattle.path_requests.specs.declared.message.PathMessage.{PathMessage}
use Rattle.path_requests.specs.declared.message.PathMessage.TheVariants.{Ask}
use Rattle.path_requests.specs.declared.step.PathStep.{PathStep}
use Rattle.path_requests.specs.declared.step.PathStep.TheVariants.{Forward, Answer, Done}
use Rattle.path_requests.specs.declared.step.PathRefusal.{PathRefusal}
use Rattle.path_requests.specs.Messages.{path_spelling}
use Rattle.path_requests.specs.Reader.{path_in}
use Rattle.path_requests.specs.PathSteps.{taken}
use Rattle.node_rules.specs.declared.refusal.Dropped.TheVariants.{BadUnit}
use Rattle.node_rules.specs.Drafts.{Draft, Ends, UnsealedUnit, alone, checked, choose, counters_left, empty_draft, refused, sealed, sealing}
use Rattle.node_rules.specs.Frames.{to_all}
use Rattle.node_rules.specs.Memory.{StationMemory, Memory, address_of, station_route}
use Rattle.node_rules.specs.MemoryDrafts.{in_memory, with_station}
use Rattle.node_rules.specs.Plans.{Plan, resting, within}
use Rattle.node_rules.specs.StationSlots.{IsOfStation}
use Rattle.node_rules.specs.Tables.{IsInPlace}
use Rattle.reach_rules.specs.declared.heard.CommandHeard.{CommandHeard}
use Rattle.reach_rules.specs.declared.heard.CommandHeard.TheVariants as heard_of
use Rattle.reach_rules.specs.declared.refusal.AskRefusal.TheVariants as asks
use Rattle.reach_rules.specs.declared.refusal.BroadcastRefusal.{BroadcastRefusal}
use Rattle.reach_rules.specs.declared.refusal.BroadcastRefusal.TheVariants as broadcasts
use Rattle.reach_rules.specs.declared.refusal.ReachDropped.{ReachDropped}
use Rattle.reach_rules.specs.declared.refusal.ReachDropped.TheVariants.{Known, NotAwaited}
use Rattle.reach_rules.specs.Broadcasts.{admits_broadcast, broadcast, broadcast_ends, broadcast_fault, broadcast_from, datagram_fault, goes_further}
use Rattle.reach_rules.specs.Broadcasts.{hear_broadcast_in, hop_less, mark_fault, own_broadcast, with_broadcast_mark, with_broadcast_number}
use Rattle.reach_rules.specs.CheckedReplies.{hear_acknowledgement_in}
use Rattle.reach_rules.specs.PathRequests.{ask_ends, ask_path, asks_by, asks_from, follows_path, hear_path_in, next_toward, path_word}
use Rattle.reach_rules.specs.ReachingNodes.{Beside, Reaching, drop_it, in_reach, reach_ends, remembers, adds_local}
use Rattle.reach_rules.specs.FurtherReceptions.{NeighbourCommand, hear_command, hear_command_at}
use Rattle.broadcast_log.specs.declared.log.TheConstants.{BROADCASTS_AHEAD}

-- # Slots

-- A write of a number, or of the mark of an origin.
abbrev pub IsApart : Write → Type 0
IsApart w = ((2 ≤ w.slot) × (w.slot < 0x0100)) ⊎ ((0x0300 ≤ w.slot) × (w.slot < 0x0320))

abbrev pub AreApart : List Write → Type 0
AreApart puts = All IsApart puts

place_apart : (l : StationMemory) (b : book.Book) (w : Write) → IsApart w → IsInPlace l b w
place_apart l b w (inl low) = let at = low.0 in let below = low.1 in record {
  mark = λ place within is. absurd (omega (arith, below, within, is));
  rank = λ place within is. absurd (omega (arith, below, within, is));
  entry = λ place within is. absurd (omega (arith, below, within, is));
}
place_apart l b w (inr high) = let at = high.0 in let below = high.1 in record {
  mark = λ place within is. absurd (omega (arith, at, within, is));
  rank = λ place within is. absurd (omega (arith, at, within, is));
  entry = λ place within is. absurd (omega (arith, below, within, is));
}

own_apart : (w : Write) → IsApart w → IsOfStation w
own_apart w (inl low) = let at = low.0 in let below = low.1 in record { ring = λ e. omega (arith, at, e); entry = omega (arith, below) }
own_apart w (inr high) = let at = high.0 in let below = high.1 in record { ring = λ e. omega (arith, at, e); entry = omega (arith, below) }

pub places_apart : (l : StationMemory) (b : book.Book) (puts : List Write) → AreApart puts → All (IsInPlace l b) puts
places_apart l b puts are k d within = place_apart l b _ (are k d within)

pub owns_apart : (puts : List Write) → AreApart puts → All IsOfStation puts
owns_apart puts are k d within = own_apart _ (are k d within)

none_apart : AreApart []
none_apart = All-nil IsApart

one_apart : (w : Write) → IsApart w → AreApart (w ∷ [])
one_apart w is = All-cons IsApart w [] is none_apart

counter_apart : (c : counter.Counting) (count : ℕ) → AreApart (puts_of (counter.reserve_write c count))
counter_apart c count = by_due (counter.passes c count)
  where
    by_due : (t : Bool) → AreApart (puts_of (if t then counter.limit_write (counter.raised c.limit) else None))
    by_due true = one_apart _ (inl (omega arith, omega arith))
    by_due false = none_apart

number_apart : (n : numbers.Numbering) → AreApart (puts_of (numbers.number_put n))
number_apart n = by_due (passes n 1)
  where
    by_due : (t : Bool) → AreApart (puts_of (if t then limit_write numbers.limit_at (raised numbers.limit_at BROADCASTS_AHEAD n.limit) else None))
    by_due true = one_apart _ (inl (omega arith, omega arith))
    by_due false = none_apart

-- the mark of an origin that is admitted
mark_apart : (marks : Marks) (origin number : ℕ) → length marks ≤ 32 → room_for marks origin number ≡ Ok (tt {0})
    → AreApart (puts_of (keep_write marks origin number))
mark_apart marks origin number short room = by_place (place_of marks origin) refl
  where
    by_stored : (place : ℕ) (t : Bool) → place < 32 → AreApart (puts_of (if t then None else Some (entry_write origins.marks place (mark_ahead origin number))))
    by_stored place true low = none_apart
    by_stored place false low = one_apart _ (inr (omega (arith, low), omega (arith, low)))

    by_place : (o : Option ℕ) → place_of marks origin ≡ o
        → AreApart (puts_of (option_map_or
        (λ place. if nat_le number (mark_at marks place).stored then None else Some (entry_write origins.marks place (mark_ahead origin number))) o
        (Some (entry_write origins.marks (length marks) (mark_ahead origin number)))))
    by_place (Some place) e =
        let there = (found origins.marks marks origin place (record { address = 0; mark = 0; stored = 0 }) e).0 in
        by_stored place (nat_le number (mark_at marks place).stored) (omega (arith, there, short))
    by_place None e =
        let more = room_new 0x0300 32 marks origin number e (room_has 0x0300 32 log_faults.Old log_faults.OriginsFull marks origin number short room) in
        one_apart _ (inr (omega (arith, more), omega (arith, more)))

-- # Plans

module _ (b : Beside) (m : Memory) where
  -- the node, and the station of it
  abbrev pub node_side : Reaching Memory
  node_side = record { memory = m; beside = b }

  abbrev pub station_side : Reaching StationMemory
  station_side = record { memory = m.station; beside = b }

  -- what a node holds around its station, with what stands beside
  abbrev pub whole : Reaching StationMemory → Reaching Memory
  whole y = record { memory = with_station y.memory m; beside = y.beside }

  -- The one plan is the other, and its writes are apart.
  pub record Lent {A : Type 0} (p : Plan (Reaching Memory) A) (q : Plan (Reaching StationMemory) A) : Type 0 where
    pub same : p ≡ within whole (λ a. a) q
    pub apart : AreApart q.puts

  refused_lent : {H E : Type 0} (ends : Ends E) (reason : E) → Lent (refused {H = H} ends node_side reason) (refused ends station_side reason)
  unfolding resting
  refused_lent ends reason = record { same = refl; apart = none_apart }

  either_lent : {A : Type 0} (t : Bool) (p p' : Plan (Reaching Memory) A) (q q' : Plan (Reaching StationMemory) A) → Lent p q → Lent p' q'
      → Lent (choose t p p') (choose t q q')
  unfolding choose
  either_lent true p p' q q' a z = a
  either_lent false p p' q q' a z = z

  -- what is done before it is sealed: what the station holds stays
  abbrev drafted : {M : Type 0} → Beside → List Write → List UnsealedUnit → M → Draft (Reaching M)
  drafted c ps us x = record { puts = ps; memory = record { memory = x; beside = c }; units = us; plain = []; made = []; opened = [] }

  sealed_lent : {H E : Type 0} (ends : Ends E) (c : Beside) (ps : List Write) (us : List UnsealedUnit) (answer : H) → AreApart ps
      → Lent (sealed (in_reach in_memory) ends node_side (drafted c ps us m) answer)
      (sealed (in_reach alone) ends station_side (drafted c ps us m.station) answer)
  unfolding sealed
  sealed_lent ends c ps us answer are = by_left (nat_lt (counters_left m.station) (length us))
    where
      by_left : (t : Bool) → Lent (if t then refused ends node_side ends.spent else sealing (in_reach in_memory) ends (drafted c ps us m) answer)
          (if t then refused ends station_side ends.spent else sealing (in_reach alone) ends (drafted c ps us m.station) answer)
      by_left true = refused_lent ends ends.spent
      by_left false = record { same = refl; apart = All-append IsApart ps _ are (counter_apart m.station.counter (length us)) }

  lent_local : {H E : Type 0} (ends : Ends E) (to code : ℕ) (body : List ℕ) (answer : H)
      → Lent (sealed (in_reach in_memory) ends node_side (adds_local to code body (empty_draft node_side)) answer)
      (sealed (in_reach alone) ends station_side (adds_local to code body (empty_draft station_side)) answer)
  unfolding adds_local empty_draft
  lent_local ends to code body answer = sealed_lent ends b [] _ answer none_apart

  drops : {H : Type 0} (reason : ReachDropped) → Lent (drop_it {H = H} node_side reason) (drop_it station_side reason)
  drops reason = refused_lent reach_ends reason

  remembers_lent : (c : Beside) (heard : CommandHeard)
      → Lent (remembers (record node_side { beside = c }) heard) (remembers (record station_side { beside = c }) heard)
  unfolding resting
  remembers_lent c heard = record { same = refl; apart = none_apart }

  -- # An ask

  asks_by_lent : (own target : ℕ) (o : Option ℕ) → Lent (asks_by in_memory node_side own target o) (asks_by alone station_side own target o)
  asks_by_lent own target None = refused_lent ask_ends asks.NoRoute
  asks_by_lent own target (Some hop) = lent_local ask_ends hop 5 (path_spelling (Ask target (own ∷ []))) (tt {0})

  pub ask_lent : (target : ℕ) → Lent (ask_path in_memory node_side target) (ask_path alone station_side target)
  ask_lent target = by_address (address_of m.station)
    where
      by_address : (o : Option ℕ) → Lent (option_map_or (λ own. asks_from in_memory node_side own target) o (refused ask_ends node_side asks.NotJoined))
          (option_map_or (λ own. asks_from alone station_side own target) o (refused ask_ends station_side asks.NotJoined))
      by_address None = refused_lent ask_ends asks.NotJoined
      by_address (Some own) = either_lent (target == own) _ _ _ _ (refused_lent ask_ends asks.ToSelf) (asks_by_lent own target (station_route m.station target))

  -- # A broadcast of its own

  broadcast_from_lent : (own : ℕ) (datagram : List ℕ) → Lent (broadcast_from in_memory node_side own datagram) (broadcast_from alone station_side own datagram)
  unfolding checked adds_local empty_draft with_broadcast_number
  broadcast_from_lent own datagram = by_fault (datagram_fault b.log datagram)
    where
      by_fault : (o : Option BroadcastRefusal)
          → Lent (checked broadcast_ends node_side o (sealed (in_reach in_memory) broadcast_ends node_side
          (adds_local to_all 4 (spelling (own_broadcast own b.log datagram)) (with_broadcast_number (empty_draft node_side))) (tt {0})))
          (checked broadcast_ends station_side o (sealed (in_reach alone) broadcast_ends station_side
          (adds_local to_all 4 (spelling (own_broadcast own b.log datagram)) (with_broadcast_number (empty_draft station_side))) (tt {0})))
      by_fault (Some reason) = refused_lent broadcast_ends reason
      by_fault None = sealed_lent broadcast_ends (record b { log = numbered_log b.log }) (puts_of (numbers.number_put b.log.numbering)) _ (tt {0})
          (number_apart b.log.numbering)

  pub broadcast_lent : (datagram : List ℕ) → Lent (broadcast in_memory node_side datagram) (broadcast alone station_side datagram)
  broadcast_lent datagram = by_address (address_of m.station)
    where
      by_address : (o : Option ℕ) → Lent
          (option_map_or (λ own. broadcast_from in_memory node_side own datagram) o (refused broadcast_ends node_side broadcasts.NotJoined))
          (option_map_or (λ own. broadcast_from alone station_side own datagram) o (refused broadcast_ends station_side broadcasts.NotJoined))
      by_address None = refused_lent broadcast_ends broadcasts.NotJoined
      by_address (Some own) = broadcast_from_lent own datagram

  -- # A command that is heard

  ack_in_lent : (from : ℕ) (o : Option (ℕ × ℕ)) → Lent (hear_acknowledgement_in node_side from o) (hear_acknowledgement_in station_side from o)
  ack_in_lent from None = drops (Known BadUnit)
  ack_in_lent from (Some (number, origin)) =
      either_lent (is_awaited b.checks from number origin) _ _ _ _
      (remembers_lent (record b { checks = acked_after b.checks from number origin }) heard_of.Acked) (drops NotAwaited)

  follows_lent : (o : Result PathStep PathRefusal) → Lent (follows_path in_memory node_side o) (follows_path alone station_side o)
  follows_lent (Err reason) = drops (path_word reason)
  follows_lent (Ok (Forward to message)) = lent_local reach_ends to 5 (path_spelling message) heard_of.Relayed
  follows_lent (Ok (Answer to message)) = lent_local reach_ends to 5 (path_spelling message) heard_of.Answered
  follows_lent (Ok (Done walk)) = remembers_lent b (heard_of.Path walk)

  path_in_lent : (own from : ℕ) (o : Option PathMessage) → Lent (hear_path_in in_memory node_side own from o) (hear_path_in alone station_side own from o)
  path_in_lent own from None = drops (Known BadUnit)
  path_in_lent own from (Some message) = follows_lent (taken own from (next_toward m.station message) message)

  -- there is room, where nothing is wrong
  has_room : (own : ℕ) (d : Broadcast) → broadcast_fault own b.log d ≡ None → room_for b.log.marks d.origin d.number ≡ Ok (tt {0})
  unfolding broadcast_fault
  has_room own d e = by_room (room_for b.log.marks d.origin d.number) (then_none _ _ e).1
    where
      by_room : (r : Result (Unit {0}) LogFault) → mark_fault r ≡ None → r ≡ Ok (tt {0})
      by_room (Ok u) is = refl
      by_room (Err log_faults.NumberSpent) is = absurd (cc (is))
      by_room (Err log_faults.Store) is = absurd (cc (is))
      by_room (Err log_faults.Old) is = absurd (cc (is))
      by_room (Err log_faults.OriginsFull) is = absurd (cc (is))

  goes_lent : (d : Broadcast) (answer : CommandHeard) → AreApart (puts_of (keep_write b.log.marks d.origin d.number))
      → Lent (sealed (in_reach in_memory) reach_ends node_side (goes_further d (with_broadcast_mark d.origin d.number (empty_draft node_side))) answer)
      (sealed (in_reach alone) reach_ends station_side (goes_further d (with_broadcast_mark d.origin d.number (empty_draft station_side))) answer)
  unfolding goes_further with_broadcast_mark adds_local empty_draft
  goes_lent d answer are = by_hops (nat_lt d.hops 2)
    where
      marked : {M : Type 0} → Reaching M → Draft (Reaching M)
      marked x = with_broadcast_mark d.origin d.number (empty_draft x)

      left : Beside
      left = record b { log = admitted_log b.log d.origin d.number }

      by_hops : (t : Bool) → Lent (sealed (in_reach in_memory) reach_ends node_side
          (if t then marked node_side else adds_local to_all 4 (spelling (hop_less d)) (marked node_side)) answer)
          (sealed (in_reach alone) reach_ends station_side
          (if t then marked station_side else adds_local to_all 4 (spelling (hop_less d)) (marked station_side)) answer)
      by_hops true = sealed_lent reach_ends left (puts_of (keep_write b.log.marks d.origin d.number)) [] answer are
      by_hops false = sealed_lent reach_ends left (puts_of (keep_write b.log.marks d.origin d.number)) _ answer are

  module _ (short : length b.log.marks ≤ 32) where
    heard_in_lent : (own : ℕ) (o : Option Broadcast) → Lent (hear_broadcast_in in_memory node_side own o) (hear_broadcast_in alone station_side own o)
    unfolding checked
    heard_in_lent own None = drops (Known BadUnit)
    heard_in_lent own (Some d) = by_fault (broadcast_fault own b.log d) refl
      where
        by_fault : (o : Option ReachDropped) → broadcast_fault own b.log d ≡ o
            → Lent (checked reach_ends node_side o (admits_broadcast in_memory node_side d))
            (checked reach_ends station_side o (admits_broadcast alone station_side d))
        by_fault (Some reason) e = drops reason
        by_fault None e = goes_lent d (heard_of.Broadcast d.origin d.number d.octets) (mark_apart b.log.marks d.origin d.number short (has_room own d e))

    at_lent : (own : ℕ) (c : NeighbourCommand) → Lent (hear_command_at in_memory node_side own c) (hear_command_at alone station_side own c)
    at_lent own c =
        either_lent (c.code == 3) _ _ _ _ (either_lent c.to_all _ _ _ _ (drops (Known BadUnit)) (ack_in_lent c.from (ack_in c.body)))
        (either_lent (c.code == 4) _ _ _ _ (either_lent c.to_all _ _ _ _ (heard_in_lent own (broadcast_in c.body)) (drops (Known BadUnit)))
        (either_lent (c.code == 5) _ _ _ _ (either_lent c.to_all _ _ _ _ (drops (Known BadUnit)) (path_in_lent own c.from (path_in c.body)))
        (drops (Known BadUnit))))

    pub command_lent : (c : NeighbourCommand) → Lent (hear_command in_memory node_side c) (hear_command alone station_side c)
    command_lent c = by_address (address_of m.station)
      where
        by_address : (o : Option ℕ) → Lent (option_map_or (λ own. hear_command_at in_memory node_side own c) o (drop_it node_side (Known BadUnit)))
            (option_map_or (λ own. hear_command_at alone station_side own c) o (drop_it station_side (Known BadUnit)))
        by_address None = drops (Known BadUnit)
        by_address (Some own) = at_lent own c
