-- How the plans of further rules are made: nothing is done, or the log and the counter are stored and at most one command goes out. So each
-- keeps memory and records, whatever becomes of its writes.
use Rattle.std.proofs.Common.{zero-le, ◌≡◌, ◌⊎◌, inl, inr, ℕ, ◌+◌, ◌≤◌, Bool, true, false, List, [], ◌∷◌, ◌++◌, length, Option, Some, None, Result}
use Rattle.std.proofs.Common.{Ok, Err, refl, arith}
use Rattle.std.specs.Prelude.{nat_lt, if◌then◌else◌, ◌==◌}
use Rattle.std.specs.Option.{option_map_or}
use Rattle.std.proofs.lemmas.Bool.{ltb-false}
use Rattle.plc_base.specs.Keeper.{Write}
use Rattle.store_tables.specs.Writes.{puts_of}
use Rattle.store_tables.specs.Numberings.{passes, limit_write, raised}
use Rattle.mesh_header.specs.declared.unit.Unit.TheVariants.{Local}
use Rattle.frame_counters.specs.SendCounter as counter
use Rattle.broadcast_log.specs.declared.broadcast.Broadcast.{Broadcast}
use Rattle.broadcast_log.specs.Grammar.{spelling}
use Rattle.broadcast_log.specs.NextNumber as numbers
use Rattle.broadcast_log.specs.Log.{admitted_log, numbered_log}
use Rattle.path_requests.specs.declared.message.PathMessage.TheVariants.{Ask}
use Rattle.path_requests.specs.Messages.{path_spelling}
use Rattle.node_rules.specs.Drafts.{Draft, Ends, UnsealedUnit, counters_left, empty_draft, refused, sealed, sealed_by, sealing, checked, choose}
use Rattle.node_rules.specs.Frames.{to_all}
use Rattle.node_rules.specs.Memory.{Memory, Role, address_of, station_route}
use Rattle.node_rules.specs.MemoryDrafts.{in_memory, with_station}
use Rattle.node_rules.specs.Plans.{Plan, resting}
use Rattle.reach_rules.specs.declared.refusal.BroadcastRefusal.{BroadcastRefusal}
use Rattle.reach_rules.specs.declared.refusal.BroadcastRefusal.TheVariants as broadcasts
use Rattle.reach_rules.specs.declared.refusal.AskRefusal.TheVariants as asks
use Rattle.reach_rules.specs.declared.heard.CommandHeard.{CommandHeard}
use Rattle.reach_rules.specs.declared.heard.CommandHeard.TheVariants as heard_of
use Rattle.reach_rules.specs.declared.refusal.ReachDropped.{ReachDropped}
use Rattle.reach_rules.specs.declared.refusal.ReachDropped.TheVariants.{Known, NotAwaited}
use Rattle.reach_rules.specs.ReachingNodes.{Beside, Reaching, in_reach, reach_ends, drop_it, remembers, adds_local, with_checks}
use Rattle.reach_rules.specs.CheckedReplies.{hear_acknowledgement, hear_acknowledgement_in}
use Rattle.reach_rules.specs.Broadcasts.{broadcast, broadcast_from, broadcast_ends, broadcast_fault, datagram_fault, own_broadcast, with_broadcast_number}
use Rattle.reach_rules.specs.Broadcasts.{with_broadcast_mark, hop_less, goes_further, admits_broadcast, hear_broadcast, hear_broadcast_in}
use Rattle.reach_rules.specs.PathRequests.{ask_path, asks_from, asks_by, ask_ends, follows_path, hear_path, hear_path_in, next_toward, path_word, send_path}
use Rattle.reach_rules.specs.FurtherReceptions.{NeighbourCommand, hear_command, hear_command_at}
use Rattle.neighbour_checks.specs.Acks.{ack_in}
use Rattle.neighbour_checks.specs.Neighbours.{is_awaited, acked_after}
use Rattle.broadcast_log.specs.Reader.{broadcast_in}
use Rattle.broadcast_log.specs.OriginMarks.{keep_write}
use Rattle.path_requests.specs.declared.message.PathMessage.{PathMessage}
use Rattle.path_requests.specs.declared.step.PathStep.{PathStep}
use Rattle.path_requests.specs.declared.step.PathStep.TheVariants.{Forward, Answer, Done}
use Rattle.path_requests.specs.declared.step.PathRefusal.{PathRefusal}
use Rattle.path_requests.specs.Reader.{path_in}
use Rattle.path_requests.specs.PathSteps.{taken}
use Rattle.node_rules.specs.declared.refusal.Dropped.TheVariants as drops_by
use Rattle.line_rules.specs.Further.{of_memory, with_beside}
use Rattle.line_laws.specs.Later.{IsOfLog}
use Rattle.line_laws.specs.Sizes.{IsMemorySized}
use Rattle.line_laws.specs.Stores.{IsKept}
use Rattle.line_laws.proofs.Beside.{low_when}
use Rattle.line_laws.proofs.Frontiers.{High-append, reserve_high, sealed_numbered}
use Rattle.line_laws.proofs.IssueWords.{Each}
use Rattle.line_laws.proofs.KeptMemory.{leads_append}
use Rattle.line_laws.proofs.LaterStores.{log_leads, log_high, log_marks}
use Rattle.line_laws.proofs.MarkWrites as marks
use Rattle.line_laws.proofs.Nodes.{PlanOk, sealed_few}
use Rattle.line_laws.proofs.Senders.{sealed_from}
use Rattle.line_laws.proofs.NodesOk.{resting_ok}
use Rattle.line_laws.proofs.StoreBook.{Rest, rest_lasts, station_leads}
use Rattle.line_laws.proofs.StoreWords.{counter_leads}
use Rattle.broadcast_log.specs.declared.log.TheConstants.{BROADCASTS_AHEAD}

-- # The form

-- the memory with the counters of some frames taken
abbrev pub counted_on : ℕ → Memory → Memory
counted_on count m = with_station (record m.station { counter = counter.reserved m.station.counter count }) m

-- records of the log are stored, and then the counter of these units, which go out
abbrev pub going : {A : Type 0} → A → A → List Write → List UnsealedUnit → Memory → Plan Memory A
going answer failed ps us m = record {
  answer = answer;
  failed = failed;
  puts = ps ++ puts_of (counter.reserve_write m.station.counter (length us));
  memory = counted_on (length us) m;
  frames = sealed_by m.station.ring m.station.counter.next us;
  made = [];
  opened = [];
}

-- L is what is known of the units
pub data IsFurther (L : List UnsealedUnit → Type 0) (m : Memory) {A : Type 0} : Plan Memory A → Type 0 where
  Rests : (answer failed : A) → IsFurther L m (resting m answer failed)
  Goes : (answer failed : A) (ps : List Write) (us : List UnsealedUnit) → Each IsOfLog ps → L us → length us ≤ 1
      → length us ≤ counters_left m.station → IsFurther L m (going answer failed ps us m)

-- nothing need be known of them
abbrev pub AnyUnits : List UnsealedUnit → Type 0
AnyUnits us = Unit {0}

-- # Of each rule

-- what is done before it is sealed: the memory stays
abbrev pub drafted : Beside → List Write → List UnsealedUnit → Reaching Memory → Draft (Reaching Memory)
drafted b ps us x = record { puts = ps; memory = record { memory = x.memory; beside = b }; units = us; plain = []; made = []; opened = [] }

module _ (U : List UnsealedUnit → Type 0) where
  pub sealed_is : {H E : Type 0} (ends : Ends E) (x : Reaching Memory) (b : Beside) (ps : List Write) (us : List UnsealedUnit) (answer : H) → Each IsOfLog ps
      → U us
      → length us ≤ 1
      → IsFurther U x.memory (of_memory (sealed (in_reach in_memory) ends x (drafted b ps us x) answer))
  unfolding sealed resting
  sealed_is ends x b ps us answer logs says few = by_test (nat_lt (counters_left x.memory.station) (length us)) refl
    where
      by_test : (t : Bool) → nat_lt (counters_left x.memory.station) (length us) ≡ t
          → IsFurther U x.memory (of_memory (if t then refused ends x ends.spent else sealing (in_reach in_memory) ends (drafted b ps us x) answer))
      by_test true e = Rests (Err ends.spent) (Err ends.store)
      by_test false e = Goes (Ok answer) (Err ends.store) ps us logs says few (ltb-false _ _ e)

  refused_is : {H E : Type 0} (ends : Ends E) (x : Reaching Memory) (reason : E) → IsFurther U x.memory (of_memory (refused {H = H} ends x reason))
  unfolding resting
  refused_is ends x reason = Rests (Err reason) (Err ends.store)

  -- an ask, of a node with this memory
  module _ (b : Beside) (target : ℕ) (m : Memory)
      (says : (own hop : ℕ) → address_of m.station ≡ Some own → station_route m.station target ≡ Some hop
      → U (record { to = hop; unit = Local 5 (path_spelling (Ask target (own ∷ []))); note = 0 } ∷ [])) where
    abbrev asker : Reaching Memory
    asker = record { memory = m; beside = b }

    asks_by_is : (own : ℕ) (o : Option ℕ) → address_of m.station ≡ Some own → station_route m.station target ≡ o
        → IsFurther U m (of_memory (asks_by in_memory asker own target o))
    unfolding adds_local empty_draft
    asks_by_is own None here e = refused_is ask_ends asker asks.NoRoute
    asks_by_is own (Some hop) here e = sealed_is ask_ends asker b []
        (record { to = hop; unit = Local 5 (path_spelling (Ask target (own ∷ []))); note = 0 } ∷ []) tt tt (says own hop here e) (omega arith)

    asks_from_is : (own : ℕ) → address_of m.station ≡ Some own → IsFurther U m (of_memory (asks_from in_memory asker own target))
    unfolding choose
    asks_from_is own here = by_test (target == own)
      where
        by_test : (t : Bool) → IsFurther U m
            (of_memory (if t then refused ask_ends asker asks.ToSelf else asks_by in_memory asker own target (station_route m.station target)))
        by_test true = refused_is ask_ends asker asks.ToSelf
        by_test false = asks_by_is own (station_route m.station target) here refl

    pub ask_is : IsFurther U m (with_beside b (λ y. ask_path in_memory y target) m)
    ask_is = by_address (address_of m.station) refl
      where
        by_address : (o : Option ℕ) → address_of m.station ≡ o
            → IsFurther U m (of_memory (option_map_or (λ own. asks_from in_memory asker own target) o (refused ask_ends asker asks.NotJoined)))
        by_address None e = refused_is ask_ends asker asks.NotJoined
        by_address (Some own) e = asks_from_is own e

  -- a broadcast of one's own
  number_logs : (n : numbers.Numbering) → Each IsOfLog (puts_of (numbers.number_put n))
  number_logs n = by_due (passes n 1)
    where
      by_due : (t : Bool) → Each IsOfLog (puts_of (if t then limit_write numbers.limit_at (raised numbers.limit_at BROADCASTS_AHEAD n.limit) else None))
      by_due true = (inl refl, tt)
      by_due false = tt

  module _ (b : Beside) (datagram : List ℕ) (m : Memory)
      (says : (own : ℕ) → address_of m.station ≡ Some own → datagram_fault b.log datagram ≡ None
      → U (record { to = to_all; unit = Local 4 (spelling (own_broadcast own b.log datagram)); note = 0 } ∷ [])) where
    abbrev sender : Reaching Memory
    sender = record { memory = m; beside = b }

    broadcast_from_is : (own : ℕ) → address_of m.station ≡ Some own → IsFurther U m (of_memory (broadcast_from in_memory sender own datagram))
    unfolding checked adds_local empty_draft with_broadcast_number
    broadcast_from_is own here = by_fault (datagram_fault b.log datagram) refl
      where
        sent : Plan (Reaching Memory) (Result (Unit {0}) BroadcastRefusal)
        sent = sealed (in_reach in_memory) broadcast_ends sender
            (adds_local to_all 4 (spelling (own_broadcast own b.log datagram)) (with_broadcast_number (empty_draft sender))) tt

        by_fault : (o : Option BroadcastRefusal) → datagram_fault b.log datagram ≡ o → IsFurther U m (of_memory (checked broadcast_ends sender o sent))
        by_fault (Some reason) e = refused_is broadcast_ends sender reason
        by_fault None e = sealed_is broadcast_ends sender (record b { log = numbered_log b.log }) (puts_of (numbers.number_put b.log.numbering))
            (record { to = to_all; unit = Local 4 (spelling (own_broadcast own b.log datagram)); note = 0 } ∷ []) tt (number_logs b.log.numbering)
            (says own here e) (omega arith)

    pub broadcast_is : IsFurther U m (with_beside b (λ y. broadcast in_memory y datagram) m)
    broadcast_is = by_address (address_of m.station) refl
      where
        by_address : (o : Option ℕ) → address_of m.station ≡ o
            → IsFurther U m (of_memory (option_map_or (λ own. broadcast_from in_memory sender own datagram) o
            (refused broadcast_ends sender broadcasts.NotJoined)))
        by_address None e = refused_is broadcast_ends sender broadcasts.NotJoined
        by_address (Some own) e = broadcast_from_is own e

-- # Of a command that was heard

-- a step that sends this message on, or back
abbrev pub SendsOn : Result PathStep PathRefusal → (to : ℕ) → PathMessage → Type 0
SendsOn o to next = (o ≡ Ok (Forward to next)) ⊎ (o ≡ Ok (Answer to next))

abbrev pub one_of_path : (to : ℕ) → PathMessage → List UnsealedUnit
one_of_path to next = record { to = to; unit = Local 5 (path_spelling next); note = 0 } ∷ []

abbrev pub one_of_broadcast : Broadcast → List UnsealedUnit
one_of_broadcast c = record { to = to_all; unit = Local 4 (spelling (hop_less c)); note = 0 } ∷ []

module _ (U : List UnsealedUnit → Type 0) (none : U []) where
  either : {A : Type 0} (m : Memory) (t : Bool) (p q : Plan (Reaching Memory) A) → IsFurther U m (of_memory p) → IsFurther U m (of_memory q)
      → IsFurther U m (of_memory (choose t p q))
  unfolding choose
  either m true p q s t = s
  either m false p q s t = t

  drops : (x : Reaching Memory) (reason : ReachDropped) → IsFurther U x.memory (of_memory (drop_it {H = CommandHeard} x reason))
  drops x reason = refused_is U reach_ends x reason

  remembers_is : (x : Reaching Memory) (b : Beside) (heard : CommandHeard) → IsFurther U x.memory (of_memory (remembers (record x { beside = b }) heard))
  unfolding resting
  remembers_is x b heard = Rests (Ok heard) (Err reach_ends.store)

  ack_in_is : (x : Reaching Memory) (from : ℕ) (o : Option (ℕ × ℕ)) → IsFurther U x.memory (of_memory (hear_acknowledgement_in x from o))
  ack_in_is x from None = drops x (Known drops_by.BadUnit)
  ack_in_is x from (Some (number, origin)) =
      either x.memory (is_awaited x.beside.checks from number origin)
      (remembers (with_checks (acked_after x.beside.checks from number origin) x) heard_of.Acked) (drop_it x NotAwaited)
      (remembers_is x (record x.beside { checks = acked_after x.beside.checks from number origin }) heard_of.Acked) (drops x NotAwaited)

  ack_is : (x : Reaching Memory) (from : ℕ) (all : Bool) (body : List ℕ) → IsFurther U x.memory (of_memory (hear_acknowledgement x from all body))
  ack_is x from all body = either x.memory all (drop_it x (Known drops_by.BadUnit)) (hear_acknowledgement_in x from (ack_in body))
      (drops x (Known drops_by.BadUnit)) (ack_in_is x from (ack_in body))

  path_sent_is : (x : Reaching Memory) (to : ℕ) (message : PathMessage) (word : CommandHeard) → U (one_of_path to message)
      → IsFurther U x.memory (of_memory (send_path in_memory x to message word))
  unfolding adds_local empty_draft
  path_sent_is x to message word says =
      sealed_is U reach_ends x x.beside [] (record { to = to; unit = Local 5 (path_spelling message); note = 0 } ∷ []) word tt says (omega arith)

  follows_is : (x : Reaching Memory) (o : Result PathStep PathRefusal) → ((to : ℕ) (next : PathMessage) → SendsOn o to next → U (one_of_path to next))
      → IsFurther U x.memory (of_memory (follows_path in_memory x o))
  follows_is x (Err reason) says = drops x (path_word reason)
  follows_is x (Ok (Forward to message)) says = path_sent_is x to message heard_of.Relayed (says to message (inl refl))
  follows_is x (Ok (Answer to message)) says = path_sent_is x to message heard_of.Answered (says to message (inr refl))
  follows_is x (Ok (Done walk)) says = remembers_is x x.beside (heard_of.Path walk)

  path_in_is : (x : Reaching Memory) (own from : ℕ) (o : Option PathMessage)
      → ((message : PathMessage) (to : ℕ) (next : PathMessage) → o ≡ Some message
      → SendsOn (taken own from (next_toward x.memory.station message) message) to next → U (one_of_path to next))
      → IsFurther U x.memory (of_memory (hear_path_in in_memory x own from o))
  path_in_is x own from None says = drops x (Known drops_by.BadUnit)
  path_in_is x own from (Some message) says =
      follows_is x (taken own from (next_toward x.memory.station message) message) (λ to next e. says message to next refl e)

  path_is : (x : Reaching Memory) (own from : ℕ) (all : Bool) (body : List ℕ)
      → ((message : PathMessage) (to : ℕ) (next : PathMessage) → path_in body ≡ Some message
      → SendsOn (taken own from (next_toward x.memory.station message) message) to next → U (one_of_path to next))
      → IsFurther U x.memory (of_memory (hear_path in_memory x own from all body))
  path_is x own from all body says = either x.memory all (drop_it x (Known drops_by.BadUnit)) (hear_path_in in_memory x own from (path_in body))
      (drops x (Known drops_by.BadUnit)) (path_in_is x own from (path_in body) says)

  -- where what is stored for a mark is of the log
  module _ (b : Beside) (logs : (own : ℕ) (c : Broadcast) → broadcast_fault own b.log c ≡ None
      → Each IsOfLog (puts_of (keep_write b.log.marks c.origin c.number))) (m : Memory) where
    abbrev x : Reaching Memory
    x = record { memory = m; beside = b }

    goes_is : (own : ℕ) (c : Broadcast) (word : CommandHeard) → broadcast_fault own b.log c ≡ None → U (one_of_broadcast c)
        → IsFurther U m (of_memory (sealed (in_reach in_memory) reach_ends x (goes_further c (with_broadcast_mark c.origin c.number (empty_draft x))) word))
    unfolding goes_further with_broadcast_mark adds_local empty_draft
    goes_is own c word e says = by_hops (nat_lt c.hops 2)
      where
        marked : Draft (Reaching Memory)
        marked = with_broadcast_mark c.origin c.number (empty_draft x)

        by_hops : (t : Bool) → IsFurther U m
            (of_memory (sealed (in_reach in_memory) reach_ends x (if t then marked else adds_local to_all 4 (spelling (hop_less c)) marked) word))
        by_hops true = sealed_is U reach_ends x (record b { log = admitted_log b.log c.origin c.number }) (puts_of (keep_write b.log.marks c.origin c.number))
            [] word (logs own c e) none zero-le
        by_hops false = sealed_is U reach_ends x (record b { log = admitted_log b.log c.origin c.number }) (puts_of (keep_write b.log.marks c.origin c.number))
            (record { to = to_all; unit = Local 4 (spelling (hop_less c)); note = 0 } ∷ []) word (logs own c e) says (omega arith)

    heard_in_is : (own : ℕ) (o : Option Broadcast) → ((c : Broadcast) → o ≡ Some c → broadcast_fault own b.log c ≡ None → U (one_of_broadcast c))
        → IsFurther U m (of_memory (hear_broadcast_in in_memory x own o))
    unfolding checked
    heard_in_is own None says = drops x (Known drops_by.BadUnit)
    heard_in_is own (Some c) says = by_fault (broadcast_fault own b.log c) refl
      where
        by_fault : (o : Option ReachDropped) → broadcast_fault own b.log c ≡ o
            → IsFurther U m (of_memory (checked reach_ends x o (admits_broadcast in_memory x c)))
        by_fault (Some reason) e = drops x reason
        by_fault None e = goes_is own c (heard_of.Broadcast c.origin c.number c.octets) e (says c refl e)

    heard_is : (own : ℕ) (all : Bool) (body : List ℕ)
        → ((c : Broadcast) → broadcast_in body ≡ Some c → broadcast_fault own b.log c ≡ None → U (one_of_broadcast c))
        → IsFurther U m (of_memory (hear_broadcast in_memory x own all body))
    heard_is own all body says = either m all (hear_broadcast_in in_memory x own (broadcast_in body)) (drop_it x (Known drops_by.BadUnit))
        (heard_in_is own (broadcast_in body) says) (drops x (Known drops_by.BadUnit))

    -- where what is known holds of the path message that it leads to, and of the broadcast that goes on
    module _ (c : NeighbourCommand)
        (paths : (own : ℕ) (message : PathMessage) (to : ℕ) (next : PathMessage) → address_of m.station ≡ Some own → path_in c.body ≡ Some message
        → SendsOn (taken own c.from (next_toward m.station message) message) to next → U (one_of_path to next))
        (goes_on : (own : ℕ) (d : Broadcast) → address_of m.station ≡ Some own → broadcast_in c.body ≡ Some d → broadcast_fault own b.log d ≡ None
        → U (one_of_broadcast d)) where
      at_is : (own : ℕ) → address_of m.station ≡ Some own → IsFurther U m (of_memory (hear_command_at in_memory x own c))
      at_is own here =
          either m (c.code == 3) _ _ (ack_is x c.from c.to_all c.body)
          (either m (c.code == 4) _ _ (heard_is own c.to_all c.body (λ d e none. goes_on own d here e none))
          (either m (c.code == 5) _ _ (path_is x own c.from c.to_all c.body (λ message to next e o. paths own message to next here e o))
          (drops x (Known drops_by.BadUnit))))

      pub command_is : IsFurther U m (with_beside b (λ y. hear_command in_memory y c) m)
      command_is = by_address (address_of m.station) refl
        where
          by_address : (o : Option ℕ) → address_of m.station ≡ o
              → IsFurther U m (of_memory (option_map_or (λ own. hear_command_at in_memory x own c) o (drop_it x (Known drops_by.BadUnit))))
          by_address None e = drops x (Known drops_by.BadUnit)
          by_address (Some own) e = at_is own e

-- # What it keeps

module _ (U : List UnsealedUnit → Type 0) (role : Role) (m : Memory) (h : IsMemorySized m) where
  pub further_ok : {A : Type 0} (p : Plan Memory A) → IsFurther U m p → PlanOk role m p
  unfolding resting
  further_ok p (Rests answer failed) = resting_ok role m h answer failed
  further_ok p (Goes answer failed ps us logs says few left) = record {
    leads =
        leads_append (IsKept role) m m (counted_on (length us) m) ps (puts_of (counter.reserve_write m.station.counter (length us))) (log_leads role m ps logs)
        (station_leads role m m.station (record m.station { counter = counter.reserved m.station.counter (length us) }) _
        (low_when (Rest role m) (rest_lasts role m) _ _ _ (λ r k.
        let below = k.counter.below in
        let fits = k.range.counter in
        counter_leads (Rest role m) (rest_lasts role m) m.station (length us) (omega arith) (omega arith))));
    sized = record {
      station = record {
        reassemblies = h.station.reassemblies;
        waiting = record { bodies = h.station.waiting.bodies; blocks = h.station.waiting.blocks; datagrams = h.station.waiting.datagrams };
        loads = h.station.loads;
        tag = h.station.tag;
      };
      sessions = h.sessions;
      randoms = h.randoms;
    };
    few = let short = sealed_few m.station.ring m.station.counter.next us in omega arith;
    rises = λ fits. record {
      high = High-append m.station.counter.limit ps _ (log_high m.station.counter.limit ps logs)
          (reserve_high m.station.counter (length us) m.station.counter.limit (omega arith) fits);
      with_own_number = sealed_numbered m.station.ring m.station.counter.next (m.station.counter.next + length us) us (omega arith);
    };
    from = sealed_from m.station.ring m.station.counter.next us;
    marked = λ first. marks.away_leads first m (counted_on (length us) m) _
        (marks.away_append ps _ (log_marks ps logs) (marks.reserve_away m.station.counter (length us))) refl;
  }
