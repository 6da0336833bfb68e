-- What each plan writes of the log.
use Rattle.std.proofs.Common.{inl, ◌≡◌, ◌≢◌, ℕ, ◌+◌, ◌≤◌, ◌<◌, Bool, true, false, List, [], ◌∷◌, ◌++◌, length, Option, Some, None, Result, Ok, Err, refl}
use Rattle.std.proofs.Common.{ap, subst, arith}
use Rattle.std.specs.Prelude.{if◌then◌else◌, ◌==◌, nat_lt, nat_le, All, AllPairs, ◌^◌, set}
use Rattle.std.specs.Option.{option_map, option_map_or}
use Rattle.std.specs.FinMap.{get-empty}
use Rattle.std.specs.Ordering.{nat_cmp}
use Rattle.std.proofs.lemmas.Bool.{eqb-false}
use Rattle.std.proofs.lemmas.List.{length-append, length-set}
use Rattle.std.proofs.lemmas.List.Elements.{All-nil, All-cons}
use Rattle.std.proofs.lemmas.Option.{same_Some}
use Rattle.plc_base.specs.Fields.{AreOctets}
use Rattle.store_tables.specs.Writes.{Written, write, puts_of}
use Rattle.plc_base.specs.declared.key.RandomOctets.{RandomOctets}
use Rattle.plc_base.specs.declared.address.Eui.{Eui}
use Rattle.frame_counters.specs.SendCounter as counter
use Rattle.frame_counters.specs.PeerMarks as marks
use Rattle.frame_counters.specs.declared.fault.PeerFault.{PeerFault}
use Rattle.frame_counters.specs.declared.fault.PeerFault.TheVariants.{Replayed, PeersFull}
use Rattle.store_tables.specs.Marks as tables
use Rattle.plc_base.proofs.Faults.{then_none, when_none}
use Rattle.plc_base.specs.declared.key.Key.{Key}
use Rattle.broadcast_log.specs.declared.broadcast.Broadcast.{Broadcast}
use Rattle.broadcast_log.specs.declared.fault.LogFault.{LogFault}
use Rattle.broadcast_log.specs.declared.fault.LogFault.TheVariants as log_faults
use Rattle.broadcast_log.specs.Grammar.{Spells, spelling}
use Rattle.broadcast_log.specs.Log.{admitted_log}
use Rattle.broadcast_log.specs.NextNumber.{is_spent, limit_in}
use Rattle.store_tables.specs.SlotTables.{slot_of}
use Rattle.broadcast_log.specs.OriginMarks.{keep_write, marks as log_marks, room_for}
use Rattle.broadcast_log.specs.Reader.{broadcast_in}
use Rattle.broadcast_log.proofs.LogPuts.{admission_leads, number_leads}
use Rattle.broadcast_log.proofs.Spellings.{broadcast_spelled}
use Rattle.path_requests.specs.declared.message.PathMessage.{PathMessage}
use Rattle.path_requests.specs.declared.step.PathStep.{PathStep}
use Rattle.path_requests.specs.declared.step.PathStep.TheVariants.{Forward, Answer, Done}
use Rattle.path_requests.specs.declared.step.PathRefusal.{PathRefusal}
use Rattle.path_requests.specs.Reader.{path_in}
use Rattle.path_requests.specs.PathSteps.{taken}
use Rattle.neighbour_checks.specs.Acks.{ack_in}
use Rattle.node_rules.specs.declared.heard.Reply.{Reply}
use Rattle.node_rules.specs.Acceptance.{Accepting, accept, marking}
use Rattle.node_rules.specs.Ciphers.{network}
use Rattle.node_rules.specs.declared.refusal.Dropped.TheVariants as drops_by
use Rattle.node_rules.specs.Neighbours.{local_draft, local_ends}
use Rattle.neighbour_checks.specs.Acks.{ack_spelling}
use Rattle.node_rules.specs.Drafts.{Draft, Ends, alone, goes, counters_left, empty_draft, refused, sealed, sealing, checked, choose}
use Rattle.node_rules.specs.Frames.{Arrived, to_all}
use Rattle.node_rules.specs.LogSlots.{IsBesideLog, LeavesLog}
use Rattle.node_rules.specs.Memory.{StationMemory, Memory, Node, Role, address_of, station_route}
use Rattle.node_rules.specs.MemoryDrafts.{give_random, in_memory}
use Rattle.node_rules.specs.Meters as meters
use Rattle.node_rules.specs.NodeSteps.{acts, stays, left_by}
use Rattle.node_rules.specs.Plans.{Plan, carry_out, finished, halted as cut_off, resting}
use Rattle.node_rules.specs.Tables.{HasShortTables}
use Rattle.node_rules.proofs.LogPuts.{meters_leave_log}
use Rattle.reach_rules.specs.declared.heard.CommandHeard.{CommandHeard}
use Rattle.reach_rules.specs.declared.refusal.ReachDropped.{ReachDropped}
use Rattle.reach_rules.specs.declared.refusal.ReachDropped.TheVariants as reach_drops
use Rattle.reach_rules.specs.declared.refusal.BroadcastRefusal.{BroadcastRefusal}
use Rattle.reach_rules.specs.declared.refusal.BroadcastRefusal.TheVariants as broadcast_faults
use Rattle.reach_rules.specs.declared.refusal.AskRefusal.TheVariants as asks_of
use Rattle.reach_rules.specs.ReachingNodes.{Beside, Reaching, in_reach, nothing_beside, reach_ends, drop_it, adds_local}
use Rattle.reach_rules.specs.CheckedReplies.{acknowledges, hear_acknowledgement_in}
use Rattle.reach_rules.specs.Broadcasts.{broadcast, broadcast_from, broadcast_ends, broadcast_fault, datagram_fault, own_broadcast, with_broadcast_number}
use Rattle.reach_rules.specs.Broadcasts.{with_broadcast_mark, hop_less, goes_further, admits_broadcast, hear_broadcast_in, mark_fault}
use Rattle.reach_rules.specs.PathRequests.{ask_path, asks_from, asks_by, ask_ends, follows_path, hear_path_in, next_toward}
use Rattle.reach_rules.specs.FurtherReceptions.{NeighbourCommand, hear_command, hear_command_at}
use Rattle.reach_rules.specs.Beacons.{choose_agent, choosing_ends, joins_by}
use Rattle.pan_discovery.specs.Agents.{kth_of}
use Rattle.line_rules.specs.Steps.{blank_node}
use Rattle.line_rules.proofs.LogSteps.{NodeIn, Leads, others_lead, then_others}
use Rattle.node_rules.proofs.CallShapes.{IsAdmitted, AcceptShape, Stays, Marks, accept_shape}

-- # Short tables

pub accept_short : (l : StationMemory) → HasShortTables l → (own : Eui) (a : Option Arrived) → HasShortTables (accept l own a).memory
unfolding resting marking
accept_short l h own a = by_shape _ (accept_shape l own a)
  where
    by_shape : (p : Accepting) → AcceptShape l p → HasShortTables p.memory
    by_shape p (Stays answer) = h
    by_shape p (Marks from count accepted room) = record { marks = after_room (marks.room_for l.marks from count) refl room; ranks = h.ranks }
      where
        after_room : (r : Result (Unit {0}) PeerFault) → marks.room_for l.marks from count ≡ r → IsAdmitted r
            → length (marks.kept_after l.marks from count) ≤ 64
        after_room (Err fault) e a = absurd a
        after_room (Ok u) e a = peers_short l.marks from count (marks.place_of l.marks from) e h.marks
          where
            peers_short : (table : marks.Table) (from count : ℕ) (place : Option ℕ)
                → option_map_or (λ p. if nat_le count (marks.peer_at table p).mark then Err Replayed else Ok tt) place
                (if length table == 64 then Err PeersFull else Ok (tt {0})) ≡ Ok (tt {0})
                → length table ≤ 64
                → length (option_map_or (λ p. set table p (tables.advanced 0x0100 64 (marks.peer_at table p) from count)) place
                (table ++ tables.mark_ahead 0x0100 64 from count ∷ [])) ≤ 64
            peers_short table from count (Some p) room k =
                let same = length-set table p (tables.advanced 0x0100 64 (marks.peer_at table p) from count) in omega arith
            peers_short table from count None room k = by_room (length table == 64) refl room
              where
                by_room : (b : Bool) → (length table == 64) ≡ b → (if b then Err PeersFull else Ok (tt {0})) ≡ Ok (tt {0})
                    → length (table ++ tables.mark_ahead 0x0100 64 from count ∷ []) ≤ 64
                by_room true e is = absurd (cc (is))
                by_room false e is =
                    let other = eqb-false _ _ e in
                    let longer = length-append table (tables.mark_ahead 0x0100 64 from count ∷ []) in
                    omega arith

pub acts_short : {A : Type 0} (x : Node) (halted : A) (plan : Memory → Plan Memory A)
    → ((m : Memory) → x.memory ≡ Some m → HasShortTables (plan m).memory.station)
    → (n : Memory) → (acts x halted plan).node.memory ≡ Some n → HasShortTables n.station
unfolding acts carry_out
acts_short {A} x halted plan short n e = by_memory x.memory refl e
  where
    by_memory : (o : Option Memory) → x.memory ≡ o
        → (option_map_or (λ m. left_by x (carry_out x.store.records x.store.cut (plan m))) o (stays x halted)).node.memory ≡ Some n → HasShortTables n.station
    by_memory None is k = absurd (cc (is, k))
    by_memory (Some m) is k = by_done (write (plan m).puts x.store.cut x.store.records) (write (plan m).puts x.store.cut x.store.records).whole k
      where
        by_done : (o : Written) (b : Bool) → (if b then finished o (plan m) else cut_off o (plan m)).memory ≡ Some n → HasShortTables n.station
        by_done o true j = subst (λ (q : Memory). HasShortTables q.station) (same_Some _ _ j) (short m is)
        by_done o false j = absurd (cc (j))

-- # Plans without further reach

key : Key
key = record { 0 = [] }

someone : Eui → meters.Identity
someone eui = record { eui = eui; psk = key; ciphers = network }

pub random_leaves : (m : Memory) → HasShortTables m.station → (value : RandomOctets) → LeavesLog (give_random m value)
random_leaves m short value = (meters_leave_log (someone (record { 0 = [] })) m short).takes_random value

pub leave_leaves : (m : Memory) → HasShortTables m.station → LeavesLog (meters.leave m)
leave_leaves m short = (meters_leave_log (someone (record { 0 = [] })) m short).leaves

counter_beside : (c : counter.Counting) (count : ℕ) → All IsBesideLog (puts_of (counter.reserve_write c count))
counter_beside c count = by_due (counter.passes c count)
  where
    by_due : (b : Bool) → All IsBesideLog (puts_of (if b then counter.limit_write (counter.raised c.limit) else None))
    by_due true = All-cons IsBesideLog _ [] (record { limit = λ e. omega arith; marks = inl (omega arith) }) (All-nil IsBesideLog)
    by_due false = All-nil IsBesideLog

pub acknowledging_leaves : (m : Memory) (reply : Reply) → LeavesLog (acknowledges in_memory reply.to reply.number reply.origin m)
unfolding sealed resting goes empty_draft
acknowledging_leaves m reply = by_left (nat_lt (counters_left m.station) 1)
  where
    by_left : (b : Bool) → All IsBesideLog (if b then refused {H = Unit {0}} local_ends m.station local_ends.spent
        else sealing alone local_ends (local_draft m.station 3 (Some reply.to) (ack_spelling reply.number reply.origin)) tt).puts
    by_left true = All-nil IsBesideLog
    by_left false = counter_beside m.station.counter 1

-- # New nodes

no_pairs : {A : Type 0} (P : A → A → Type 0) → AllPairs P []
no_pairs P i j d lt inside = absurd (omega arith)

pub blank_in : (role : Role) (eui : Eui) → NodeIn nothing_beside.log (blank_node role eui)
blank_in role eui = record {
  kept = record {
    numbering = record { limit = ap limit_in (get-empty nat_cmp 6); below = omega arith };
    marks = record { short = omega arith; each = λ place within. ap (option_map (log_marks.read place)) (get-empty nat_cmp (slot_of log_marks place)) };
  };
  fits = omega arith;
  sound = record { distinct = no_pairs (λ x y. log_marks.key x ≢ log_marks.key y); short = omega arith };
}

-- # Plans with further reach

-- The plan leads from the one log to the other.
pub record PlanLeads {A : Type 0} (x : Reaching Memory) (p : Plan (Reaching Memory) A) : Type 0 where
  pub leads : Leads x.beside.log p.puts p.memory.beside.log

still : (x : Reaching Memory) → Leads x.beside.log [] x.beside.log
still x = others_lead x.beside.log [] (All-nil IsBesideLog)

refused_leads : {H E : Type 0} (ends : Ends E) (x : Reaching Memory) (reason : E) → PlanLeads x (refused {H = H} ends x reason)
unfolding resting
refused_leads ends x reason = record { leads = still x }

either : {A : Type 0} (x : Reaching Memory) (t : Bool) (p q : Plan (Reaching Memory) A) → PlanLeads x p → PlanLeads x q → PlanLeads x (choose t p q)
unfolding choose
either x true p q s t = s
either x false p q s t = t

sealed_leads : {H E : Type 0} (ends : Ends E) (x : Reaching Memory) (d : Draft (Reaching Memory)) (answer : H) → Leads x.beside.log d.puts d.memory.beside.log
    → PlanLeads x (sealed (in_reach in_memory) ends x d answer)
unfolding sealed
sealed_leads ends x d answer leads = by_left (nat_lt (counters_left x.memory.station) (length d.units))
  where
    by_left : (b : Bool) → PlanLeads x (if b then refused ends x ends.spent else sealing (in_reach in_memory) ends d answer)
    by_left true = refused_leads ends x ends.spent
    by_left false =
        record { leads = then_others x.beside.log d.memory.beside.log d.puts _ leads (counter_beside d.memory.memory.station.counter (length d.units)) }

module _ (m : Memory) (b : Beside) where
  abbrev held : Reaching Memory
  held = record { memory = m; beside = b }

  -- an ask
  local_leads : {H E : Type 0} (ends : Ends E) (to code : ℕ) (body : List ℕ) (answer : H)
      → PlanLeads held (sealed (in_reach in_memory) ends held (adds_local to code body (empty_draft held)) answer)
  unfolding adds_local empty_draft
  local_leads ends to code body answer = sealed_leads ends held _ answer (still held)

  asks_by_lead : (own target : ℕ) (o : Option ℕ) → PlanLeads held (asks_by in_memory held own target o)
  asks_by_lead own target None = refused_leads ask_ends held _
  asks_by_lead own target (Some hop) = local_leads ask_ends hop 5 _ (tt {0})

  pub asks_lead : (target : ℕ) → PlanLeads held (ask_path in_memory held target)
  asks_lead target = by_address (address_of m.station)
    where
      by_address : (o : Option ℕ) → PlanLeads held (option_map_or (λ own. asks_from in_memory held own target) o (refused ask_ends held asks_of.NotJoined))
      by_address None = refused_leads ask_ends held _
      by_address (Some own) = either held _ _ _ (refused_leads ask_ends held _) (asks_by_lead own target (station_route m.station target))

  -- a broadcast
  number_left : (datagram : List ℕ) → datagram_fault b.log datagram ≡ None → is_spent b.log.numbering ≡ false
  unfolding datagram_fault
  number_left datagram e = when_none _ _ (then_none _ _ e).1

  broadcast_from_leads : (own : ℕ) (datagram : List ℕ) → PlanLeads held (broadcast_from in_memory held own datagram)
  unfolding checked adds_local empty_draft with_broadcast_number
  broadcast_from_leads own datagram = by_fault (datagram_fault b.log datagram) refl
    where
      by_fault : (o : Option BroadcastRefusal) → datagram_fault b.log datagram ≡ o
          → PlanLeads held (checked broadcast_ends held o (sealed (in_reach in_memory) broadcast_ends held
          (adds_local to_all 4 (spelling (own_broadcast own b.log datagram)) (with_broadcast_number (empty_draft held))) (tt {0})))
      by_fault (Some reason) e = refused_leads broadcast_ends held reason
      by_fault None e = sealed_leads broadcast_ends held _ (tt {0}) (number_leads b.log (number_left datagram e))

  pub broadcast_leads : (datagram : List ℕ) → PlanLeads held (broadcast in_memory held datagram)
  broadcast_leads datagram = by_address (address_of m.station)
    where
      by_address : (o : Option ℕ) → PlanLeads held
          (option_map_or (λ own. broadcast_from in_memory held own datagram) o (refused broadcast_ends held broadcast_faults.NotJoined))
      by_address None = refused_leads broadcast_ends held _
      by_address (Some own) = broadcast_from_leads own datagram

  -- a choice
  pub chooses_lead : (own : meters.Identity) → HasShortTables m.station → (k now : ℕ) → PlanLeads held (choose_agent own held k now)
  chooses_lead own short k now = either held _ _ _ (refused_leads choosing_ends held _) (by_agent (kth_of b.scan.agents k))
    where
      by_agent : (o : Option (ℕ × ℕ)) → PlanLeads held (joins_by own held now o)
      by_agent None = refused_leads choosing_ends held _
      by_agent (Some (address, total)) = record { leads = others_lead b.log _ ((meters_leave_log own m short).joins address now) }

  -- a command
  drops : (reason : ReachDropped) → PlanLeads held (drop_it {H = CommandHeard} held reason)
  drops reason = refused_leads reach_ends held reason

  ack_in_leads : (from : ℕ) (o : Option (ℕ × ℕ)) → PlanLeads held (hear_acknowledgement_in held from o)
  unfolding resting
  ack_in_leads from None = drops _
  ack_in_leads from (Some (number, origin)) = either held _ _ _ (record { leads = still held }) (drops _)

  follows_leads : (o : Result PathStep PathRefusal) → PlanLeads held (follows_path in_memory held o)
  unfolding resting
  follows_leads (Err reason) = drops _
  follows_leads (Ok (Forward to message)) = local_leads reach_ends to 5 _ _
  follows_leads (Ok (Answer to message)) = local_leads reach_ends to 5 _ _
  follows_leads (Ok (Done walk)) = record { leads = still held }

  path_leads : (own from : ℕ) (o : Option PathMessage) → PlanLeads held (hear_path_in in_memory held own from o)
  path_leads own from None = drops _
  path_leads own from (Some message) = follows_leads (taken own from (next_toward m.station message) message)

  -- there is room, where nothing is wrong
  has_room : (own : ℕ) (c : Broadcast) → broadcast_fault own b.log c ≡ None → room_for b.log.marks c.origin c.number ≡ Ok (tt {0})
  unfolding broadcast_fault
  has_room own c e = by_room (room_for b.log.marks c.origin c.number) (then_none _ _ e).1
    where
      by_room : (r : Result (Unit {0}) LogFault) → mark_fault r ≡ None → r ≡ Ok (tt {0})
      by_room (Ok u) is = refl
      by_room (Err log_faults.NumberSpent) is = absurd (cc (is))
      by_room (Err log_faults.Store) is = absurd (cc (is))
      by_room (Err log_faults.Old) is = absurd (cc (is))
      by_room (Err log_faults.OriginsFull) is = absurd (cc (is))

  goes_lead : (c : Broadcast) (answer : CommandHeard) → Leads b.log (puts_of (keep_write b.log.marks c.origin c.number)) (admitted_log b.log c.origin c.number)
      → PlanLeads held (sealed (in_reach in_memory) reach_ends held (goes_further c (with_broadcast_mark c.origin c.number (empty_draft held))) answer)
  unfolding goes_further with_broadcast_mark adds_local empty_draft
  goes_lead c answer leads = by_hops (nat_lt c.hops 2)
    where
      marked : Draft (Reaching Memory)
      marked = with_broadcast_mark c.origin c.number (empty_draft held)

      by_hops : (t : Bool) → PlanLeads held
          (sealed (in_reach in_memory) reach_ends held (if t then marked else adds_local to_all 4 (spelling (hop_less c)) marked) answer)
      by_hops true = sealed_leads reach_ends held _ answer leads
      by_hops false = sealed_leads reach_ends held _ answer leads

  heard_in_leads : (own : ℕ) (o : Option Broadcast) → ((c : Broadcast) → o ≡ Some c → (c.origin < 0xFFFE) × (c.number < 2 ^ 32))
      → PlanLeads held (hear_broadcast_in in_memory held own o)
  unfolding checked
  heard_in_leads own None are = drops _
  heard_in_leads own (Some c) are = by_fault (broadcast_fault own b.log c) refl
    where
      by_fault : (o : Option ReachDropped) → broadcast_fault own b.log c ≡ o → PlanLeads held (checked reach_ends held o (admits_broadcast in_memory held c))
      by_fault (Some reason) e = drops _
      by_fault None e = goes_lead c _ (admission_leads b.log c.origin c.number (has_room own c e) (are c refl).0 (are c refl).1)

  at_leads : (own : ℕ) (c : NeighbourCommand) → AreOctets c.body → PlanLeads held (hear_command_at in_memory held own c)
  at_leads own c are =
      either held (c.code == 3) _ _ (either held c.to_all _ _ (drops _) (ack_in_leads c.from (ack_in c.body)))
      (either held (c.code == 4) _ _ (either held c.to_all _ _
      (heard_in_leads own (broadcast_in c.body) (λ a e. let s : Spells a c.body = broadcast_spelled a c.body are e in (s.0.origin, s.0.number))) (drops _))
      (either held (c.code == 5) _ _ (either held c.to_all _ _ (drops _) (path_leads own c.from (path_in c.body))) (drops _)))

  pub command_leads : (c : NeighbourCommand) → AreOctets c.body → PlanLeads held (hear_command in_memory held c)
  command_leads c are = by_address (address_of m.station)
    where
      by_address : (o : Option ℕ) → PlanLeads held
          (option_map_or (λ own. hear_command_at in_memory held own c) o (drop_it held (reach_drops.Known drops_by.BadUnit)))
      by_address None = drops _
      by_address (Some own) = at_leads own c are
