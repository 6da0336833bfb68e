-- What each node holds of checks and of its scan follows its history, event by event.
use Rattle.std.proofs.Common.{zero, suc, ◌≡◌, ◌≢◌, ℕ, ◌+◌, ◌<◌, Bool, true, false, List, [], ◌∷◌, ◌++◌, length, Option, Some, None, Result, Ok, Err, refl}
use Rattle.std.proofs.Common.{sym, ap, ◌∙◌, subst, arith}
use Rattle.std.specs.Prelude.{if◌then◌else◌, ◌==◌, All, is_some, nat_lt, slice_get, slice_set, map, unwrap_or}
use Rattle.std.specs.Option.{option_map, option_map_or}
use Rattle.std.proofs.lemmas.Bool.{eq-eqb, eqb-false, eqb-true}
use Rattle.std.proofs.lemmas.List.Elements.{All-head, All-tail}
use Rattle.store_tables.proofs.SlotTables.{slice_get-map, slice_get-set, slice_get-set_other}
use Rattle.plc_base.specs.declared.keeper.BadStore.{BadStore}
use Rattle.broadcast_log.specs.declared.broadcast.Broadcast.{Broadcast}
use Rattle.broadcast_log.specs.Grammar.{spelling}
use Rattle.broadcast_log.specs.Log.{Log, opened}
use Rattle.broadcast_log.specs.Reader.{broadcast_in}
use Rattle.neighbour_checks.specs.Acks.{ack_in}
use Rattle.neighbour_checks.specs.History as checking
use Rattle.neighbour_checks.specs.Neighbours.{acked_after, is_awaited, nobody, tick_after}
use Rattle.neighbour_checks.proofs.Histories as check_lemmas
use Rattle.pan_discovery.specs.declared.message.Discovery.{Discovery}
use Rattle.pan_discovery.specs.declared.message.Discovery.TheVariants as discoveries
use Rattle.pan_discovery.specs.Agents.{kth_of}
use Rattle.pan_discovery.specs.History as scanning
use Rattle.pan_discovery.specs.History.{begun, ended, taken_after}
use Rattle.pan_discovery.specs.Reader.{discovery_in}
use Rattle.pan_discovery.proofs.Histories as scan_lemmas
use Rattle.path_requests.specs.declared.message.PathMessage.{PathMessage}
use Rattle.path_requests.specs.declared.message.PathMessage.TheVariants.{Ask}
use Rattle.path_requests.specs.Messages.{path_spelling}
use Rattle.path_requests.specs.declared.step.PathStep.{PathStep}
use Rattle.path_requests.specs.declared.step.PathStep.TheVariants.{Forward, Answer as Answers, Done}
use Rattle.path_requests.specs.declared.step.PathRefusal.{PathRefusal}
use Rattle.path_requests.specs.PathSteps.{taken}
use Rattle.path_requests.specs.Reader.{path_in}
use Rattle.node_rules.specs.Accepted.{Accepted}
use Rattle.node_rules.specs.declared.heard.Reply.{Reply}
use Rattle.node_rules.specs.declared.refusal.Dropped.TheVariants as drops
use Rattle.node_rules.specs.Ciphers.{Ciphers, network}
use Rattle.node_rules.specs.Drafts.{Draft, Ends, choose as choose_plan, checked as checked_plan, counters_left, empty_draft, refused, sealed, sealing}
use Rattle.node_rules.specs.Memory.{StationMemory, Memory, Node, Role, address_of, station_route}
use Rattle.node_rules.specs.Frames.{to_all}
use Rattle.node_rules.specs.MemoryDrafts.{in_memory}
use Rattle.node_rules.specs.Meters as meters
use Rattle.node_rules.specs.NodeSteps.{NodeStep, acts, answering, left_by, of_station, stays}
use Rattle.node_rules.specs.Calls as calls
use Rattle.node_rules.specs.declared.refusal.SendRefusal.TheVariants as sends
use Rattle.node_rules.specs.Plans.{Plan, Outcome, carry_out, finished, halted as cut_off, outcome_of, resting}
use Rattle.node_rules.specs.Replies.{reply_among}
use Rattle.store_tables.specs.Writes.{Written, write}
use Rattle.reach_rules.specs.declared.heard.CommandHeard.{CommandHeard}
use Rattle.reach_rules.specs.declared.heard.CommandHeard.TheVariants as heard_of
use Rattle.reach_rules.specs.declared.heard.DiscoveryHeard.{DiscoveryHeard}
use Rattle.reach_rules.specs.declared.refusal.ReachDropped.{ReachDropped}
use Rattle.reach_rules.specs.declared.refusal.ReachDropped.TheVariants as reach_drops
use Rattle.reach_rules.specs.declared.refusal.BroadcastRefusal.{BroadcastRefusal}
use Rattle.reach_rules.specs.declared.refusal.BroadcastRefusal.TheVariants as broadcast_faults
use Rattle.reach_rules.specs.declared.refusal.AskRefusal.TheVariants as ask_faults
use Rattle.reach_rules.specs.declared.refusal.ChooseRefusal.TheVariants as choices
use Rattle.reach_rules.specs.declared.refusal.DiscoveryDropped.{DiscoveryDropped}
use Rattle.reach_rules.specs.declared.refusal.DiscoveryDropped.TheVariants as discovery_drops
use Rattle.reach_rules.specs.declared.refusal.ScanRefusal.TheVariants as scan_faults
use Rattle.reach_rules.specs.Beacons.{Discovering, beacons, begin_scan, choose_agent, choosing_ends, cost_to_coordinator, hear_discovery_in, is_foreign}
use Rattle.reach_rules.specs.Beacons.{joins_by}
use Rattle.reach_rules.specs.Beacons.{takes_beacon, takes_beacons, stays as stays_scan}
use Rattle.reach_rules.specs.Broadcasts.{admits_broadcast, broadcast, broadcast_ends, broadcast_fault, broadcast_from, datagram_fault, goes_further}
use Rattle.reach_rules.specs.Broadcasts.{hear_broadcast_in, hop_less, own_broadcast, with_broadcast_mark, with_broadcast_number}
use Rattle.reach_rules.specs.CheckedReplies.{checks_after, hear_acknowledgement_in, message_of}
use Rattle.reach_rules.specs.PathRequests.{ask_ends, ask_path, asks_by as asks_over, asks_from, follows_path, hear_path_in, next_toward, path_word}
use Rattle.reach_rules.specs.ReachingNodes.{Beside, Reaching, drop_it, in_reach, nothing_beside, reach_ends, restarted_by, adds_local, tick_beside}
use Rattle.reach_rules.specs.FurtherReceptions.{NeighbourCommand, hear_command, hear_command_at}
use Rattle.line_rules.specs.Answers.{Reception, sent_word}
use Rattle.line_events.specs.declared.event.Answer.{Answer}
use Rattle.line_events.specs.declared.event.Event.{Event}
use Rattle.line_events.specs.declared.event.Event.TheVariants as events
use Rattle.line_events.specs.Events.{AreEvents, IsEvent}
use Rattle.line_rules.specs.Further.{acknowledged_by, acknowledged_if, acknowledging, adds_frames, beacon_taken, beside_after, beside_at, checked, due}
use Rattle.line_rules.specs.Further.{line_step, reaches, replied, restarts_by, scanning as scanning_of, sends_nothing, with_beside, with_check, without_log}
use Rattle.line_rules.specs.FurtherRuns.{AreOfHistoryAfter, IsOfHistory, check_history, check_step, checked_by, scan_history, scan_step, scanned_by}
use Rattle.line_rules.specs.Logs.{AreLogged, LogsKept}
use Rattle.line_rules.specs.Runs.{Entry, IsRun, events_of}
use Rattle.line_rules.specs.Steps.{Step, node_outcome, hearing_outcome, identity, is_taken, sent_if, tag_of, world_after}
use Rattle.line_rules.specs.Worlds.{Acknowledged, Further, Noticed, Replied, Scans, Trace, World, node_at, nothing_further, start}
use Rattle.line_rules.specs.Worlds.{Heard as HeardOf}
use Rattle.line_laws.specs.FurtherLines.{HoldsAfter}
use Rattle.line_laws.specs.Reach.{EveryHistoryIsKept}
use Rattle.line_laws.proofs.FurtherOctets.{every_run_holds}
use Rattle.line_laws.proofs.ReachSteps.{Asks, Bcasts, Checked, Chooses, Commands, Discovers, Fails, Hears, IsAccepted, IsOther, IsReachStep, Known, Opens}
use Rattle.line_laws.proofs.ReachSteps.{Restarts, Rests, Scans as Begins, Ticks, Unbelieves, after_accepting, heard_node, reach_step_is}
use Rattle.line_laws.proofs.StepKinds as old

-- # Histories

-- what a node holds after this event, if it held what a history says before
pub record LeadsAt (number : ℕ) (w : World) (x : Entry) : Type 0 where
  pub checks : (past : checking.History) → (beside_at w number).checks ≡ checking.after_history past
      → (beside_at x.after number).checks ≡ checking.after_history (check_step number x past)
  pub scan : (past : scanning.History) → (beside_at w number).scan ≡ scanning.after_history past
      → (beside_at x.after number).scan ≡ scanning.after_history (scan_step number x past)

check_more : (number : ℕ) (past : checking.History) (before : List Entry) (x : Entry)
    → check_history number past (before ++ x ∷ []) ≡ check_step number x (check_history number past before)
check_more number past [] x = refl
check_more number past (y ∷ before) x = check_more number (check_step number y past) before x

scan_more : (number : ℕ) (past : scanning.History) (before : List Entry) (x : Entry)
    → scan_history number past (before ++ x ∷ []) ≡ scan_step number x (scan_history number past before)
scan_more number past [] x = refl
scan_more number past (y ∷ before) x = scan_more number (scan_step number y past) before x

one_more : (w : World) (before : List Entry) (x : Entry) → IsOfHistory before w → ((number : ℕ) → LeadsAt number w x) → IsOfHistory (before ++ x ∷ []) x.after
one_more w before x h leads = record {
  checks = λ number. (leads number).checks (check_history number [] before) (h.checks number) ∙ sym (ap checking.after_history (check_more number [] before x));
  scan = λ number. (leads number).scan (scan_history number [] before) (h.scan number) ∙ sym (ap scanning.after_history (scan_more number [] before x));
}

-- # What stands beside

pub beside_within : (bs : List Beside) (ns : List Node) (n : ℕ) (x : Node) → AreLogged bs ns → slice_get ns n ≡ Some x → n < length bs
beside_within [] [] n x h e = absurd (cc)
beside_within [] (y ∷ ns) n x h e = absurd h
beside_within (b ∷ bs) [] n x h e = absurd h
beside_within (b ∷ bs) (y ∷ ns) zero x h e = omega arith
beside_within (b ∷ bs) (y ∷ ns) (suc n) x h e = let k = beside_within bs ns n x h.1 e in omega arith

-- what is there, or nothing
abbrev pub aside : List Beside → ℕ → Beside
aside bs n = unwrap_or (slice_get bs n) nothing_beside

pub aside_more : (bs : List Beside) (n : ℕ) → aside (bs ++ nothing_beside ∷ []) n ≡ aside bs n
aside_more [] zero = refl
aside_more [] (suc n) = refl
aside_more (b ∷ bs) zero = refl
aside_more (b ∷ bs) (suc n) = aside_more bs n

pub aside_set : (bs : List Beside) (n : ℕ) (b : Beside) → n < length bs → aside (slice_set bs n b) n ≡ b
aside_set bs n b within = ap (λ o. unwrap_or o nothing_beside) (slice_get-set bs n b within)

pub aside_other : (bs : List Beside) (n k : ℕ) (b : Beside) → k ≢ n → aside (slice_set bs n b) k ≡ aside bs k
aside_other bs n k b ne = ap (λ o. unwrap_or o nothing_beside) (slice_get-set_other bs n k b ne)

pub aside_ticked : (now : ℕ) (bs : List Beside) (n : ℕ) → aside (map (tick_beside now) bs) n ≡ tick_beside now (aside bs n)
aside_ticked now bs n = ap (λ o. unwrap_or o nothing_beside) (slice_get-map (tick_beside now) bs n) ∙ by_place (slice_get bs n)
  where
    by_place : (o : Option Beside) → unwrap_or (option_map (tick_beside now) o) nothing_beside ≡ tick_beside now (unwrap_or o nothing_beside)
    by_place None = refl
    by_place (Some b) = refl

-- # What one node noticed

-- it is of this node
abbrev IsOf : ℕ → Option Noticed → Type 0
IsOf number None = Unit {0}
IsOf number (Some (Replied node neighbour count origin)) = node ≡ number
IsOf number (Some (Acknowledged node neighbour count origin)) = node ≡ number
IsOf number (Some (Scans node)) = node ≡ number
IsOf number (Some (HeardOf node from cost link)) = node ≡ number

if_not : {A : Type 0} (a b : ℕ) (p q : A) → a ≢ b → (if a == b then p else q) ≡ q
if_not a b p q ne = by_test (a == b) refl
  where
    by_test : (t : Bool) → (a == b) ≡ t → (if t then p else q) ≡ q
    by_test true e = absurd (ne (eqb-true a b e))
    by_test false e = refl

checks_other : (number other now : ℕ) (o : Option Noticed) (past : checking.History) → IsOf number o → other ≢ number → checked_by other now o past ≡ past
checks_other number other now None past is ne = refl
checks_other number other now (Some (Replied node neighbour count origin)) past is ne = if_not node other _ past (λ e. ne (sym e ∙ is))
checks_other number other now (Some (Acknowledged node neighbour count origin)) past is ne = if_not node other _ past (λ e. ne (sym e ∙ is))
checks_other number other now (Some (Scans node)) past is ne = refl
checks_other number other now (Some (HeardOf node from cost link)) past is ne = refl

scan_other : (number other : ℕ) (o : Option Noticed) (past : scanning.History) → IsOf number o → other ≢ number → scanned_by other o past ≡ past
scan_other number other None past is ne = refl
scan_other number other (Some (Replied node neighbour count origin)) past is ne = refl
scan_other number other (Some (Acknowledged node neighbour count origin)) past is ne = refl
scan_other number other (Some (Scans node)) past is ne = if_not node other _ past (λ e. ne (sym e ∙ is))
scan_other number other (Some (HeardOf node from cost link)) past is ne = if_not node other _ past (λ e. ne (sym e ∙ is))

-- From what the node of a number held beside it to what it holds, by what it noticed.
pub record Notes (number now : ℕ) (b : Beside) (c : Beside) (noticed : Option Noticed) : Type 0 where
  pub checks : (past : checking.History) → b.checks ≡ checking.after_history past → c.checks ≡ checking.after_history (checked_by number now noticed past)
  pub scan : (past : scanning.History) → b.scan ≡ scanning.after_history past → c.scan ≡ scanning.after_history (scanned_by number noticed past)
  pub is : IsOf number noticed

-- it noticed nothing, and holds the same
same_notes : (number now : ℕ) (b c : Beside) → c.checks ≡ b.checks → c.scan ≡ b.scan → Notes number now b c None
same_notes number now b c checks scan = record { checks = λ past e. checks ∙ e; scan = λ past e. scan ∙ e; is = tt }

self_is : (n : ℕ) → (n == n) ≡ true
self_is n = eq-eqb n n refl

reply_notes : (number now : ℕ) (b : Beside) (r : Reply) → Notes number now b (record b { checks = checks_after b.checks (Some r) now })
    (Some (Replied number r.to r.number r.origin))
reply_notes number now b r = record {
  checks = λ past e. rw (self_is number) (ap (λ s. checks_after s (Some r) now) e ∙ sym
      (check_lemmas.one_more_entry past (checking.Reply r.to r.number r.origin now)));
  scan = λ past e. e;
  is = refl;
}

ack_notes : (number now : ℕ) (b : Beside) (from count origin : ℕ) → Notes number now b (record b { checks = acked_after b.checks from count origin })
    (Some (Acknowledged number from count origin))
ack_notes number now b from count origin = record {
  checks = λ past e. rw (self_is number) (ap (λ s. acked_after s from count origin) e ∙ sym
      (check_lemmas.one_more_entry past (checking.Acknowledgement from count origin)));
  scan = λ past e. e;
  is = refl;
}

begin_notes : (number now : ℕ) (b : Beside) → Notes number now b (record b { scan = begun }) (Some (Scans number))
begin_notes number now b = record {
  checks = λ past e. e;
  scan = λ past e. rw (self_is number) (sym (scan_lemmas.one_more_entry past scanning.Begin));
  is = refl;
}

beacon_notes : (number now : ℕ) (b : Beside) (from cost link : ℕ) → Notes number now b (record b { scan = taken_after b.scan from cost link })
    (Some (HeardOf number from cost link))
beacon_notes number now b from cost link = record {
  checks = λ past e. e;
  scan = λ past e. rw (self_is number) (ap (λ s. taken_after s from cost link) e ∙ sym (scan_lemmas.one_more_entry past (scanning.Beacon from cost link)));
  is = refl;
}

-- what is well, or this
abbrev ok_or : {E : Type 0} → Beside → Result Beside E → Beside
ok_or b (Ok c) = c
ok_or b (Err bad) = b

-- # In a world

module _ (w : World) (x : Entry) (other : IsOther x.event) where
  -- nothing was noticed, and what stands beside is the same
  still : ((n : ℕ) → beside_at x.after n ≡ beside_at w n) → x.trace.further.noticed ≡ None → (n : ℕ) → LeadsAt n w x
  still same none n = record {
    checks = λ past e. rw (other.1 n, other.0, none) (ap (λ (b : Beside). b.checks) (same n) ∙ e);
    scan = λ past e. rw (other.1 n, none) (ap (λ (b : Beside). b.scan) (same n) ∙ e);
  }

  -- one node noticed something
  at_one : (number : ℕ) (c : Beside) → number < length w.beside → x.after.beside ≡ slice_set w.beside number c
      → Notes number x.after.clock (beside_at w number) c x.trace.further.noticed → (n : ℕ) → LeadsAt n w x
  at_one number c within is notes n = by_number (n == number) refl
    where
      own : n ≡ number → LeadsAt n w x
      own e = subst (λ k. LeadsAt k w x) (sym e) (record {
        checks = λ past held. rw (other.1 number, other.0) (ap (λ bs. (aside bs number).checks) is ∙ ap (λ (b : Beside). b.checks)
            (aside_set w.beside number c within) ∙ notes.checks past held);
        scan = λ past held. rw (other.1 number) (ap (λ bs. (aside bs number).scan) is ∙ ap (λ (b : Beside). b.scan) (aside_set w.beside number c within) ∙
            notes.scan past held);
      })

      others : n ≢ number → LeadsAt n w x
      others ne = record {
        checks = λ past held. rw (other.1 n, other.0, checks_other number n x.after.clock x.trace.further.noticed past notes.is ne)
            (ap (λ bs. (aside bs n).checks) is ∙ ap (λ (b : Beside). b.checks) (aside_other w.beside number n c ne) ∙ held);
        scan = λ past held. rw (other.1 n, scan_other number n x.trace.further.noticed past notes.is ne)
            (ap (λ bs. (aside bs n).scan) is ∙ ap (λ (b : Beside). b.scan) (aside_other w.beside number n c ne) ∙ held);
      }

      by_number : (t : Bool) → (n == number) ≡ t → LeadsAt n w x
      by_number true e = own (eqb-true n number e)
      by_number false e = others (eqb-false n number e)

-- # Plans of further rules

-- What a plan leaves beside the memory, and what is left where it is not carried out.
record PlanNotes {A : Type 0} (number now : ℕ) (b : Beside) (noted : A → Option Noticed) (p : Plan (Reaching Memory) A) : Type 0 where
  whole : Notes number now b p.memory.beside (noted p.answer)
  cut : Notes number now b (without_log b) (noted p.failed)

-- it is so of what the node then holds
plan_notes : {A : Type 0} (number now : ℕ) (x : Node) (b : Beside) (halted : A) (plan : Reaching Memory → Plan (Reaching Memory) A) (noted : A → Option Noticed)
    → Notes number now b b (noted halted) → ((m : Memory) → x.memory ≡ Some m → PlanNotes number now b noted (plan (record { memory = m; beside = b })))
    → Notes number now b (beside_after x b plan (reaches x b halted plan).node) (noted (reaches x b halted plan).answer)
unfolding acts beside_after carry_out
plan_notes {A} number now x b halted plan noted down up = by_memory x.memory refl
  where
    held : Option Memory → NodeStep A
    held o = option_map_or (λ m. left_by x (carry_out x.store.records x.store.cut (with_beside b plan m))) o (stays x halted)

    after : Option Memory → Option Memory → Beside
    after o left = option_map_or (λ m. if is_some left then (plan (record { memory = m; beside = b })).memory.beside else without_log b) o b

    by_memory : (o : Option Memory) → x.memory ≡ o → Notes number now b (after o (held o).node.memory) (noted (held o).answer)
    by_memory None e = down
    by_memory (Some m) e = by_whole (write (plan (record { memory = m; beside = b })).puts x.store.cut x.store.records)
      where
        p : Plan (Reaching Memory) A
        p = plan (record { memory = m; beside = b })

        by_whole : (o : Written) → let out : Outcome Memory A = outcome_of o (with_beside b plan m) in Notes number now b
            (if is_some out.memory then p.memory.beside else without_log b) (noted out.answer)
        by_whole o = by_done o.whole
          where
            by_done : (t : Bool) → let out : Outcome Memory A = (if t then finished o (with_beside b plan m) else cut_off o (with_beside b plan m)) in Notes
                number now b (if is_some out.memory then p.memory.beside else without_log b) (noted out.answer)
            by_done true = (up m e).whole
            by_done false = (up m e).cut

module _ (number now : ℕ) (b : Beside) where
  -- a plan that leaves checks and scan, and of whose answer nothing is noticed
  quiet_notes : {A : Type 0} (noted : A → Option Noticed) (p : Plan (Reaching Memory) A) → p.memory.beside.checks ≡ b.checks → p.memory.beside.scan ≡ b.scan
      → noted p.answer ≡ None → noted p.failed ≡ None → PlanNotes number now b noted p
  quiet_notes noted p checks scan answer failed = record {
    whole = subst (Notes number now b p.memory.beside) (sym answer) (same_notes number now b p.memory.beside checks scan);
    cut = subst (Notes number now b (without_log b)) (sym failed) (same_notes number now b (without_log b) refl refl);
  }

  module _ (m : Memory) where
    abbrev y : Reaching Memory
    y = record { memory = m; beside = b }

    refused_notes : {H E : Type 0} (noted : Result H E → Option Noticed) (ends : Ends E) (reason : E) → ((e : E) → noted (Err e) ≡ None)
        → PlanNotes number now b noted (refused ends y reason)
    unfolding resting
    refused_notes noted ends reason none = quiet_notes noted (refused ends y reason) refl refl (none reason) (none ends.store)

    sealed_notes : {H E : Type 0} (noted : Result H E → Option Noticed) (ends : Ends E) (d : Draft (Reaching Memory)) (answer : H)
        → d.memory.beside.checks ≡ b.checks → d.memory.beside.scan ≡ b.scan → noted (Ok answer) ≡ None → ((e : E) → noted (Err e) ≡ None)
        → PlanNotes number now b noted (sealed (in_reach in_memory) ends y d answer)
    unfolding sealed
    sealed_notes {H} {E} noted ends d answer checks scan some none = by_test (nat_lt (counters_left m.station) (length d.units))
      where
        by_test : (t : Bool) → PlanNotes number now b noted (if t then refused ends y ends.spent else sealing (in_reach in_memory) ends d answer)
        by_test true = refused_notes noted ends ends.spent none
        by_test false = quiet_notes noted (sealing (in_reach in_memory) ends d answer) checks scan some (none ends.store)

    -- a broadcast
    broadcast_notes : (datagram : List ℕ) → PlanNotes number now b (λ _. None) (broadcast in_memory y datagram)
    unfolding checked_plan adds_local with_broadcast_number empty_draft
    broadcast_notes datagram = by_address (address_of m.station)
      where
        sent : ℕ → Plan (Reaching Memory) (Result (Unit {0}) BroadcastRefusal)
        sent own = sealed (in_reach in_memory) broadcast_ends y (adds_local to_all 4 (spelling (own_broadcast own b.log datagram))
            (with_broadcast_number (empty_draft y))) tt

        by_fault : (own : ℕ) (o : Option BroadcastRefusal) → PlanNotes number now b (λ _. None) (checked_plan broadcast_ends y o (sent own))
        by_fault own (Some reason) = refused_notes (λ _. None) broadcast_ends reason (λ e. refl)
        by_fault own None = sealed_notes (λ _. None) broadcast_ends (adds_local to_all 4 (spelling (own_broadcast own b.log datagram))
            (with_broadcast_number (empty_draft y))) tt refl refl refl (λ e. refl)

        by_address : (o : Option ℕ) → PlanNotes number now b (λ _. None)
            (option_map_or (λ own. broadcast_from in_memory y own datagram) o (refused broadcast_ends y broadcast_faults.NotJoined))
        by_address None = refused_notes (λ _. None) broadcast_ends broadcast_faults.NotJoined (λ e. refl)
        by_address (Some own) = by_fault own (datagram_fault b.log datagram)

    choose_notes : {A : Type 0} (noted : A → Option Noticed) (t : Bool) (p q : Plan (Reaching Memory) A) → PlanNotes number now b noted p
        → PlanNotes number now b noted q → PlanNotes number now b noted (choose_plan t p q)
    unfolding choose_plan
    choose_notes noted true p q f g = f
    choose_notes noted false p q f g = g

    -- an ask
    ask_notes : (target : ℕ) → PlanNotes number now b (λ _. None) (ask_path in_memory y target)
    unfolding adds_local empty_draft
    ask_notes target = by_address (address_of m.station)
      where
        by_route : (own : ℕ) (o : Option ℕ) → PlanNotes number now b (λ _. None) (asks_over in_memory y own target o)
        by_route own None = refused_notes (λ _. None) ask_ends ask_faults.NoRoute (λ e. refl)
        by_route own (Some hop) = sealed_notes (λ _. None) ask_ends (adds_local hop 5 (path_spelling (Ask target (own ∷ []))) (empty_draft y)) tt refl
            refl refl (λ e. refl)

        by_address : (o : Option ℕ) → PlanNotes number now b (λ _. None)
            (option_map_or (λ own. asks_from in_memory y own target) o (refused ask_ends y ask_faults.NotJoined))
        by_address None = refused_notes (λ _. None) ask_ends ask_faults.NotJoined (λ e. refl)
        by_address (Some own) = choose_notes (λ _. None) (target == own) _ _ (refused_notes (λ _. None) ask_ends ask_faults.ToSelf (λ e. refl))
            (by_route own (station_route m.station target))

    -- a choice of an agent
    agent_notes : (own : meters.Identity) (k clock : ℕ) → PlanNotes number now b (λ _. None) (choose_agent own y k clock)
    agent_notes own k clock = choose_notes (λ _. None) (meters.is_joined m) _ _ (refused_notes (λ _. None) choosing_ends choices.AlreadyJoined (λ e. refl))
        (by_agent (kth_of b.scan.agents k))
      where
        by_agent : (o : Option (ℕ × ℕ)) → PlanNotes number now b (λ _. None) (joins_by own y clock o)
        by_agent None = refused_notes (λ _. None) choosing_ends choices.NoBeacon (λ e. refl)
        by_agent (Some (address, total)) = quiet_notes (λ _. None) _ refl refl refl refl

    -- # A command

    module _ (c : NeighbourCommand) where
      abbrev noted : Result CommandHeard ReachDropped → Option Noticed
      noted answer = acknowledged_by number c answer

      dropped : (reason : ReachDropped) → PlanNotes number now b noted (drop_it y reason)
      dropped reason = refused_notes noted reach_ends reason (λ e. refl)

      ack_in_notes : (o : Option (ℕ × ℕ)) → ack_in c.body ≡ o → PlanNotes number now b noted (hear_acknowledgement_in y c.from o)
      unfolding resting
      ack_in_notes None e = dropped (reach_drops.Known drops.BadUnit)
      ack_in_notes (Some (count, origin)) e = choose_notes noted (is_awaited b.checks c.from count origin) _ _
          (record {
            whole = rw e (ack_notes number now b c.from count origin);
            cut = same_notes number now b (without_log b) refl refl;
          })
          (dropped reach_drops.NotAwaited)

      follows_notes : (o : Result PathStep PathRefusal) → PlanNotes number now b noted (follows_path in_memory y o)
      unfolding resting adds_local empty_draft
      follows_notes (Err reason) = dropped (path_word reason)
      follows_notes (Ok (Forward to message)) = sealed_notes noted reach_ends (adds_local to 5 (path_spelling message) (empty_draft y)) heard_of.Relayed
          refl refl refl (λ e. refl)
      follows_notes (Ok (Answers to message)) = sealed_notes noted reach_ends (adds_local to 5 (path_spelling message) (empty_draft y)) heard_of.Answered
          refl refl refl (λ e. refl)
      follows_notes (Ok (Done walk)) = quiet_notes noted _ refl refl refl refl

      path_notes : (own : ℕ) (o : Option PathMessage) → PlanNotes number now b noted (hear_path_in in_memory y own c.from o)
      path_notes own None = dropped (reach_drops.Known drops.BadUnit)
      path_notes own (Some message) = follows_notes (taken own c.from (next_toward m.station message) message)

      admits_notes : (d : Broadcast) → PlanNotes number now b noted (admits_broadcast in_memory y d)
      unfolding goes_further with_broadcast_mark adds_local empty_draft
      admits_notes d = by_hops (nat_lt d.hops 2)
        where
          marked : Draft (Reaching Memory)
          marked = with_broadcast_mark d.origin d.number (empty_draft y)

          by_hops : (t : Bool) → PlanNotes number now b noted (sealed (in_reach in_memory) reach_ends y
              (if t then marked else adds_local to_all 4 (spelling (hop_less d)) marked) (heard_of.Broadcast d.origin d.number d.octets))
          by_hops true = sealed_notes noted reach_ends marked (heard_of.Broadcast d.origin d.number d.octets) refl refl refl (λ e. refl)
          by_hops false = sealed_notes noted reach_ends (adds_local to_all 4 (spelling (hop_less d)) marked)
              (heard_of.Broadcast d.origin d.number d.octets) refl refl refl (λ e. refl)

      broadcast_in_notes : (own : ℕ) (o : Option Broadcast) → PlanNotes number now b noted (hear_broadcast_in in_memory y own o)
      unfolding checked_plan
      broadcast_in_notes own None = dropped (reach_drops.Known drops.BadUnit)
      broadcast_in_notes own (Some d) = by_fault (broadcast_fault own b.log d)
        where
          by_fault : (o : Option ReachDropped) → PlanNotes number now b noted (checked_plan reach_ends y o (admits_broadcast in_memory y d))
          by_fault (Some reason) = dropped reason
          by_fault None = admits_notes d

      command_notes : PlanNotes number now b noted (hear_command in_memory y c)
      command_notes = by_address (address_of m.station)
        where
          bad : PlanNotes number now b noted (drop_it y (reach_drops.Known drops.BadUnit))
          bad = dropped (reach_drops.Known drops.BadUnit)

          by_address : (o : Option ℕ) → PlanNotes number now b noted (option_map_or (λ own. hear_command_at in_memory y own c) o
              (drop_it y (reach_drops.Known drops.BadUnit)))
          by_address None = bad
          by_address (Some own) = choose_notes noted (c.code == 3) _ _ (choose_notes noted c.to_all _ _ bad (ack_in_notes (ack_in c.body) refl))
              (choose_notes noted (c.code == 4) _ _ (choose_notes noted c.to_all _ _ (broadcast_in_notes own (broadcast_in c.body)) bad)
              (choose_notes noted (c.code == 5) _ _ (choose_notes noted c.to_all _ _ bad (path_notes own (path_in c.body))) bad))

-- # Discovery

-- What a node did about discovery.
abbrev ScanNotes : {A : Type 0} → (number now : ℕ) → Beside → (A → Option Noticed) → Discovering A → Type 0
ScanNotes number now b noted d = Notes number now b (record b { scan = d.scan }) (noted d.answer)

module _ (number now : ℕ) (b : Beside) where
  scan_stays : {A : Type 0} (noted : A → Option Noticed) (answer : A) → noted answer ≡ None → ScanNotes number now b noted (stays_scan b.scan answer)
  scan_stays noted answer none = subst (Notes number now b (record b { scan = b.scan })) (sym none)
      (same_notes number now b (record b { scan = b.scan }) refl refl)

  begins : (m : Memory) → ScanNotes number now b (scanning_of number) (begin_scan m b.scan)
  begins m = by_joined (meters.is_joined m)
    where
      by_joined : (t : Bool) → ScanNotes number now b (scanning_of number)
          (if t then stays_scan b.scan (Err scan_faults.AlreadyJoined) else record { answer = Ok (tt {0}); scan = begun; sent = Some (discoveries.Request 0) })
      by_joined true = scan_stays (scanning_of number) (Err scan_faults.AlreadyJoined) refl
      by_joined false = begin_notes number now b

  hears_notes : (r : Role) (l : StationMemory) (link : ℕ) (o : Option Discovery)
      → ScanNotes number now b (beacon_taken number o link) (hear_discovery_in r l b.scan o link)
  hears_notes r l link None = scan_stays (beacon_taken number None link) (Err discovery_drops.Malformed) refl
  hears_notes r l link (Some (discoveries.Request seq)) = by_address (address_of l)
    where
      noted : Result DiscoveryHeard DiscoveryDropped → Option Noticed
      noted = beacon_taken number (Some (discoveries.Request seq)) link

      by_cost : (own : ℕ) (o : Option ℕ) → ScanNotes number now b noted (beacons b.scan own o)
      by_cost own None = scan_stays noted (Err discovery_drops.NoRoute) refl
      by_cost own (Some cost) = same_notes number now b (record b { scan = b.scan }) refl refl

      by_address : (o : Option ℕ) → ScanNotes number now b noted (option_map_or (λ own. beacons b.scan own (cost_to_coordinator r l)) o
          (stays_scan b.scan (Err discovery_drops.NotForMe)))
      by_address None = scan_stays noted (Err discovery_drops.NotForMe) refl
      by_address (Some own) = by_cost own (cost_to_coordinator r l)
  hears_notes r l link (Some (discoveries.Beacon seq pan from cost)) = by_tests (is_foreign l pan from) (takes_beacons l b.scan)
    where
      noted : Result DiscoveryHeard DiscoveryDropped → Option Noticed
      noted = beacon_taken number (Some (discoveries.Beacon seq pan from cost)) link

      by_tests : (s t : Bool) → ScanNotes number now b noted (if s then stays_scan b.scan (Err discovery_drops.NotForMe) else
          (if t then takes_beacon b.scan from cost link else stays_scan b.scan (Err discovery_drops.NotScanning)))
      by_tests true t = scan_stays noted (Err discovery_drops.NotForMe) refl
      by_tests false true = beacon_notes number now b from cost link
      by_tests false false = scan_stays noted (Err discovery_drops.NotScanning) refl

-- # Events

-- the entry of an event
abbrev entry : Event → World → Trace → Entry
entry event v t = record { number = v.events; event = event; trace = t; after = v }

abbrev pub FollowsHistory : World → Event → Step → Type 0
FollowsHistory w event (Ok r) = (n : ℕ) → LeadsAt n w (entry event r.0 r.1)
FollowsHistory w event (Err fault) = Unit {0}

-- What no rule of further reach touched.
pub record IsUntouched (w v : World) (t : Trace) : Type 0 where
  pub beside : (n : ℕ) → beside_at v n ≡ beside_at w n
  pub further : t.further ≡ nothing_further

abbrev pub UntouchedIn : World → Step → Type 0
UntouchedIn w (Ok r) = IsUntouched w r.0 r.1
UntouchedIn w (Err fault) = Unit {0}

module _ (ciphers : Ciphers) (w : World) where
  same : (v : World) (t : Trace) → v.beside ≡ w.beside → t.further ≡ nothing_further → IsUntouched w v t
  same v t e f = record { beside = λ n. ap (λ bs. aside bs n) e; further = f }

  sent_untouched : (from to : ℕ) (datagram : List ℕ) (tag : ℕ) (t : Bool) (r : World × Trace) → r.0.beside ≡ w.beside → r.1.further ≡ nothing_further
      → IsUntouched w (sent_if w from to datagram tag t r).0 (sent_if w from to datagram tag t r).1
  sent_untouched from to datagram tag true r e f = same _ _ e f
  sent_untouched from to datagram tag false r e f = same _ _ e f

  pub untouched : (event : Event) (s : Step) → old.IsStep ciphers w event s → UntouchedIn w s
  unfolding world_after
  untouched event s (old.Fails e fault) = tt
  untouched event s (old.Makes e x is) = record { beside = aside_more w.beside; further = refl }
  untouched event s (old.Rests e quiet) = same _ _ refl refl
  untouched event s (old.Shows number x) = same _ _ refl refl
  untouched event s (old.Acts e number x A halted plan reads there call word asked) = same _ _ refl refl
  untouched event s (old.BreaksLink number next x a there call) = same _ _ refl refl
  untouched event s (old.SendsFrom from to datagram x a there call target) =
      let d : NodeStep Answer = answering sent_word (acts x (Err sends.Halted) (λ m. of_station m (calls.send m.station a datagram (w.sends + 1) w.clock))) in
      sent_untouched from to datagram (tag_of x) (is_taken d.answer) (node_outcome ciphers w from d) refl refl
  untouched event s (old.AllowsMeter number y c psk there call meter) = same _ _ refl refl
  untouched event s (old.Sets e quiet number x plan there open_is is) = same _ _ refl refl
  untouched event s (old.SetsTwo e quiet a b cost x y p q hx hy apart open_is first second fresh near) = same _ _ refl refl
  untouched event s (old.Provides number x c psk g d ne open_is hx hc pair is answer) = same _ _ refl refl
  untouched event s (old.TurnsDown e number x octets reason d there says comes is answer) = same _ _ refl refl
  untouched event s (old.Hears e number x octets cost got there says comes low is) = same _ _ refl refl
  untouched event s (old.Loses number f there) = same _ _ refl refl
  untouched event s (old.Ticks seconds) = same _ _ refl refl
  untouched event s (old.Restarts number x there) = same _ _ refl refl
  untouched event s (old.Cuts number nth keeps_new x there) = same _ _ refl refl

module _ (ciphers : Ciphers) (w : World) (logs : LogsKept w) where
  within : (number : ℕ) (x : Node) → node_at w number ≡ Some x → number < length w.beside
  within number x there = beside_within w.beside w.nodes number x logs there

  untouched_follows : (event : Event) (s : Step) → IsOther event → UntouchedIn w s → FollowsHistory w event s
  untouched_follows event (Err fault) other u = tt
  untouched_follows event (Ok r) other u = still w (entry event r.0 r.1) other u.beside (ap (λ (f : Further). f.noticed) u.further)

  -- neighbours are checked
  module _ (event : Event) (number : ℕ) (x : Node) (octets : List ℕ) (cost : ℕ) (got : Accepted) (a : IsAccepted ciphers w event number x octets got) where
    abbrev d : NodeStep Reception
    d = heard_node ciphers w x octets got cost

    abbrev r : World × Trace
    r = hearing_outcome ciphers w number (after_accepting ciphers x octets) octets got cost

    abbrev with_it : World × Trace
    with_it = with_check w number (reply_among d.frames) r

    checked_follows : (n : ℕ) → LeadsAt n w (entry event (checked ciphers w number got d r).0 (checked ciphers w number got d r).1)
    unfolding world_after
    checked_follows = by_due (due got.path (message_of got) d.answer.answer)
      where
        sent : Option Reply → Beside
        sent o = record (beside_at w number) { checks = checks_after (beside_at w number).checks o w.clock }

        notes : (o : Option Reply) → Notes number w.clock (beside_at w number) (sent o) (replied number o)
        notes None = same_notes number w.clock (beside_at w number) (sent None) refl refl
        notes (Some reply) = reply_notes number w.clock (beside_at w number) reply

        by_memory : (reply : Reply) (t : Bool) → let v : World = world_after ciphers with_it.0 number (acknowledging d.node reply) in
            let q : World × Trace = if t then
            adds_frames v with_it.1 (acknowledging d.node reply) else sends_nothing w (v, with_it.1) in (n : ℕ) → LeadsAt n w (entry event q.0 q.1)
        by_memory reply true = at_one w (entry event (world_after ciphers with_it.0 number (acknowledging d.node reply))
            (adds_frames (world_after ciphers with_it.0 number (acknowledging d.node reply)) with_it.1 (acknowledging d.node reply)).1) a.other number
            (sent (reply_among d.frames)) (within number x a.there) refl (notes (reply_among d.frames))
        by_memory reply false =
            let q : World × Trace = sends_nothing w (world_after ciphers with_it.0 number (acknowledging d.node reply), with_it.1) in
            still w (entry event q.0 q.1) a.other (λ n. refl) refl

        by_due : (o : Option Reply) → let q : World × Trace = acknowledged_if ciphers w number d.node o with_it in (n : ℕ) → LeadsAt n w (entry event q.0 q.1)
        by_due None = at_one w (entry event with_it.0 with_it.1) a.other number (sent (reply_among d.frames)) (within number x a.there) refl
            (notes (reply_among d.frames))
        by_due (Some reply) = by_memory reply (is_some (acknowledging d.node reply).node.memory)

  pub follows_history : (event : Event) (s : Step) → IsReachStep ciphers w event s → FollowsHistory w event s
  unfolding world_after
  follows_history event s (Fails e fault) = tt
  follows_history event s (Known e t other is none) = untouched_follows event s other (untouched ciphers w event s is)
  follows_history event s (Rests e answer idle other none) = still w (entry event _ _) other (λ n. refl) refl
  follows_history event s Opens = still w (entry event _ _) (refl, λ n. refl) (λ n. refl) refl
  follows_history event s (Bcasts number x datagram there are) =
      at_one w (entry event _ _) (refl, λ n. refl) number _ (within number x there) refl
      (plan_notes number w.clock x (beside_at w number) (Err broadcast_faults.Halted) (λ y. broadcast in_memory y datagram) (λ _. None)
      (same_notes number w.clock (beside_at w number) (beside_at w number) refl refl)
      (λ m here. broadcast_notes number w.clock (beside_at w number) m datagram))
  follows_history event s (Asks from to x y target there other address) =
      at_one w (entry event _ _) (refl, λ n. refl) from _ (within from x there) refl
      (plan_notes from w.clock x (beside_at w from) (Err ask_faults.Halted) (λ y. ask_path in_memory y target) (λ _. None)
      (same_notes from w.clock (beside_at w from) (beside_at w from) refl refl)
      (λ m here. ask_notes from w.clock (beside_at w from) m target))
  follows_history event s (Begins number x m there here) = at_one w (entry event _ _) (refl, λ n. refl) number _ (within number x there) refl
      (begins number w.clock (beside_at w number) m)
  follows_history event s (Chooses number k x psk there pair) =
      at_one w (entry event _ _) (refl, λ n. refl) number _ (within number x there) refl
      (plan_notes number w.clock x (beside_at w number) (Err choices.Halted) (λ y. choose_agent (identity ciphers x psk) y k w.clock) (λ _. None)
      (same_notes number w.clock (beside_at w number) (beside_at w number) refl refl)
      (λ m here. agent_notes number w.clock (beside_at w number) m (identity ciphers x psk) k w.clock))
  follows_history event s (Discovers e number x m octets link other there here comes over is) =
      at_one w (entry event _ _) other number _ (within number x there) refl
      (hears_notes number w.clock (beside_at w number) x.role m.station link (discovery_in octets))
  follows_history event s (Unbelieves e number x octets got a is) = still w (entry event _ _) a.other (λ n. refl) refl
  follows_history event s (Commands e number x octets cost got c a low passes is) =
      at_one w (entry event _ _) a.other number _ (within number x a.there) refl
      (plan_notes number w.clock (heard_node ciphers w x octets got cost).node (beside_at w number) (Err (reach_drops.Known drops.Store))
      (λ y. hear_command in_memory y c) (acknowledged_by number c) (same_notes number w.clock (beside_at w number) (beside_at w number) refl refl)
      (λ m here. command_notes number w.clock (beside_at w number) m c))
  follows_history event s (Checked e number x octets cost got a low passes none on) = checked_follows event number x octets cost got a
  follows_history event s (Hears e number x octets cost got a low passes none off) = still w (entry event _ _) a.other (λ n. refl) refl
  follows_history event s (Ticks seconds) = λ n. record {
    checks = λ past e. ap (λ (b : Beside). b.checks) (aside_ticked (w.clock + seconds) w.beside n) ∙ ap (λ s. tick_after s (w.clock + seconds)) e ∙ sym
        (check_lemmas.one_more_entry past (checking.Tick (w.clock + seconds)));
    scan = λ past e. ap (λ (b : Beside). b.scan) (aside_ticked (w.clock + seconds) w.beside n) ∙ e;
  }
  follows_history event s (Restarts number x b there read) = restarted_at
    where
      blank : (o : Result Log BadStore) → restarted_by o ≡ Ok b → (b.checks ≡ nobody) × (b.scan ≡ ended)
      blank (Ok log) e = (ap (λ r. (ok_or b r).checks) (sym e), ap (λ r. (ok_or b r).scan) (sym e))
      blank (Err bad) e = absurd (cc (e))

      clean : (b.checks ≡ nobody) × (b.scan ≡ ended)
      clean = blank (opened x.store.records) read

      restarted_at : (n : ℕ) → LeadsAt n w (entry (events.Restart number) (restarts_by ciphers w number x (Ok b)).0 (restarts_by ciphers w number x (Ok b)).1)
      restarted_at n = by_number (number == n) refl
        where
          by_number : (t : Bool) → (number == n) ≡ t → LeadsAt n w (entry (events.Restart number) (restarts_by ciphers w number x (Ok b)).0
              (restarts_by ciphers w number x (Ok b)).1)
          by_number true e =
              let is : number ≡ n = eqb-true number n e in
              let at : aside (slice_set w.beside number b) n ≡ b = subst (λ k. aside (slice_set w.beside number b) k ≡ b) is
              (aside_set w.beside number b (within number x there)) in
              record {
                checks = λ past held. rw e (ap (λ (c : Beside). c.checks) at ∙ clean.0 ∙ sym check_lemmas.nobody_at_the_start);
                scan = λ past held. rw e (ap (λ (c : Beside). c.scan) at ∙ clean.1 ∙ sym (scan_lemmas.one_more_entry past scanning.Clear));
              }
          by_number false e =
              let ne : n ≢ number = λ k. eqb-false number n e (sym k) in
              record {
                checks = λ past held. rw e (ap (λ (c : Beside). c.checks) (aside_other w.beside number n b ne) ∙ held);
                scan = λ past held. rw e (ap (λ (c : Beside). c.scan) (aside_other w.beside number n b ne) ∙ held);
              }

-- # Runs

histories_kept : (w : World) → LogsKept w → (before : List Entry) → IsOfHistory before w → (entries : List Entry) → AreEvents (events_of entries)
    → IsRun network w entries → All HoldsAfter entries → AreOfHistoryAfter before entries
histories_kept w logs before h [] says run holds = tt
histories_kept w logs before h (x ∷ xs) says run holds =
    let event = All-head IsEvent x.event (events_of xs) says in
    let leads : (n : ℕ) → LeadsAt n w (entry x.event x.after x.trace) = subst (FollowsHistory w x.event) run.2
    (follows_history network w logs x.event (line_step network w x.event) (reach_step_is network w logs x.event event)) in
    let next : IsOfHistory (before ++ x ∷ []) x.after = one_more w before x h (λ n. record { checks = (leads n).checks; scan = (leads n).scan }) in (
      next,
      histories_kept x.after (All-head HoldsAfter x xs holds).logs (before ++ x ∷ []) next xs (All-tail IsEvent x.event (events_of xs) says) run.3
          (All-tail HoldsAfter x xs holds),
    )

nothing_scanned : scanning.after_history [] ≡ ended
unfolding scanning.after_history
nothing_scanned = refl

pub start_history : IsOfHistory [] start
start_history = record { checks = λ number. sym check_lemmas.nobody_at_the_start; scan = λ number. sym nothing_scanned }

pub every_history : EveryHistoryIsKept
every_history entries r = histories_kept start tt [] start_history entries r.events r.run (every_run_holds entries r)
