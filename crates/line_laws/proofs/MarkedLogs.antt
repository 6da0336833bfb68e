-- What a node has handed up of broadcasts is among what its log has admitted, over restarts and failed writes.
use Rattle.std.proofs.Common.{inl, inr, zero-le, ◌≡◌, ◌⊎◌, ℕ, suc, ◌^◌, ◌<◌, Bool, true, false, List, [], ◌∷◌, ◌++◌, length}
use Rattle.std.proofs.Common.{Option, Some, None, Result, Ok, Err, refl, sym, subst, arith}
use Rattle.std.specs.Prelude.{if◌then◌else◌, ◌==◌, All, IfSome, is_some, nat_lt}
use Rattle.std.specs.FinMap.{insert}
use Rattle.std.specs.Option.{option_map_or}
use Rattle.std.proofs.lemmas.List.{append-nil}
use Rattle.std.proofs.lemmas.List.Elements.{All-nil, All-cons, All-head, All-tail, All-append, All-weaker}
use Rattle.store_tables.specs.AdmittedNumbers.{Admitted}
use Rattle.plc_base.specs.declared.address.Eui.{Eui}
use Rattle.plc_base.specs.declared.keeper.BadStore.{BadStore}
use Rattle.plc_base.specs.Fields.{AreOctets}
use Rattle.plc_base.specs.Keeper.{Puts, Records, Store, Write}
use Rattle.store_tables.specs.LeadingPuts.{Left, PutsLead, Reads}
use Rattle.store_tables.specs.SlotTables.{slot_of}
use Rattle.store_tables.specs.Writes.{Written, puts_of, write}
use Rattle.plc_base.proofs.Faults.{then_none, when_none}
use Rattle.store_tables.proofs.LeadingPuts.{leads_append, leads_beside, leads_one, left_by}
use Rattle.broadcast_log.specs.declared.broadcast.Broadcast.{Broadcast}
use Rattle.broadcast_log.specs.declared.fault.LogFault.{LogFault}
use Rattle.broadcast_log.specs.declared.fault.LogFault.TheVariants as log_faults
use Rattle.broadcast_log.specs.Grammar.{Spells, spelling}
use Rattle.broadcast_log.specs.Log.{Log, admitted_log, numbered_log, opened}
use Rattle.broadcast_log.specs.NextNumber.{is_spent, number_put}
use Rattle.broadcast_log.specs.OriginMarks.{keep_write, marks, room_for}
use Rattle.broadcast_log.specs.Reader.{broadcast_in}
use Rattle.broadcast_log.specs.Runs.{Runs, admits, begins, elsewhere, numbers, restarts as opens_again}
use Rattle.broadcast_log.proofs.ReopenedLogs.{reopens}
use Rattle.broadcast_log.proofs.Spellings.{broadcast_spelled}
use Rattle.frame_counters.specs.SendCounter as counter
use Rattle.neighbour_checks.specs.Acks.{ack_in}
use Rattle.neighbour_checks.specs.Neighbours.{is_awaited}
use Rattle.pan_discovery.specs.Agents.{kth_of}
use Rattle.path_requests.specs.declared.message.PathMessage.{PathMessage}
use Rattle.path_requests.specs.declared.message.PathMessage.TheVariants.{Ask}
use Rattle.path_requests.specs.declared.step.PathStep.{PathStep}
use Rattle.path_requests.specs.declared.step.PathStep.TheVariants.{Forward, Answer, Done}
use Rattle.path_requests.specs.declared.step.PathRefusal.{PathRefusal}
use Rattle.path_requests.specs.Messages.{path_spelling}
use Rattle.path_requests.specs.Reader.{path_in}
use Rattle.path_requests.specs.PathSteps.{taken}
use Rattle.node_rules.specs.declared.refusal.Dropped.TheVariants as drops
use Rattle.node_rules.specs.Drafts.{Draft, Ends, checked, choose, counters_left, empty_draft, refused, sealed, sealing}
use Rattle.node_rules.specs.Frames.{to_all}
use Rattle.node_rules.specs.LogSlots.{IsBesideLog, SameLog}
use Rattle.node_rules.specs.Memory.{Memory, Node, Role, address_of, station_route}
use Rattle.node_rules.specs.MemoryDrafts.{in_memory}
use Rattle.node_rules.specs.Meters as meters
use Rattle.node_rules.specs.NodeSteps.{NodeStep, acts, stays, left_by as node_left}
use Rattle.node_rules.specs.Plans.{Plan, Outcome, carry_out, finished, halted as cut_off, outcome_of, resting}
use Rattle.node_rules.specs.Tables.{HasShortTables}
use Rattle.node_rules.proofs.LogPuts.{meters_leave_log, same_put}
use Rattle.reach_rules.specs.declared.heard.CommandHeard.{CommandHeard}
use Rattle.reach_rules.specs.declared.heard.CommandHeard.TheVariants as heard_of
use Rattle.reach_rules.specs.declared.refusal.AskRefusal.TheVariants as asks_of
use Rattle.reach_rules.specs.declared.refusal.BroadcastRefusal.{BroadcastRefusal}
use Rattle.reach_rules.specs.declared.refusal.BroadcastRefusal.TheVariants as broadcast_faults
use Rattle.reach_rules.specs.declared.refusal.ChooseRefusal.TheVariants as choices
use Rattle.reach_rules.specs.declared.refusal.ReachDropped.{ReachDropped}
use Rattle.reach_rules.specs.declared.refusal.ReachDropped.TheVariants as reach_drops
use Rattle.reach_rules.specs.Beacons.{choose_agent, choosing_ends, joins_by}
use Rattle.reach_rules.specs.Broadcasts.{admits_broadcast, broadcast, broadcast_ends, broadcast_fault, broadcast_from, datagram_fault, goes_further}
use Rattle.reach_rules.specs.Broadcasts.{hear_broadcast_in, hop_less, mark_fault, own_broadcast, with_broadcast_mark, with_broadcast_number}
use Rattle.reach_rules.specs.CheckedReplies.{hear_acknowledgement_in}
use Rattle.reach_rules.specs.PathRequests.{ask_ends, ask_path, asks_by, asks_from, follows_path, hear_path_in, next_toward, path_word}
use Rattle.reach_rules.specs.ReachingNodes.{Beside, Reaching, drop_it, in_reach, nothing_beside, reach_ends, restarted_by, adds_local}
use Rattle.reach_rules.specs.FurtherReceptions.{NeighbourCommand, hear_command, hear_command_at}
use Rattle.line_events.specs.declared.happenings.BroadcastUp.{BroadcastUp}
use Rattle.line_rules.specs.Further.{beside_after, broadcast_up, reaches, with_beside, without_log}
use Rattle.line_rules.specs.Runs.{one_of}
use Rattle.line_rules.specs.Steps.{blank_node}
use Rattle.line_rules.proofs.LogPlans.{blank_in}
use Rattle.line_rules.proofs.LogSteps.{Quiet}

-- # What was admitted

abbrev pub Among : ℕ → ℕ → List Admitted → Type 0
Among origin number [] = ⊥
Among origin number (a ∷ before) = ((a.address ≡ origin) × (a.number ≡ number)) ⊎ Among origin number before

-- what a node of a number has handed up was admitted
abbrev pub Covered : ℕ → List Admitted → BroadcastUp → Type 0
Covered n before u = u.node ≡ n → Among u.origin u.number before

-- The log has run so that all that its node has handed up was admitted.
pub record Marked (ups : List BroadcastUp) (n : ℕ) (log : Log) (records : Records) : Type 0 where
  pub given : List ℕ
  pub before : List Admitted
  pub run : Runs given before (Some log) records
  pub covers : All (λ (u : BroadcastUp). Covered n before u) ups

-- of a halted node some log has
abbrev pub MarkedIn : List BroadcastUp → ℕ → Log → Records → Option Memory → Type 0
MarkedIn ups n log records (Some m) = Marked ups n log records
MarkedIn ups n log records None = Reads (Marked ups n) records

all_front : {A : Type 0} (P : A → Type 0) (xs ys : List A) → All P (xs ++ ys) → All P xs
all_front P [] ys h = All-nil P
all_front P (x ∷ xs) ys h = All-cons P x xs (All-head P x (xs ++ ys) h) (all_front P xs ys (All-tail P x (xs ++ ys) h))

module _ (ups : List BroadcastUp) (n : ℕ) where
  -- with what is handed up now
  abbrev pub Kept : Log × Option BroadcastUp → Records → Type 0
  Kept v r = Marked (ups ++ one_of v.1) n v.0 r

  pub fewer : (more : List BroadcastUp) (log : Log) (r : Records) → Marked (ups ++ more) n log r → Marked ups n log r
  fewer more log r k = record {
    given = k.given;
    before = k.before;
    run = k.run;
    covers = all_front (λ (u : BroadcastUp). Covered n k.before u) ups more
        k.covers;
  }

  pub nothing_more : (log : Log) (r : Records) → Marked ups n log r → Marked (ups ++ []) n log r
  nothing_more log r k = subst (λ us. Marked us n log r) (sym (append-nil ups)) k

  pub moved : (log : Log) (r s : Records) → SameLog r s → Marked ups n log r → Marked ups n log s
  moved log r s same k = record {
    given = k.given;
    before = k.before;
    run = elsewhere k.given k.before (Some log) r s k.run (record {
      limit = same 6 (inl refl);
      marks = λ place within. same (slot_of marks place)
          (inr (omega arith, omega arith));
    });
    covers = k.covers;
  }

store : Records → Store
store r = record { records = r; pending = None; faults = 0; known_cut = None; listed = None }

-- # Writes

module _ (ups : List BroadcastUp) (n : ℕ) where
  beside_leads : (v : Log × Option BroadcastUp) (ps : List Write) → All IsBesideLog ps → PutsLead (Kept ups n) v ps v
  beside_leads v [] h = leads_beside (Kept ups n) v v (λ r k. k)
  beside_leads v (p ∷ ps) h = record {
    run = λ r k.
        let kept : Kept ups n v (insert r p.slot p.octets) = moved (ups ++ one_of v.1) n v.0 r _ (same_put r p (h 0 p (omega arith)) r (λ slot is. refl)) k in
        let rest = (beside_leads v ps (λ i d within. h (suc i) d (omega arith))).run (insert r p.slot p.octets) kept in
        ((record { value = v; kept = k }, rest.0), rest.1);
  }

  put_true : (r : Records) (w : Write) → Puts (store r) w.slot w.octets true (store (insert r w.slot w.octets))
  unfolding store
  put_true r w = record {
    stored = refl;
    old_or_new = inr refl;
    pending = refl;
    faults = zero-le;
    rose = tt;
    known_cut = refl;
    known_cut_ok = tt;
    known_cut_records = tt;
    listed = refl;
  }

  number_leads : (log : Log) → is_spent log.numbering ≡ false → PutsLead (Kept ups n) (log, None) (puts_of (number_put log.numbering)) (numbered_log log, None)
  unfolding store
  number_leads log left = by_put (number_put log.numbering) refl
    where
      by_put : (o : Option Write) → number_put log.numbering ≡ o → PutsLead (Kept ups n) (log, None) (puts_of o) (numbered_log log, None)
      by_put None e = leads_beside (Kept ups n) (log, None) (numbered_log log, None)
          (λ r k. record {
            given = log.numbering.next ∷ k.given;
            before = k.before;
            run = numbers k.given k.before log (store r) (store r) k.run left
                (rw e (refl, refl));
            covers = k.covers;
          })
      by_put (Some w) e = leads_one (Kept ups n) (log, None) (numbered_log log, None) w
          (λ r k. record {
            given = log.numbering.next ∷ k.given;
            before = k.before;
            run = numbers k.given k.before log (store r)
                (store (insert r w.slot w.octets)) k.run left (rw e (put_true r w));
            covers = k.covers;
          })

  admission_leads : (log : Log) (up : BroadcastUp) → up.node ≡ n → up.origin < 0xFFFE → up.number < 2 ^ 32
      → room_for log.marks up.origin up.number ≡ Ok (tt {0})
      → PutsLead (Kept ups n) (log, None) (puts_of (keep_write log.marks up.origin up.number)) (admitted_log log up.origin up.number, Some up)
  unfolding store
  admission_leads log up own low fits room = by_put (keep_write log.marks up.origin up.number) refl
    where
      entry : Admitted
      entry = record { address = up.origin; number = up.number }

      more : (before : List Admitted) → All (λ (u : BroadcastUp). Covered n before u) (ups ++ [])
          → All (λ (u : BroadcastUp). Covered n (record { address = up.origin; number = up.number } ∷ before) u) (ups ++ up ∷ [])
      more before h = All-append (λ (u : BroadcastUp). Covered n (record { address = up.origin; number = up.number } ∷ before) u) ups (up ∷ [])
          (All-weaker (λ (u : BroadcastUp). Covered n before u) (λ (u : BroadcastUp). Covered n (record { address = up.origin; number = up.number } ∷ before) u)
          (λ u c e. inr (c e)) ups (all_front (λ (u : BroadcastUp). Covered n before u) ups [] h))
          (All-cons (λ (u : BroadcastUp). Covered n (record { address = up.origin; number = up.number } ∷ before) u) up [] (λ e. inl (refl, refl))
          (All-nil (λ (u : BroadcastUp). Covered n (record { address = up.origin; number = up.number } ∷ before) u)))

      by_put : (o : Option Write) → keep_write log.marks up.origin up.number ≡ o
          → PutsLead (Kept ups n) (log, None) (puts_of o) (admitted_log log up.origin up.number, Some up)
      by_put None e = leads_beside (Kept ups n) (log, None) (admitted_log log up.origin up.number, Some up)
          (λ r k. record {
            given = k.given;
            before = record { address = up.origin; number = up.number } ∷ k.before;
            run = admits k.given k.before log up.origin
                up.number (store r) (store r) k.run low fits room (rw e (refl, refl));
            covers = more k.before k.covers;
          })
      by_put (Some w) e = leads_one (Kept ups n) (log, None) (admitted_log log up.origin up.number, Some up) w
          (λ r k. record {
            given = k.given;
            before = record { address = up.origin; number = up.number } ∷ k.before;
            run = admits k.given k.before log up.origin
                up.number (store r) (store (insert r w.slot w.octets)) k.run low fits room (rw e (put_true r w));
            covers = more k.before k.covers;
          })

  counter_beside : (c : counter.Counting) (count : ℕ) → All IsBesideLog (puts_of (counter.reserve_write c count))
  counter_beside c count = by_due (counter.passes c count)
    where
      by_due : (b : Bool) → All IsBesideLog (puts_of (if b then counter.limit_write (counter.raised c.limit) else None))
      by_due true = All-cons IsBesideLog _ [] (record { limit = λ e. omega arith; marks = inl (omega arith) }) (All-nil IsBesideLog)
      by_due false = All-nil IsBesideLog

  -- # Plans

  -- What a plan stores leads from the log that the node holds to the one that it leaves, with what it hands up.
  pub record PlanMarks {A : Type 0} (b : Beside) (upped : A → Option BroadcastUp) (p : Plan (Reaching Memory) A) : Type 0 where
    pub leads : PutsLead (Kept ups n) (b.log, None) p.puts (p.memory.beside.log, upped p.answer)
    pub cut : upped p.failed ≡ None

  pub further_marks : {A : Type 0} (x : Node) (b : Beside) (halted : A) (upped : A → Option BroadcastUp) (plan : Reaching Memory → Plan (Reaching Memory) A)
      → upped halted ≡ None
      → ((m : Memory) → x.memory ≡ Some m → PlanMarks b upped (plan (record { memory = m; beside = b }))) → MarkedIn ups n b.log x.store.records x.memory
      → let d : NodeStep A = reaches x b halted plan in MarkedIn (ups ++ one_of (upped d.answer)) n (beside_after x b plan d.node).log d.node.store.records
      d.node.memory
  unfolding acts beside_after carry_out
  further_marks {A} x b halted upped plan down up h = by_memory x.memory refl h
    where
      held : Option Memory → NodeStep A
      held o = option_map_or (λ m. node_left x (carry_out x.store.records x.store.cut (with_beside b plan m))) o (stays x halted)

      after : Option Memory → Option Memory → Beside
      after o left = option_map_or (λ m. if is_some left then (plan (record { memory = m; beside = b })).memory.beside else without_log b) o b

      by_memory : (o : Option Memory) → x.memory ≡ o → MarkedIn ups n b.log x.store.records o
          → MarkedIn (ups ++ one_of (upped (held o).answer)) n (after o (held o).node.memory).log (held o).node.store.records (held o).node.memory
      by_memory None e k = rw (down, e) (record { value = k.value; kept = nothing_more ups n k.value x.store.records k.kept })
      by_memory (Some m) e k = by_whole (write p.puts x.store.cut x.store.records)
          (left_by (Kept ups n) (b.log, None) (p.memory.beside.log, upped p.answer) p.puts x.store.cut x.store.records
          (nothing_more ups n b.log x.store.records k) (up m e).leads)
        where
          p : Plan (Reaching Memory) A
          p = plan (record { memory = m; beside = b })

          by_whole : (o : Written) → Left (Kept ups n) o.whole (p.memory.beside.log, upped p.answer) o.records
              → let out : Outcome Memory A = outcome_of o (with_beside b plan m) in MarkedIn (ups ++ one_of (upped out.answer)) n
              (if is_some out.memory then p.memory.beside else without_log b).log out.records out.memory
          by_whole o l = by_done o.whole l
            where
              by_done : (t : Bool) → Left (Kept ups n) t (p.memory.beside.log, upped p.answer) o.records
                  → let out : Outcome Memory A = (if t then finished o (with_beside b plan m) else cut_off o (with_beside b plan m)) in MarkedIn
                  (ups ++ one_of (upped out.answer)) n (if is_some out.memory then p.memory.beside else without_log b).log out.records out.memory
              by_done true l = l
              by_done false l = rw (up m e).cut (record {
                value = l.value.0;
                kept = nothing_more ups n l.value.0 o.records
                    (fewer ups n (one_of l.value.1) l.value.0 o.records l.kept);
              })

  module _ (m : Memory) (b : Beside) where
    abbrev y : Reaching Memory
    y = record { memory = m; beside = b }

    still_leads : PutsLead (Kept ups n) (b.log, None) [] (b.log, None)
    still_leads = leads_beside (Kept ups n) (b.log, None) (b.log, None) (λ r k. k)

    module _ {H E : Type 0} (upped : Result H E → Option BroadcastUp) (fails : (e : E) → upped (Err e) ≡ None) where
      refused_marks : (ends : Ends E) (reason : E) → PlanMarks b upped (refused ends y reason)
      unfolding resting
      refused_marks ends reason = record {
        leads = subst (λ o. PutsLead (Kept ups n) (b.log, None) [] (b.log, o)) (sym (fails reason)) still_leads;
        cut = fails
            ends.store;
      }

      sealed_marks : (ends : Ends E) (d : Draft (Reaching Memory)) (answer : H)
          → PutsLead (Kept ups n) (b.log, None) d.puts (d.memory.beside.log, upped (Ok answer))
          → PlanMarks b upped (sealed (in_reach in_memory) ends y d answer)
      unfolding sealed
      sealed_marks ends d answer leads = by_left (nat_lt (counters_left m.station) (length d.units))
        where
          by_left : (t : Bool) → PlanMarks b upped (if t then refused ends y ends.spent else sealing (in_reach in_memory) ends d answer)
          by_left true = refused_marks ends ends.spent
          by_left false = record {
            leads = leads_append (Kept ups n) (b.log, None) (d.memory.beside.log, upped (Ok answer)) (d.memory.beside.log, upped (Ok answer)) d.puts _ leads
                (beside_leads (d.memory.beside.log, upped (Ok answer)) _ (counter_beside d.memory.memory.station.counter (length d.units)));
            cut = fails ends.store;
          }

      chosen_marks : (t : Bool) (p q : Plan (Reaching Memory) (Result H E)) → PlanMarks b upped p → PlanMarks b upped q → PlanMarks b upped (choose t p q)
      unfolding choose
      chosen_marks true p q f g = f
      chosen_marks false p q f g = g

    -- a broadcast of one's own
    abbrev NoneUp : {A : Type 0} → A → Option BroadcastUp
    NoneUp answer = None

    number_left : (datagram : List ℕ) → datagram_fault b.log datagram ≡ None → is_spent b.log.numbering ≡ false
    unfolding datagram_fault
    number_left datagram e = when_none _ _ (then_none _ _ e).1

    pub broadcast_marks : (datagram : List ℕ) → PlanMarks b (λ _. None) (broadcast in_memory y datagram)
    unfolding checked adds_local empty_draft with_broadcast_number
    broadcast_marks datagram = by_address (address_of m.station)
      where
        by_fault : (own : ℕ) (o : Option BroadcastRefusal) → datagram_fault b.log datagram ≡ o
            → PlanMarks b (λ _. None) (checked broadcast_ends y o (sealed (in_reach in_memory) broadcast_ends y
            (adds_local to_all 4 (spelling (own_broadcast own b.log datagram)) (with_broadcast_number (empty_draft y))) (tt {0})))
        by_fault own (Some reason) e = refused_marks (λ _. None) (λ e. refl) broadcast_ends reason
        by_fault own None e = sealed_marks (λ _. None) (λ e. refl) broadcast_ends
            (adds_local to_all 4 (spelling (own_broadcast own b.log datagram)) (with_broadcast_number (empty_draft y))) (tt {0})
            (number_leads b.log (number_left datagram e))

        by_address : (o : Option ℕ) → PlanMarks b (λ _. None) (option_map_or (λ own. broadcast_from in_memory y own datagram) o
            (refused broadcast_ends y broadcast_faults.NotJoined))
        by_address None = refused_marks (λ _. None) (λ e. refl) broadcast_ends broadcast_faults.NotJoined
        by_address (Some own) = by_fault own (datagram_fault b.log datagram) refl

    -- an ask
    pub ask_marks : (target : ℕ) → PlanMarks b (λ _. None) (ask_path in_memory y target)
    unfolding adds_local empty_draft
    ask_marks target = by_address (address_of m.station)
      where
        by_route : (own : ℕ) (o : Option ℕ) → PlanMarks b (λ _. None) (asks_by in_memory y own target o)
        by_route own None = refused_marks (λ _. None) (λ e. refl) ask_ends asks_of.NoRoute
        by_route own (Some hop) = sealed_marks (λ _. None) (λ e. refl) ask_ends (adds_local hop 5 (path_spelling (Ask target (own ∷ []))) (empty_draft y))
            (tt {0}) still_leads

        by_address : (o : Option ℕ) → PlanMarks b (λ _. None) (option_map_or (λ own. asks_from in_memory y own target) o (refused ask_ends y asks_of.NotJoined))
        by_address None = refused_marks (λ _. None) (λ e. refl) ask_ends asks_of.NotJoined
        by_address (Some own) = chosen_marks (λ _. None) (λ e. refl) (target == own) _ _ (refused_marks (λ _. None) (λ e. refl) ask_ends asks_of.ToSelf)
            (by_route own (station_route m.station target))

    -- a choice
    pub choice_marks : (own : meters.Identity) → HasShortTables m.station → (k now : ℕ) → PlanMarks b (λ _. None) (choose_agent own y k now)
    choice_marks own short k now = chosen_marks (λ _. None) (λ e. refl) (meters.is_joined m) _ _
        (refused_marks (λ _. None) (λ e. refl) choosing_ends choices.AlreadyJoined) (by_agent (kth_of b.scan.agents k))
      where
        by_agent : (o : Option (ℕ × ℕ)) → PlanMarks b (λ _. None) (joins_by own y now o)
        by_agent None = refused_marks (λ _. None) (λ e. refl) choosing_ends choices.NoBeacon
        by_agent (Some (address, total)) = record { leads = beside_leads (b.log, None) _ ((meters_leave_log own m short).joins address now); cut = refl }

    -- a command
    module _ (c : NeighbourCommand) (are : AreOctets c.body) where
      abbrev Ups : Result CommandHeard ReachDropped → Option BroadcastUp
      Ups answer = broadcast_up n answer

      drops_up : (e : ReachDropped) → Ups (Err e) ≡ None
      drops_up e = refl

      dropped : (reason : ReachDropped) → PlanMarks b Ups (drop_it y reason)
      dropped reason = refused_marks Ups drops_up reach_ends reason

      ack_marks : (o : Option (ℕ × ℕ)) → PlanMarks b Ups (hear_acknowledgement_in y c.from o)
      unfolding resting
      ack_marks None = dropped (reach_drops.Known drops.BadUnit)
      ack_marks (Some (count, origin)) = chosen_marks Ups drops_up (is_awaited b.checks c.from count origin) _ _ (record { leads = still_leads; cut = refl })
          (dropped reach_drops.NotAwaited)

      follows_marks : (o : Result PathStep PathRefusal) → PlanMarks b Ups (follows_path in_memory y o)
      unfolding resting adds_local empty_draft
      follows_marks (Err reason) = dropped (path_word reason)
      follows_marks (Ok (Forward to message)) = sealed_marks Ups drops_up reach_ends (adds_local to 5 (path_spelling message) (empty_draft y))
          heard_of.Relayed still_leads
      follows_marks (Ok (Answer to message)) = sealed_marks Ups drops_up reach_ends (adds_local to 5 (path_spelling message) (empty_draft y))
          heard_of.Answered still_leads
      follows_marks (Ok (Done walk)) = record { leads = still_leads; cut = refl }

      path_marks : (own : ℕ) (o : Option PathMessage) → PlanMarks b Ups (hear_path_in in_memory y own c.from o)
      path_marks own None = dropped (reach_drops.Known drops.BadUnit)
      path_marks own (Some message) = follows_marks (taken own c.from (next_toward m.station message) message)

      has_room : (own : ℕ) (d : Broadcast) → broadcast_fault own b.log d ≡ None → room_for b.log.marks d.origin d.number ≡ Ok (tt {0})
      unfolding broadcast_fault
      has_room own d e = by_room (room_for b.log.marks d.origin d.number) (then_none _ _ e).1
        where
          by_room : (r : Result (Unit {0}) LogFault) → mark_fault r ≡ None → r ≡ Ok (tt {0})
          by_room (Ok u) is = refl
          by_room (Err log_faults.NumberSpent) is = absurd (cc (is))
          by_room (Err log_faults.Store) is = absurd (cc (is))
          by_room (Err log_faults.Old) is = absurd (cc (is))
          by_room (Err log_faults.OriginsFull) is = absurd (cc (is))

      admits_marks : (own : ℕ) (d : Broadcast) → broadcast_in c.body ≡ Some d → broadcast_fault own b.log d ≡ None
          → PlanMarks b Ups (admits_broadcast in_memory y d)
      unfolding goes_further with_broadcast_mark adds_local empty_draft
      admits_marks own d read none = by_hops (nat_lt d.hops 2)
        where
          up : BroadcastUp
          up = record { node = n; origin = d.origin; number = d.number; octets = d.octets }

          s : Spells d c.body
          s = broadcast_spelled d c.body are read

          leads : PutsLead (Kept ups n) (b.log, None) (puts_of (keep_write b.log.marks d.origin d.number))
              (admitted_log b.log d.origin d.number, Some (record { node = n; origin = d.origin; number = d.number; octets = d.octets }))
          leads = admission_leads b.log (record { node = n; origin = d.origin; number = d.number; octets = d.octets }) refl s.0.origin s.0.number
              (has_room own d none)

          marked : Draft (Reaching Memory)
          marked = with_broadcast_mark d.origin d.number (empty_draft y)

          by_hops : (t : Bool) → PlanMarks b Ups (sealed (in_reach in_memory) reach_ends y
              (if t then marked else adds_local to_all 4 (spelling (hop_less d)) marked) (heard_of.Broadcast d.origin d.number d.octets))
          by_hops true = sealed_marks Ups drops_up reach_ends marked (heard_of.Broadcast d.origin d.number d.octets) leads
          by_hops false = sealed_marks Ups drops_up reach_ends (adds_local to_all 4 (spelling (hop_less d)) marked)
              (heard_of.Broadcast d.origin d.number d.octets) leads

      broadcast_in_marks : (own : ℕ) (o : Option Broadcast) → broadcast_in c.body ≡ o → PlanMarks b Ups (hear_broadcast_in in_memory y own o)
      unfolding checked
      broadcast_in_marks own None read = dropped (reach_drops.Known drops.BadUnit)
      broadcast_in_marks own (Some d) read = by_fault (broadcast_fault own b.log d) refl
        where
          by_fault : (o : Option ReachDropped) → broadcast_fault own b.log d ≡ o → PlanMarks b Ups (checked reach_ends y o (admits_broadcast in_memory y d))
          by_fault (Some reason) e = dropped reason
          by_fault None e = admits_marks own d read e

      pub command_marks : PlanMarks b Ups (hear_command in_memory y c)
      command_marks = by_address (address_of m.station)
        where
          bad : PlanMarks b Ups (drop_it y (reach_drops.Known drops.BadUnit))
          bad = dropped (reach_drops.Known drops.BadUnit)

          by_address : (o : Option ℕ) → PlanMarks b Ups (option_map_or (λ own. hear_command_at in_memory y own c) o
              (drop_it y (reach_drops.Known drops.BadUnit)))
          by_address None = bad
          by_address (Some own) = chosen_marks Ups drops_up (c.code == 3) _ _ (chosen_marks Ups drops_up c.to_all _ _ bad (ack_marks (ack_in c.body)))
              (chosen_marks Ups drops_up (c.code == 4) _ _ (chosen_marks Ups drops_up c.to_all _ _ (broadcast_in_marks own (broadcast_in c.body) refl) bad)
              (chosen_marks Ups drops_up (c.code == 5) _ _ (chosen_marks Ups drops_up c.to_all _ _ bad (path_marks own (path_in c.body))) bad))

-- # Nodes

module _ (ups : List BroadcastUp) (n : ℕ) where
  pub quiet_marks : (log : Log) (x y : Node) → Quiet x y → MarkedIn ups n log x.store.records x.memory → MarkedIn ups n log y.store.records y.memory
  quiet_marks log x y q h = by_memory x.memory y.memory q.down h
    where
      by_memory : (o p : Option Memory) → (o ≡ None → p ≡ None) → MarkedIn ups n log x.store.records o → MarkedIn ups n log y.store.records p
      by_memory None None d k = record { value = k.value; kept = moved ups n k.value _ _ q.same k.kept }
      by_memory None (Some m) d k = absurd (cc (d refl))
      by_memory (Some m) None d k = record { value = log; kept = moved ups n log _ _ q.same k }
      by_memory (Some m) (Some l) d k = moved ups n log _ _ q.same k

  -- what is handed up by another node
  pub others_marks : (more : Option BroadcastUp) → IfSome more (λ (u : BroadcastUp). u.node ≡ n → ⊥) → (log : Log) (r : Records) (o : Option Memory)
      → MarkedIn ups n log r o → MarkedIn (ups ++ one_of more) n log r o
  others_marks more other log r o h = by_memory o h
    where
      wider : (l : Log) → Marked ups n l r → Marked (ups ++ one_of more) n l r
      wider l k = record {
        given = k.given;
        before = k.before;
        run = k.run;
        covers = All-append (λ (u : BroadcastUp). Covered n k.before u) ups (one_of more)
            k.covers (by_more more other);
      }
        where
          by_more : (u : Option BroadcastUp) → IfSome u (λ (v : BroadcastUp). v.node ≡ n → ⊥) → All (λ (v : BroadcastUp). Covered n k.before v) (one_of u)
          by_more None d = All-nil (λ (v : BroadcastUp). Covered n k.before v)
          by_more (Some v) d = All-cons (λ (v : BroadcastUp). Covered n k.before v) v [] (λ e. absurd (d e))
              (All-nil (λ (v : BroadcastUp). Covered n k.before v))

      by_memory : (p : Option Memory) → MarkedIn ups n log r p → MarkedIn (ups ++ one_of more) n log r p
      by_memory None k = record { value = k.value; kept = wider k.value k.kept }
      by_memory (Some m) k = wider log k

  -- a restart
  pub restart_marks : (log : Log) (b : Beside) (r : Records) (o p : Option Memory) → MarkedIn ups n log r o → restarted_by (opened r) ≡ Ok b
      → MarkedIn ups n b.log r p
  restart_marks log b r o p h e = by_memory (some_run o h) p
    where
      is_opened : (q : Result Log BadStore) → restarted_by q ≡ Ok b → q ≡ Ok b.log
      is_opened (Ok l) is = cc
      is_opened (Err bad) is = absurd (cc (is))

      some_run : (q : Option Memory) → MarkedIn ups n log r q → Reads (Marked ups n) r
      some_run None k = k
      some_run (Some m) k = record { value = log; kept = k }

      again : Reads (Marked ups n) r → Marked ups n b.log r
      again k = record {
        given = k.kept.given;
        before = k.kept.before;
        run = opens_again k.kept.given k.kept.before (Some k.value) b.log r k.kept.run
            (is_opened (opened r) e);
        covers = k.kept.covers;
      }

      by_memory : Reads (Marked ups n) r → (q : Option Memory) → MarkedIn ups n b.log r q
      by_memory k None = k
      by_memory k (Some m) = again k

  -- a new node
  pub blank_marks : (role : Role) (eui : Eui) → All (λ (u : BroadcastUp). u.node < n) ups
      → MarkedIn ups n nothing_beside.log (blank_node role eui).store.records (blank_node role eui).memory
  blank_marks role eui earlier = record {
    given = [];
    before = [];
    run = begins nothing_beside.log (blank_node role eui).store.records (reopens nothing_beside.log (blank_node role eui).store.records (blank_in role eui))
        (omega arith);
    covers = All-weaker (λ (u : BroadcastUp). u.node < n) (λ (u : BroadcastUp). Covered n [] u) (λ u lt e. absurd (omega arith)) ups earlier;
  }
