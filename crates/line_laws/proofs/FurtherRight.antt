-- What the history has of an event of a line with further reach is what the report says of it, and it is forged exactly where it says so.
use Rattle.std.proofs.Common.{◌≡◌, ◌⊎◌, inl, inr, ⊎_elim, not, ℕ, ◌+◌, ◌≤◌, Bool, true, false, List, [], ◌++◌, length, Option, Some, None, Result, Ok, Err}
use Rattle.std.proofs.Common.{refl, sym, ap, ◌∙◌, subst, append-nil, arith}
use Rattle.std.specs.Prelude.{◌↔◌, ◌||◌, ◌&&◌, ◌==◌, is_some, if◌then◌else◌}
use Rattle.std.specs.Option.{option_map_or}
use Rattle.std.proofs.lemmas.List.{length-append}
use Rattle.plc_base.specs.declared.keeper.BadStore.{BadStore}
use Rattle.plc_base.specs.declared.key.Key.{Key}
use Rattle.plc_base.specs.declared.tags.PairTag.{PairTag}
use Rattle.mesh_header.specs.declared.unit.Unit.{Unit as MeshUnit}
use Rattle.mesh_header.specs.declared.unit.Unit.TheVariants as units
use Rattle.mesh_header.specs.Reader.{unit_in}
use Rattle.loadng_messages.specs.declared.message.Message.{Message}
use Rattle.pan_discovery.specs.Reader.{discovery_in}
use Rattle.node_rules.specs.Accepted.{Accepted}
use Rattle.node_rules.specs.declared.heard.Heard.{Heard}
use Rattle.node_rules.specs.declared.heard.Heard.TheVariants as heard_words
use Rattle.node_rules.specs.declared.heard.CoordinatorHeard.{CoordinatorHeard}
use Rattle.node_rules.specs.declared.heard.MeterHeard.{MeterHeard}
use Rattle.node_rules.specs.declared.heard.Path.{Path}
use Rattle.node_rules.specs.declared.heard.Path.TheVariants as paths
use Rattle.node_rules.specs.declared.heard.Reply.{Reply}
use Rattle.node_rules.specs.declared.refusal.Dropped.{Dropped}
use Rattle.node_rules.specs.declared.refusal.Dropped.TheVariants as drops
use Rattle.node_rules.specs.declared.refusal.LocalRefusal.{LocalRefusal}
use Rattle.node_rules.specs.declared.refusal.LocalRefusal.TheVariants as locals
use Rattle.node_rules.specs.Ciphers.{Ciphers}
use Rattle.node_rules.specs.Coordinators as coordinator_rules
use Rattle.node_rules.specs.Meters as meters
use Rattle.node_rules.specs.Drafts.{choose as choose_plan, refused}
use Rattle.node_rules.specs.HearingRules.{Hearing, hear, hear_sealed, drop_it, hear_unit_in}
use Rattle.node_rules.specs.Laws.{IsCutOff, IsWhole}
use Rattle.node_rules.specs.Memory.{Memory, StationMemory, Node, Role, Coordinator, Meter, address_of}
use Rattle.node_rules.specs.MemoryDrafts.{in_memory}
use Rattle.node_rules.specs.NodeSteps.{NodeStep, acts, answering, left_by, stays}
use Rattle.node_rules.specs.Plans.{Plan, carry_out, resting}
use Rattle.node_rules.proofs.FailedWrites.{clean}
use Rattle.pan_discovery.specs.Agents.{kth_of}
use Rattle.reach_rules.specs.declared.heard.CommandHeard.{CommandHeard}
use Rattle.reach_rules.specs.declared.heard.CommandHeard.TheVariants as heard_of
use Rattle.reach_rules.specs.declared.heard.DiscoveryHeard.{DiscoveryHeard}
use Rattle.reach_rules.specs.declared.heard.DiscoveryHeard.TheVariants as discovered
use Rattle.reach_rules.specs.declared.refusal.ReachDropped.{ReachDropped}
use Rattle.reach_rules.specs.declared.refusal.ReachDropped.TheVariants as reach_drops
use Rattle.reach_rules.specs.declared.refusal.AskRefusal.{AskRefusal}
use Rattle.reach_rules.specs.declared.refusal.AskRefusal.TheVariants as asks
use Rattle.reach_rules.specs.declared.refusal.BroadcastRefusal.{BroadcastRefusal}
use Rattle.reach_rules.specs.declared.refusal.BroadcastRefusal.TheVariants as broadcasts
use Rattle.reach_rules.specs.declared.refusal.ChooseRefusal.{ChooseRefusal}
use Rattle.reach_rules.specs.declared.refusal.ChooseRefusal.TheVariants as choices
use Rattle.reach_rules.specs.declared.refusal.ScanRefusal.{ScanRefusal}
use Rattle.reach_rules.specs.declared.refusal.ScanRefusal.TheVariants as scans
use Rattle.reach_rules.specs.declared.refusal.DiscoveryDropped.{DiscoveryDropped}
use Rattle.reach_rules.specs.declared.refusal.DiscoveryDropped.TheVariants as discovery_drops
use Rattle.reach_rules.specs.Beacons.{ChosenAgent, Discovering, begin_scan, choose_agent, choosing_ends, hear_discovery, joins_by}
use Rattle.reach_rules.specs.Broadcasts.{broadcast}
use Rattle.reach_rules.specs.CheckedReplies.{acknowledges, message_of}
use Rattle.reach_rules.specs.PathRequests.{ask_path}
use Rattle.reach_rules.specs.ReachingNodes.{Beside}
use Rattle.reach_rules.specs.FurtherReceptions.{NeighbourCommand, command_of, command_on, command_with, hear_command}
use Rattle.line_events.specs.declared.event.Answer.{Answer}
use Rattle.line_events.specs.declared.event.Answer.TheVariants as answers
use Rattle.line_events.specs.declared.event.Event.{Event}
use Rattle.line_events.specs.declared.event.Event.TheVariants as events
use Rattle.line_events.specs.declared.event.StepFault.TheVariants as faults
use Rattle.line_events.specs.declared.happenings.AgentLine.{AgentLine}
use Rattle.line_events.specs.declared.happenings.Happenings.{Happenings}
use Rattle.line_events.specs.declared.happenings.BroadcastUp.{BroadcastUp}
use Rattle.line_events.specs.declared.happenings.PathLine.{PathLine}
use Rattle.line_rules.specs.Answers.{Reception, ask_word, broadcast_word, command_word, coordinator_reception, discovery_word, meter_reception, only, scan_word}
use Rattle.line_events.specs.Events.{IsEvent}
use Rattle.line_rules.specs.Forgery.{Comes, IsForged, accepting}
use Rattle.line_rules.specs.Further.{line_step, agent_line, asks_by, beacon_taken, beside_at, broadcasts_by, choice_word, chooses_by, commanded, discovers_by}
use Rattle.line_rules.specs.Further.{discovery_flights, due, due_of, has_discovered, is_reply_taken, acknowledged, acknowledging, adds_frames, bcast, of_memory}
use Rattle.line_rules.specs.Further.{restarts_by, scanning, unbelieved, scans_by, sends_nothing, with_beside}
use Rattle.line_rules.specs.Steps.{Step, node_outcome, forged_by, happenings, has_begun, identity, is_taken, note_by, running_world, set_up, world_after}
use Rattle.line_rules.specs.Steps.{trace_of}
use Rattle.line_rules.specs.Traces.{Adds, IsTracedRight, is_broadcast, is_done, is_issue, is_took, is_up}
use Rattle.line_rules.specs.Worlds.{World, Trace, Further, Noticed, nothing_further, node_at}
use Rattle.line_rules.specs.Runs.{Entry}
use Rattle.line_laws.specs.LineAccounts.{LineTracesRight}
use Rattle.line_laws.proofs.CommandTags.{acts_made, command_made}
use Rattle.line_laws.proofs.FurtherEvents.{IsFurtherStep, IsHeard, checks_so, found_none, further_step_is, outcome_of_command, hearing, taker}
use Rattle.line_laws.proofs.FurtherEvents.{Old, TurnsOn, Spreads, Seeks, Looks, Picks, Finds, Takes, Puts, Unread, IsUnbelieved, IsPlain, IsCommand, IsChecked}
use Rattle.line_laws.proofs.FurtherEvents.{IsAnswered}
use Rattle.line_laws.proofs.FurtherForms.{AnyUnits, ask_is, broadcast_is}
use Rattle.line_laws.proofs.FurtherSteps.{ack_is, hears_nothing}
use Rattle.line_laws.proofs.FurtherStepKinds.{makes_none}
use Rattle.line_laws.proofs.StepKinds.{Hears}
use Rattle.line_laws.proofs.TracesRight.{Good, IsTracedSo, NoneCame, Plain, Right, acted_right, drop_fits, entry, false_true, forged_right, quiet_adds}
use Rattle.line_laws.proofs.TracesRight.{quiet_right, ran_counted, received_right, right, still_right, after_counted, after_flights, made_after, unbrought}
use Rattle.line_laws.proofs.TracesRight.{unforged}
use Rattle.line_laws.proofs.IssueMeters.{joins_opened}
use Rattle.line_laws.proofs.IssueNodes.{acts_opened}

-- # Words

ask_plain : (r : Result (Unit {0}) AskRefusal) → Plain (ask_word r)
ask_plain (Ok u) = (refl, refl, refl, refl, refl)
ask_plain (Err asks.Halted) = (refl, refl, refl, refl, refl)
ask_plain (Err asks.NotJoined) = (refl, refl, refl, refl, refl)
ask_plain (Err asks.ToSelf) = (refl, refl, refl, refl, refl)
ask_plain (Err asks.NoRoute) = (refl, refl, refl, refl, refl)
ask_plain (Err asks.CounterSpent) = (refl, refl, refl, refl, refl)
ask_plain (Err asks.Store) = (refl, refl, refl, refl, refl)

-- a broadcast says nothing else than a send does
spread_word : (r : Result (Unit {0}) BroadcastRefusal)
    → (is_up (broadcast_word r) ≡ false) × (is_took (broadcast_word r) ≡ false) × (is_done (broadcast_word r) ≡ false) × (is_issue (broadcast_word r) ≡ false)
spread_word (Ok u) = (refl, refl, refl, refl)
spread_word (Err broadcasts.Halted) = (refl, refl, refl, refl)
spread_word (Err broadcasts.NotJoined) = (refl, refl, refl, refl)
spread_word (Err broadcasts.BadSize) = (refl, refl, refl, refl)
spread_word (Err broadcasts.NumberSpent) = (refl, refl, refl, refl)
spread_word (Err broadcasts.CounterSpent) = (refl, refl, refl, refl)
spread_word (Err broadcasts.Store) = (refl, refl, refl, refl)

scan_plain : (r : Result (Unit {0}) ScanRefusal) → Plain (scan_word r)
scan_plain (Ok u) = (refl, refl, refl, refl, refl)
scan_plain (Err scans.Halted) = (refl, refl, refl, refl, refl)
scan_plain (Err scans.AlreadyJoined) = (refl, refl, refl, refl, refl)

discovery_plain : (r : Result DiscoveryHeard DiscoveryDropped) → Plain (discovery_word r)
discovery_plain (Ok discovered.Beacon) = (refl, refl, refl, refl, refl)
discovery_plain (Ok discovered.Beaconed) = (refl, refl, refl, refl, refl)
discovery_plain (Err discovery_drops.Halted) = (refl, refl, refl, refl, refl)
discovery_plain (Err discovery_drops.Malformed) = (refl, refl, refl, refl, refl)
discovery_plain (Err discovery_drops.NotForMe) = (refl, refl, refl, refl, refl)
discovery_plain (Err discovery_drops.NotScanning) = (refl, refl, refl, refl, refl)
discovery_plain (Err discovery_drops.NoRoute) = (refl, refl, refl, refl, refl)

choice_plain : (r : Result ChosenAgent ChooseRefusal) → Plain (choice_word r)
choice_plain (Ok agent) = (refl, refl, refl, refl, refl)
choice_plain (Err choices.Halted) = (refl, refl, refl, refl, refl)
choice_plain (Err choices.AlreadyJoined) = (refl, refl, refl, refl, refl)
choice_plain (Err choices.NoBeacon) = (refl, refl, refl, refl, refl)

command_plain : (r : Result CommandHeard ReachDropped) → Plain (command_word r)
command_plain (Ok heard_of.Acked) = (refl, refl, refl, refl, refl)
command_plain (Ok (heard_of.Broadcast origin number octets)) = (refl, refl, refl, refl, refl)
command_plain (Ok heard_of.Relayed) = (refl, refl, refl, refl, refl)
command_plain (Ok heard_of.Answered) = (refl, refl, refl, refl, refl)
command_plain (Ok (heard_of.Path walk)) = (refl, refl, refl, refl, refl)
command_plain (Err (reach_drops.Known reason)) = drop_fits reason
command_plain (Err reach_drops.Blacklisted) = (refl, refl, refl, refl, refl)
command_plain (Err reach_drops.NotAwaited) = (refl, refl, refl, refl, refl)
command_plain (Err reach_drops.Old) = (refl, refl, refl, refl, refl)
command_plain (Err reach_drops.OriginsFull) = (refl, refl, refl, refl, refl)
command_plain (Err reach_drops.Revisited) = (refl, refl, refl, refl, refl)
command_plain (Err reach_drops.PathLong) = (refl, refl, refl, refl, refl)

reply_plain : (a : Answer) → is_reply_taken a ≡ true → Plain a
reply_plain answers.Learned e = (refl, refl, refl, refl, refl)
reply_plain answers.Relayed e = (refl, refl, refl, refl, refl)
reply_plain _ e = absurd (false_true e)

due_plain : (p : Path) (m : Option Message) (a : Answer) (reply : Reply) → due p m a ≡ Some reply → Plain a
due_plain (paths.Sealed from false key) m a reply e = by_taken (is_reply_taken a) refl e
  where
    by_taken : (b : Bool) → is_reply_taken a ≡ b → (if b then due_of from m else None) ≡ Some reply → Plain a
    by_taken true taken h = reply_plain a taken
    by_taken false taken h = absurd (cc (h))
due_plain (paths.Sealed from true key) m a reply e = absurd (cc (e))
due_plain (paths.Up from) m a reply e = absurd (cc (e))
due_plain (paths.Down from) m a reply e = absurd (cc (e))

-- # What a line without further reach says of a command: that it makes nothing of it

abbrev SaysNothing : Result Heard Dropped → Type 0
SaysNothing (Err reason) = Unit {0}
SaysNothing (Ok (heard_words.Local from all code body)) = Unit {0}
SaysNothing (Ok _) = ⊥

hears_local : (l : StationMemory) (got : Accepted) (cost note now : ℕ) (c : NeighbourCommand) → command_of got ≡ Some c
    → SaysNothing (hear l got cost note now).answer × SaysNothing (hear l got cost note now).failed
unfolding resting choose_plan
hears_local l got cost note now c e = by_path got.path (unit_in got.payload) e
  where
    Nothing : Hearing → Type 0
    Nothing p = SaysNothing p.answer × SaysNothing p.failed

    by_code : (own from : ℕ) (all : Bool) (code : ℕ) (body : List ℕ) (s t : Bool) (m p : Hearing)
        → (if s then None else (if t then None else Some (record { from = from; to_all = all; code = code; body = body }))) ≡ Some c
        → Nothing (if s then m else (if t then p else resting l (Ok (heard_words.Local from all code body)) (Err drops.Store)))
    by_code own from all code body true t m p is = absurd (cc (is))
    by_code own from all code body false true m p is = absurd (cc (is))
    by_code own from all code body false false m p is = (tt, tt)

    by_address : (o : Option ℕ) (from : ℕ) (all : Bool) (unit : MeshUnit) → command_with from all (Some unit) ≡ Some c
        → Nothing (option_map_or (λ a. hear_sealed l a from all unit cost note now) o (drop_it l drops.BadUnit))
    by_address None from all unit is = (tt, tt)
    by_address (Some own) from all (units.Local code body) is = by_code own from all code body (code == 1) (code == 2) _ _ is
    by_address (Some own) from all (units.Whole mesh octets) is = absurd (cc (is))
    by_address (Some own) from all (units.Part mesh piece) is = absurd (cc (is))
    by_address (Some own) from all (units.Carried mesh body) is = absurd (cc (is))

    by_path : (p : Path) (o : Option MeshUnit) → command_on p o ≡ Some c → Nothing (hear_unit_in l p o cost note now)
    by_path p None is = (tt, tt)
    by_path (paths.Sealed from all key) (Some unit) is = by_address (address_of l) from all unit is
    by_path (paths.Up from) (Some unit) is = absurd (cc (is))
    by_path (paths.Down from) (Some unit) is = absurd (cc (is))

acts_says : {A : Type 0} (P : A → Type 0) (x : Node) (halted : A) (plan : Memory → Plan Memory A) → P halted
    → ((m : Memory) → P (plan m).answer × P (plan m).failed) → P (acts x halted plan).answer
unfolding acts
acts_says P x halted plan h f = by_memory x.memory
  where
    by_memory : (o : Option Memory) → P (option_map_or (λ m. left_by x (carry_out x.store.records x.store.cut (plan m))) o (stays x halted)).answer
    by_memory None = h
    by_memory (Some m) = ⊎_elim
        (λ (w : IsWhole x.store.records x.store.cut (plan m) (carry_out x.store.records x.store.cut (plan m))). subst P (sym w.answer) (f m).0)
        (λ (c : IsCutOff x.store.records x.store.cut (plan m) (carry_out x.store.records x.store.cut (plan m))). subst P (sym c.answer) (f m).1)
        (clean x.store.records x.store.cut (plan m))

abbrev CoordinatorSays : Result CoordinatorHeard Dropped → Type 0
CoordinatorSays a = Plain (coordinator_reception a).answer

abbrev MeterSays : Result MeterHeard Dropped → Type 0
MeterSays a = Plain (meter_reception a).answer

coordinator_says : (a : Result Heard Dropped) → SaysNothing a → CoordinatorSays (coordinator_rules.heard_by_station a)
coordinator_says (Err reason) h = drop_fits reason
coordinator_says (Ok (heard_words.Local from all code body)) h = (refl, refl, refl, refl, refl)
coordinator_says (Ok _) h = absurd h

meter_says : (a : Result Heard Dropped) → SaysNothing a → MeterSays (meters.heard_by_station a)
meter_says (Err reason) h = drop_fits reason
meter_says (Ok (heard_words.Local from all code body)) h = (refl, refl, refl, refl, refl)
meter_says (Ok _) h = absurd h

module _ (ciphers : Ciphers) (x : Node) (got : Accepted) (cost note now : ℕ) (c : NeighbourCommand) (e : command_of got ≡ Some c) where
  abbrev hearing_step_of : Role → NodeStep Reception
  hearing_step_of Coordinator = answering coordinator_reception
      (acts x (Err drops.Store) (λ m. coordinator_rules.hear_coordinator (record { eui = x.eui; ciphers = ciphers }) m got cost note now))
  hearing_step_of (Meter psk) = answering meter_reception (acts x (Err drops.Store) (λ m. meters.hear_meter (identity ciphers x psk) m got cost note now))

  command_silent_word : (r : Role) → Plain (hearing_step_of r).answer.answer
  command_silent_word Coordinator = acts_says CoordinatorSays x (Err drops.Store)
      (λ m. coordinator_rules.hear_coordinator (record { eui = x.eui; ciphers = ciphers }) m got cost note now) (drop_fits drops.Store)
      (λ m.
      let own : coordinator_rules.CoordinatorIdentity = record { eui = x.eui; ciphers = ciphers } in
      let p = hear m.station got cost note now in
      let s = hears_local m.station got cost note now c e in
      subst (λ o. CoordinatorSays (coordinator_rules.heard_by own m now p o).answer × CoordinatorSays (coordinator_rules.heard_by own m now p o).failed)
      (sym (hears_nothing m.station got cost note now c e).1) (coordinator_says p.answer s.0, coordinator_says p.failed s.1))
  command_silent_word (Meter psk) = acts_says MeterSays x (Err drops.Store) (λ m. meters.hear_meter (identity ciphers x psk) m got cost note now)
      (drop_fits drops.Store)
      (λ m.
      let p = hear m.station got cost note now in
      let s = hears_local m.station got cost note now c e in
      subst (λ o. MeterSays (meters.heard_by (identity ciphers x psk) m now p o).answer × MeterSays
      (meters.heard_by (identity ciphers x psk) m now p o).failed) (sym (hears_nothing m.station got cost note now c e).1)
      (meter_says p.answer s.0, meter_says p.failed s.1))

-- a choice finds no pair tag right
choice_opened : (m : Memory) (own : meters.Identity) (b : Beside) (k now : ℕ) → (with_beside b (λ y. choose_agent own y k now) m).opened ≡ []
unfolding choose_plan resting
choice_opened m own b k now = by_joined (meters.is_joined m)
  where
    by_agent : (o : Option (ℕ × ℕ)) → (of_memory (joins_by own (record { memory = m; beside = b }) now o)).opened ≡ []
    by_agent None = refl
    by_agent (Some (address, total)) = joins_opened own m address now

    by_joined : (t : Bool)
        → (of_memory (if t then refused {H = ChosenAgent} choosing_ends (record { memory = m; beside = b }) choices.AlreadyJoined else joins_by own
        (record { memory = m; beside = b }) now (kth_of b.scan.agents k))).opened ≡ []
    by_joined true = refl
    by_joined false = by_agent (kth_of b.scan.agents k)

-- # What is right stays so

module _ (ciphers : Ciphers) (w : World) where
  -- where something else stands beside, or is told of further reach
  more_adds : (n : ℕ) (event : Event) (v : World) (t : Trace) (on : Bool) (bs : List Beside) (f : Further) (a : Option AgentLine)
      → Adds w (entry n event (v, t))
      → Adds w (entry n event (record v { checks_on = on; beside = bs }, record t { happenings = record t.happenings { agent = a }; further = f }))
  more_adds n event v t on bs f a r =
      record { events = r.events; sends = r.sends; ups = r.ups; forged = r.forged; done = r.done; first = r.first; flights = r.flights; made = r.made }

  more_after : (n : ℕ) (event : Event) (v : World) (t : Trace) (on : Bool) (bs : List Beside) (f : Further) (a : Option AgentLine)
      → Right ciphers w (entry n event (v, t))
      → Right ciphers w (entry n event (record v { checks_on = on; beside = bs }, record t { happenings = record t.happenings { agent = a }; further = f }))
  more_after n event v t on bs f a r = record {
    adds = more_adds n event v t on bs f a r.adds;
    traced = record {
      sent = r.traced.sent;
      send = r.traced.send;
      up = r.traced.up;
      up_at = r.traced.up_at;
      taken = r.traced.taken;
      taken_at = r.traced.taken_at;
      took = r.traced.took;
      done = r.traced.done;
      done_node = r.traced.done_node;
      issues = r.traced.issues;
      none_issued = r.traced.none_issued;
    };
    forged = r.forged;
  }

  -- The counts of the one world are those of the other.
  record AsCounted (v u : World) : Type 0 where
    events : u.events ≡ v.events
    sends : u.sends ≡ v.sends
    ups : u.ups ≡ v.ups
    forged : u.forged ≡ v.forged
    done : u.done ≡ v.done

  -- another plain word, and other flights
  reworded : (n : ℕ) (event : Event) (v u : World) (t : Trace) (answer : Answer) (bup : Option BroadcastUp) (path : Option PathLine) (flights : ℕ)
      (made : List PairTag) (f : Further) → Right ciphers w (entry n event (v, t)) → Plain t.happenings.answer → Plain answer
      → AsCounted v u → length u.flights ≡ length w.flights + flights → u.made ≡ w.made ++ made
      → Right ciphers w (entry n event
      (u, record t { happenings = record t.happenings { answer = answer; bup = bup; path = path; flights = flights }; made = made; further = f }))
  reworded n event v u t answer bup path flights made f r p q c flies made_is = record {
    adds = record {
      events = c.events ∙ r.adds.events;
      sends = c.sends ∙ r.adds.sends;
      ups = c.ups ∙ r.adds.ups;
      forged = c.forged ∙ r.adds.forged;
      done = c.done ∙ r.adds.done;
      first = r.adds.first;
      flights = flies;
      made = made_is;
    };
    traced = record {
      sent = r.traced.sent ∙ p.0 ∙ sym q.0;
      send = r.traced.send;
      up = r.traced.up ∙ p.1 ∙ sym q.1;
      up_at = r.traced.up_at;
      taken = r.traced.taken ∙ p.2 ∙ sym q.2;
      taken_at = r.traced.taken_at;
      took = r.traced.took;
      done = r.traced.done ∙ p.3 ∙ sym q.3;
      done_node = r.traced.done_node;
      issues = λ e. absurd (false_true (sym q.4 ∙ e));
      none_issued = λ e. r.traced.none_issued p.4;
    };
    forged = r.forged;
  }

  seeks_right : (n number to : ℕ) (x : Node) (target : Option ℕ) → Right ciphers w (entry n (events.Path number to) (asks_by ciphers w number x target))
  unfolding world_after
  seeks_right n number to x None = still_right ciphers w n (events.Path number to) (running_world w) answers.NoAddress (refl, refl, refl, refl, refl)
      (unbrought ciphers w (events.Path number to) (λ b. b)) (ran_counted w) (omega arith) (sym (append-nil w.made))
  seeks_right n number to x (Some target) =
      let does = with_beside (beside_at w number) (λ y. ask_path in_memory y target) in
      let d = acts x (Err asks.Halted) does in
      let e = answering ask_word d in
      let none = makes_none AnyUnits x (Err asks.Halted) does (λ m here. ask_is AnyUnits (beside_at w number) target m (λ own hop at route. tt)) in
      more_after n (events.Path number to) (node_outcome ciphers w number e).0 (node_outcome ciphers w number e).1 w.checks_on
      (asks_by ciphers w number x (Some target)).0.beside (asks_by ciphers w number x (Some target)).1.further None
      (acted_right ciphers w n (events.Path number to) number e (ask_plain d.answer) none.1 (unbrought ciphers w (events.Path number to) (λ b. b)))

  picks_right : (n number k : ℕ) (x : Node) (psk : Option Key) → Right ciphers w (entry n (events.Choose number k) (chooses_by ciphers w number x k psk))
  unfolding world_after
  picks_right n number k x None = still_right ciphers w n (events.Choose number k) (running_world w) answers.NoBeacon (refl, refl, refl, refl, refl)
      (unbrought ciphers w (events.Choose number k) (λ b. b)) (ran_counted w) (omega arith) (sym (append-nil w.made))
  picks_right n number k x (Some psk) =
      let does = with_beside (beside_at w number) (λ y. choose_agent (identity ciphers x psk) y k w.clock) in
      let d = acts x (Err choices.Halted) does in
      let e = answering choice_word d in
      let none = acts_opened x (Err choices.Halted) does (λ m. choice_opened m (identity ciphers x psk) (beside_at w number) k w.clock) in
      more_after n (events.Choose number k) (node_outcome ciphers w number e).0 (node_outcome ciphers w number e).1 w.checks_on
      (chooses_by ciphers w number x k (Some psk)).0.beside nothing_further (agent_line number d.answer)
      (acted_right ciphers w n (events.Choose number k) number e (choice_plain d.answer) none (unbrought ciphers w (events.Choose number k) (λ b. b)))

  discovered_right : {A : Type 0} (n : ℕ) (event : Event) (number : ℕ) (word : A → Answer) (noticed : A → Option Noticed) (d : Discovering A)
      → Plain (word d.answer) → NoneCame ciphers w event → Right ciphers w (entry n event (has_discovered w number word noticed d))
  discovered_right n event number word noticed d plain came =
      let v : World = record (running_world w) { flights = w.flights ++ discovery_flights number d.sent } in
      let h : Happenings = record (happenings w (word d.answer)) { flights = length (discovery_flights number d.sent) } in
      more_after n event v (trace_of h) w.checks_on (has_discovered w number word noticed d).0.beside (has_discovered w number word noticed d).1.further None
      (quiet_right ciphers w n event v h [] [] plain refl refl refl refl refl came
      (record { events = refl; sends = refl; ups = refl; forged = refl; done = refl }) refl (length-append w.flights (discovery_flights number d.sent))
      (sym (append-nil w.made)))

  looks_right : (n number : ℕ) (o : Option Memory) → Right ciphers w (entry n (events.Scan number) (scans_by w number o))
  looks_right n number None = still_right ciphers w n (events.Scan number) (running_world w) answers.Halted (refl, refl, refl, refl, refl)
      (unbrought ciphers w (events.Scan number) (λ b. b)) (ran_counted w) (omega arith) (sym (append-nil w.made))
  looks_right n number (Some m) =
      let d = begin_scan m (beside_at w number).scan in
      discovered_right n (events.Scan number) number scan_word (scanning number) d (scan_plain d.answer) (unbrought ciphers w (events.Scan number) (λ b. b))

  finds_right : (n : ℕ) (event : Event) (number : ℕ) (x : Node) (octets : List ℕ) (link : ℕ) → NoneCame ciphers w event → (o : Option Memory)
      → Right ciphers w (entry n event (discovers_by w number x octets link o))
  finds_right n event number x octets link came None =
      still_right ciphers w n event (running_world w) answers.Halted (refl, refl, refl, refl, refl) came (ran_counted w)
      (omega arith) (sym (append-nil w.made))
  finds_right n event number x octets link came (Some m) =
      let d = hear_discovery x.role m.station (beside_at w number).scan octets link in
      discovered_right n event number discovery_word (beacon_taken number (discovery_in octets) link) d (discovery_plain d.answer) came

either_left : (a b : Bool) → a ≡ true → (a || b) ≡ true
either_left true b e = refl
either_left false b e = absurd (false_true e)

or_nothing : (a : Bool) → (a || false) ≡ true → a ≡ true
or_nothing true e = refl
or_nothing false e = absurd (false_true e)

and_not : (a : Bool) → (a && false) ≡ false
and_not true = refl
and_not false = refl

and_true : (a : Bool) → (a && true) ≡ a
and_true true = refl
and_true false = refl

spread_or_not : (event : Event) → ((number : ℕ) × (datagram : List ℕ) × (event ≡ events.Bcast number datagram)) ⊎ (is_broadcast event ≡ false)
spread_or_not (events.Bcast number datagram) = inl (number, datagram, refl)
spread_or_not _ = inr refl

-- # Octets that were accepted

module _ (ciphers : Ciphers) (w : World) (n : ℕ)
    (event : Event) (number : ℕ) (x : Node) (octets : List ℕ) (cost : ℕ) (got : Accepted)
    (there : node_at w number ≡ Some x) (says : IsEvent event) (outcome_of_arrival : Comes w event number octets) (low : cost ≤ 255)
    (is : (accepting ciphers x octets).answer ≡ Ok got) where
  abbrev y : Node
  y = taker ciphers x octets

  abbrev d : NodeStep Reception
  d = hearing ciphers w x octets got cost

  abbrev r : World × Trace
  r = outcome_of_command ciphers w number x octets got cost

  abbrev with_it : World × Trace
  with_it = checks_so ciphers w number x octets got cost

  plainly : Right ciphers w (entry n event r)
  plainly = right ciphers w event (Ok r) (Hears event number x octets cost got there says outcome_of_arrival low is) n

  unbelieved_right : Right ciphers w (entry n event (unbelieved ciphers w number y octets got))
  unbelieved_right =
      let f = forged_right ciphers w event number x octets got there outcome_of_arrival is [] in
      received_right ciphers w n event number octets (forged_by w octets got.path) (stays y (only answers.Blacklisted)) outcome_of_arrival
      (record { taken = refl; up = refl; took = refl; done = refl; keyed = refl })
      (λ e. f.0 (either_left _ _ e), λ h. or_nothing _ (f.1 h))

  commands_right : (c : NeighbourCommand) → command_of got ≡ Some c → Right ciphers w (entry n event (commanded ciphers number d.node c r))
  unfolding world_after
  commands_right c e =
      let halted : Result CommandHeard ReachDropped = Err (reach_drops.Known drops.Store) in
      let does = with_beside (beside_at r.0 number) (λ z. hear_command in_memory z c) in
      let a = acts d.node halted does in
      let none = acts_made d.node halted does (command_made (beside_at r.0 number) c) in
      let more : length (world_after ciphers r.0 number a).flights ≡ length r.0.flights + length a.frames = after_flights ciphers r.0 number a in
      let before : length r.0.flights ≡ length w.flights + r.1.happenings.flights = plainly.adds.flights in
      let made : r.0.made ++ a.made ≡ w.made ++ r.1.made = ap (λ ts. r.0.made ++ ts) none ∙ append-nil r.0.made ∙ plainly.adds.made in
      let t : Trace = (commanded ciphers number d.node c r).1 in
      reworded ciphers w n event r.0 (commanded ciphers number d.node c r).0 r.1 (command_word a.answer) t.happenings.bup t.happenings.path
      (r.1.happenings.flights + length a.frames) r.1.made t.further plainly
      (command_silent_word ciphers y got cost (note_by w octets got.path) w.clock c e y.role) (command_plain a.answer)
      (record { events = refl; sends = refl; ups = refl; forged = refl; done = refl }) (omega arith) made

  checks_right : Right ciphers w (entry n event with_it)
  checks_right = more_after ciphers w n event r.0 r.1 r.0.checks_on with_it.0.beside with_it.1.further r.1.happenings.agent plainly

  answers_right : (reply : Reply) → Plain d.answer.answer → Right ciphers w (entry n event (acknowledged ciphers w number (acknowledging d.node reply) with_it))
  unfolding world_after
  answers_right reply plain = by_memory (is_some a.node.memory)
    where
      does : Memory → Plan Memory (Result (Unit {0}) LocalRefusal)
      does m = acknowledges in_memory reply.to reply.number reply.origin m

      a : NodeStep (Result (Unit {0}) LocalRefusal)
      a = acknowledging d.node reply

      v : World
      v = world_after ciphers with_it.0 number a

      none : a.made ≡ []
      none = (makes_none AnyUnits d.node (Err locals.Store) does (λ m here. ack_is m reply)).0

      made : v.made ≡ w.made ++ r.1.made
      made = ap (λ ts. r.0.made ++ ts) none ∙ append-nil r.0.made ∙ plainly.adds.made

      flies : length v.flights ≡ length w.flights + (r.1.happenings.flights + length a.frames)
      flies =
          let more : length v.flights ≡ length with_it.0.flights + length a.frames = after_flights ciphers with_it.0 number a in
          let before : length r.0.flights ≡ length w.flights + r.1.happenings.flights = plainly.adds.flights in
          omega arith

      by_memory : (b : Bool) → Right ciphers w (entry n event (if b then adds_frames v with_it.1 a else sends_nothing w (v, with_it.1)))
      by_memory true = reworded ciphers w n event r.0 v r.1 r.1.happenings.answer r.1.happenings.bup r.1.happenings.path
          (r.1.happenings.flights + length a.frames) r.1.made with_it.1.further plainly plain plain
          (record { events = refl; sends = refl; ups = refl; forged = refl; done = refl }) flies made
      by_memory false = reworded ciphers w n event r.0 (sends_nothing w (v, with_it.1)).0 r.1 answers.Store r.1.happenings.bup r.1.happenings.path 0
          [] nothing_further plainly plain (refl, refl, refl, refl, refl)
          (record { events = refl; sends = refl; ups = refl; forged = refl; done = refl }) (omega arith) (sym (append-nil w.made))

  heard_right : (t : World × Trace) → IsHeard ciphers w number x octets got cost t → Right ciphers w (entry n event t)
  heard_right t IsUnbelieved = unbelieved_right
  heard_right t IsPlain = plainly
  heard_right t (IsCommand c e) = commands_right c e
  heard_right t IsChecked = checks_right
  heard_right t (IsAnswered reply e) = answers_right reply (due_plain got.path (message_of got) d.answer.answer reply e)

-- # Every event

module _ (ciphers : Ciphers) (w : World) where
  -- What is right of an event; what the history has is that of one that is no broadcast.
  record RightOn (x : Entry) : Type 0 where
    adds : Adds w x
    traced : is_broadcast x.event ≡ false → IsTracedSo w x
    forged : (x.trace.happenings.forged ≡ true) ↔ IsForged ciphers w x.event x.trace.opened

  abbrev GoodOn : ℕ → Event → Step → Type 0
  GoodOn n event (Ok r) = RightOn (entry n event r)
  GoodOn n event (Err fault) = Unit {0}

  as_right : (x : Entry) → Right ciphers w x → RightOn x
  as_right x r = record { adds = r.adds; traced = λ other. r.traced; forged = r.forged }

  old_right : (n : ℕ) (event : Event) (s : Step) → Good ciphers w n event s → GoodOn n event s
  old_right n event (Ok r) h = as_right (entry n event r) h
  old_right n event (Err fault) h = tt

  spreads_right : (n number : ℕ) (x : Node) (datagram : List ℕ) → RightOn (entry n (events.Bcast number datagram) (broadcasts_by ciphers w number x datagram))
  unfolding world_after
  spreads_right n number x datagram =
      let event : Event = events.Bcast number datagram in
      let does = with_beside (beside_at w number) (λ y. broadcast in_memory y datagram) in
      let b = acts x (Err broadcasts.Halted) does in
      let e = answering broadcast_word b in
      let none = makes_none AnyUnits x (Err broadcasts.Halted) does (λ m here. broadcast_is AnyUnits (beside_at w number) datagram m (λ own at fault. tt)) in
      let v : World = world_after ciphers (running_world w) number e in
      let h : Happenings = record (happenings w (broadcast_word b.answer)) { flights = length b.frames } in
      record {
        adds = more_adds ciphers w n event v (node_outcome ciphers w number e).1 w.checks_on (broadcasts_by ciphers w number x datagram).0.beside
            (broadcasts_by ciphers w number x datagram).1.further None
            (quiet_adds ciphers w n event v h b.made b.opened refl refl (after_counted ciphers w (running_world w) number e (ran_counted w)) refl
            (after_flights ciphers (running_world w) number e) (made_after ciphers (running_world w) number e));
        traced = λ other. absurd (false_true (sym other));
        forged = unforged ciphers w event false b.opened refl none.1 (unbrought ciphers w event (λ q. q));
      }

  -- of a restart that finds no log: its node is halted, and nothing is sent
  unread_right : (n number : ℕ) (x : Node) (bad : BadStore)
      → Right ciphers w (entry n (events.Restart number) (restarts_by ciphers w number x (Err bad)))
  unfolding world_after
  unread_right n number x bad =
      let e = stays (record x { memory = None }) answers.BadStore in
      more_after ciphers w n (events.Restart number) (node_outcome ciphers w number e).0 (node_outcome ciphers w number e).1 w.checks_on
      (restarts_by ciphers w number x (Err bad)).0.beside nothing_further None
      (acted_right ciphers w n (events.Restart number) number e (refl, refl, refl, refl, refl) refl (unbrought ciphers w (events.Restart number) (λ b. b)))

  line_right : (n : ℕ) (event : Event) (s : Step) → IsFurtherStep ciphers w event s → GoodOn n event s
  line_right n event s (Old e t is) = old_right n e t (right ciphers w e t is n)
  line_right n event s (TurnsOn begun) =
      as_right _ (still_right ciphers w n events.Checks (record (set_up w) { checks_on = true }) answers.Set (refl, refl, refl, refl, refl)
      (unbrought ciphers w events.Checks (λ b. b)) (record { events = refl; sends = refl; ups = refl; forged = refl; done = refl }) (omega arith)
      (sym (append-nil w.made)))
  line_right n event s (Spreads number x datagram there) = spreads_right n number x datagram
  line_right n event s (Seeks number to x target there) = as_right _ (seeks_right ciphers w n number to x target)
  line_right n event s (Looks number x there) = as_right _ (looks_right ciphers w n number x.memory)
  line_right n event s (Picks number k x psk ne there e) = as_right _ (picks_right ciphers w n number k x psk)
  line_right n event s (Finds e number x octets link there says outcome_of_arrival is) =
      as_right _ (finds_right ciphers w n e number x octets link
      (λ own key a. found_none ciphers w e number x octets there outcome_of_arrival is a.number a.node own a.got a.there a.comes a.is) x.memory)
  line_right n event s (Takes e number x octets cost got t there says outcome_of_arrival low is how) = as_right _
      (heard_right ciphers w n e number x octets cost got there says outcome_of_arrival low is t how)
  line_right n event s (Puts e r bs quiet is) = as_right _
      (more_after ciphers w n e r.0 r.1 r.0.checks_on bs r.1.further r.1.happenings.agent (right ciphers w e (Ok r) is n))
  line_right n event s (Unread number x bad there e) = as_right _ (unread_right n number x bad)

  -- # What the history has

  abbrev TracedIn : ℕ → Event → Step → Type 0
  TracedIn n event (Ok r) = IsTracedRight w (entry n event r)
  TracedIn n event (Err fault) = Unit {0}

  -- of a broadcast
  spreads_traced : (n number : ℕ) (x : Node) (datagram : List ℕ)
      → IsTracedRight w (entry n (events.Bcast number datagram) (broadcasts_by ciphers w number x datagram))
  spreads_traced n number x datagram =
      let b = acts x (Err broadcasts.Halted) (with_beside (beside_at w number) (λ y. broadcast in_memory y datagram)) in
      let p = spread_word b.answer in
      record {
        sent = sym (and_not (is_taken (broadcast_word b.answer)));
        send = tt;
        up = sym p.0;
        up_at = tt;
        taken = sym p.1;
        taken_at = tt;
        took = refl;
        done = sym p.2;
        done_node = refl;
        issues = λ e. absurd (false_true (sym p.3 ∙ e));
        none_issued = λ e. refl;
      }

  bcast_traced : (n number : ℕ) (datagram : List ℕ) → TracedIn n (events.Bcast number datagram) (line_step ciphers w (events.Bcast number datagram))
  unfolding bcast
  bcast_traced n number datagram = by_begun (has_begun w) (node_at w number)
    where
      by_begun : (b : Bool) (o : Option Node)
          → TracedIn n (events.Bcast number datagram)
          (if b then option_map_or (λ x. Ok (broadcasts_by ciphers w number x datagram)) o (Err faults.Node) else Err faults.Setup)
      by_begun false o = tt
      by_begun true None = tt
      by_begun true (Some x) = spreads_traced n number x datagram

  -- of any other event
  other_traced : (x : Entry) → is_broadcast x.event ≡ false → IsTracedSo w x → IsTracedRight w x
  other_traced x other r = record {
    sent = r.sent ∙ sym (ap (λ b. is_taken x.trace.happenings.answer && not b) other ∙ and_true (is_taken x.trace.happenings.answer));
    send = r.send;
    up = r.up;
    up_at = r.up_at;
    taken = r.taken;
    taken_at = r.taken_at;
    took = r.took;
    done = r.done;
    done_node = r.done_node;
    issues = r.issues;
    none_issued = r.none_issued;
  }

pub line_traces_right : LineTracesRight
line_traces_right ciphers w x says e = record { adds = g.adds; traced = traced; forged = g.forged }
  where
    g : RightOn ciphers w x
    g = subst (GoodOn ciphers w x.number x.event) e
        (line_right ciphers w x.number x.event (line_step ciphers w x.event) (further_step_is ciphers w x.event says))

    by_spread : (number : ℕ) (datagram : List ℕ) → x.event ≡ events.Bcast number datagram → IsTracedRight w x
    by_spread number datagram is = subst (TracedIn ciphers w x.number x.event) e
        (subst (λ (k : Event). TracedIn ciphers w x.number k (line_step ciphers w k)) (sym is)
        (bcast_traced ciphers w x.number number datagram))

    traced : IsTracedRight w x
    traced = ⊎_elim
        (λ (s : (number : ℕ) × (datagram : List ℕ) × (x.event ≡ events.Bcast number datagram)). by_spread s.0 s.1 s.2)
        (λ (other : is_broadcast x.event ≡ false). other_traced ciphers w x other (g.traced other))
        (spread_or_not x.event)
