-- Where neighbours are not checked, no node has an open check or lists a neighbour: so it is at the start, and every event keeps it.
use Rattle.std.proofs.Common.{◌≡◌, ℕ, ◌+◌, Bool, true, false, not, List, [], ◌∷◌, ◌++◌, length, Option, Some, None, Result, Ok, Err, refl, sym, ◌∙◌, subst}
use Rattle.std.specs.Prelude.{◌==◌, ◌||◌, All, if◌then◌else◌, is_some, map, nat_lt, slice_get, unwrap_or}
use Rattle.std.specs.Option.{option_map_or}
use Rattle.std.proofs.lemmas.List.Elements.{All-get_or, All-head, All-push, All-set, All-tail}
use Rattle.std.proofs.lemmas.Option.{get_or_from_slice_get, slice_get_within}
use Rattle.plc_base.specs.declared.address.Eui.{Eui}
use Rattle.plc_base.specs.declared.key.Key.{Key}
use Rattle.plc_base.specs.declared.key.RandomOctets.{RandomOctets}
use Rattle.plc_base.specs.declared.keeper.BadStore.{BadStore}
use Rattle.plc_base.specs.Grant.{Granted}
use Rattle.broadcast_log.specs.declared.broadcast.Broadcast.{Broadcast}
use Rattle.broadcast_log.specs.Grammar.{spelling}
use Rattle.broadcast_log.specs.Log as logs
use Rattle.broadcast_log.specs.Reader.{broadcast_in}
use Rattle.neighbour_checks.specs.Acks.{ack_in}
use Rattle.neighbour_checks.specs.Neighbours.{Neighbours, acked_after, is_awaited, nobody, tick_after}
use Rattle.path_requests.specs.declared.message.PathMessage.{PathMessage}
use Rattle.path_requests.specs.declared.message.PathMessage.TheVariants.{Ask}
use Rattle.path_requests.specs.declared.step.PathStep.{PathStep}
use Rattle.path_requests.specs.declared.step.PathStep.TheVariants.{Forward, Answer, Done}
use Rattle.path_requests.specs.declared.step.PathRefusal.{PathRefusal}
use Rattle.path_requests.specs.Messages.{path_spelling}
use Rattle.path_requests.specs.Reader.{path_in}
use Rattle.path_requests.specs.PathSteps.{taken}
use Rattle.node_rules.specs.Accepted.{Accepted}
use Rattle.node_rules.specs.declared.heard.Reply.{Reply}
use Rattle.node_rules.specs.declared.refusal.CoordinatorRefusal.{CoordinatorRefusal}
use Rattle.node_rules.specs.declared.refusal.CoordinatorRefusal.TheVariants as orders
use Rattle.node_rules.specs.declared.refusal.Dropped.TheVariants as drops
use Rattle.node_rules.specs.declared.refusal.FrameRefusal.{FrameRefusal}
use Rattle.node_rules.specs.declared.refusal.LocalRefusal.{LocalRefusal}
use Rattle.node_rules.specs.Ciphers.{Ciphers, network}
use Rattle.node_rules.specs.Coordinators as coordinator_rules
use Rattle.node_rules.specs.Drafts.{Draft, Ends, checked as when_none, choose, counters_left, empty_draft, refused, sealed, sealing}
use Rattle.node_rules.specs.Frames.{to_all}
use Rattle.node_rules.specs.Memory.{Memory, Node, address_of, node_address, station_route}
use Rattle.node_rules.specs.MemoryDrafts.{in_memory}
use Rattle.node_rules.specs.Meters as meters
use Rattle.node_rules.specs.NodeSteps.{NodeStep, acts}
use Rattle.node_rules.specs.Plans.{Plan, resting}
use Rattle.node_rules.specs.Replies.{reply_among}
use Rattle.reach_rules.specs.declared.heard.CommandHeard.{CommandHeard}
use Rattle.reach_rules.specs.declared.heard.CommandHeard.TheVariants as heard_of
use Rattle.reach_rules.specs.declared.refusal.AskRefusal.TheVariants as asks
use Rattle.reach_rules.specs.declared.refusal.BroadcastRefusal.TheVariants as broadcasts
use Rattle.reach_rules.specs.declared.refusal.ChooseRefusal.TheVariants as choices
use Rattle.reach_rules.specs.declared.refusal.ReachDropped.{ReachDropped}
use Rattle.reach_rules.specs.declared.refusal.ReachDropped.TheVariants.{Known, NotAwaited}
use Rattle.reach_rules.specs.Beacons.{ChosenAgent, choose_agent, choosing_ends, is_discovery, joins_by as agent_joins}
use Rattle.reach_rules.specs.Broadcasts.{admits_broadcast, broadcast, broadcast_ends, broadcast_fault, broadcast_from, datagram_fault, goes_further}
use Rattle.reach_rules.specs.Broadcasts.{hear_broadcast, hear_broadcast_in, hop_less, own_broadcast, with_broadcast_mark, with_broadcast_number}
use Rattle.reach_rules.specs.CheckedReplies.{hear_acknowledgement, hear_acknowledgement_in, message_of}
use Rattle.reach_rules.specs.PathRequests.{ask_ends, ask_path, asks_by as asks_hop, asks_from, follows_path, hear_path, hear_path_in, next_toward, path_word}
use Rattle.reach_rules.specs.ReachingNodes.{Beside, Reaching, drop_it, in_reach, nothing_beside, reach_ends, remembers, restarted, restarted_by}
use Rattle.reach_rules.specs.ReachingNodes.{adds_local, tick_beside, with_checks}
use Rattle.reach_rules.specs.FurtherReceptions.{NeighbourCommand, command_of, hear_command, hear_command_at}
use Rattle.pan_discovery.specs.Agents.{kth_of}
use Rattle.line_events.specs.declared.event.Event.{Event}
use Rattle.line_events.specs.declared.event.Event.TheVariants as events
use Rattle.line_events.specs.declared.event.Answer.TheVariants as answers
use Rattle.line_events.specs.declared.event.StepFault.{StepFault}
use Rattle.line_events.specs.declared.event.StepFault.TheVariants as faults
use Rattle.line_events.specs.declared.happenings.Happenings.{Happenings}
use Rattle.line_rules.specs.Answers.{Reception}
use Rattle.line_rules.specs.Further.{accepted_further, acknowledged_if, acknowledging, adds_frames, after_ok, asks_by, bcast, beside_after, beside_at, checked}
use Rattle.line_rules.specs.Further.{checks, chooses_by, choose as choose_event, comes, commanded, delivers, discovers_by, due, has_reached, hearing_outcome_by}
use Rattle.line_rules.specs.Further.{further_hearing_outcome, injects, is_dropped, line_step, path, restarts_by, restarts_further, scan, scans_by}
use Rattle.line_rules.specs.Further.{sends_nothing, set_beside, ticks, with_check}
use Rattle.line_rules.specs.Forgery.{accepting}
use Rattle.line_rules.specs.Steps.{Step, activate, activate_at, allow, allowed, breaks, breaks_by, challenge, coordinator, cut, depot, depot_by, happenings}
use Rattle.line_rules.specs.Steps.{has_begun, hearing_step, hearing_outcome, identity, in_setup, is_known, join, joins_by, keeps_rank, kick, leave, lose, meter}
use Rattle.line_rules.specs.Steps.{near, near_by, note_by, on_flight, on_meter, on_node, once_begun, preset, psk_of, rand, running_world, ranks_full, rekey}
use Rattle.line_rules.specs.Steps.{send, sends_by, sent_if, set_up, show, takes_setup, tick, ticked, world_after, trace_of}
use Rattle.line_rules.specs.Worlds.{Flight, Trace, World, flight_at, node_at}
use Rattle.line_world.specs.Bounds.{HasNoChecks, NoneChecked}
use Rattle.line_world.specs.Steps.{Gives}

-- # Time

quiet_tick : (now : ℕ) (b : Beside) → HasNoChecks b → tick_beside now b ≡ b
quiet_tick now b none = (λ i. record b { checks = tick_after (none i) now }) ∙ (λ i. record b { checks = sym none i })

-- a tick changes nothing where nobody is checked or listed
pub quiet_ticks : (now : ℕ) (bs : List Beside) → All HasNoChecks bs → map (tick_beside now) bs ≡ bs
quiet_ticks now [] all = refl
quiet_ticks now (b ∷ bs) all = λ i. quiet_tick now b (All-head HasNoChecks b bs all) i ∷ quiet_ticks now bs (All-tail HasNoChecks b bs all) i

-- # What a node does by its further rules

-- it leaves nobody checked or listed
abbrev Left : {A : Type 0} → Plan (Reaching Memory) A → Type 0
Left p = HasNoChecks p.memory.beside

module _ (x : Reaching Memory) (none : HasNoChecks x.beside) where
  rests : (H : Type 0) {E : Type 0} (ends : Ends E) (reason : E) → Left {A = Result H E} (refused ends x reason)
  unfolding resting
  rests H ends reason = none

  either : {A : Type 0} (t : Bool) (p q : Plan (Reaching Memory) A) → Left p → Left q → Left (choose t p q)
  unfolding choose
  either true p q s t = s
  either false p q s t = t

  unless : {H E : Type 0} (ends : Ends E) (o : Option E) (p : Plan (Reaching Memory) (Result H E)) → Left p → Left (when_none ends x o p)
  unfolding when_none resting
  unless ends None p k = k
  unless ends (Some reason) p k = none

  seals : {H E : Type 0} (ends : Ends E) (d : Draft (Reaching Memory)) (answer : H) → HasNoChecks d.memory.beside
      → Left (sealed (in_reach in_memory) ends x d answer)
  unfolding sealed resting
  seals {H = H} {E = E} ends d answer left = by_test (nat_lt (counters_left x.memory.station) (length d.units))
    where
      by_test : (t : Bool) → Left {A = Result H E} (if t then refused ends x ends.spent else sealing (in_reach in_memory) ends d answer)
      by_test true = none
      by_test false = left

  local_unchecked : (to code : ℕ) (body : List ℕ) → HasNoChecks (adds_local to code body (empty_draft x)).memory.beside
  unfolding adds_local empty_draft
  local_unchecked to code body = none

  -- a broadcast
  numbered : (body : List ℕ) → HasNoChecks (adds_local to_all 4 body (with_broadcast_number (empty_draft x))).memory.beside
  unfolding adds_local with_broadcast_number empty_draft
  numbered body = none

  broadcasts_left : (datagram : List ℕ) → Left (broadcast in_memory x datagram)
  broadcasts_left datagram = by_address (address_of x.memory.station)
    where
      by_address : (o : Option ℕ) → Left (option_map_or (λ own. broadcast_from in_memory x own datagram) o (refused broadcast_ends x broadcasts.NotJoined))
      by_address None = rests (Unit {0}) broadcast_ends broadcasts.NotJoined
      by_address (Some own) = unless broadcast_ends (datagram_fault x.beside.log datagram) _
          (seals broadcast_ends (adds_local to_all 4 (spelling (own_broadcast own x.beside.log datagram)) (with_broadcast_number (empty_draft x))) tt
          (numbered (spelling (own_broadcast own x.beside.log datagram))))

  -- an ask
  asks_left : (target : ℕ) → Left (ask_path in_memory x target)
  asks_left target = by_address (address_of x.memory.station)
    where
      by_hop : (own : ℕ) (hop : Option ℕ) → Left (asks_hop in_memory x own target hop)
      by_hop own None = rests (Unit {0}) ask_ends asks.NoRoute
      by_hop own (Some hop) = seals ask_ends (adds_local hop 5 (path_spelling (Ask target (own ∷ []))) (empty_draft x)) tt
          (local_unchecked hop 5 (path_spelling (Ask target (own ∷ []))))

      by_address : (o : Option ℕ) → Left (option_map_or (λ own. asks_from in_memory x own target) o (refused ask_ends x asks.NotJoined))
      by_address None = rests (Unit {0}) ask_ends asks.NotJoined
      by_address (Some own) = either (target == own) (refused ask_ends x asks.ToSelf) (asks_hop in_memory x own target (station_route x.memory.station target))
          (rests (Unit {0}) ask_ends asks.ToSelf) (by_hop own (station_route x.memory.station target))

  -- an agent is chosen
  chooses_left : (own : meters.Identity) (k now : ℕ) → Left (choose_agent own x k now)
  chooses_left own k now = either (meters.is_joined x.memory) (refused choosing_ends x choices.AlreadyJoined)
      (agent_joins own x now (kth_of x.beside.scan.agents k))
      (rests ChosenAgent choosing_ends choices.AlreadyJoined) (by_agent (kth_of x.beside.scan.agents k))
    where
      by_agent : (o : Option (ℕ × ℕ)) → Left (agent_joins own x now o)
      by_agent None = rests ChosenAgent choosing_ends choices.NoBeacon
      by_agent (Some (address, total)) = none

  -- a command is heard
  drops_it : (reason : ReachDropped) → Left {A = Result CommandHeard ReachDropped} (drop_it x reason)
  drops_it reason = rests CommandHeard reach_ends reason

  keeps : (hearing_outcome : CommandHeard) → Left (remembers x hearing_outcome)
  unfolding resting
  keeps hearing_outcome = none

  ended : (from number origin : ℕ) → Left (remembers (with_checks (acked_after x.beside.checks from number origin) x) heard_of.Acked)
  unfolding resting
  ended from number origin = subst (λ (s : Neighbours). acked_after s from number origin ≡ nobody) (sym none) refl

  acks_left : (from : ℕ) (o : Option (ℕ × ℕ)) → Left (hear_acknowledgement_in x from o)
  acks_left from None = drops_it (Known drops.BadUnit)
  acks_left from (Some (number, origin)) =
      either (is_awaited x.beside.checks from number origin) (remembers (with_checks (acked_after x.beside.checks from number origin) x) heard_of.Acked)
      (drop_it x NotAwaited) (ended from number origin) (drops_it NotAwaited)

  goes_on : (c : Broadcast) → HasNoChecks (goes_further c (with_broadcast_mark c.origin c.number (empty_draft x))).memory.beside
  unfolding goes_further with_broadcast_mark adds_local empty_draft
  goes_on c = by_hops (nat_lt c.hops 2)
    where
      marked : Draft (Reaching Memory)
      marked = with_broadcast_mark c.origin c.number (empty_draft x)

      by_hops : (t : Bool) → HasNoChecks (if t then marked else adds_local to_all 4 (spelling (hop_less c)) marked).memory.beside
      by_hops true = none
      by_hops false = none

  spreads_left : (own : ℕ) (o : Option Broadcast) → Left (hear_broadcast_in in_memory x own o)
  spreads_left own None = drops_it (Known drops.BadUnit)
  spreads_left own (Some c) = unless reach_ends (broadcast_fault own x.beside.log c) (admits_broadcast in_memory x c)
      (seals reach_ends (goes_further c (with_broadcast_mark c.origin c.number (empty_draft x))) (heard_of.Broadcast c.origin c.number c.octets) (goes_on c))

  follows_left : (o : Result PathStep PathRefusal) → Left (follows_path in_memory x o)
  follows_left (Err reason) = drops_it (path_word reason)
  follows_left (Ok (Forward to message)) =
      seals reach_ends (adds_local to 5 (path_spelling message) (empty_draft x)) heard_of.Relayed (local_unchecked to 5 (path_spelling message))
  follows_left (Ok (Answer to message)) =
      seals reach_ends (adds_local to 5 (path_spelling message) (empty_draft x)) heard_of.Answered (local_unchecked to 5 (path_spelling message))
  follows_left (Ok (Done walk)) = keeps (heard_of.Path walk)

  paths_left : (own from : ℕ) (o : Option PathMessage) → Left (hear_path_in in_memory x own from o)
  paths_left own from None = drops_it (Known drops.BadUnit)
  paths_left own from (Some message) = follows_left (taken own from (next_toward x.memory.station message) message)

  heard_at : (own : ℕ) (c : NeighbourCommand) → Left (hear_command_at in_memory x own c)
  heard_at own c =
      let bad = drop_it x (Known drops.BadUnit) in
      let way = hear_path in_memory x own c.from c.to_all c.body in
      let spread = hear_broadcast in_memory x own c.to_all c.body in
      let ack = hear_acknowledgement x c.from c.to_all c.body in
      let no = drops_it (Known drops.BadUnit) in
      either (c.code == 3) ack (choose (c.code == 4) spread (choose (c.code == 5) way bad))
      (either c.to_all bad (hear_acknowledgement_in x c.from (ack_in c.body)) no (acks_left c.from (ack_in c.body)))
      (either (c.code == 4) spread (choose (c.code == 5) way bad)
      (either c.to_all (hear_broadcast_in in_memory x own (broadcast_in c.body)) bad (spreads_left own (broadcast_in c.body)) no)
      (either (c.code == 5) way bad
      (either c.to_all bad (hear_path_in in_memory x own c.from (path_in c.body)) no (paths_left own c.from (path_in c.body)))
      no))

  commands_left : (c : NeighbourCommand) → Left (hear_command in_memory x c)
  commands_left c = by_address (address_of x.memory.station)
    where
      by_address : (o : Option ℕ) → Left (option_map_or (λ own. hear_command_at in_memory x own c) o (drop_it x (Known drops.BadUnit)))
      by_address None = drops_it (Known drops.BadUnit)
      by_address (Some own) = heard_at own c

-- # Worlds

none_at : (bs : List Beside) (number : ℕ) → All HasNoChecks bs → HasNoChecks (unwrap_or (slice_get bs number) nothing_beside)
none_at bs number all = by_option (slice_get bs number) refl
  where
    by_option : (o : Option Beside) → slice_get bs number ≡ o → HasNoChecks (unwrap_or o nothing_beside)
    by_option None e = refl
    by_option (Some b) e =
        subst HasNoChecks (get_or_from_slice_get bs number b b e) (All-get_or HasNoChecks bs number b (slice_get_within bs number b e) all)

ticked_none : (now : ℕ) (bs : List Beside) → All HasNoChecks bs → All HasNoChecks (map (tick_beside now) bs)
ticked_none now bs all = subst (All HasNoChecks) (sym (quiet_ticks now bs all)) all

left_none : {A : Type 0} (x : Node) (b : Beside) (plan : Reaching Memory → Plan (Reaching Memory) A) (left : Node) → HasNoChecks b
    → ((m : Memory) → Left (plan (record { memory = m; beside = b }))) → HasNoChecks (beside_after x b plan left)
unfolding beside_after
left_none {A = A} x b plan left none does = by_memory x.memory
  where
    by_running : (m : Memory) (running : Bool)
        → HasNoChecks (if running then (plan (record { memory = m; beside = b })).memory.beside else record b { log = nothing_beside.log })
    by_running m true = does m
    by_running m false = none

    by_memory : (o : Option Memory) → HasNoChecks (option_map_or
        (λ m. if is_some left.memory then (plan (record { memory = m; beside = b })).memory.beside else record b { log = nothing_beside.log }) o b)
    by_memory None = none
    by_memory (Some m) = by_running m (is_some left.memory)

true_false : true ≡ false → ⊥
true_false e = cc

abbrev Kept : Step → Type 0
Kept (Ok r) = NoneChecked r.0
Kept (Err fault) = Unit {0}

module _ (ciphers : Ciphers) where
  after_unchecked : {A : Type 0} (v : World) (number : ℕ) (d : NodeStep A) → NoneChecked v → NoneChecked (world_after ciphers v number d)
  unfolding world_after
  after_unchecked v number d k = k

  set_in : (v : World) (number : ℕ) (b : Beside) → NoneChecked v → (v.checks_on ≡ false → HasNoChecks b) → NoneChecked (set_beside number b v)
  set_in v number b k l = λ off. All-set HasNoChecks v.beside number b (l off) (k off)

  both_unchecked : {A : Type 0} (v : World) (number : ℕ) (d : NodeStep A) (b : Beside) → NoneChecked v → (v.checks_on ≡ false → HasNoChecks b)
      → NoneChecked (set_beside number b (world_after ciphers v number d))
  unfolding world_after
  both_unchecked v number d b k l = set_in v number b k l

  reached_in : {A : Type 0} (v : World) (number : ℕ) (x : Node) (halted : A) (plan : Reaching Memory → Plan (Reaching Memory) A) (d : NodeStep A)
      → NoneChecked v → ((m : Memory) (b : Beside) → HasNoChecks b → Left (plan (record { memory = m; beside = b })))
      → NoneChecked (has_reached ciphers v number x halted plan d)
  reached_in v number x halted plan d k does = both_unchecked v number d (beside_after x (beside_at v number) plan d.node) k
      (λ off. let none = none_at v.beside number (k off) in left_none x (beside_at v number) plan d.node none (λ m. does m (beside_at v number) none))

module _ (ciphers : Ciphers) (w : World) (h : NoneChecked w) where
  branch : (b : Bool) (p q : Step) → Kept p → Kept q → Kept (if b then p else q)
  branch true p q s t = s
  branch false p q s t = t

  either_in : (b : Bool) (p q : World × Trace) → NoneChecked p.0 → NoneChecked q.0 → NoneChecked (if b then p else q).0
  either_in true p q g k = g
  either_in false p q g k = k

  by_option : {X : Type 0} (f : X → Step) (x : Option X) (p : Step) → ((y : X) → Kept (f y)) → Kept p → Kept (option_map_or f x p)
  by_option f None p s t = t
  by_option f (Some y) p s t = s y

  once : (s : Step) → Kept s → Kept (once_begun w s)
  once s k = branch (has_begun w) s (Err faults.Setup) k tt

  setup : (s : Step) → Kept s → Kept (in_setup w s)
  setup s k = branch (takes_setup w) s (Err faults.Setup) k tt

  at_node : (number : ℕ) (f : Node → Step) → ((x : Node) → Kept (f x)) → Kept (on_node w number f)
  at_node number f k = by_option f (node_at w number) (Err faults.Node) k tt

  at_meter : (number : ℕ) (f : Node → Step) → ((x : Node) → Kept (f x)) → Kept (on_meter w number f)
  at_meter number f k = branch (number == 0) (Err faults.Node) (on_node w number f) tt (at_node number f k)

  at_flight : (number : ℕ) (f : Flight → Step) → ((x : Flight) → Kept (f x)) → Kept (on_flight w number f)
  at_flight number f k = by_option (λ x. if x.lost then Err faults.Flight else f x) (flight_at w number) (Err faults.Flight)
      (λ x. branch x.lost (Err faults.Flight) (f x) tt (k x)) tt

  -- one node acts
  acts_in : {A : Type 0} (number : ℕ) (d : NodeStep A) → NoneChecked (world_after ciphers (running_world w) number d)
  acts_in number d = after_unchecked ciphers (running_world w) number d h

  -- # Setup

  made_in : w.checks_on ≡ false → All HasNoChecks (w.beside ++ nothing_beside ∷ [])
  made_in off = All-push HasNoChecks w.beside nothing_beside (h off) refl

  coordinator_in : (eui : Eui) (key : Key) → Kept (coordinator w eui key)
  unfolding coordinator
  coordinator_in eui key = branch (has_begun w) _ _ tt made_in

  meter_in : (eui : Eui) (psk : Key) → Kept (meter w eui psk)
  unfolding meter
  meter_in eui psk = branch (not (takes_setup w) || (nat_lt 999 (length w.nodes) || is_known w eui)) _ _ tt made_in

  depot_by_in : (number : ℕ) (x : Node) (d : NodeStep (Result Granted CoordinatorRefusal)) → Kept (depot_by ciphers w number x d)
  unfolding world_after
  depot_by_in number x d = by_answer d.answer refl
    where
      by_answer : (r : Result Granted CoordinatorRefusal) → d.answer ≡ r → Kept (depot_by ciphers w number x d)
      by_answer (Ok g) e = rw e (after_unchecked ciphers (world_after ciphers (set_up w) 0 d) number (acts x (Ok tt) (λ m. meters.provision m g))
          (after_unchecked ciphers (set_up w) 0 d h))
      by_answer (Err reason) e = rw e tt

  depot_in : (number : ℕ) → Kept (depot ciphers w number)
  unfolding depot
  depot_in number = setup _ (at_node number _ (λ x. at_node 0 _ (λ c. branch ((number == 0) || is_some (node_address x)) _ _ tt
      (by_option (λ psk. depot_by ciphers w number x (acts c (Err orders.Halted) (λ m. coordinator_rules.depot m x.eui psk))) (psk_of x) _
      (λ psk. depot_by_in number x _) tt))))

  near_by_in : (a b cost : ℕ) (x y : Node) (p q : Option ℕ) → Kept (near_by ciphers w a b cost x y p q)
  near_by_in a b cost x y None q = tt
  near_by_in a b cost x y (Some p) None = tt
  near_by_in a b cost x y (Some p) (Some q) = branch ((a == b) || (keeps_rank x q || (ranks_full x || ranks_full y))) _ _ tt
      (after_unchecked ciphers _ b _ (after_unchecked ciphers (set_up w) a _ h))

  near_in : (a b cost : ℕ) → Kept (near ciphers w a b cost)
  unfolding near
  near_in a b cost = setup _ (at_node a _ (λ x. at_node b _ (λ y. near_by_in a b cost x y (node_address x) (node_address y))))

  preset_in : (number : ℕ) (plan : _) → Kept (preset ciphers w number plan)
  preset_in number plan = setup _ (at_node number _ (λ x. after_unchecked ciphers (set_up w) number _ h))

  checks_in : Kept (checks w)
  unfolding checks
  checks_in = setup _ (branch w.checks_on _ _ tt (λ off. absurd (true_false off)))

  -- # The other kinds without further reach

  allow_in : (number : ℕ) → Kept (allow ciphers w number)
  unfolding allow
  allow_in number = once _ (at_meter number _ (λ x. at_node 0 _ (λ c.
      by_option (λ psk. Ok (allowed ciphers w number (acts c (Err orders.Halted) (λ m. coordinator_rules.allow m x.eui psk)))) (psk_of x) _
      (λ psk. acts_in 0 _) tt)))

  rand_in : (number : ℕ) (value : RandomOctets) → Kept (rand ciphers w number value)
  unfolding rand
  rand_in number value = once _ (at_node number _ (λ x. acts_in number _))

  joins_in : (number : ℕ) (x : Node) (agent : Option ℕ) (psk : Option Key) → NoneChecked (joins_by ciphers w number x agent psk).0
  joins_in number x None psk = h
  joins_in number x (Some agent) None = h
  joins_in number x (Some agent) (Some psk) = acts_in number _

  join_in : (number agent : ℕ) → Kept (join ciphers w number agent)
  unfolding join
  join_in number agent = once _ (at_meter number _ (λ x. at_node agent _ (λ y. joins_in number x (node_address y) (psk_of x))))

  leave_in : (number : ℕ) → Kept (leave ciphers w number)
  unfolding leave
  leave_in number = once _ (at_meter number _ (λ x. acts_in number _))

  sent_in : (from to : ℕ) (datagram : List ℕ) (tag : ℕ) (b : Bool) (r : World × Trace) → NoneChecked r.0
      → NoneChecked (sent_if w from to datagram tag b r).0
  sent_in from to datagram tag false r k = k
  sent_in from to datagram tag true r k = k

  sends_in : (from to : ℕ) (datagram : List ℕ) (x : Node) (address : Option ℕ) → NoneChecked (sends_by ciphers w from to datagram x address).0
  sends_in from to datagram x None = h
  sends_in from to datagram x (Some address) = sent_in from to datagram _ _ _ (acts_in from _)

  send_in : (from to : ℕ) (datagram : List ℕ) → Kept (send ciphers w from to datagram)
  unfolding send
  send_in from to datagram = once _ (at_node from _ (λ x. at_node to _ (λ y. sends_in from to datagram x (node_address y))))

  breaks_in : (number : ℕ) (x : Node) (next : Option ℕ) → NoneChecked (breaks_by ciphers w number x next).0
  breaks_in number x None = h
  breaks_in number x (Some next) = acts_in number _

  break_in : (number next : ℕ) → Kept (breaks ciphers w number next)
  unfolding breaks
  break_in number next = once _ (at_node number _ (λ x. at_node next _ (λ y. breaks_in number x (node_address y))))

  lose_in : (number : ℕ) → Kept (lose w number)
  unfolding lose
  lose_in number = once _ (at_flight number _ (λ f. h))

  cut_in : (number nth : ℕ) (keeps_new : Bool) → Kept (cut ciphers w number nth keeps_new)
  unfolding cut
  cut_in number nth keeps_new = once _ (at_node number _ (λ x. acts_in number _))

  show_in : (number : ℕ) → Kept (show w number)
  unfolding show
  show_in number = once _ (at_node number _ (λ x. h))

  rekey_in : (index : ℕ) (key : Key) → Kept (rekey ciphers w index key)
  unfolding rekey
  rekey_in index key = once _ (at_node 0 _ (λ c. acts_in 0 _))

  challenge_in : (number : ℕ) → Kept (challenge ciphers w number)
  unfolding challenge
  challenge_in number = once _ (at_meter number _ (λ x. at_node 0 _ (λ c. acts_in 0 _)))

  activates_in : (number index : ℕ) (x c : Node) → NoneChecked (activate_at ciphers w number index x c).0
  activates_in number index x c = either_in (number == 0) _ _ (acts_in 0 _) (acts_in 0 _)

  activate_in : (number index : ℕ) → Kept (activate ciphers w number index)
  unfolding activate
  activate_in number index = once _ (at_node number _ (λ x. at_node 0 _ (λ c. activates_in number index x c)))

  kick_in : (number : ℕ) → Kept (kick ciphers w number)
  unfolding kick
  kick_in number = once _ (at_meter number _ (λ x. at_node 0 _ (λ c. acts_in 0 _)))

  -- # Further reach

  bcast_in : (number : ℕ) (datagram : List ℕ) → Kept (bcast ciphers w number datagram)
  unfolding bcast
  bcast_in number datagram = once _ (at_node number _ (λ x.
      reached_in ciphers (running_world w) number x (Err broadcasts.Halted) (λ y. broadcast in_memory y datagram) _ h
      (λ m b none. broadcasts_left (record { memory = m; beside = b }) none datagram)))

  asks_in : (number : ℕ) (x : Node) (target : Option ℕ) → NoneChecked (asks_by ciphers w number x target).0
  asks_in number x None = h
  asks_in number x (Some target) = reached_in ciphers (running_world w) number x (Err asks.Halted) (λ y. ask_path in_memory y target) _ h
      (λ m b none. asks_left (record { memory = m; beside = b }) none target)

  path_in_world : (from to : ℕ) → Kept (path ciphers w from to)
  unfolding path
  path_in_world from to = once _ (at_node from _ (λ x. at_node to _ (λ y. asks_in from x (node_address y))))

  scans_in : (number : ℕ) (o : Option Memory) → NoneChecked (scans_by w number o).0
  scans_in number None = h
  scans_in number (Some m) = set_in ciphers w number _ h (λ off. none_at w.beside number (h off))

  scan_in : (number : ℕ) → Kept (scan w number)
  unfolding scan
  scan_in number = once _ (at_meter number _ (λ x. scans_in number x.memory))

  chooses_in : (number : ℕ) (x : Node) (k : ℕ) (psk : Option Key) → NoneChecked (chooses_by ciphers w number x k psk).0
  chooses_in number x k None = h
  chooses_in number x k (Some psk) =
      reached_in ciphers (running_world w) number x (Err choices.Halted) (λ y. choose_agent (identity ciphers x psk) y k w.clock) _ h
      (λ m b none. chooses_left (record { memory = m; beside = b }) none (identity ciphers x psk) k w.clock)

  choose_in : (number k : ℕ) → Kept (choose_event ciphers w number k)
  unfolding choose_event
  choose_in number k = once _ (at_meter number _ (λ x. chooses_in number x k (psk_of x)))

  discovers_in : (number : ℕ) (x : Node) (octets : List ℕ) (link : ℕ) (o : Option Memory) → NoneChecked (discovers_by w number x octets link o).0
  discovers_in number x octets link None = h
  discovers_in number x octets link (Some m) = set_in ciphers w number _ h (λ off. none_at w.beside number (h off))

  module _ (number : ℕ) (y : Node) (octets : List ℕ) (got : Accepted) (cost : ℕ) where
    abbrev hearing : NodeStep Reception
    hearing = hearing_step ciphers y got cost (note_by w octets got.path) w.clock

    abbrev plainly : World × Trace
    plainly = hearing_outcome ciphers w number y octets got cost

    plain_in : NoneChecked plainly.0
    plain_in = acts_in number hearing

    commanded_in : (c : NeighbourCommand) → NoneChecked (commanded ciphers number hearing.node c plainly).0
    commanded_in c = reached_in ciphers plainly.0 number hearing.node (Err (Known drops.Store)) (λ r. hear_command in_memory r c) _ plain_in
        (λ m b none. commands_left (record { memory = m; beside = b }) none c)

    -- where checks are on, nothing is asked of the world that they leave
    unasked : (v : World) → v.checks_on ≡ w.checks_on → w.checks_on ≡ true → NoneChecked v
    unasked v same on = λ off. absurd (true_false (sym on ∙ sym same ∙ off))

    checked_in : w.checks_on ≡ true → NoneChecked (checked ciphers w number got hearing plainly).0
    unfolding world_after
    checked_in on = by_due (due got.path (message_of got) hearing.answer.answer)
      where
        r : World × Trace
        r = with_check w number (reply_among hearing.frames) plainly

        by_due : (o : Option Reply) → NoneChecked (acknowledged_if ciphers w number hearing.node o r).0
        by_due None = unasked r.0 refl on
        by_due (Some reply) =
            let a : NodeStep (Result (Unit {0}) LocalRefusal) = acknowledging hearing.node reply in
            either_in (is_some a.node.memory) (adds_frames (world_after ciphers r.0 number a) r.1 a) (sends_nothing w (world_after ciphers r.0 number a, r.1))
            (unasked (world_after ciphers r.0 number a) refl on) (unasked (sends_nothing w (world_after ciphers r.0 number a, r.1)).0 refl on)

    heard_by_in : (o : Option NeighbourCommand) → NoneChecked (hearing_outcome_by ciphers w number y octets got cost o).0
    heard_by_in (Some c) = commanded_in c
    heard_by_in None = by_checks w.checks_on refl
      where
        by_checks : (on : Bool) → w.checks_on ≡ on → NoneChecked (if on then checked ciphers w number got hearing plainly else plainly).0
        by_checks true e = checked_in e
        by_checks false e = plain_in

    further_in : NoneChecked (further_hearing_outcome ciphers w number y octets got cost).0
    further_in = either_in (is_dropped w number got) _ _ (acts_in number _) (heard_by_in (command_of got))

  accepted_in : (number : ℕ) (octets : List ℕ) (cost : ℕ) (d : NodeStep (Result Accepted FrameRefusal))
      → NoneChecked (accepted_further ciphers w number octets cost d).0
  unfolding world_after
  accepted_in number octets cost d = by_answer d.answer refl
    where
      by_answer : (r : Result Accepted FrameRefusal) → d.answer ≡ r → NoneChecked (accepted_further ciphers w number octets cost d).0
      by_answer (Ok got) e = rw e (further_in number d.node octets got cost)
      by_answer (Err reason) e = rw e (acts_in number d)

  comes_in : (number : ℕ) (x : Node) (octets : List ℕ) (cost : ℕ) → NoneChecked (comes ciphers w number x octets cost).0
  unfolding comes
  comes_in number x octets cost = either_in (is_discovery octets) _ _ (discovers_in number x octets cost x.memory)
      (accepted_in number octets cost (accepting ciphers x octets))

  delivers_in : (flight number cost : ℕ) → Kept (delivers ciphers w flight number cost)
  unfolding delivers
  delivers_in flight number cost = once _ (at_node number _ (λ x. at_flight flight _ (λ f. comes_in number x f.octets cost)))

  injects_in : (number cost : ℕ) (octets : List ℕ) → Kept (injects ciphers w number cost octets)
  unfolding injects
  injects_in number cost octets = once _ (at_node number _ (λ x. comes_in number x octets cost))

  ticks_in : (seconds : ℕ) → Kept (ticks w seconds)
  unfolding ticks tick
  ticks_in seconds = by_start (has_begun w)
    where
      by_start : (b : Bool) → Kept (after_ok (λ r. (record r.0 { beside = map (tick_beside (w.clock + seconds)) w.beside }, r.1))
          (if b then Ok (
            record (running_world w) { clock = w.clock + seconds; nodes = map (ticked (w.clock + seconds)) w.nodes },
            trace_of (happenings w answers.Ticked),
          )
          else Err faults.Setup))
      by_start true = λ off. ticked_none (w.clock + seconds) w.beside (h off)
      by_start false = tt

  restarted_none : (r : Result logs.Log BadStore) (b : Beside) → restarted_by r ≡ Ok b → HasNoChecks b
  restarted_none (Ok log) b e = cc
  restarted_none (Err bad) b e = absurd (cc (e))

  restarts_in : (number : ℕ) (x : Node) (o : Result Beside BadStore) → restarted x.store.records ≡ o → NoneChecked (restarts_by ciphers w number x o).0
  restarts_in number x (Ok b) e = both_unchecked ciphers (running_world w) number _ b h (λ off. restarted_none (logs.opened x.store.records) b e)
  restarts_in number x (Err bad) e = both_unchecked ciphers (running_world w) number _ nothing_beside h (λ off. refl)

  restart_in : (number : ℕ) → Kept (restarts_further ciphers w number)
  unfolding restarts_further
  restart_in number = once _ (at_node number _ (λ x. restarts_in number x (restarted x.store.records) refl))

  line_in : (event : Event) → Kept (line_step ciphers w event)
  line_in (events.Coordinator eui key) = coordinator_in eui key
  line_in (events.Meter eui psk) = meter_in eui psk
  line_in (events.Depot node) = depot_in node
  line_in (events.Near a b cost) = near_in a b cost
  line_in (events.Counter node value) = preset_in node _
  line_in (events.Number node value) = preset_in node _
  line_in (events.Allow node) = allow_in node
  line_in (events.RandomOctets node value) = rand_in node value
  line_in (events.Join node agent) = join_in node agent
  line_in (events.Leave node) = leave_in node
  line_in (events.Send from to datagram) = send_in from to datagram
  line_in (events.Deliver flight node cost) = delivers_in flight node cost
  line_in (events.Inject node cost octets) = injects_in node cost octets
  line_in (events.Lose flight) = lose_in flight
  line_in (events.Break node next) = break_in node next
  line_in (events.Tick seconds) = ticks_in seconds
  line_in (events.Restart node) = restart_in node
  line_in (events.Cut node nth keeps_new) = cut_in node nth keeps_new
  line_in (events.Rekey index key) = rekey_in index key
  line_in (events.Challenge node) = challenge_in node
  line_in (events.Activate node index) = activate_in node index
  line_in (events.Kick node) = kick_in node
  line_in (events.Show node) = show_in node
  line_in events.Checks = checks_in
  line_in (events.Bcast node datagram) = bcast_in node datagram
  line_in (events.Scan node) = scan_in node
  line_in (events.Choose node k) = choose_in node k
  line_in (events.Path from to) = path_in_world from to

-- so it is after an event, taken or not
pub still_none : (w v : World) (event : Event) (r : Result Happenings StepFault) → NoneChecked w → Gives w r v (line_step network w event) → NoneChecked v
still_none w v event (Ok happenings) h g = subst Kept g.taken (line_in network w h event)
still_none w v event (Err faults.Memory) h g = subst NoneChecked (sym g.1) h
still_none w v event (Err faults.Setup) h g = subst NoneChecked (sym g.1) h
still_none w v event (Err faults.Node) h g = subst NoneChecked (sym g.1) h
still_none w v event (Err faults.Flight) h g = subst NoneChecked (sym g.1) h
