-- The walk over the kinds of events.
use Rattle.std.proofs.Common.{◌≡◌, ℕ, ◌+◌, Bool, true, false, not, List, [], length, Option, Some, None, Result, Ok, Err, refl, sym}
use Rattle.std.proofs.Common.{subst, arith}
use Rattle.std.specs.Prelude.{if◌then◌else◌, ◌==◌, ◌||◌, nat_lt, slice_get, slice_set, is_some, map, unwrap_or, All}
use Rattle.std.specs.List.{list_any}
use Rattle.std.specs.Option.{option_map_or}
use Rattle.std.proofs.lemmas.List.Elements.{All-nil}
use Rattle.std.proofs.lemmas.Option.{same_Some}
use Rattle.plc_base.specs.declared.address.Eui.{Eui}
use Rattle.plc_base.specs.declared.key.Key.{Key}
use Rattle.plc_base.specs.declared.key.RandomOctets.{RandomOctets}
use Rattle.plc_base.specs.declared.keeper.BadStore.{BadStore}
use Rattle.plc_base.specs.Grant.{Granted}
use Rattle.line_events.specs.declared.event.Event.{Event}
use Rattle.line_events.specs.declared.event.Event.TheVariants as events
use Rattle.line_events.specs.declared.event.Answer.{Answer}
use Rattle.line_events.specs.declared.event.Answer.TheVariants as answers
use Rattle.line_events.specs.declared.event.StepFault.TheVariants as faults
use Rattle.node_rules.specs.Accepted.{Accepted}
use Rattle.node_rules.specs.declared.heard.Reply.{Reply}
use Rattle.node_rules.specs.declared.refusal.CoordinatorRefusal.{CoordinatorRefusal}
use Rattle.node_rules.specs.declared.refusal.CoordinatorRefusal.TheVariants as orders
use Rattle.node_rules.specs.declared.refusal.Dropped.TheVariants as drops
use Rattle.node_rules.specs.declared.refusal.FrameRefusal.{FrameRefusal}
use Rattle.node_rules.specs.declared.refusal.FrameRefusal.TheVariants as frames
use Rattle.node_rules.specs.Ciphers.{Ciphers}
use Rattle.node_rules.specs.LogSlots.{IsBesideLog, LeavesLog}
use Rattle.node_rules.specs.Memory.{StationMemory, Memory, Node, Role, Coordinator, Meter, node_address}
use Rattle.node_rules.specs.Calls as calls
use Rattle.node_rules.specs.Meters as meters
use Rattle.node_rules.specs.Coordinators as coordinator_rules
use Rattle.node_rules.specs.NodeSteps.{NodeStep, acts, stays, answering, of_station}
use Rattle.node_rules.specs.Plans.{Plan, resting}
use Rattle.node_rules.specs.Replies.{reply_among}
use Rattle.node_rules.specs.Acceptance.{accept}
use Rattle.node_rules.specs.Frames.{arrived}
use Rattle.plc_base.specs.Fields.{AreOctets}
use Rattle.node_rules.specs.declared.refusal.LocalRefusal.TheVariants as locals
use Rattle.reach_rules.specs.CheckedReplies.{acknowledges, checks_after, message_of}
use Rattle.node_rules.specs.RestartStates.{blank_station, first_grant, remembering}
use Rattle.node_rules.specs.Tables.{HasShortTables}
use Rattle.node_rules.proofs.LogPuts.{stations_leave_log, meters_leave_log, coordinators_leave_log}
use Rattle.reach_rules.specs.declared.refusal.ReachDropped.TheVariants as reach_drops
use Rattle.reach_rules.specs.declared.refusal.BroadcastRefusal.TheVariants as broadcasts
use Rattle.reach_rules.specs.declared.refusal.AskRefusal.TheVariants as asks
use Rattle.reach_rules.specs.declared.refusal.ChooseRefusal.TheVariants as choices
use Rattle.reach_rules.specs.ReachingNodes.{Beside, nothing_beside, tick_beside, restarted}
use Rattle.reach_rules.specs.Beacons.{is_discovery, choose_agent}
use Rattle.reach_rules.specs.Broadcasts.{broadcast}
use Rattle.reach_rules.specs.PathRequests.{ask_path}
use Rattle.reach_rules.specs.FurtherReceptions.{NeighbourCommand, command_of, hear_command}
use Rattle.node_rules.specs.MemoryDrafts.{in_memory}
use Rattle.line_rules.specs.Answers.{Reception, only, coordinator_reception, meter_reception}
use Rattle.line_rules.specs.Forgery.{OfFlight, OfScript, accepting}
use Rattle.line_rules.specs.Worlds.{World, Flight, Trace, node_at, flight_at, is_forged_tag}
use Rattle.line_rules.specs.Steps.{Step, set_up, running_world, world_after, node_outcome, has_begun, takes_setup, once_begun, in_setup, on_node, on_meter}
use Rattle.line_rules.specs.Steps.{blank_node}
use Rattle.line_rules.specs.Steps.{is_known, coordinator, meter, depot, depot_by, provisioned, psk_of, near, near_by, keeps_rank, ranks_full}
use Rattle.line_rules.specs.Steps.{offered_near, preset, allow, allowed, rand, join, joins_by, leave, send, sends_by, sent_if, breaks, breaks_by, received}
use Rattle.line_rules.specs.Steps.{on_flight, lose, tick, ticked, cut, show, rekey, challenge, activate, activate_at, kick, hearing_step}
use Rattle.line_rules.specs.Steps.{hearing_outcome}
use Rattle.line_rules.specs.Steps.{identity, note_by, forged_by, restarts, trace_of, happenings}
use Rattle.line_rules.specs.Further.{line_step, checks, bcast, path, asks_by, scan, scans_by, choose, chooses_by, discovers_by, commanded}
use Rattle.line_rules.specs.Further.{checked, acknowledged_if, acknowledging, hearing_outcome_by, further_hearing_outcome, is_dropped}
use Rattle.line_rules.specs.Further.{accepted_further, comes}
use Rattle.line_rules.specs.Further.{delivers, injects, ticks, after_ok, due, with_check, restarts_by, restarts_further, beside_at, set_beside, reaches}
use Rattle.line_rules.specs.Logs.{LogIn, AreLogged, LogsKept, HaveShortTables, CommandsAreOctets, LineStepsKeepLogs, LogsKeptAtFirst}
use Rattle.line_rules.proofs.LogSteps.{NodeIn, Quiet, all_changed, acts_quiet, further_in, halted_in, logged_at, one_more, quiet_in, quiet_on, quiet_same}
use Rattle.line_rules.proofs.LogSteps.{restart_in, set_aside, set_both, set_node}
use Rattle.line_rules.proofs.LogPlans.{accept_short, acts_short, asks_lead, blank_in, broadcast_leads, chooses_lead, command_leads, leave_leaves, random_leaves}
use Rattle.line_rules.proofs.LogPlans.{acknowledging_leaves}

abbrev Kept : Step → Type 0
Kept (Ok r) = LogsKept r.0
Kept (Err fault) = Unit {0}

module _ (ciphers : Ciphers) (w : World) (short : HaveShortTables w) (h : LogsKept w) where
  branch : (b : Bool) (p q : Step) → Kept p → Kept q → Kept (if b then p else q)
  branch true p q s t = s
  branch false p q s t = t

  by_option : {X : Type 0} (f : X → Step) (x : Option X) (p : Step) → ((y : X) → x ≡ Some y → Kept (f y)) → Kept p → Kept (option_map_or f x p)
  by_option f None p s t = t
  by_option f (Some y) p s t = s y refl

  once : (s : Step) → Kept s → Kept (once_begun w s)
  once s k = branch (has_begun w) s (Err faults.Setup) k tt

  setup : (s : Step) → Kept s → Kept (in_setup w s)
  setup s k = branch (takes_setup w) s (Err faults.Setup) k tt

  at_node : (number : ℕ) (f : Node → Step) → ((x : Node) → node_at w number ≡ Some x → Kept (f x)) → Kept (on_node w number f)
  at_node number f k = by_option f (node_at w number) (Err faults.Node) k tt

  at_meter : (number : ℕ) (f : Node → Step) → ((x : Node) → node_at w number ≡ Some x → Kept (f x)) → Kept (on_meter w number f)
  at_meter number f k = branch (number == 0) (Err faults.Node) (on_node w number f) tt (at_node number f k)

  -- a node's log, and that after a quiet step of it
  here : (number : ℕ) (x : Node) → node_at w number ≡ Some x → NodeIn (beside_at w number).log x
  here number x there = logged_at w.beside w.nodes number x h there

  after_in : {A : Type 0} (v : World) (number : ℕ) (d : NodeStep A) → LogsKept v → NodeIn (beside_at v number).log d.node
      → LogsKept (world_after ciphers v number d)
  unfolding world_after
  after_in v number d k l = set_node v.beside v.nodes number d.node k l

  after_both : {A : Type 0} (v : World) (number : ℕ) (d : NodeStep A) (b : Beside) → LogsKept v → NodeIn b.log d.node
      → LogsKept (set_beside number b (world_after ciphers v number d))
  unfolding world_after
  after_both v number d b k l = set_both v.beside v.nodes number b d.node k l

  -- one node acts, in this world or after another one has acted in it
  quiet_after : {A : Type 0} (v : World) → v.beside ≡ w.beside → LogsKept v → (number : ℕ) (x : Node) → node_at w number ≡ Some x → (d : NodeStep A)
      → Quiet x d.node → LogsKept (world_after ciphers v number d)
  quiet_after v same k number x there d q = after_in v number d k
      (quiet_in _ x d.node q (subst (λ (bs : List Beside). NodeIn (unwrap_or (slice_get bs number) nothing_beside).log x) (sym same) (here number x there)))

  acted_in : (number : ℕ) (x : Node) → node_at w number ≡ Some x → (d : NodeStep Answer) → Quiet x d.node → LogsKept (node_outcome ciphers w number d).0
  acted_in number x there d q = quiet_after (running_world w) refl h number x there d q

  shorts : (number : ℕ) (x : Node) → node_at w number ≡ Some x → (m : Memory) → x.memory ≡ Some m → HasShortTables m.station
  shorts number x there m e = short number x m there e

  -- # Setup

  coordinator_in : (eui : Eui) (key : Key) → Kept (coordinator w eui key)
  unfolding coordinator
  coordinator_in eui key = branch (has_begun w) _ _ tt (one_more w.beside w.nodes nothing_beside _ h
      (quiet_in _ (blank_node Coordinator eui) _ (acts_quiet (blank_node Coordinator eui) (Ok tt) (λ m. coordinator_rules.begin m (first_grant key))
      (λ m e. begins m e)) (blank_in Coordinator eui)))
    where
      begins : (m : Memory) → (blank_node Coordinator eui).memory ≡ Some m → LeavesLog (coordinator_rules.begin m (first_grant key))
      begins m e = subst (λ (n : Memory). LeavesLog (coordinator_rules.begin n (first_grant key))) (same_Some _ _ e)
          ((coordinators_leave_log (record { eui = eui; ciphers = ciphers }) (remembering blank_station [])
          (record { marks = omega arith; ranks = omega arith })).begins (first_grant key))

  meter_in : (eui : Eui) (psk : Key) → Kept (meter w eui psk)
  unfolding meter
  meter_in eui psk = branch (not (takes_setup w) || (nat_lt 999 (length w.nodes) || is_known w eui)) _ _ tt
      (one_more w.beside w.nodes nothing_beside _ h (blank_in (Meter psk) eui))

  depot_by_in : (number : ℕ) (x c : Node) → node_at w number ≡ Some x → node_at w 0 ≡ Some c → (d : NodeStep (Result Granted CoordinatorRefusal))
      → Quiet c d.node → Kept (depot_by ciphers w number x d)
  unfolding world_after
  depot_by_in number x c hx hc d q = by_answer d.answer refl
    where
      provides : (g : Granted) → LogsKept (provisioned ciphers (world_after ciphers (set_up w) 0 (record d { answer = Ok g })) number x g).0
      provides g =
          quiet_after (world_after ciphers (set_up w) 0 (record d { answer = Ok g })) refl (quiet_after (set_up w) refl h 0 c hc (record d { answer = Ok g }) q)
          number x hx (acts x (Ok tt) (λ m. meters.provision m g)) (acts_quiet x (Ok tt) (λ m. meters.provision m g)
          (λ m e. (stations_leave_log m.station (shorts number x hx m e)).installs g))

      by_answer : (r : Result Granted CoordinatorRefusal) → d.answer ≡ r → Kept (depot_by ciphers w number x d)
      by_answer (Ok g) e = rw e (provides g)
      by_answer (Err reason) e = rw e tt

  depot_in : (number : ℕ) → Kept (depot ciphers w number)
  unfolding depot
  depot_in number = setup _ (at_node number _ (λ x hx. at_node 0 _ (λ c hc. branch ((number == 0) || is_some (node_address x)) _ _ tt
      (by_option (λ psk. depot_by ciphers w number x (acts c (Err orders.Halted) (λ m. coordinator_rules.depot m x.eui psk))) (psk_of x) _
      (λ psk pair. depot_by_in number x c hx hc _ (acts_quiet c (Err orders.Halted) (λ m. coordinator_rules.depot m x.eui psk)
      (λ m e. (coordinators_leave_log (record { eui = c.eui; ciphers = ciphers }) m (shorts 0 c hc m e)).depots x.eui psk))) tt))))

  near_quiet : (number : ℕ) (x : Node) → node_at w number ≡ Some x → (to cost now : ℕ) → Quiet x (offered_near x to cost now).node
  near_quiet number x there to cost now = acts_quiet x (Ok tt) (λ m. of_station m (calls.preset_near m.station to cost now))
      (λ m e. (stations_leave_log m.station (shorts number x there m e)).near to cost now)

  near_by_in : (a b cost : ℕ) (x y : Node) → node_at w a ≡ Some x → node_at w b ≡ Some y → (p q : Option ℕ) → Kept (near_by ciphers w a b cost x y p q)
  unfolding world_after
  near_by_in a b cost x y hx hy None q = tt
  near_by_in a b cost x y hx hy (Some p) None = tt
  near_by_in a b cost x y hx hy (Some p) (Some q) = branch ((a == b) || (keeps_rank x q || (ranks_full x || ranks_full y))) (Err faults.Setup)
      (Ok (
        world_after ciphers (world_after ciphers (set_up w) a (offered_near x q cost w.clock)) b (offered_near y p cost w.clock),
        trace_of (happenings w answers.Set),
      )) (tt {0})
      (quiet_after (world_after ciphers (set_up w) a (offered_near x q cost w.clock)) refl
      (quiet_after (set_up w) refl h a x hx (offered_near x q cost w.clock) (near_quiet a x hx q cost w.clock)) b y hy (offered_near y p cost w.clock)
      (near_quiet b y hy p cost w.clock))

  near_in : (a b cost : ℕ) → Kept (near ciphers w a b cost)
  unfolding near
  near_in a b cost = setup _ (at_node a _ (λ x hx. at_node b _ (λ y hy. near_by_in a b cost x y hx hy (node_address x) (node_address y))))

  preset_in : (number : ℕ) (plan : StationMemory → calls.Presetting) → ((l : StationMemory) → HasShortTables l → LeavesLog (plan l))
      → Kept (preset ciphers w number plan)
  preset_in number plan leaves = setup _ (at_node number _ (λ x hx. quiet_after (set_up w) refl h number x hx _
      (acts_quiet x (Ok tt) (λ m. of_station m (plan m.station)) (λ m e. leaves m.station (shorts number x hx m e)))))

  -- # The other kinds

  ordered_in : {A : Type 0} (c : Node) → node_at w 0 ≡ Some c → (plan : Memory → Plan Memory (Result A CoordinatorRefusal))
      → ((m : Memory) → HasShortTables m.station → LeavesLog (plan m)) → Quiet c (acts c (Err orders.Halted) plan).node
  ordered_in c hc plan leaves = acts_quiet c (Err orders.Halted) plan (λ m e. leaves m (shorts 0 c hc m e))

  abbrev own : Node → coordinator_rules.CoordinatorIdentity
  own c = record { eui = c.eui; ciphers = ciphers }

  allow_in : (number : ℕ) → Kept (allow ciphers w number)
  unfolding allow
  allow_in number = once _ (at_meter number _ (λ x hx. at_node 0 _ (λ c hc.
      by_option (λ psk. Ok (allowed ciphers w number (acts c (Err orders.Halted) (λ m. coordinator_rules.allow m x.eui psk)))) (psk_of x) _
      (λ psk pair. quiet_after (running_world w) refl h 0 c hc (acts c (Err orders.Halted) (λ m. coordinator_rules.allow m x.eui psk))
      (ordered_in c hc (λ m. coordinator_rules.allow m x.eui psk) (λ m s. (coordinators_leave_log (own c) m s).allows x.eui psk))) tt)))

  rand_in : (number : ℕ) (value : RandomOctets) → Kept (rand ciphers w number value)
  unfolding rand
  rand_in number value = once _ (at_node number _ (λ x hx. acted_in number x hx _ (acts_quiet x _ _ (λ m e. random_leaves m (shorts number x hx m e) value))))

  meters_quiet : {A : Type 0} (number : ℕ) (x : Node) → node_at w number ≡ Some x → (halted : A) (plan : Memory → Plan Memory A)
      → ((m : Memory) → HasShortTables m.station → LeavesLog (plan m)) → Quiet x (acts x halted plan).node
  meters_quiet number x there halted plan leaves = acts_quiet x halted plan (λ m e. leaves m (shorts number x there m e))

  joins_in : (number : ℕ) (x : Node) → node_at w number ≡ Some x → (agent : Option ℕ) (psk : Option Key) → LogsKept (joins_by ciphers w number x agent psk).0
  joins_in number x there None psk = h
  joins_in number x there (Some agent) None = h
  joins_in number x there (Some agent) (Some psk) = acted_in number x there _
      (meters_quiet number x there _ (λ m. meters.join (identity ciphers x psk) m agent w.clock)
      (λ m s. (meters_leave_log (identity ciphers x psk) m s).joins agent w.clock))

  join_in : (number agent : ℕ) → Kept (join ciphers w number agent)
  unfolding join
  join_in number agent = once _ (at_meter number _ (λ x hx. at_node agent _ (λ y hy. joins_in number x hx (node_address y) (psk_of x))))

  leave_in : (number : ℕ) → Kept (leave ciphers w number)
  unfolding leave
  leave_in number = once _ (at_meter number _ (λ x hx. acted_in number x hx _ (meters_quiet number x hx _ meters.leave (λ m s. leave_leaves m s))))

  sent_in : (from to : ℕ) (datagram : List ℕ) (tag : ℕ) (b : Bool) (r : World × Trace) → LogsKept r.0 → LogsKept (sent_if w from to datagram tag b r).0
  sent_in from to datagram tag false r k = k
  sent_in from to datagram tag true r k = k

  sends_in : (from to : ℕ) (datagram : List ℕ) (x : Node) → node_at w from ≡ Some x → (address : Option ℕ)
      → LogsKept (sends_by ciphers w from to datagram x address).0
  sends_in from to datagram x there None = h
  sends_in from to datagram x there (Some address) = sent_in from to datagram _ _ _
      (acted_in from x there _ (acts_quiet x _ (λ m. of_station m (calls.send m.station address datagram (w.sends + 1) w.clock))
      (λ m e. (stations_leave_log m.station (shorts from x there m e)).sends address datagram (w.sends + 1) w.clock)))

  send_in : (from to : ℕ) (datagram : List ℕ) → Kept (send ciphers w from to datagram)
  unfolding send
  send_in from to datagram = once _ (at_node from _ (λ x hx. at_node to _ (λ y hy. sends_in from to datagram x hx (node_address y))))

  breaks_in : (number : ℕ) (x : Node) → node_at w number ≡ Some x → (next : Option ℕ) → LogsKept (breaks_by ciphers w number x next).0
  unfolding resting
  breaks_in number x there None = h
  breaks_in number x there (Some next) = acted_in number x there _ (acts_quiet x _ _ (λ m e. All-nil IsBesideLog))

  break_in : (number next : ℕ) → Kept (breaks ciphers w number next)
  unfolding breaks
  break_in number next = once _ (at_node number _ (λ x hx. at_node next _ (λ y hy. breaks_in number x hx (node_address y))))

  at_flight : (number : ℕ) (f : Flight → Step) → ((x : Flight) → flight_at w number ≡ Some x → Kept (f x)) → Kept (on_flight w number f)
  at_flight number f k = by_flight (flight_at w number) refl
    where
      by_flight : (o : Option Flight) → flight_at w number ≡ o → Kept (option_map_or (λ x. if x.lost then Err faults.Flight else f x) o (Err faults.Flight))
      by_flight None e = tt
      by_flight (Some x) e = branch x.lost _ _ tt (k x e)

  lose_in : (number : ℕ) → Kept (lose w number)
  unfolding lose
  lose_in number = once _ (at_flight number _ (λ f e. h))

  ticked_in : (now : ℕ) (b : Beside) (x : Node) → NodeIn b.log x → NodeIn (tick_beside now b).log (ticked now x)
  ticked_in now b x k = by_role x.role x.memory k
    where
      by_role : (r : Role) (o : Option Memory) → LogIn b.log x.store.records o
          → LogIn b.log x.store.records (ticked now (record x { role = r; memory = o })).memory
      by_role Coordinator None k = k
      by_role (Meter psk) None k = k
      by_role Coordinator (Some m) k = k
      by_role (Meter psk) (Some m) k = k

  ticks_in : (seconds : ℕ) → Kept (ticks w seconds)
  unfolding ticks tick
  ticks_in seconds = by_start (has_begun w)
    where
      by_start : (b : Bool) → Kept (after_ok (λ r. (record r.0 { beside = map (tick_beside (w.clock + seconds)) w.beside }, r.1))
          (if b then Ok (
            record (running_world w) { clock = w.clock + seconds; nodes = map (ticked (w.clock + seconds)) w.nodes },
            trace_of (happenings w answers.Ticked),
          )
          else Err faults.Setup))
      by_start true = all_changed (tick_beside (w.clock + seconds)) (ticked (w.clock + seconds)) (ticked_in (w.clock + seconds)) w.beside w.nodes h
      by_start false = tt

  cut_in : (number nth : ℕ) (keeps_new : Bool) → Kept (cut ciphers w number nth keeps_new)
  unfolding cut
  cut_in number nth keeps_new = once _ (at_node number _ (λ x hx. acted_in number x hx _ (record { same = λ slot is. refl; down = λ e. e })))

  show_in : (number : ℕ) → Kept (show w number)
  unfolding show
  show_in number = once _ (at_node number _ (λ x hx. h))

  rekey_in : (index : ℕ) (key : Key) → Kept (rekey ciphers w index key)
  unfolding rekey
  rekey_in index key = once _ (at_node 0 _
      (λ c hc. acted_in 0 c hc _ (ordered_in c hc (λ m. coordinator_rules.rekey m index key) (λ m s. (coordinators_leave_log (own c) m s).rekeys index key))))

  challenge_in : (number : ℕ) → Kept (challenge ciphers w number)
  unfolding challenge
  challenge_in number = once _ (at_meter number _ (λ x hx. at_node 0 _
      (λ c hc. acted_in 0 c hc _ (ordered_in c hc (λ m. coordinator_rules.challenge c.eui m x.eui w.clock)
      (λ m s. (coordinators_leave_log (own c) m s).challenges x.eui w.clock)))))

  either_in : (b : Bool) (p q : World × Trace) → LogsKept p.0 → LogsKept q.0 → LogsKept (if b then p else q).0
  either_in true p q g k = g
  either_in false p q g k = k

  activates_in : (number index : ℕ) (x c : Node) → node_at w 0 ≡ Some c → LogsKept (activate_at ciphers w number index x c).0
  activates_in number index x c hc = either_in (number == 0) _ _
      (acted_in 0 c hc _ (ordered_in c hc (λ m. coordinator_rules.activate_self m index) (λ m s. (coordinators_leave_log (own c) m s).seals_with index)))
      (acted_in 0 c hc _ (ordered_in c hc (λ m. coordinator_rules.activate m x.eui index w.clock)
      (λ m s. (coordinators_leave_log (own c) m s).activates x.eui index w.clock)))

  activate_in : (number index : ℕ) → Kept (activate ciphers w number index)
  unfolding activate
  activate_in number index = once _ (at_node number _ (λ x hx. at_node 0 _ (λ c hc. activates_in number index x c hc)))

  kick_in : (number : ℕ) → Kept (kick ciphers w number)
  unfolding kick
  kick_in number = once _ (at_meter number _ (λ x hx. at_node 0 _
      (λ c hc. acted_in 0 c hc _ (ordered_in c hc (λ m. coordinator_rules.kick m x.eui) (λ m s. (coordinators_leave_log (own c) m s).kicks x.eui)))))

  -- # Further reach

  checks_in : Kept (checks w)
  unfolding checks
  checks_in = setup _ (branch w.checks_on _ _ tt h)

  bcast_in : (number : ℕ) (datagram : List ℕ) → Kept (bcast ciphers w number datagram)
  unfolding bcast
  bcast_in number datagram = once _
      (at_node number _ (λ x hx. after_both (running_world w) number
      (reaches x (beside_at w number) (Err broadcasts.Halted) (λ y. broadcast in_memory y datagram)) _ h
      (further_in x (beside_at w number) (Err broadcasts.Halted) (λ y. broadcast in_memory y datagram)
      (λ m e. (broadcast_leads m (beside_at w number) datagram).leads) (here number x hx))))

  asks_in : (number : ℕ) (x : Node) → node_at w number ≡ Some x → (target : Option ℕ) → LogsKept (asks_by ciphers w number x target).0
  asks_in number x hx None = h
  asks_in number x hx (Some target) =
      after_both (running_world w) number (reaches x (beside_at w number) (Err asks.Halted) (λ y. ask_path in_memory y target)) _ h
      (further_in x (beside_at w number) (Err asks.Halted) (λ y. ask_path in_memory y target) (λ m e. (asks_lead m (beside_at w number) target).leads)
      (here number x hx))

  path_in : (from to : ℕ) → Kept (path ciphers w from to)
  unfolding path
  path_in from to = once _ (at_node from _ (λ x hx. at_node to _ (λ y hy. asks_in from x hx (node_address y))))

  scans_in : (number : ℕ) (o : Option Memory) → LogsKept (scans_by w number o).0
  scans_in number None = h
  scans_in number (Some m) = set_aside w.beside w.nodes number _ h refl

  scan_in : (number : ℕ) → Kept (scan w number)
  unfolding scan
  scan_in number = once _ (at_meter number _ (λ x hx. scans_in number x.memory))

  chooses_in : (number : ℕ) (x : Node) → node_at w number ≡ Some x → (k : ℕ) (psk : Option Key) → LogsKept (chooses_by ciphers w number x k psk).0
  chooses_in number x hx k None = h
  chooses_in number x hx k (Some psk) =
      after_both (running_world w) number (reaches x (beside_at w number) (Err choices.Halted) (λ y. choose_agent (identity ciphers x psk) y k w.clock)) _ h
      (further_in x (beside_at w number) (Err choices.Halted) (λ y. choose_agent (identity ciphers x psk) y k w.clock)
      (λ m e. (chooses_lead m (beside_at w number) (identity ciphers x psk) (shorts number x hx m e) k w.clock).leads) (here number x hx))

  choose_in : (number k : ℕ) → Kept (choose ciphers w number k)
  unfolding choose
  choose_in number k = once _ (at_meter number _ (λ x hx. chooses_in number x hx k (psk_of x)))

  discovers_in : (number : ℕ) (x : Node) (octets : List ℕ) (link : ℕ) (o : Option Memory) → LogsKept (discovers_by w number x octets link o).0
  discovers_in number x octets link None = h
  discovers_in number x octets link (Some m) = set_aside w.beside w.nodes number _ h refl

  hears_quiet : (y : Node) → ((m : Memory) → y.memory ≡ Some m → HasShortTables m.station) → (got : Accepted) (cost note now : ℕ)
      → Quiet y (hearing_step ciphers y got cost note now).node
  hears_quiet y has got cost note now = by_role y.role
    where
      hears_as : Role → NodeStep Reception
      hears_as Coordinator = answering coordinator_reception
          (acts y (Err drops.Store) (λ m. coordinator_rules.hear_coordinator (record { eui = y.eui; ciphers = ciphers }) m got cost note now))
      hears_as (Meter psk) = answering meter_reception (acts y (Err drops.Store) (λ m. meters.hear_meter (identity ciphers y psk) m got cost note now))

      by_role : (r : Role) → Quiet y (hears_as r).node
      by_role Coordinator = acts_quiet y (Err drops.Store) (λ m. coordinator_rules.hear_coordinator (record { eui = y.eui; ciphers = ciphers }) m got cost note
          now) (λ m e. (coordinators_leave_log (record { eui = y.eui; ciphers = ciphers }) m (has m e)).hears got cost note now)
      by_role (Meter psk) = acts_quiet y (Err drops.Store) (λ m. meters.hear_meter (identity ciphers y psk) m got cost note now)
          (λ m e. (meters_leave_log (identity ciphers y psk) m (has m e)).hears got cost note now)

  -- a node of the line that has accepted octets
  module _ (number : ℕ) (x y : Node) (there : node_at w number ≡ Some x) (first : Quiet x y) (has : (m : Memory) → y.memory ≡ Some m → HasShortTables m.station)
      (octets : List ℕ) where
    received_in : (forged : Bool) (d : NodeStep Reception) → Quiet y d.node → LogsKept (received ciphers w number forged d).0
    received_in forged d q = quiet_after (running_world w) refl h number x there d (quiet_on x y d.node first q)

    heard_in : (got : Accepted) (cost : ℕ) → LogsKept (hearing_outcome ciphers w number y octets got cost).0
    heard_in got cost = received_in (forged_by w octets got.path
        || list_any (is_forged_tag w.made) (hearing_step ciphers y got cost (note_by w octets got.path) w.clock).opened)
        (hearing_step ciphers y got cost (note_by w octets got.path) w.clock) (hears_quiet y has got cost (note_by w octets got.path) w.clock)

    commanded_in : (got : Accepted) (cost : ℕ) (c : NeighbourCommand) → AreOctets c.body
        → LogsKept (commanded ciphers number (hearing_step ciphers y got cost (note_by w octets got.path) w.clock).node c
        (hearing_outcome ciphers w number y octets got cost)).0
    unfolding world_after
    commanded_in got cost c are =
        let z : Node = (hearing_step ciphers y got cost (note_by w octets got.path) w.clock).node in
        let q : Quiet x z = quiet_on x y z first (hears_quiet y has got cost (note_by w octets got.path) w.clock) in
        after_both (hearing_outcome ciphers w number y octets got cost).0 number
        (reaches z (beside_at w number) (Err (reach_drops.Known drops.Store)) (λ r. hear_command in_memory r c)) _ (heard_in got cost)
        (further_in z (beside_at w number) (Err (reach_drops.Known drops.Store)) (λ r. hear_command in_memory r c)
        (λ m e. (command_leads m (beside_at w number) c are).leads) (quiet_in _ x z q (here number x there)))

    checked_in : (got : Accepted) (cost : ℕ)
        → LogsKept (checked ciphers w number got (hearing_step ciphers y got cost (note_by w octets got.path) w.clock)
        (hearing_outcome ciphers w number y octets got cost)).0
    unfolding world_after
    checked_in got cost = by_due (due got.path (message_of got) (hearing_step ciphers y got cost (note_by w octets got.path) w.clock).answer.answer)
      where
        z : Node
        z = (hearing_step ciphers y got cost (note_by w octets got.path) w.clock).node

        quiet : Quiet x z
        quiet = quiet_on x y z first (hears_quiet y has got cost (note_by w octets got.path) w.clock)

        b : Beside
        b = record (beside_at w number) {
          checks = checks_after (beside_at w number).checks (reply_among (hearing_step ciphers y got cost (note_by w octets got.path) w.clock).frames)
              w.clock;
        }

        r : World × Trace
        r = with_check w number (reply_among (hearing_step ciphers y got cost (note_by w octets got.path) w.clock).frames)
            (hearing_outcome ciphers w number y octets got cost)

        heard_nodes : List Node
        heard_nodes = slice_set w.nodes number z

        before : AreLogged w.beside heard_nodes
        before = heard_in got cost

        by_due : (o : Option Reply) → LogsKept (acknowledged_if ciphers w number z o r).0
        by_due None = set_aside w.beside heard_nodes number b before refl
        by_due (Some reply) =
            let a = acknowledging z reply in
            let q : Quiet z a.node = acts_quiet z (Err locals.Store) (λ m. acknowledges in_memory reply.to reply.number reply.origin m)
            (λ m e. acknowledging_leaves m reply) in
            let l : NodeIn (beside_at w number).log a.node = quiet_in _ x a.node (quiet_on x z a.node quiet q) (here number x there) in
            either_in (is_some a.node.memory) _ _ (set_both w.beside heard_nodes number b a.node before l)
            (set_node w.beside heard_nodes number a.node before l)

    heard_by_in : (got : Accepted) (cost : ℕ) (o : Option NeighbourCommand) → ((c : NeighbourCommand) → o ≡ Some c → AreOctets c.body)
        → LogsKept (hearing_outcome_by ciphers w number y octets got cost o).0
    heard_by_in got cost None are = either_in w.checks_on _ _ (checked_in got cost) (heard_in got cost)
    heard_by_in got cost (Some c) are = commanded_in got cost c (are c refl)

    further_heard : (got : Accepted) (cost : ℕ) → ((c : NeighbourCommand) → command_of got ≡ Some c → AreOctets c.body)
        → LogsKept (further_hearing_outcome ciphers w number y octets got cost).0
    further_heard got cost are = either_in (is_dropped w number got) _ _
        (received_in (forged_by w octets got.path) (stays y (only answers.Blacklisted)) (quiet_same y)) (heard_by_in got cost (command_of got) are)

  comes_in : (number : ℕ) (x : Node) (octets : List ℕ) (cost : ℕ) → node_at w number ≡ Some x
      → ((got : Accepted) (c : NeighbourCommand) → (accepting ciphers x octets).answer ≡ Ok got → command_of got ≡ Some c → AreOctets c.body)
      → LogsKept (comes ciphers w number x octets cost).0
  unfolding comes world_after
  comes_in number x octets cost there are =
      either_in (is_discovery octets) _ _ (discovers_in number x octets cost x.memory) (accepted_in (accepting ciphers x octets) quiet has are)
    where
      quiet : Quiet x (accepting ciphers x octets).node
      quiet = acts_quiet x (Err frames.Halted) (λ m. of_station m (accept m.station x.eui (arrived ciphers octets)))
          (λ m e. (stations_leave_log m.station (shorts number x there m e)).accepts x.eui (arrived ciphers octets))

      has : (m : Memory) → (accepting ciphers x octets).node.memory ≡ Some m → HasShortTables m.station
      has = acts_short x (Err frames.Halted) (λ m. of_station m (accept m.station x.eui (arrived ciphers octets)))
          (λ m e. accept_short m.station (shorts number x there m e) x.eui (arrived ciphers octets))

      accepted_in : (d : NodeStep (Result Accepted FrameRefusal)) → Quiet x d.node → ((m : Memory) → d.node.memory ≡ Some m → HasShortTables m.station)
          → ((got : Accepted) (c : NeighbourCommand) → d.answer ≡ Ok got → command_of got ≡ Some c → AreOctets c.body)
          → LogsKept (accepted_further ciphers w number octets cost d).0
      accepted_in d q s o = by_answer d.answer refl
        where
          by_answer : (r : Result Accepted FrameRefusal) → d.answer ≡ r → LogsKept (accepted_further ciphers w number octets cost d).0
          by_answer (Ok got) e = rw e (further_heard number x d.node there q s octets got cost (λ c is. o got c e is))
          by_answer (Err reason) e = rw e (quiet_after (running_world w) refl h number x there d q)

  delivers_in : (flight number cost : ℕ) → CommandsAreOctets ciphers w (events.Deliver flight number cost) → Kept (delivers ciphers w flight number cost)
  unfolding delivers
  delivers_in flight number cost are = once _ (at_node number _ (λ x hx. at_flight flight _
      (λ f e. comes_in number x f.octets cost hx (λ got c is has. are number x f.octets got c hx (OfFlight flight number cost f e) is has))))

  injects_in : (number cost : ℕ) (octets : List ℕ) → CommandsAreOctets ciphers w (events.Inject number cost octets)
      → Kept (injects ciphers w number cost octets)
  unfolding injects
  injects_in number cost octets are =
      once _ (at_node number _ (λ x hx. comes_in number x octets cost hx (λ got c is has. are number x octets got c hx (OfScript number cost octets) is has)))

  restarts_in : (number : ℕ) (x : Node) → node_at w number ≡ Some x → (o : Result Beside BadStore) → restarted x.store.records ≡ o
      → LogsKept (restarts_by ciphers w number x o).0
  restarts_in number x there (Ok b) e =
      after_both (running_world w) number (restarts x) b h (restart_in (beside_at w number).log x b (restarts x).node.memory (here number x there) e)
  restarts_in number x there (Err bad) e =
      after_both (running_world w) number (stays (record x { memory = None }) answers.BadStore) nothing_beside h
      (halted_in (beside_at w number).log x (here number x there))

  restart_kept : (number : ℕ) → Kept (restarts_further ciphers w number)
  unfolding restarts_further
  restart_kept number = once _ (at_node number _ (λ x hx. restarts_in number x hx (restarted x.store.records) refl))

  line_in : (event : Event) → CommandsAreOctets ciphers w event → Kept (line_step ciphers w event)
  line_in (events.Coordinator eui key) are = coordinator_in eui key
  line_in (events.Meter eui psk) are = meter_in eui psk
  line_in (events.Depot node) are = depot_in node
  line_in (events.Near a b cost) are = near_in a b cost
  line_in (events.Counter node value) are = preset_in node _ (λ l s. (stations_leave_log l s).counter value)
  line_in (events.Number node value) are = preset_in node _ (λ l s. (stations_leave_log l s).number value)
  line_in (events.Allow node) are = allow_in node
  line_in (events.RandomOctets node value) are = rand_in node value
  line_in (events.Join node agent) are = join_in node agent
  line_in (events.Leave node) are = leave_in node
  line_in (events.Send from to datagram) are = send_in from to datagram
  line_in (events.Deliver flight node cost) are = delivers_in flight node cost are
  line_in (events.Inject node cost octets) are = injects_in node cost octets are
  line_in (events.Lose flight) are = lose_in flight
  line_in (events.Break node next) are = break_in node next
  line_in (events.Tick seconds) are = ticks_in seconds
  line_in (events.Restart node) are = restart_kept node
  line_in (events.Cut node nth keeps_new) are = cut_in node nth keeps_new
  line_in (events.Rekey index key) are = rekey_in index key
  line_in (events.Challenge node) are = challenge_in node
  line_in (events.Activate node index) are = activate_in node index
  line_in (events.Kick node) are = kick_in node
  line_in (events.Show node) are = show_in node
  line_in events.Checks are = checks_in
  line_in (events.Bcast node datagram) are = bcast_in node datagram
  line_in (events.Scan node) are = scan_in node
  line_in (events.Choose node k) are = choose_in node k
  line_in (events.Path from to) are = path_in from to

pub logs_kept : LineStepsKeepLogs
logs_kept ciphers w v event d short are h e = subst Kept e (line_in ciphers w short h event are)

pub kept_at_first : LogsKeptAtFirst
kept_at_first = tt
