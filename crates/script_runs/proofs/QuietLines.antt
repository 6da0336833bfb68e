-- Which lines do nothing: those that are quiet. By the rules no event is refused for memory.
use Rattle.std.proofs.Common.{◌≡◌, ℕ, ◌+◌, Bool, true, false, List, Option, Some, None, Result, Ok, Err, refl}
use Rattle.std.specs.Prelude.{if◌then◌else◌, ◌||◌, ◌==◌, not, is_some, nat_lt, length}
use Rattle.std.specs.Option.{option_map_or}
use Rattle.plc_base.specs.declared.address.Eui.{Eui}
use Rattle.plc_base.specs.declared.key.Key.{Key}
use Rattle.plc_base.specs.declared.key.RandomOctets.{RandomOctets}
use Rattle.plc_base.specs.Grant.{Granted}
use Rattle.script_lines.specs.Lines.{Text}
use Rattle.line_events.specs.declared.event.Event.{Event}
use Rattle.line_events.specs.declared.event.Event.TheVariants as events
use Rattle.line_events.specs.declared.event.StepFault.TheVariants as faults
use Rattle.line_events.specs.declared.event.TheConstants.{MAX_EVENTS}
use Rattle.node_rules.specs.declared.refusal.CoordinatorRefusal.{CoordinatorRefusal}
use Rattle.node_rules.specs.declared.refusal.CoordinatorRefusal.TheVariants as orders
use Rattle.node_rules.specs.Ciphers.{Ciphers, network}
use Rattle.node_rules.specs.Coordinators as coordinator_rules
use Rattle.node_rules.specs.Memory.{StationMemory, Node, Meter, node_address}
use Rattle.node_rules.specs.Calls.{Presetting}
use Rattle.node_rules.specs.NodeSteps.{NodeStep, acts}
use Rattle.line_rules.specs.Worlds.{World, Flight, Trace, node_at, flight_at}
use Rattle.line_rules.specs.Steps.{Step, once_begun, in_setup, has_begun, takes_setup, on_node, on_meter, on_flight, psk_of, made_node, is_known}
use Rattle.line_rules.specs.Steps.{blank_node, coordinator_node, coordinator, meter, depot, depot_by, near, near_by, preset, allow, rand, join, leave, send}
use Rattle.line_rules.specs.Steps.{breaks, lose, tick, cut, show, rekey, challenge, activate, kick}
use Rattle.line_rules.specs.Runs.{Entry}
use Rattle.line_rules.specs.Further.{checks, bcast, path, scan, choose, delivers, injects, after_ok, ticks, restarts_further, line_step}
use Rattle.line_script.specs.declared.reading.Reading.{Reading}
use Rattle.line_script.specs.declared.reading.Reading.TheVariants.{Quiet, NoForm, Reads}
use Rattle.line_script.specs.declared.report.Reason.{Reason}
use Rattle.line_script.specs.declared.report.Reason.TheVariants as reasons
use Rattle.line_script.specs.LineReader.{reading}
use Rattle.script_runs.specs.TakenLines.{Skipped, Taken, Refused, step_taking, reading_taking, taking}

-- # No event needs memory

-- a step is taken, or refused, and not for memory
data NeedsNone : Step → Type 0 where
  IsTaken : (r : World × Trace) → NeedsNone (Ok r)
  NoSetup : NeedsNone (Err faults.Setup)
  NoNode : NeedsNone (Err faults.Node)
  NoFlight : NeedsNone (Err faults.Flight)

branch : (b : Bool) (s t : Step) → NeedsNone s → NeedsNone t → NeedsNone (if b then s else t)
branch true s t one other = one
branch false s t one other = other

by_option : {A : Type 0} (f : A → Step) (o : Option A) (s : Step) → ((a : A) → NeedsNone (f a)) → NeedsNone s → NeedsNone (option_map_or f o s)
by_option f None s all none = none
by_option f (Some a) s all none = all a

module _ (w : World) where
  once : (s : Step) → NeedsNone s → NeedsNone (once_begun w s)
  once s is = branch (has_begun w) s (Err faults.Setup) is NoSetup

  setup : (s : Step) → NeedsNone s → NeedsNone (in_setup w s)
  setup s is = branch (takes_setup w) s (Err faults.Setup) is NoSetup

  at_node : (number : ℕ) (f : Node → Step) → ((x : Node) → NeedsNone (f x)) → NeedsNone (on_node w number f)
  at_node number f all = by_option f (node_at w number) (Err faults.Node) all NoNode

  at_meter : (number : ℕ) (f : Node → Step) → ((x : Node) → NeedsNone (f x)) → NeedsNone (on_meter w number f)
  at_meter number f all = branch (number == 0) (Err faults.Node) (on_node w number f) NoNode (at_node number f all)

  at_flight : (number : ℕ) (step : Flight → Step) → ((f : Flight) → NeedsNone (step f)) → NeedsNone (on_flight w number step)
  at_flight number step all =
      by_option (λ (f : Flight). if f.lost then Err faults.Flight else step f) (flight_at w number) (Err faults.Flight)
      (λ f. branch f.lost (Err faults.Flight) (step f) NoFlight (all f)) NoFlight

  -- # Setup

  coordinator_needs : (eui : Eui) (key : Key) → NeedsNone (coordinator w eui key)
  unfolding coordinator
  coordinator_needs eui key = branch (has_begun w) (Err faults.Setup) (Ok (made_node w (coordinator_node eui key))) NoSetup (IsTaken _)

  meter_needs : (eui : Eui) (psk : Key) → NeedsNone (meter w eui psk)
  unfolding meter
  meter_needs eui psk =
      branch (not (takes_setup w) || (nat_lt 999 (length w.nodes) || is_known w eui)) (Err faults.Setup) (Ok (made_node w (blank_node (Meter psk) eui))) NoSetup
      (IsTaken _)

  checks_need : NeedsNone (checks w)
  unfolding checks
  checks_need = setup _ (branch w.checks_on _ _ NoSetup (IsTaken _))

  module _ (ciphers : Ciphers) where
    depot_by_needs : (number : ℕ) (x : Node) (d : NodeStep (Result Granted CoordinatorRefusal)) → NeedsNone (depot_by ciphers w number x d)
    depot_by_needs number x d = by_answer d.answer refl
      where
        by_answer : (r : Result Granted CoordinatorRefusal) → d.answer ≡ r → NeedsNone (depot_by ciphers w number x d)
        by_answer (Ok g) e = rw e (IsTaken _)
        by_answer (Err reason) e = rw e NoSetup

    depot_needs : (number : ℕ) → NeedsNone (depot ciphers w number)
    unfolding depot
    depot_needs number =
        setup _ (at_node number _ (λ x. at_node 0 _ (λ c. branch ((number == 0) || is_some (node_address x)) _ _ NoSetup
        (by_option (λ psk. depot_by ciphers w number x (acts c (Err orders.Halted) (λ m. coordinator_rules.depot m x.eui psk))) (psk_of x) (Err faults.Setup)
        (λ psk. depot_by_needs number x (acts c (Err orders.Halted) (λ m. coordinator_rules.depot m x.eui psk))) NoSetup))))

    near_by_needs : (a b cost : ℕ) (x y : Node) (p q : Option ℕ) → NeedsNone (near_by ciphers w a b cost x y p q)
    near_by_needs a b cost x y None q = NoSetup
    near_by_needs a b cost x y (Some p) None = NoSetup
    near_by_needs a b cost x y (Some p) (Some q) = branch _ _ _ NoSetup (IsTaken _)

    near_needs : (a b cost : ℕ) → NeedsNone (near ciphers w a b cost)
    unfolding near
    near_needs a b cost = setup _ (at_node a _ (λ x. at_node b _ (λ y. near_by_needs a b cost x y (node_address x) (node_address y))))

    preset_needs : (number : ℕ) (plan : StationMemory → Presetting) → NeedsNone (preset ciphers w number plan)
    preset_needs number plan = setup _ (at_node number _ (λ x. IsTaken _))

    -- # Calls

    allow_needs : (number : ℕ) → NeedsNone (allow ciphers w number)
    unfolding allow
    allow_needs number = once _ (at_meter number _ (λ x. at_node 0 _ (λ c. by_option _ (psk_of x) (Err faults.Node) (λ psk. IsTaken _) NoNode)))

    rand_needs : (number : ℕ) (value : RandomOctets) → NeedsNone (rand ciphers w number value)
    unfolding rand
    rand_needs number value = once _ (at_node number _ (λ x. IsTaken _))

    join_needs : (number agent : ℕ) → NeedsNone (join ciphers w number agent)
    unfolding join
    join_needs number agent = once _ (at_meter number _ (λ x. at_node agent _ (λ y. IsTaken _)))

    leave_needs : (number : ℕ) → NeedsNone (leave ciphers w number)
    unfolding leave
    leave_needs number = once _ (at_meter number _ (λ x. IsTaken _))

    send_needs : (from to : ℕ) (datagram : List ℕ) → NeedsNone (send ciphers w from to datagram)
    unfolding send
    send_needs from to datagram = once _ (at_node from _ (λ x. at_node to _ (λ y. IsTaken _)))

    breaks_need : (number next : ℕ) → NeedsNone (breaks ciphers w number next)
    unfolding breaks
    breaks_need number next = once _ (at_node number _ (λ x. at_node next _ (λ y. IsTaken _)))

    cut_needs : (number nth : ℕ) (keeps_new : Bool) → NeedsNone (cut ciphers w number nth keeps_new)
    unfolding cut
    cut_needs number nth keeps_new = once _ (at_node number _ (λ x. IsTaken _))

    restarts_need : (number : ℕ) → NeedsNone (restarts_further ciphers w number)
    unfolding restarts_further
    restarts_need number = once _ (at_node number _ (λ x. IsTaken _))

    rekey_needs : (index : ℕ) (key : Key) → NeedsNone (rekey ciphers w index key)
    unfolding rekey
    rekey_needs index key = once _ (at_node 0 _ (λ c. IsTaken _))

    challenge_needs : (number : ℕ) → NeedsNone (challenge ciphers w number)
    unfolding challenge
    challenge_needs number = once _ (at_meter number _ (λ x. at_node 0 _ (λ c. IsTaken _)))

    activate_needs : (number index : ℕ) → NeedsNone (activate ciphers w number index)
    unfolding activate
    activate_needs number index = once _ (at_node number _ (λ x. at_node 0 _ (λ c. IsTaken _)))

    kick_needs : (number : ℕ) → NeedsNone (kick ciphers w number)
    unfolding kick
    kick_needs number = once _ (at_meter number _ (λ x. at_node 0 _ (λ c. IsTaken _)))

    -- # What comes, and further reach

    delivers_need : (flight number cost : ℕ) → NeedsNone (delivers ciphers w flight number cost)
    unfolding delivers
    delivers_need flight number cost = once _ (at_node number _ (λ x. at_flight flight _ (λ f. IsTaken _)))

    injects_need : (number cost : ℕ) (octets : List ℕ) → NeedsNone (injects ciphers w number cost octets)
    unfolding injects
    injects_need number cost octets = once _ (at_node number _ (λ x. IsTaken _))

    bcast_needs : (number : ℕ) (datagram : List ℕ) → NeedsNone (bcast ciphers w number datagram)
    unfolding bcast
    bcast_needs number datagram = once _ (at_node number _ (λ x. IsTaken _))

    choose_needs : (number k : ℕ) → NeedsNone (choose ciphers w number k)
    unfolding choose
    choose_needs number k = once _ (at_meter number _ (λ x. IsTaken _))

    path_needs : (from to : ℕ) → NeedsNone (path ciphers w from to)
    unfolding path
    path_needs from to = once _ (at_node from _ (λ x. at_node to _ (λ y. IsTaken _)))

  -- # The line

  lose_needs : (number : ℕ) → NeedsNone (lose w number)
  unfolding lose
  lose_needs number = once _ (at_flight number _ (λ f. IsTaken _))

  tick_needs : (seconds : ℕ) → NeedsNone (tick w seconds)
  unfolding tick
  tick_needs seconds = once _ (IsTaken _)

  after_needs : (more : World × Trace → World × Trace) (s : Step) → NeedsNone s → NeedsNone (after_ok more s)
  after_needs more (Ok r) is = IsTaken (more r)
  after_needs more (Err fault) is = is

  ticks_need : (seconds : ℕ) → NeedsNone (ticks w seconds)
  unfolding ticks
  ticks_need seconds = after_needs _ (tick w seconds) (tick_needs seconds)

  show_needs : (number : ℕ) → NeedsNone (show w number)
  unfolding show
  show_needs number = once _ (at_node number _ (λ x. IsTaken _))

  scan_needs : (number : ℕ) → NeedsNone (scan w number)
  unfolding scan
  scan_needs number = once _ (at_meter number _ (λ x. IsTaken _))

  step_needs : (ciphers : Ciphers) (event : Event) → NeedsNone (line_step ciphers w event)
  step_needs ciphers (events.Coordinator eui key) = coordinator_needs eui key
  step_needs ciphers (events.Meter eui psk) = meter_needs eui psk
  step_needs ciphers (events.Depot node) = depot_needs ciphers node
  step_needs ciphers (events.Near a b cost) = near_needs ciphers a b cost
  step_needs ciphers (events.Counter node value) = preset_needs ciphers node _
  step_needs ciphers (events.Number node value) = preset_needs ciphers node _
  step_needs ciphers (events.Allow node) = allow_needs ciphers node
  step_needs ciphers (events.RandomOctets node value) = rand_needs ciphers node value
  step_needs ciphers (events.Join node agent) = join_needs ciphers node agent
  step_needs ciphers (events.Leave node) = leave_needs ciphers node
  step_needs ciphers (events.Send from to datagram) = send_needs ciphers from to datagram
  step_needs ciphers (events.Deliver flight node cost) = delivers_need ciphers flight node cost
  step_needs ciphers (events.Inject node cost octets) = injects_need ciphers node cost octets
  step_needs ciphers (events.Lose flight) = lose_needs flight
  step_needs ciphers (events.Break node next) = breaks_need ciphers node next
  step_needs ciphers (events.Tick seconds) = ticks_need seconds
  step_needs ciphers (events.Restart node) = restarts_need ciphers node
  step_needs ciphers (events.Cut node nth keeps_new) = cut_needs ciphers node nth keeps_new
  step_needs ciphers (events.Rekey index key) = rekey_needs ciphers index key
  step_needs ciphers (events.Challenge node) = challenge_needs ciphers node
  step_needs ciphers (events.Activate node index) = activate_needs ciphers node index
  step_needs ciphers (events.Kick node) = kick_needs ciphers node
  step_needs ciphers (events.Show node) = show_needs node
  step_needs ciphers events.Checks = checks_need
  step_needs ciphers (events.Bcast node datagram) = bcast_needs ciphers node datagram
  step_needs ciphers (events.Scan node) = scan_needs node
  step_needs ciphers (events.Choose node k) = choose_needs ciphers node k
  step_needs ciphers (events.Path from to) = path_needs ciphers from to

-- # What is skipped

not_skipped : (x : Entry) → Taken x ≡ Skipped → ⊥
not_skipped x is = cc

not_quiet : (reason : Reason) → Refused reason ≡ Skipped → ⊥
not_quiet reason is = cc

taken_is : (w : World) (event : Event) (s : Step) → NeedsNone s → step_taking w event s ≡ Skipped → ⊥
taken_is w event (Ok r) none is = not_skipped (record { number = w.events + 1; event = event; trace = r.1; after = r.0 }) is
taken_is w event (Err faults.Memory) none is = elim none [ ]
taken_is w event (Err faults.Setup) NoSetup is = not_quiet reasons.Setup is
taken_is w event (Err faults.Node) NoNode is = not_quiet reasons.Node is
taken_is w event (Err faults.Flight) NoFlight is = not_quiet reasons.Flight is

room_is : (w : World) (event : Event) (b : Bool)
    → (if b then step_taking w event (line_step network w event) else Refused reasons.Events) ≡ Skipped → ⊥
room_is w event true is = taken_is w event (line_step network w event) (step_needs w network event) is
room_is w event false is = not_quiet reasons.Events is

quiet_by : (w : World) (r : Reading) → reading_taking w r ≡ Skipped → r ≡ Quiet
quiet_by w Quiet is = refl
quiet_by w NoForm is = absurd (not_quiet reasons.Form is)
quiet_by w (Reads event) is = absurd (room_is w event (nat_lt w.events MAX_EVENTS) is)

-- a line that does nothing is quiet
pub is_quiet : (w : World) (octets : List ℕ) → taking w (Text octets) ≡ Skipped → reading octets ≡ Quiet
unfolding taking
is_quiet w octets is = quiet_by w (reading octets) is
