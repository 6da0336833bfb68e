-- What each kind of event makes of the flights: it adds to them, and `lose` alone changes one.
use Rattle.std.proofs.Common.{◌≡◌, ◌≢◌, ℕ, zero, suc, ◌+◌, ◌-◌, ◌==◌, Bool, true, false, not, List, [], ◌∷◌, ◌++◌, length, map, Option, Some, None, Result}
use Rattle.std.proofs.Common.{Ok, Err}
use Rattle.std.proofs.Common.{refl, sym, ap, subst, ◌∙◌, arith}
use Rattle.std.specs.Prelude.{if◌then◌else◌, is_some, nat_lt, ◌||◌, slice_get, slice_set}
use Rattle.std.proofs.lemmas.Bool.{eqb-true, eqb-false}
use Rattle.std.proofs.lemmas.List.{append_assoc, append-nil}
use Rattle.plc_base.specs.declared.address.Eui.{Eui}
use Rattle.plc_base.specs.declared.key.Key.{Key}
use Rattle.plc_base.specs.declared.key.RandomOctets.{RandomOctets}
use Rattle.plc_base.specs.declared.keeper.BadStore.{BadStore}
use Rattle.plc_base.specs.Grant.{Granted}
use Rattle.store_tables.proofs.SlotTables.{slice_get-set, slice_get-set_other}
use Rattle.node_rules.specs.Accepted.{Accepted}
use Rattle.node_rules.specs.declared.heard.Reply.{Reply}
use Rattle.node_rules.specs.declared.refusal.CoordinatorRefusal.{CoordinatorRefusal}
use Rattle.node_rules.specs.declared.refusal.CoordinatorRefusal.TheVariants as orders
use Rattle.node_rules.specs.declared.refusal.FrameRefusal.{FrameRefusal}
use Rattle.node_rules.specs.declared.refusal.LocalRefusal.{LocalRefusal}
use Rattle.node_rules.specs.Calls as calls
use Rattle.node_rules.specs.Ciphers.{Ciphers}
use Rattle.node_rules.specs.Coordinators as coordinator_rules
use Rattle.node_rules.specs.Memory.{StationMemory, Memory, Node, node_address}
use Rattle.node_rules.specs.NodeSteps.{NodeStep, acts}
use Rattle.reach_rules.specs.Beacons.{is_discovery}
use Rattle.reach_rules.specs.ReachingNodes.{Beside, restarted, tick_beside}
use Rattle.reach_rules.specs.FurtherReceptions.{NeighbourCommand, command_of}
use Rattle.line_events.specs.declared.event.Answer.TheVariants as answers
use Rattle.line_events.specs.declared.event.Event.{Event}
use Rattle.line_events.specs.declared.event.Event.TheVariants as events
use Rattle.line_events.specs.declared.event.StepFault.TheVariants as faults
use Rattle.line_rules.specs.Forgery.{accepting}
use Rattle.line_rules.specs.Further.{accepted_further, acknowledged, acknowledged_if, asks_by, bcast, checks, choose, chooses_by, comes, delivers, discovers_by}
use Rattle.line_rules.specs.Further.{further_hearing_outcome, hearing_outcome_by, injects, is_dropped, line_step, path, restarts_by, restarts_further, scan}
use Rattle.line_rules.specs.Further.{scans_by}
use Rattle.line_rules.specs.Further.{after_ok, ticks}
use Rattle.line_rules.specs.Steps.{Step, activate, allow, allowed, breaks, breaks_by, challenge, coordinator, cut, depot, depot_by, flights_of, has_begun}
use Rattle.line_rules.specs.Steps.{hearing_outcome}
use Rattle.line_rules.specs.Steps.{hearing_step, is_known, join, joins_by, kick, leave, lose, meter, near, near_by, note_by, preset, psk_of, rand, rekey}
use Rattle.line_rules.specs.Steps.{running_world, send}
use Rattle.line_rules.specs.Steps.{happenings, sends_by, sent_if, set_up, show, takes_setup, tick, ticked, trace_of, world_after}
use Rattle.line_rules.specs.Worlds.{World, Flight, Trace, flight_at}
use Rattle.line_progress.specs.EventFates.{FlightFateIn, StillFlies, IsLost, EventsKeepFlights}
use Rattle.line_progress.proofs.Events.{StepHas, Taken, Fails, outcome_has, branch, by_option, once, setup, at_node, at_meter, at_flight}
use Rattle.line_progress.proofs.SendEvents.{inside}

-- # Flights that are added

-- these flights are those before the event, and more
record Adds (w : World) (flights : List Flight) : Type 0 where
  new : List Flight
  is : flights ≡ w.flights ++ new

module _ (ciphers : Ciphers) (w : World) where
  abbrev AddsIn : World × Trace → Type 0
  AddsIn r = Adds w r.0.flights

  abbrev Added : Step → Type 0
  Added s = StepHas AddsIn s

  as_before : Adds w w.flights
  as_before = record { new = []; is = sym (append-nil w.flights) }

  and_more : (flights more : List Flight) → Adds w flights → Adds w (flights ++ more)
  and_more flights more a = record { new = a.new ++ more; is = ap (λ fs. fs ++ more) a.is ∙ append_assoc w.flights a.new more }

  after : {A : Type 0} (v : World) (number : ℕ) (d : NodeStep A) → Adds w v.flights → Adds w (world_after ciphers v number d).flights
  unfolding world_after
  after v number d a = and_more v.flights (flights_of ciphers number d) a

  once_more : {A : Type 0} (number : ℕ) (d : NodeStep A) → Adds w (world_after ciphers (running_world w) number d).flights
  once_more number d = after (running_world w) number d as_before

  either : (b : Bool) (p q : World × Trace) → AddsIn p → AddsIn q → AddsIn (if b then p else q)
  either true p q one other = one
  either false p q one other = other

  -- # What comes to a node

  discovers_add : (number : ℕ) (x : Node) (octets : List ℕ) (link : ℕ) (o : Option Memory) → AddsIn (discovers_by w number x octets link o)
  discovers_add number x octets link None = as_before
  discovers_add number x octets link (Some m) = record { new = _; is = refl }

  acknowledged_adds : (number : ℕ) (a : NodeStep (Result (Unit {0}) LocalRefusal)) (r : World × Trace) → AddsIn r
      → AddsIn (acknowledged ciphers w number a r)
  acknowledged_adds number a r k = either (is_some a.node.memory) _ _ (after r.0 number a k) as_before

  acknowledged_if_adds : (number : ℕ) (x : Node) (o : Option Reply) (r : World × Trace) → AddsIn r → AddsIn (acknowledged_if ciphers w number x o r)
  acknowledged_if_adds number x None r k = k
  acknowledged_if_adds number x (Some reply) r k = acknowledged_adds number _ r k

  heard_adds : (number : ℕ) (x : Node) (octets : List ℕ) (got : Accepted) (cost : ℕ) → AddsIn (hearing_outcome ciphers w number x octets got cost)
  heard_adds number x octets got cost = once_more number _

  by_command : (number : ℕ) (x : Node) (octets : List ℕ) (got : Accepted) (cost : ℕ) (o : Option NeighbourCommand)
      → AddsIn (hearing_outcome_by ciphers w number x octets got cost o)
  by_command number x octets got cost (Some c) = after _ number _ (heard_adds number x octets got cost)
  by_command number x octets got cost None =
      either w.checks_on _ _
      (acknowledged_if_adds number (hearing_step ciphers x got cost (note_by w octets got.path) w.clock).node _ _ (heard_adds number x octets got cost))
      (heard_adds number x octets got cost)

  further_adds : (number : ℕ) (x : Node) (octets : List ℕ) (got : Accepted) (cost : ℕ) → AddsIn (further_hearing_outcome ciphers w number x octets got cost)
  further_adds number x octets got cost =
      either (is_dropped w number got) _ _ (once_more number _) (by_command number x octets got cost (command_of got))

  accepted_adds : (number : ℕ) (octets : List ℕ) (cost : ℕ) (d : NodeStep (Result Accepted FrameRefusal))
      → AddsIn (accepted_further ciphers w number octets cost d)
  accepted_adds number octets cost d = by_answer d.answer refl
    where
      by_answer : (a : Result Accepted FrameRefusal) → d.answer ≡ a → AddsIn (accepted_further ciphers w number octets cost d)
      by_answer (Ok got) e =
          subst (λ a. AddsIn (accepted_further ciphers w number octets cost (record d { answer = a }))) (sym e) (further_adds number d.node octets got cost)
      by_answer (Err reason) e =
          subst (λ a. AddsIn (accepted_further ciphers w number octets cost (record d { answer = a }))) (sym e)
          (once_more number (record d { answer = Err reason }))

  comes_adds : (number : ℕ) (x : Node) (octets : List ℕ) (cost : ℕ) → AddsIn (comes ciphers w number x octets cost)
  unfolding comes
  comes_adds number x octets cost =
      either (is_discovery octets) _ _ (discovers_add number x octets cost x.memory) (accepted_adds number octets cost (accepting ciphers x octets))

  delivers_add : (flight number cost : ℕ) → Added (delivers ciphers w flight number cost)
  unfolding delivers
  delivers_add flight number cost =
      once AddsIn w _ (at_node AddsIn w number _ (λ x e. at_flight AddsIn w flight _ (λ f g. Taken _ (comes_adds number x f.octets cost))))

  injects_add : (number cost : ℕ) (octets : List ℕ) → Added (injects ciphers w number cost octets)
  unfolding injects
  injects_add number cost octets = once AddsIn w _ (at_node AddsIn w number _ (λ x e. Taken _ (comes_adds number x octets cost)))

  -- # Setup

  coordinator_adds : (eui : Eui) (key : Key) → Added (coordinator w eui key)
  unfolding coordinator
  coordinator_adds eui key = branch AddsIn (has_begun w) _ _ (Fails faults.Setup) (Taken _ as_before)

  meter_adds : (eui : Eui) (psk : Key) → Added (meter w eui psk)
  unfolding meter
  meter_adds eui psk =
      branch AddsIn (not (takes_setup w) || (nat_lt 999 (length w.nodes) || is_known w eui)) _ _ (Fails faults.Setup) (Taken _ as_before)

  depot_by_adds : (number : ℕ) (x : Node) (d : NodeStep (Result Granted CoordinatorRefusal)) → Added (depot_by ciphers w number x d)
  depot_by_adds number x d = by_answer d.answer refl
    where
      by_answer : (r : Result Granted CoordinatorRefusal) → d.answer ≡ r → Added (depot_by ciphers w number x d)
      by_answer (Ok g) e = rw e (Taken _ (after _ number _ (after (set_up w) 0 (record d { answer = Ok g }) as_before)))
      by_answer (Err reason) e = rw e (Fails faults.Setup)

  depot_adds : (number : ℕ) → Added (depot ciphers w number)
  unfolding depot
  depot_adds number =
      setup AddsIn w _ (at_node AddsIn w number _ (λ x e. at_node AddsIn w 0 _ (λ c f.
      branch AddsIn ((number == 0) || is_some (node_address x)) _ _ (Fails faults.Setup)
      (by_option AddsIn (λ psk. depot_by ciphers w number x (acts c (Err orders.Halted) (λ m. coordinator_rules.depot m x.eui psk))) (psk_of x) _
      (λ psk g. depot_by_adds number x _) (Fails faults.Setup)))))

  near_by_adds : (a b cost : ℕ) (x y : Node) (p q : Option ℕ) → Added (near_by ciphers w a b cost x y p q)
  near_by_adds a b cost x y None q = Fails faults.Setup
  near_by_adds a b cost x y (Some p) None = Fails faults.Setup
  near_by_adds a b cost x y (Some p) (Some q) =
      branch AddsIn _ _ _ (Fails faults.Setup) (Taken _ (after _ b _ (after (set_up w) a _ as_before)))

  near_adds : (a b cost : ℕ) → Added (near ciphers w a b cost)
  unfolding near
  near_adds a b cost =
      setup AddsIn w _ (at_node AddsIn w a _ (λ x e. at_node AddsIn w b _ (λ y f. near_by_adds a b cost x y (node_address x) (node_address y))))

  preset_adds : (number : ℕ) (plan : StationMemory → calls.Presetting) → Added (preset ciphers w number plan)
  preset_adds number plan = setup AddsIn w _ (at_node AddsIn w number _ (λ x e. Taken _ (after (set_up w) number _ as_before)))

  checks_add : Added (checks w)
  unfolding checks
  checks_add = setup AddsIn w _ (branch AddsIn w.checks_on _ _ (Fails faults.Setup) (Taken _ as_before))

  -- # What nodes do

  allow_adds : (number : ℕ) → Added (allow ciphers w number)
  unfolding allow
  allow_adds number =
      once AddsIn w _ (at_meter AddsIn w number _ (λ x e. at_node AddsIn w 0 _ (λ c f.
      by_option AddsIn (λ psk. Ok (allowed ciphers w number (acts c (Err orders.Halted) (λ m. coordinator_rules.allow m x.eui psk)))) (psk_of x) _
      (λ psk g. Taken _ (once_more 0 _)) (Fails faults.Node))))

  rand_adds : (number : ℕ) (value : RandomOctets) → Added (rand ciphers w number value)
  unfolding rand
  rand_adds number value = once AddsIn w _ (at_node AddsIn w number _ (λ x e. Taken _ (once_more number _)))

  joins_add : (number : ℕ) (x : Node) (agent : Option ℕ) (psk : Option Key) → AddsIn (joins_by ciphers w number x agent psk)
  joins_add number x None psk = as_before
  joins_add number x (Some agent) None = as_before
  joins_add number x (Some agent) (Some psk) = once_more number _

  join_adds : (number agent : ℕ) → Added (join ciphers w number agent)
  unfolding join
  join_adds number agent =
      once AddsIn w _ (at_meter AddsIn w number _ (λ x e. at_node AddsIn w agent _ (λ y f. Taken _ (joins_add number x (node_address y) (psk_of x)))))

  leave_adds : (number : ℕ) → Added (leave ciphers w number)
  unfolding leave
  leave_adds number = once AddsIn w _ (at_meter AddsIn w number _ (λ x e. Taken _ (once_more number _)))

  sent_adds : (from to : ℕ) (datagram : List ℕ) (tag : ℕ) (b : Bool) (r : World × Trace) → AddsIn r → AddsIn (sent_if w from to datagram tag b r)
  sent_adds from to datagram tag false r k = k
  sent_adds from to datagram tag true r k = k

  sends_add : (from to : ℕ) (datagram : List ℕ) (x : Node) (address : Option ℕ) → AddsIn (sends_by ciphers w from to datagram x address)
  sends_add from to datagram x None = as_before
  sends_add from to datagram x (Some address) = sent_adds from to datagram _ _ _ (once_more from _)

  send_adds : (from to : ℕ) (datagram : List ℕ) → Added (send ciphers w from to datagram)
  unfolding send
  send_adds from to datagram =
      once AddsIn w _ (at_node AddsIn w from _ (λ x e. at_node AddsIn w to _ (λ y f. Taken _ (sends_add from to datagram x (node_address y)))))

  breaks_by_adds : (number : ℕ) (x : Node) (next : Option ℕ) → AddsIn (breaks_by ciphers w number x next)
  breaks_by_adds number x None = as_before
  breaks_by_adds number x (Some next) = once_more number _

  breaks_add : (number next : ℕ) → Added (breaks ciphers w number next)
  unfolding breaks
  breaks_add number next =
      once AddsIn w _ (at_node AddsIn w number _ (λ x e. at_node AddsIn w next _ (λ y f. Taken _ (breaks_by_adds number x (node_address y)))))

  ticks_add : (seconds : ℕ) → Added (ticks w seconds)
  unfolding ticks tick
  ticks_add seconds = by_begun (has_begun w)
    where
      by_begun : (b : Bool) → Added (after_ok (λ r. (record r.0 { beside = map (tick_beside (w.clock + seconds)) w.beside }, r.1))
          (if b then Ok (
            record (running_world w) { clock = w.clock + seconds; nodes = map (ticked (w.clock + seconds)) w.nodes },
            trace_of (happenings w answers.Ticked),
          ) else Err faults.Setup))
      by_begun true = Taken _ as_before
      by_begun false = Fails faults.Setup

  restarts_add : (number : ℕ) (x : Node) (o : Result Beside BadStore) → AddsIn (restarts_by ciphers w number x o)
  restarts_add number x (Ok b) = once_more number _
  restarts_add number x (Err bad) = once_more number _

  restart_adds : (number : ℕ) → Added (restarts_further ciphers w number)
  unfolding restarts_further
  restart_adds number = once AddsIn w _ (at_node AddsIn w number _ (λ x e. Taken _ (restarts_add number x (restarted x.store.records))))

  cut_adds : (number nth : ℕ) (keeps_new : Bool) → Added (cut ciphers w number nth keeps_new)
  unfolding cut
  cut_adds number nth keeps_new = once AddsIn w _ (at_node AddsIn w number _ (λ x e. Taken _ (once_more number _)))

  show_adds : (number : ℕ) → Added (show w number)
  unfolding show
  show_adds number = once AddsIn w _ (at_node AddsIn w number _ (λ x e. Taken _ as_before))

  rekey_adds : (index : ℕ) (key : Key) → Added (rekey ciphers w index key)
  unfolding rekey
  rekey_adds index key = once AddsIn w _ (at_node AddsIn w 0 _ (λ c e. Taken _ (once_more 0 _)))

  challenge_adds : (number : ℕ) → Added (challenge ciphers w number)
  unfolding challenge
  challenge_adds number =
      once AddsIn w _ (at_meter AddsIn w number _ (λ x e. at_node AddsIn w 0 _ (λ c f. Taken _ (once_more 0 _))))

  activate_adds : (number index : ℕ) → Added (activate ciphers w number index)
  unfolding activate
  activate_adds number index =
      once AddsIn w _ (at_node AddsIn w number _ (λ x e. at_node AddsIn w 0 _ (λ c f.
      Taken _ (either (number == 0) _ _ (once_more 0 _) (once_more 0 _)))))

  kick_adds : (number : ℕ) → Added (kick ciphers w number)
  unfolding kick
  kick_adds number = once AddsIn w _ (at_meter AddsIn w number _ (λ x e. at_node AddsIn w 0 _ (λ c f. Taken _ (once_more 0 _))))

  -- # Further reach

  bcast_adds : (number : ℕ) (datagram : List ℕ) → Added (bcast ciphers w number datagram)
  unfolding bcast
  bcast_adds number datagram = once AddsIn w _ (at_node AddsIn w number _ (λ x e. Taken _ (once_more number _)))

  asks_add : (number : ℕ) (x : Node) (target : Option ℕ) → AddsIn (asks_by ciphers w number x target)
  asks_add number x None = as_before
  asks_add number x (Some target) = once_more number _

  path_adds : (from to : ℕ) → Added (path ciphers w from to)
  unfolding path
  path_adds from to =
      once AddsIn w _ (at_node AddsIn w from _ (λ x e. at_node AddsIn w to _ (λ y f. Taken _ (asks_add from x (node_address y)))))

  scans_add : (number : ℕ) (o : Option Memory) → AddsIn (scans_by w number o)
  scans_add number None = as_before
  scans_add number (Some m) = record { new = _; is = refl }

  scan_adds : (number : ℕ) → Added (scan w number)
  unfolding scan
  scan_adds number = once AddsIn w _ (at_meter AddsIn w number _ (λ x e. Taken _ (scans_add number x.memory)))

  chooses_add : (number : ℕ) (x : Node) (k : ℕ) (psk : Option Key) → AddsIn (chooses_by ciphers w number x k psk)
  chooses_add number x k None = as_before
  chooses_add number x k (Some psk) = once_more number _

  choose_adds : (number k : ℕ) → Added (choose ciphers w number k)
  unfolding choose
  choose_adds number k = once AddsIn w _ (at_meter AddsIn w number _ (λ x e. Taken _ (chooses_add number x k (psk_of x))))

-- # Each kind of event

got_front : {A : Type 0} (xs ys : List A) (k : ℕ) (x : A) → slice_get xs k ≡ Some x → slice_get (xs ++ ys) k ≡ Some x
got_front [] ys k x e = absurd (cc)
got_front (y ∷ xs) ys zero x e = e
got_front (y ∷ xs) ys (suc k) x e = got_front xs ys k x e

module _ (ciphers : Ciphers) (w : World) (number : ℕ) (f : Flight) (there : flight_at w number ≡ Some f) where
  abbrev Fate : Event → World × Trace → Type 0
  Fate event r = FlightFateIn event number f r.0

  by_zero : (b : Bool) (flights more : List Flight) → (if b then None else slice_get flights (number - 1)) ≡ Some f
      → (if b then None else slice_get (flights ++ more) (number - 1)) ≡ Some f
  by_zero true flights more e = e
  by_zero false flights more e = got_front flights more (number - 1) f e

  added_fate : (event : Event) (r : World × Trace) → Adds w r.0.flights → Fate event r
  added_fate event r a =
      StillFlies (ap (λ fs. if number == 0 then None else slice_get fs (number - 1)) a.is ∙ by_zero (number == 0) w.flights a.new there)

  adds : (event : Event) (s : Step) → StepHas (λ r. Adds w r.0.flights) s → StepHas (Fate event) s
  adds event s (Fails fault) = Fails fault
  adds event s (Taken r a) = Taken r (added_fate event r a)

  other_place : (n : ℕ) → (n == 0) ≡ false → (number == 0) ≡ false → number ≢ n → (number - 1) ≢ (n - 1)
  other_place n some here apart e =
      let a : n ≢ 0 = eqb-false n 0 some in
      let b : number ≢ 0 = eqb-false number 0 here in
      apart (omega arith)

  lost_fate : (n : ℕ) (g : Flight) (r : World × Trace) → flight_at w n ≡ Some g
      → r.0.flights ≡ slice_set w.flights (n - 1) (record g { lost = true }) → Fate (events.Lose n) r
  lost_fate n g r gone is = by_zeros (number == 0) refl (n == 0) refl there gone
    where
      by_place : (b : Bool) → (number == n) ≡ b → (number == 0) ≡ false → (n == 0) ≡ false → slice_get w.flights (number - 1) ≡ Some f
          → slice_get w.flights (n - 1) ≡ Some g → Fate (events.Lose n) r
      by_place true same z y here gone =
          let e : number ≡ n = eqb-true number n same in
          let one : g ≡ f = cc in
          IsLost (ap events.Lose (sym e))
          ((λ i. if z i then None else slice_get (is i) (number - 1))
          ∙ (λ i. slice_get (slice_set w.flights (n - 1) (record (one i) { lost = true })) (e i - 1))
          ∙ slice_get-set w.flights (n - 1) (record f { lost = true }) (inside w.flights (n - 1) g gone))
      by_place false other z y here gone =
          StillFlies
          ((λ i. if z i then None else slice_get (is i) (number - 1))
          ∙ slice_get-set_other w.flights (n - 1) (number - 1) (record g { lost = true }) (other_place n y z (eqb-false number n other)) ∙ here)

      by_zeros : (b : Bool) → (number == 0) ≡ b → (c : Bool) → (n == 0) ≡ c → (if b then None else slice_get w.flights (number - 1)) ≡ Some f
          → (if c then None else slice_get w.flights (n - 1)) ≡ Some g → Fate (events.Lose n) r
      by_zeros true z c y here gone = absurd (cc)
      by_zeros false z true y here gone = absurd (cc)
      by_zeros false z false y here gone = by_place (number == n) refl z y here gone

  loses : (n : ℕ) → StepHas (Fate (events.Lose n)) (lose w n)
  unfolding lose
  loses n =
      once (Fate (events.Lose n)) w _ (at_flight (Fate (events.Lose n)) w n _ (λ g e.
      let r : World × Trace = (
        record (running_world w) { flights = slice_set w.flights (n - 1) (record g { lost = true }) },
        trace_of (happenings w answers.Lost),
      ) in
      Taken r (lost_fate n g r e refl)))

  each : (event : Event) → StepHas (Fate event) (line_step ciphers w event)
  each (events.Coordinator eui key) = adds _ _ (coordinator_adds ciphers w eui key)
  each (events.Meter eui psk) = adds _ _ (meter_adds ciphers w eui psk)
  each (events.Depot node) = adds _ _ (depot_adds ciphers w node)
  each (events.Near a b cost) = adds _ _ (near_adds ciphers w a b cost)
  each (events.Counter node value) = adds _ _ (preset_adds ciphers w node _)
  each (events.Number node value) = adds _ _ (preset_adds ciphers w node _)
  each (events.Allow node) = adds _ _ (allow_adds ciphers w node)
  each (events.RandomOctets node value) = adds _ _ (rand_adds ciphers w node value)
  each (events.Join node agent) = adds _ _ (join_adds ciphers w node agent)
  each (events.Leave node) = adds _ _ (leave_adds ciphers w node)
  each (events.Send from to datagram) = adds _ _ (send_adds ciphers w from to datagram)
  each (events.Deliver flight node cost) = adds _ _ (delivers_add ciphers w flight node cost)
  each (events.Inject node cost octets) = adds _ _ (injects_add ciphers w node cost octets)
  each (events.Lose flight) = loses flight
  each (events.Break node next) = adds _ _ (breaks_add ciphers w node next)
  each (events.Tick seconds) = adds _ _ (ticks_add ciphers w seconds)
  each (events.Restart node) = adds _ _ (restart_adds ciphers w node)
  each (events.Cut node nth keeps_new) = adds _ _ (cut_adds ciphers w node nth keeps_new)
  each (events.Rekey index key) = adds _ _ (rekey_adds ciphers w index key)
  each (events.Challenge node) = adds _ _ (challenge_adds ciphers w node)
  each (events.Activate node index) = adds _ _ (activate_adds ciphers w node index)
  each (events.Kick node) = adds _ _ (kick_adds ciphers w node)
  each (events.Show node) = adds _ _ (show_adds ciphers w node)
  each events.Checks = adds _ _ (checks_add ciphers w)
  each (events.Bcast node datagram) = adds _ _ (bcast_adds ciphers w node datagram)
  each (events.Scan node) = adds _ _ (scan_adds ciphers w node)
  each (events.Choose node k) = adds _ _ (choose_adds ciphers w node k)
  each (events.Path from to) = adds _ _ (path_adds ciphers w from to)

pub flights_kept : EventsKeepFlights
flights_kept ciphers w v event d e number f there =
    outcome_has (Fate ciphers w number f there event) (line_step ciphers w event) (v, d) (each ciphers w number f there event) e
