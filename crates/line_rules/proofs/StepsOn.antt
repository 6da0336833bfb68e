-- Each kind of event leads one event on.
use Rattle.std.proofs.Common.{◌≡◌, ℕ, zero, suc, ◌+◌, ◌-◌, Bool, true, false, not, ◌==◌, List, [], ◌∷◌, ◌++◌, length, Option, Some, None, Result, Ok, Err, refl}
use Rattle.std.proofs.Common.{sym, ap, ◌∙◌, subst, arith}
use Rattle.std.specs.Prelude.{if◌then◌else◌, slice_get, slice_set, is_some, map, ◌||◌, nat_lt}
use Rattle.std.specs.Option.{option_map_or}
use Rattle.std.proofs.lemmas.List.{append_assoc, append-nil, length-append, length-set, length-map}
use Rattle.std.proofs.lemmas.Option.{none-some, same_Some}
use Rattle.plc_base.specs.declared.address.Eui.{Eui}
use Rattle.plc_base.specs.declared.key.Key.{Key}
use Rattle.plc_base.specs.declared.key.RandomOctets.{RandomOctets}
use Rattle.plc_base.specs.Grant.{Granted}
use Rattle.line_events.specs.declared.event.Event.{Event}
use Rattle.line_events.specs.declared.event.Event.TheVariants as events
use Rattle.line_events.specs.declared.event.Answer.{Answer}
use Rattle.line_events.specs.declared.event.StepFault.{StepFault}
use Rattle.line_events.specs.declared.event.StepFault.TheVariants as faults
use Rattle.node_rules.specs.Accepted.{Accepted}
use Rattle.node_rules.specs.declared.refusal.CoordinatorRefusal.{CoordinatorRefusal}
use Rattle.node_rules.specs.declared.refusal.CoordinatorRefusal.TheVariants as orders
use Rattle.node_rules.specs.declared.refusal.FrameRefusal.{FrameRefusal}
use Rattle.node_rules.specs.Ciphers.{Ciphers}
use Rattle.node_rules.specs.Memory.{StationMemory, Node, node_address}
use Rattle.node_rules.specs.Calls as calls
use Rattle.node_rules.specs.Coordinators as coordinator_rules
use Rattle.plc_base.specs.declared.keeper.BadStore.{BadStore}
use Rattle.node_rules.specs.declared.heard.Reply.{Reply}
use Rattle.node_rules.specs.declared.refusal.LocalRefusal.{LocalRefusal}
use Rattle.node_rules.specs.Memory.{Memory}
use Rattle.reach_rules.specs.ReachingNodes.{Beside, restarted}
use Rattle.reach_rules.specs.Beacons.{is_discovery}
use Rattle.reach_rules.specs.FurtherReceptions.{NeighbourCommand, command_of}
use Rattle.line_rules.specs.Answers.{Reception}
use Rattle.line_rules.specs.Worlds.{World, Flight, Trace, node_at, flight_at}
use Rattle.line_rules.specs.Steps.{provisioned, ticked, Step, set_up, running_world, world_after, node_outcome, has_begun, takes_setup, once_begun, in_setup}
use Rattle.line_rules.specs.Steps.{on_node, on_meter}
use Rattle.line_rules.specs.Steps.{made_node, is_known, coordinator, meter, depot, depot_by, psk_of, near, near_by, preset, allow, allowed, rand, join}
use Rattle.line_rules.specs.Steps.{joins_by, leave, send, sends_by, sent_if, breaks, breaks_by, deliver, inject, arrives, accepted_by, received, on_flight}
use Rattle.line_rules.specs.Steps.{lose, tick, restart, cut, show, rekey, challenge, activate, activate_at, kick, step, hearing_step}
use Rattle.line_rules.specs.Steps.{hearing_outcome}
use Rattle.line_rules.specs.Steps.{note_by}
use Rattle.line_rules.specs.Further.{line_step, checks, bcast, path, asks_by, scan, scans_by, choose, chooses_by, discovers_by}
use Rattle.line_rules.specs.Further.{checked, acknowledged_if, acknowledged, hearing_outcome_by, further_hearing_outcome, is_dropped}
use Rattle.line_rules.specs.Further.{accepted_further}
use Rattle.line_rules.specs.Further.{comes, delivers, injects, ticks, after_ok, restarts_by, restarts_further}
use Rattle.node_rules.specs.NodeSteps.{NodeStep, acts}
use Rattle.line_rules.specs.Laws.{SameFlight, KeepsFlights, GoesOn, StepsGoOn, LineStepsGoOn}

-- # Flights

same_flight : (f : Flight) → SameFlight f f
same_flight f = record { from = refl; octets = refl; key = refl; note = refl; lost = λ e. e }

same_flights : (fs : List Flight) → KeepsFlights fs fs
same_flights [] = tt
same_flights (f ∷ fs) = (same_flight f, same_flights fs)

more_flights : (fs gs more : List Flight) → KeepsFlights fs gs → KeepsFlights fs (gs ++ more)
more_flights [] gs more h = tt
more_flights (f ∷ fs) [] more h = absurd h
more_flights (f ∷ fs) (g ∷ gs) more h = (h.0, more_flights fs gs more h.1)

-- one flight in the place of another, which it is but for whether it was lost
same_in_place : (fs : List Flight) (place : ℕ) (f h : Flight) → slice_get fs place ≡ Some f → SameFlight f h → KeepsFlights fs (slice_set fs place h)
same_in_place [] place f h e same = tt
same_in_place (g ∷ fs) zero f h e same = (subst (λ x. SameFlight x h) (sym (same_Some _ _ e)) same, same_flights fs)
same_in_place (g ∷ fs) (suc place) f h e same = (same_flight g, same_in_place fs place f h e same)

-- # Worlds

set_up_goes : (w : World) → GoesOn w (set_up w)
set_up_goes w = record {
  events = refl;
  clock = omega arith;
  running = λ e. e;
  nodes = omega arith;
  flights = same_flights w.flights;
  made = ([], sym (append-nil w.made));
}

ran_goes : (w : World) → GoesOn w (running_world w)
ran_goes w = record {
  events = refl;
  clock = omega arith;
  running = λ e. refl;
  nodes = omega arith;
  flights = same_flights w.flights;
  made = ([], sym (append-nil w.made));
}

goes_after : {A : Type 0} (ciphers : Ciphers) (w v : World) (number : ℕ) (d : NodeStep A) → GoesOn w v → GoesOn w (world_after ciphers v number d)
unfolding world_after
goes_after ciphers w v number d g = record {
  events = g.events;
  clock = g.clock;
  running = g.running;
  nodes = let n = g.nodes in let same = length-set v.nodes number d.node in omega arith;
  flights = more_flights w.flights v.flights _ g.flights;
  made = (g.made.0 ++ d.made, ap (λ ts. ts ++ d.made) g.made.1 ∙ append_assoc w.made g.made.0 d.made);
}

-- the counts of a world are of no account
counts_go : (w v : World) (sends ups forged done : ℕ) → GoesOn w v → GoesOn w (record v { sends = sends; ups = ups; forged = forged; done = done })
counts_go w v sends ups forged done g = record { events = g.events; clock = g.clock; running = g.running; nodes = g.nodes; flights = g.flights; made = g.made }

-- nor is what stands beside the memories, or whether neighbours are checked
beside_goes : (w v : World) (bs : List Beside) → GoesOn w v → GoesOn w (record v { beside = bs })
beside_goes w v bs g = record { events = g.events; clock = g.clock; running = g.running; nodes = g.nodes; flights = g.flights; made = g.made }

checks_go : (w v : World) (on : Bool) → GoesOn w v → GoesOn w (record v { checks_on = on })
checks_go w v on g = record { events = g.events; clock = g.clock; running = g.running; nodes = g.nodes; flights = g.flights; made = g.made }

-- # Steps

data StepShape (w : World) : Step → Type 0 where
  Fails : (fault : StepFault) → StepShape w (Err fault)
  Taken : (r : World × Trace) → GoesOn w r.0 → StepShape w (Ok r)

module _ (ciphers : Ciphers) (w : World) where
  branch : (b : Bool) (p q : Step) → StepShape w p → StepShape w q → StepShape w (if b then p else q)
  branch true p q s t = s
  branch false p q s t = t

  by_option : {X : Type 0} (f : X → Step) (x : Option X) (p : Step) → ((y : X) → StepShape w (f y)) → StepShape w p → StepShape w (option_map_or f x p)
  by_option f None p s t = t
  by_option f (Some y) p s t = s y

  once : (s : Step) → StepShape w s → StepShape w (once_begun w s)
  once s h = branch (has_begun w) s (Err faults.Setup) h (Fails faults.Setup)

  setup : (s : Step) → StepShape w s → StepShape w (in_setup w s)
  setup s h = branch (takes_setup w) s (Err faults.Setup) h (Fails faults.Setup)

  at_node : (number : ℕ) (f : Node → Step) → ((x : Node) → StepShape w (f x)) → StepShape w (on_node w number f)
  at_node number f h = by_option f (node_at w number) (Err faults.Node) h (Fails faults.Node)

  at_meter : (number : ℕ) (f : Node → Step) → ((x : Node) → StepShape w (f x)) → StepShape w (on_meter w number f)
  at_meter number f h = branch (number == 0) (Err faults.Node) (on_node w number f) (Fails faults.Node) (at_node number f h)

  acted_goes : (number : ℕ) (d : NodeStep Answer) → GoesOn w (node_outcome ciphers w number d).0
  acted_goes number d = goes_after ciphers w (running_world w) number d (ran_goes w)

  made_goes : (x : Node) → GoesOn w (made_node w x).0
  made_goes x =
      let g = set_up_goes w in
      let longer = length-append w.nodes (x ∷ []) in
      record { events = g.events; clock = g.clock; running = g.running; nodes = omega arith; flights = g.flights; made = g.made }

  -- # Setup

  coordinator_shape : (eui : Eui) (key : Key) → StepShape w (coordinator w eui key)
  unfolding coordinator
  coordinator_shape eui key = branch (has_begun w) _ _ (Fails faults.Setup) (Taken _ (made_goes _))

  meter_shape : (eui : Eui) (psk : Key) → StepShape w (meter w eui psk)
  unfolding meter
  meter_shape eui psk = branch (not (takes_setup w) || (nat_lt 999 (length w.nodes) || is_known w eui)) _ _ (Fails faults.Setup) (Taken _ (made_goes _))

  depot_by_shape : (number : ℕ) (x : Node) (d : NodeStep (Result Granted CoordinatorRefusal)) → StepShape w (depot_by ciphers w number x d)
  depot_by_shape number x d = by_answer d.answer refl
    where
      by_answer : (r : Result Granted CoordinatorRefusal) → d.answer ≡ r → StepShape w (depot_by ciphers w number x d)
      by_answer (Ok g) e = rw e (Taken (provisioned ciphers (world_after ciphers (set_up w) 0 (record d { answer = Ok g })) number x g)
          (goes_after ciphers w _ number _ (goes_after ciphers w _ 0 _ (set_up_goes w))))
      by_answer (Err reason) e = rw e (Fails faults.Setup)

  depot_shape : (number : ℕ) → StepShape w (depot ciphers w number)
  unfolding depot
  depot_shape number = setup _ (at_node number _ (λ x. at_node 0 _ (λ c. branch ((number == 0) || is_some (node_address x)) _ _ (Fails faults.Setup)
      (by_option (λ psk. depot_by ciphers w number x (acts c (Err orders.Halted) (λ m. coordinator_rules.depot m x.eui psk))) (psk_of x) _
      (λ psk. depot_by_shape number x _) (Fails faults.Setup)))))

  near_by_shape : (a b cost : ℕ) (x y : Node) (p q : Option ℕ) → StepShape w (near_by ciphers w a b cost x y p q)
  near_by_shape a b cost x y None q = Fails faults.Setup
  near_by_shape a b cost x y (Some p) None = Fails faults.Setup
  near_by_shape a b cost x y (Some p) (Some q) =
      branch _ _ _ (Fails faults.Setup) (Taken _ (goes_after ciphers w _ b _ (goes_after ciphers w _ a _ (set_up_goes w))))

  near_shape : (a b cost : ℕ) → StepShape w (near ciphers w a b cost)
  unfolding near
  near_shape a b cost = setup _ (at_node a _ (λ x. at_node b _ (λ y. near_by_shape a b cost x y (node_address x) (node_address y))))

  preset_shape : (number : ℕ) (plan : StationMemory → calls.Presetting) → StepShape w (preset ciphers w number plan)
  preset_shape number plan = setup _ (at_node number _ (λ x. Taken _ (goes_after ciphers w _ number _ (set_up_goes w))))

  -- # The other kinds

  allow_shape : (number : ℕ) → StepShape w (allow ciphers w number)
  unfolding allow
  allow_shape number = once _ (at_meter number _ (λ x. at_node 0 _ (λ c.
      by_option (λ psk. Ok (allowed ciphers w number (acts c (Err orders.Halted) (λ m. coordinator_rules.allow m x.eui psk)))) (psk_of x) _
      (λ psk. Taken _ (goes_after ciphers w _ 0 _ (ran_goes w))) (Fails faults.Node))))

  rand_shape : (number : ℕ) (value : RandomOctets) → StepShape w (rand ciphers w number value)
  unfolding rand
  rand_shape number value = once _ (at_node number _ (λ x. Taken _ (acted_goes number _)))

  joins_go : (number : ℕ) (x : Node) (agent : Option ℕ) (psk : Option Key) → GoesOn w (joins_by ciphers w number x agent psk).0
  joins_go number x None psk = ran_goes w
  joins_go number x (Some agent) None = ran_goes w
  joins_go number x (Some agent) (Some psk) = acted_goes number _

  join_shape : (number agent : ℕ) → StepShape w (join ciphers w number agent)
  unfolding join
  join_shape number agent = once _ (at_meter number _ (λ x. at_node agent _ (λ y. Taken _ (joins_go number x (node_address y) (psk_of x)))))

  leave_shape : (number : ℕ) → StepShape w (leave ciphers w number)
  unfolding leave
  leave_shape number = once _ (at_meter number _ (λ x. Taken _ (acted_goes number _)))

  sent_goes : (from to : ℕ) (datagram : List ℕ) (tag : ℕ) (b : Bool) (r : World × Trace) → GoesOn w r.0 → GoesOn w (sent_if w from to datagram tag b r).0
  sent_goes from to datagram tag false r g = g
  sent_goes from to datagram tag true r g = counts_go w r.0 (r.0.sends + 1) r.0.ups r.0.forged r.0.done g

  sends_go : (from to : ℕ) (datagram : List ℕ) (x : Node) (address : Option ℕ) → GoesOn w (sends_by ciphers w from to datagram x address).0
  sends_go from to datagram x None = ran_goes w
  sends_go from to datagram x (Some address) = sent_goes from to datagram _ _ _ (acted_goes from _)

  send_shape : (from to : ℕ) (datagram : List ℕ) → StepShape w (send ciphers w from to datagram)
  unfolding send
  send_shape from to datagram = once _ (at_node from _ (λ x. at_node to _ (λ y. Taken _ (sends_go from to datagram x (node_address y)))))

  breaks_go : (number : ℕ) (x : Node) (next : Option ℕ) → GoesOn w (breaks_by ciphers w number x next).0
  breaks_go number x None = ran_goes w
  breaks_go number x (Some next) = acted_goes number _

  breaks_shape : (number next : ℕ) → StepShape w (breaks ciphers w number next)
  unfolding breaks
  breaks_shape number next = once _ (at_node number _ (λ x. at_node next _ (λ y. Taken _ (breaks_go number x (node_address y)))))

  received_go : (number : ℕ) (forged : Bool) (d : NodeStep Reception) → GoesOn w (received ciphers w number forged d).0
  received_go number forged d = counts_go w _ _ _ _ _ (goes_after ciphers w (running_world w) number d (ran_goes w))

  arrives_go : (number : ℕ) (x : Node) (octets : List ℕ) (cost : ℕ) → GoesOn w (arrives ciphers w number x octets cost).0
  unfolding arrives
  arrives_go number x octets cost = accepted_go _
    where
      accepted_go : (d : NodeStep (Result Accepted FrameRefusal)) → GoesOn w (accepted_by ciphers w number octets cost d).0
      accepted_go d = by_answer d.answer refl
        where
          by_answer : (r : Result Accepted FrameRefusal) → d.answer ≡ r → GoesOn w (accepted_by ciphers w number octets cost d).0
          by_answer (Ok got) e = rw e (received_go number _ _)
          by_answer (Err reason) e = rw e (goes_after ciphers w (running_world w) number _ (ran_goes w))

  at_flight : (number : ℕ) (f : Flight → Step) → ((x : Flight) → flight_at w number ≡ Some x → StepShape w (f x)) → StepShape w (on_flight w number f)
  at_flight number f h = by_flight (flight_at w number) refl
    where
      by_flight : (o : Option Flight) → flight_at w number ≡ o
          → StepShape w (option_map_or (λ x. if x.lost then Err faults.Flight else f x) o (Err faults.Flight))
      by_flight None e = Fails faults.Flight
      by_flight (Some x) e = branch x.lost _ _ (Fails faults.Flight) (h x e)

  deliver_shape : (flight number cost : ℕ) → StepShape w (deliver ciphers w flight number cost)
  unfolding deliver
  deliver_shape flight number cost = once _ (at_node number _ (λ x. at_flight flight _ (λ f e. Taken _ (arrives_go number x f.octets cost))))

  inject_shape : (number cost : ℕ) (octets : List ℕ) → StepShape w (inject ciphers w number cost octets)
  unfolding inject
  inject_shape number cost octets = once _ (at_node number _ (λ x. Taken _ (arrives_go number x octets cost)))

  flight_place : (number : ℕ) (f : Flight) → flight_at w number ≡ Some f → slice_get w.flights (number - 1) ≡ Some f
  flight_place number f = by_number (number == 0)
    where
      by_number : (b : Bool) → (if b then None else slice_get w.flights (number - 1)) ≡ Some f → slice_get w.flights (number - 1) ≡ Some f
      by_number true e = absurd (none-some f e)
      by_number false e = e

  loses_go : (number : ℕ) (f h : Flight) → flight_at w number ≡ Some f → SameFlight f h
      → GoesOn w (record (running_world w) { flights = slice_set w.flights (number - 1) h })
  loses_go number f h e same =
      let g = ran_goes w in
      record {
        events = g.events;
        clock = g.clock;
        running = g.running;
        nodes = g.nodes;
        flights = same_in_place w.flights (number - 1) f h (flight_place number f e) same;
        made = g.made;
      }

  lose_shape : (number : ℕ) → StepShape w (lose w number)
  unfolding lose
  lose_shape number =
      once _ (at_flight number _ (λ f e. Taken _ (loses_go number f _ e (record { from = refl; octets = refl; key = refl; note = refl; lost = λ _. refl }))))

  tick_shape : (seconds : ℕ) → StepShape w (tick w seconds)
  unfolding tick
  tick_shape seconds =
      let g = ran_goes w in
      once _ (Taken _ (record {
        events = g.events;
        clock = omega arith;
        running = g.running;
        nodes =
            let same : length (map (ticked (w.clock + seconds)) w.nodes) ≡ length w.nodes = length-map w.nodes _ in omega arith;
        flights = g.flights;
        made = g.made;
      }))

  restart_shape : (number : ℕ) → StepShape w (restart ciphers w number)
  unfolding restart
  restart_shape number = once _ (at_node number _ (λ x. Taken _ (acted_goes number _)))

  cut_shape : (number nth : ℕ) (keeps_new : Bool) → StepShape w (cut ciphers w number nth keeps_new)
  unfolding cut
  cut_shape number nth keeps_new = once _ (at_node number _ (λ x. Taken _ (acted_goes number _)))

  show_shape : (number : ℕ) → StepShape w (show w number)
  unfolding show
  show_shape number = once _ (at_node number _ (λ x. Taken _ (ran_goes w)))

  rekey_shape : (index : ℕ) (key : Key) → StepShape w (rekey ciphers w index key)
  unfolding rekey
  rekey_shape index key = once _ (at_node 0 _ (λ c. Taken _ (acted_goes 0 _)))

  challenge_shape : (number : ℕ) → StepShape w (challenge ciphers w number)
  unfolding challenge
  challenge_shape number = once _ (at_meter number _ (λ x. at_node 0 _ (λ c. Taken _ (acted_goes 0 _))))

  either_goes : (b : Bool) (p q : World × Trace) → GoesOn w p.0 → GoesOn w q.0 → GoesOn w (if b then p else q).0
  either_goes true p q g h = g
  either_goes false p q g h = h

  activates_go : (number index : ℕ) (x c : Node) → GoesOn w (activate_at ciphers w number index x c).0
  activates_go number index x c = either_goes (number == 0) _ _ (acted_goes 0 _) (acted_goes 0 _)

  activate_shape : (number index : ℕ) → StepShape w (activate ciphers w number index)
  unfolding activate
  activate_shape number index = once _ (at_node number _ (λ x. at_node 0 _ (λ c. Taken _ (activates_go number index x c))))

  kick_shape : (number : ℕ) → StepShape w (kick ciphers w number)
  unfolding kick
  kick_shape number = once _ (at_meter number _ (λ x. at_node 0 _ (λ c. Taken _ (acted_goes 0 _))))

  step_shape : (event : Event) → StepShape w (step ciphers w event)
  step_shape (events.Coordinator eui key) = coordinator_shape eui key
  step_shape (events.Meter eui psk) = meter_shape eui psk
  step_shape (events.Depot node) = depot_shape node
  step_shape (events.Near a b cost) = near_shape a b cost
  step_shape (events.Counter node value) = preset_shape node _
  step_shape (events.Number node value) = preset_shape node _
  step_shape (events.Allow node) = allow_shape node
  step_shape (events.RandomOctets node value) = rand_shape node value
  step_shape (events.Join node agent) = join_shape node agent
  step_shape (events.Leave node) = leave_shape node
  step_shape (events.Send from to datagram) = send_shape from to datagram
  step_shape (events.Deliver flight node cost) = deliver_shape flight node cost
  step_shape (events.Inject node cost octets) = inject_shape node cost octets
  step_shape (events.Lose flight) = lose_shape flight
  step_shape (events.Break node next) = breaks_shape node next
  step_shape (events.Tick seconds) = tick_shape seconds
  step_shape (events.Restart node) = restart_shape node
  step_shape (events.Cut node nth keeps_new) = cut_shape node nth keeps_new
  step_shape (events.Rekey index key) = rekey_shape index key
  step_shape (events.Challenge node) = challenge_shape node
  step_shape (events.Activate node index) = activate_shape node index
  step_shape (events.Kick node) = kick_shape node
  step_shape (events.Show node) = show_shape node
  step_shape events.Checks = Fails faults.Setup
  step_shape (events.Bcast node datagram) = Fails faults.Setup
  step_shape (events.Scan node) = Fails faults.Setup
  step_shape (events.Choose node k) = Fails faults.Setup
  step_shape (events.Path from to) = Fails faults.Setup

  -- # Further reach

  checks_shape : StepShape w (checks w)
  unfolding checks
  checks_shape = setup _ (branch w.checks_on _ _ (Fails faults.Setup) (Taken _ (checks_go w (set_up w) true (set_up_goes w))))

  bcast_shape : (number : ℕ) (datagram : List ℕ) → StepShape w (bcast ciphers w number datagram)
  unfolding bcast
  bcast_shape number datagram = once _ (at_node number _ (λ x. Taken _ (beside_goes w _ _ (goes_after ciphers w (running_world w) number _ (ran_goes w)))))

  asks_go : (number : ℕ) (x : Node) (target : Option ℕ) → GoesOn w (asks_by ciphers w number x target).0
  asks_go number x None = ran_goes w
  asks_go number x (Some target) = beside_goes w _ _ (goes_after ciphers w (running_world w) number _ (ran_goes w))

  path_shape : (from to : ℕ) → StepShape w (path ciphers w from to)
  unfolding path
  path_shape from to = once _ (at_node from _ (λ x. at_node to _ (λ y. Taken _ (asks_go from x (node_address y)))))

  discovered_go : (number : ℕ) (bs : List Beside) (new : List Flight) → GoesOn w (record (running_world w) { flights = w.flights ++ new; beside = bs })
  discovered_go number bs new =
      let g = ran_goes w in
      record {
        events = g.events;
        clock = g.clock;
        running = g.running;
        nodes = g.nodes;
        flights = more_flights w.flights w.flights new (same_flights w.flights);
        made = g.made;
      }

  scans_go : (number : ℕ) (o : Option Memory) → GoesOn w (scans_by w number o).0
  scans_go number None = ran_goes w
  scans_go number (Some m) = discovered_go number _ _

  scan_shape : (number : ℕ) → StepShape w (scan w number)
  unfolding scan
  scan_shape number = once _ (at_meter number _ (λ x. Taken _ (scans_go number x.memory)))

  chooses_go : (number : ℕ) (x : Node) (k : ℕ) (psk : Option Key) → GoesOn w (chooses_by ciphers w number x k psk).0
  chooses_go number x k None = ran_goes w
  chooses_go number x k (Some psk) = beside_goes w _ _ (goes_after ciphers w (running_world w) number _ (ran_goes w))

  choose_shape : (number k : ℕ) → StepShape w (choose ciphers w number k)
  unfolding choose
  choose_shape number k = once _ (at_meter number _ (λ x. Taken _ (chooses_go number x k (psk_of x))))

  discovers_go : (number : ℕ) (x : Node) (octets : List ℕ) (link : ℕ) (o : Option Memory) → GoesOn w (discovers_by w number x octets link o).0
  discovers_go number x octets link None = ran_goes w
  discovers_go number x octets link (Some m) = discovered_go number _ _

  heard_go : (number : ℕ) (x : Node) (octets : List ℕ) (got : Accepted) (cost : ℕ) → GoesOn w (hearing_outcome ciphers w number x octets got cost).0
  heard_go number x octets got cost = received_go number _ _

  nothing_go : (number : ℕ) (b : List Beside) (v : World) → GoesOn w v → GoesOn w (record v { flights = w.flights; made = w.made; beside = b })
  nothing_go number b v g = record {
    events = g.events;
    clock = g.clock;
    running = g.running;
    nodes = g.nodes;
    flights = same_flights w.flights;
    made = ([], sym (append-nil w.made));
  }

  acknowledged_go : (number : ℕ) (a : NodeStep (Result (Unit {0}) LocalRefusal)) (r : World × Trace) → GoesOn w r.0
      → GoesOn w (acknowledged ciphers w number a r).0
  acknowledged_go number a r g =
      either_goes (is_some a.node.memory) _ _ (goes_after ciphers w r.0 number a g) (nothing_go number _ _ (goes_after ciphers w r.0 number a g))

  acknowledged_if_go : (number : ℕ) (x : Node) (reply : Option Reply) (r : World × Trace) → GoesOn w r.0
      → GoesOn w (acknowledged_if ciphers w number x reply r).0
  acknowledged_if_go number x None r g = g
  acknowledged_if_go number x (Some reply) r g = acknowledged_go number _ r g

  checked_go : (number : ℕ) (got : Accepted) (h : NodeStep Reception) (r : World × Trace) → GoesOn w r.0 → GoesOn w (checked ciphers w number got h r).0
  checked_go number got h r g = acknowledged_if_go number h.node _ _ (beside_goes w _ _ g)

  heard_by_go : (number : ℕ) (x : Node) (octets : List ℕ) (got : Accepted) (cost : ℕ) (c : Option NeighbourCommand)
      → GoesOn w (hearing_outcome_by ciphers w number x octets got cost c).0
  heard_by_go number x octets got cost None = either_goes w.checks_on _ _
      (checked_go number got (hearing_step ciphers x got cost (note_by w octets got.path) w.clock) (hearing_outcome ciphers w number x octets got cost)
      (heard_go number x octets got cost)) (heard_go number x octets got cost)
  heard_by_go number x octets got cost (Some c) = beside_goes w _ _ (goes_after ciphers w _ number _ (heard_go number x octets got cost))

  further_go : (number : ℕ) (x : Node) (octets : List ℕ) (got : Accepted) (cost : ℕ) → GoesOn w (further_hearing_outcome ciphers w number x octets got cost).0
  further_go number x octets got cost =
      either_goes (is_dropped w number got) _ _ (received_go number _ _) (heard_by_go number x octets got cost (command_of got))

  comes_go : (number : ℕ) (x : Node) (octets : List ℕ) (cost : ℕ) → GoesOn w (comes ciphers w number x octets cost).0
  unfolding comes
  comes_go number x octets cost = either_goes (is_discovery octets) _ _ (discovers_go number x octets cost x.memory) (accepted_go _)
    where
      accepted_go : (d : NodeStep (Result Accepted FrameRefusal)) → GoesOn w (accepted_further ciphers w number octets cost d).0
      accepted_go d = by_answer d.answer refl
        where
          by_answer : (r : Result Accepted FrameRefusal) → d.answer ≡ r → GoesOn w (accepted_further ciphers w number octets cost d).0
          by_answer (Ok got) e = rw e (further_go number d.node octets got cost)
          by_answer (Err reason) e = rw e (goes_after ciphers w (running_world w) number _ (ran_goes w))

  delivers_shape : (flight number cost : ℕ) → StepShape w (delivers ciphers w flight number cost)
  unfolding delivers
  delivers_shape flight number cost = once _ (at_node number _ (λ x. at_flight flight _ (λ f e. Taken _ (comes_go number x f.octets cost))))

  injects_shape : (number cost : ℕ) (octets : List ℕ) → StepShape w (injects ciphers w number cost octets)
  unfolding injects
  injects_shape number cost octets = once _ (at_node number _ (λ x. Taken _ (comes_go number x octets cost)))

  after_shape : (bs : List Beside) (s : Step) → StepShape w s → StepShape w (after_ok (λ r. (record r.0 { beside = bs }, r.1)) s)
  after_shape bs s (Fails fault) = Fails fault
  after_shape bs s (Taken r g) = Taken _ (beside_goes w r.0 bs g)

  ticks_shape : (seconds : ℕ) → StepShape w (ticks w seconds)
  unfolding ticks
  ticks_shape seconds = after_shape _ _ (tick_shape seconds)

  restarts_go : (number : ℕ) (x : Node) (o : Result Beside BadStore) → GoesOn w (restarts_by ciphers w number x o).0
  restarts_go number x (Ok b) = beside_goes w _ _ (acted_goes number _)
  restarts_go number x (Err bad) = beside_goes w _ _ (acted_goes number _)

  restarts_shape : (number : ℕ) → StepShape w (restarts_further ciphers w number)
  unfolding restarts_further
  restarts_shape number = once _ (at_node number _ (λ x. Taken _ (restarts_go number x (restarted x.store.records))))

  line_shape : (event : Event) → StepShape w (line_step ciphers w event)
  line_shape (events.Coordinator eui key) = coordinator_shape eui key
  line_shape (events.Meter eui psk) = meter_shape eui psk
  line_shape (events.Depot node) = depot_shape node
  line_shape (events.Near a b cost) = near_shape a b cost
  line_shape (events.Counter node value) = preset_shape node _
  line_shape (events.Number node value) = preset_shape node _
  line_shape (events.Allow node) = allow_shape node
  line_shape (events.RandomOctets node value) = rand_shape node value
  line_shape (events.Join node agent) = join_shape node agent
  line_shape (events.Leave node) = leave_shape node
  line_shape (events.Send from to datagram) = send_shape from to datagram
  line_shape (events.Deliver flight node cost) = delivers_shape flight node cost
  line_shape (events.Inject node cost octets) = injects_shape node cost octets
  line_shape (events.Lose flight) = lose_shape flight
  line_shape (events.Break node next) = breaks_shape node next
  line_shape (events.Tick seconds) = ticks_shape seconds
  line_shape (events.Restart node) = restarts_shape node
  line_shape (events.Cut node nth keeps_new) = cut_shape node nth keeps_new
  line_shape (events.Rekey index key) = rekey_shape index key
  line_shape (events.Challenge node) = challenge_shape node
  line_shape (events.Activate node index) = activate_shape node index
  line_shape (events.Kick node) = kick_shape node
  line_shape (events.Show node) = show_shape node
  line_shape events.Checks = checks_shape
  line_shape (events.Bcast node datagram) = bcast_shape node datagram
  line_shape (events.Scan node) = scan_shape node
  line_shape (events.Choose node k) = choose_shape node k
  line_shape (events.Path from to) = path_shape from to

  -- a step that is taken goes on
  abbrev Holds : Step → Type 0
  Holds (Ok r) = GoesOn w r.0
  Holds (Err fault) = Unit {0}

  holds : (s : Step) → StepShape w s → Holds s
  holds s (Fails fault) = tt
  holds s (Taken r g) = g

pub steps : StepsGoOn
steps ciphers w v event d e = subst (Holds ciphers w) e (holds ciphers w _ (step_shape ciphers w event))

pub line_steps : LineStepsGoOn
line_steps ciphers w v event d e = subst (Holds ciphers w) e (holds ciphers w _ (line_shape ciphers w event))
