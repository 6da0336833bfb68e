-- How an event is made of the calls of nodes: one case for each way, with what the line says of each call.
use Rattle.std.proofs.Common.{◌≡◌, ◌≢◌, ℕ, ◌+◌, ◌-◌, ◌≤◌, ◌<◌, ◌^◌, Bool, true, false, not, List, [], ◌∷◌, length, Option, Some, None, Result, Ok, Err, refl}
use Rattle.std.proofs.Common.{sym, arith}
use Rattle.std.specs.Prelude.{if◌then◌else◌, ◌&&◌, is_some, ◌==◌, ◌||◌, nat_lt, slice_set, map}
use Rattle.std.specs.Option.{option_map_or}
use Rattle.std.proofs.lemmas.Bool.{eqb-false, ltb-true, ltb-false, or_parts}
use Rattle.plc_base.specs.declared.address.Eui.{Eui}
use Rattle.plc_base.specs.declared.key.Key.{Key}
use Rattle.plc_base.specs.declared.key.RandomOctets.{RandomOctets}
use Rattle.plc_base.specs.Grant.{Granted}
use Rattle.line_events.specs.declared.event.Answer.{Answer}
use Rattle.line_events.specs.declared.event.Answer.TheVariants as answers
use Rattle.line_events.specs.declared.event.Event.{Event}
use Rattle.line_events.specs.declared.event.Event.TheVariants as events
use Rattle.line_events.specs.declared.event.StepFault.{StepFault}
use Rattle.line_events.specs.declared.event.StepFault.TheVariants as faults
use Rattle.node_rules.specs.Accepted.{Accepted}
use Rattle.node_rules.specs.declared.refusal.CoordinatorRefusal.{CoordinatorRefusal}
use Rattle.node_rules.specs.declared.refusal.CoordinatorRefusal.TheVariants as orders
use Rattle.node_rules.specs.declared.refusal.FrameRefusal.{FrameRefusal}
use Rattle.node_rules.specs.declared.refusal.FrameRefusal.TheVariants as frames
use Rattle.node_rules.specs.declared.refusal.JoinRefusal.TheVariants as joins
use Rattle.node_rules.specs.declared.refusal.LeaveRefusal.TheVariants as leaves
use Rattle.node_rules.specs.declared.refusal.RandomFault.TheVariants as randoms
use Rattle.node_rules.specs.declared.refusal.SendRefusal.TheVariants as sends
use Rattle.node_rules.specs.Ciphers.{Ciphers}
use Rattle.node_rules.specs.Frames.{arrived}
use Rattle.node_rules.specs.Memory.{StationMemory, Memory, Meter, Node, node_address}
use Rattle.node_rules.specs.Plans.{Plan}
use Rattle.node_rules.specs.Acceptance.{accept}
use Rattle.node_rules.specs.Calls as calls
use Rattle.node_rules.specs.Meters as meters
use Rattle.node_rules.specs.Coordinators as coordinator_rules
use Rattle.node_rules.specs.MemoryDrafts.{with_station, give_random}
use Rattle.node_rules.specs.NodeSteps.{NodeStep, acts, stays, answering, changing, of_station}
use Rattle.node_rules.specs.ShownNodes.{shown_of}
use Rattle.line_rules.specs.Answers.{random_word, join_word, leave_word, sent_word, ordered_word, frame_word}
use Rattle.line_events.specs.Events.{AreOctets, IsEui, IsKey, IsLineOctets, IsEvent}
use Rattle.line_rules.specs.Forgery.{Comes, OfFlight, OfScript, accepting}
use Rattle.line_rules.specs.Worlds.{World, Flight, node_at, flight_at}
use Rattle.line_rules.specs.Steps.{Step, set_up, running_world, world_after, node_outcome, sending, tag_of, once_begun, in_setup, has_begun, takes_setup}
use Rattle.line_rules.specs.Steps.{on_node, on_meter}
use Rattle.line_rules.specs.Steps.{made_node}
use Rattle.line_rules.specs.Steps.{blank_node, coordinator_node, identity, is_known, restarts, rand, join, joins_by, leave, send, sends_by, breaks, breaks_by}
use Rattle.line_rules.specs.Steps.{lose, on_flight, tick, ticked, restart, cut, show, psk_of, trace_of, happenings, coordinator, meter, depot, depot_by}
use Rattle.line_rules.specs.Steps.{provisioned, near, near_by, keeps_rank, ranks_full, offered_near, preset, allow, allowed, deliver, inject, arrives}
use Rattle.line_rules.specs.Steps.{accepted_by, hearing_outcome, by_coordinator, rekey, challenge, activate, kick, step}

-- # Calls

-- what an order is about: a meter of the line
pub record IsMeterAt (w : World) (number : ℕ) (y : Node) : Type 0 where
  pub other : number ≢ 0
  pub there : node_at w number ≡ Some y

-- a node of the line that has an address
pub record IsAddressed (w : World) (a : ℕ) : Type 0 where
  pub number : ℕ
  pub node : Node
  pub there : node_at w number ≡ Some node
  pub address : node_address node ≡ Some a

-- what the coordinator grants in the workshop
abbrev pub workshop : Node → Eui → Key → NodeStep (Result Granted CoordinatorRefusal)
workshop c eui psk = acts c (Err orders.Halted) (λ m. coordinator_rules.depot m eui psk)

-- A call of the node of a number: its answer where the node is halted, and its plan.
pub data IsCall (ciphers : Ciphers) (w : World) (number : ℕ) (x : Node) : (A : Type 0) → A → (Memory → Plan Memory A) → Type 1 where
  Gives : (value : RandomOctets) → AreOctets 16 value.0 → IsCall ciphers w number x _ (Err randoms.Halted) (λ m. give_random m value)
  Joins : (psk : Key) (a : ℕ) → number ≢ 0 → psk_of x ≡ Some psk → IsAddressed w a
      → IsCall ciphers w number x _ (Err joins.Halted) (λ m. meters.join (identity ciphers x psk) m a w.clock)
  Leaves : number ≢ 0 → IsCall ciphers w number x _ (Err leaves.Halted) meters.leave
  Sends : (a : ℕ) (datagram : List ℕ) → IsAddressed w a → IsLineOctets datagram
      → IsCall ciphers w number x _ (Err sends.Halted) (λ m. of_station m (calls.send m.station a datagram (w.sends + 1) w.clock))
  Breaks : (a : ℕ) → IsAddressed w a → IsCall ciphers w number x _ answers.Halted (λ m. changing answers.Broken (with_station (calls.broke a m.station) m))
  Nears : (a cost : ℕ) → takes_setup w ≡ true → IsAddressed w a → cost ≤ 255
      → IsCall ciphers w number x _ (Ok tt) (λ m. of_station m (calls.preset_near m.station a cost w.clock))
  Counts : (value : ℕ) → takes_setup w ≡ true → value < 2 ^ 32 → IsCall ciphers w number x _ (Ok tt) (λ m. of_station m (calls.preset_counter m.station value))
  Numbers : (value : ℕ) → takes_setup w ≡ true → 1 ≤ value → value < 2 ^ 16
      → IsCall ciphers w number x _ (Ok tt) (λ m. of_station m (calls.preset_number m.station value))
  Accepts : (octets : List ℕ) (event : Event) → IsEvent event → Comes w event number octets
      → IsCall ciphers w number x _ (Err frames.Halted) (λ m. of_station m (accept m.station x.eui (arrived ciphers octets)))
  -- the workshop gives a meter what the coordinator granted
  Provisions : (psk : Key) (c : Node) (g : Granted) → number ≢ 0 → psk_of x ≡ Some psk → node_at w 0 ≡ Some c → (workshop c x.eui psk).answer ≡ Ok g
      → IsCall ciphers w number x _ (Ok tt) (λ m. meters.provision m g)
  -- orders of the coordinator, about a meter or its own ring
  Depots : (meter : ℕ) (y : Node) (psk : Key) → number ≡ 0 → takes_setup w ≡ true → IsMeterAt w meter y → psk_of y ≡ Some psk
      → IsCall ciphers w number x _ (Err orders.Halted) (λ m. coordinator_rules.depot m y.eui psk)
  Allows : (meter : ℕ) (y : Node) (psk : Key) → number ≡ 0 → IsMeterAt w meter y → psk_of y ≡ Some psk
      → IsCall ciphers w number x _ (Err orders.Halted) (λ m. coordinator_rules.allow m y.eui psk)
  Rekeys : (index : ℕ) (key : Key) → number ≡ 0 → index ≤ 1 → IsKey key
      → IsCall ciphers w number x _ (Err orders.Halted) (λ m. coordinator_rules.rekey m index key)
  Turns : (index : ℕ) → number ≡ 0 → index ≤ 1 → IsCall ciphers w number x _ (Err orders.Halted) (λ m. coordinator_rules.activate_self m index)
  Challenges : (meter : ℕ) (y : Node) → number ≡ 0 → IsMeterAt w meter y
      → IsCall ciphers w number x _ (Err orders.Halted) (λ m. coordinator_rules.challenge x.eui m y.eui w.clock)
  Activates : (meter : ℕ) (y : Node) (index : ℕ) → number ≡ 0 → IsMeterAt w meter y → index ≤ 1
      → IsCall ciphers w number x _ (Err orders.Halted) (λ m. coordinator_rules.activate m y.eui index w.clock)
  Kicks : (meter : ℕ) (y : Node) → number ≡ 0 → IsMeterAt w meter y → IsCall ciphers w number x _ (Err orders.Halted) (λ m. coordinator_rules.kick m y.eui)

-- the calls that are events by themselves
pub data IsAsked (ciphers : Ciphers) (w : World) (number : ℕ) (x : Node) : (A : Type 0) → A → (Memory → Plan Memory A) → Type 1 where
  AskRandom : (value : RandomOctets) → AreOctets 16 value.0 → IsAsked ciphers w number x _ (Err randoms.Halted) (λ m. give_random m value)
  AskJoin : (psk : Key) (a : ℕ) → number ≢ 0 → psk_of x ≡ Some psk → IsAddressed w a
      → IsAsked ciphers w number x _ (Err joins.Halted) (λ m. meters.join (identity ciphers x psk) m a w.clock)
  AskLeave : number ≢ 0 → IsAsked ciphers w number x _ (Err leaves.Halted) meters.leave
  AskRekey : (index : ℕ) (key : Key) → number ≡ 0 → index ≤ 1 → IsKey key
      → IsAsked ciphers w number x _ (Err orders.Halted) (λ m. coordinator_rules.rekey m index key)
  AskTurn : (index : ℕ) → number ≡ 0 → index ≤ 1 → IsAsked ciphers w number x _ (Err orders.Halted) (λ m. coordinator_rules.activate_self m index)
  AskChallenge : (meter : ℕ) (y : Node) → number ≡ 0 → IsMeterAt w meter y
      → IsAsked ciphers w number x _ (Err orders.Halted) (λ m. coordinator_rules.challenge x.eui m y.eui w.clock)
  AskActivate : (meter : ℕ) (y : Node) (index : ℕ) → number ≡ 0 → IsMeterAt w meter y → index ≤ 1
      → IsAsked ciphers w number x _ (Err orders.Halted) (λ m. coordinator_rules.activate m y.eui index w.clock)
  AskKick : (meter : ℕ) (y : Node) → number ≡ 0 → IsMeterAt w meter y → IsAsked ciphers w number x _ (Err orders.Halted) (λ m. coordinator_rules.kick m y.eui)

-- a node has this address
pub record IsAddressedAt (w : World) (number a : ℕ) : Type 0 where
  pub node : Node
  pub there : node_at w number ≡ Some node
  pub address : node_address node ≡ Some a

-- two neighbours have addresses, and their link a cost
pub record AreNear (w : World) (p q cost : ℕ) : Type 0 where
  pub first : IsAddressed w p
  pub second : IsAddressed w q
  pub low : cost ≤ 255

-- # Events

-- a node more: the coordinator, or a meter with an EUI of its own
pub data IsMade (w : World) : Event → Node → Type 0 where
  OfCoordinator : (eui : Eui) (key : Key) → w.nodes ≡ [] → IsEui eui → IsKey key → IsMade w (events.Coordinator eui key) (coordinator_node eui key)
  OfMeter : (eui : Eui) (psk : Key) → 0 < length w.nodes → length w.nodes ≤ 999 → is_known w eui ≡ false → IsEui eui → IsKey psk
      → IsMade w (events.Meter eui psk) (blank_node (Meter psk) eui)

-- a value that the workshop sets
pub data IsPreset : (StationMemory → calls.Presetting) → Type 0 where
  OfCounter : (value : ℕ) → value < 2 ^ 32 → IsPreset (λ l. calls.preset_counter l value)
  OfNumber : (value : ℕ) → 1 ≤ value → value < 2 ^ 16 → IsPreset (λ l. calls.preset_number l value)

-- it is a call of the node
pub preset_call : (ciphers : Ciphers) (w : World) (number : ℕ) (x : Node) (plan : StationMemory → calls.Presetting) → takes_setup w ≡ true → IsPreset plan
    → IsCall ciphers w number x _ (Ok tt) (λ m. of_station m (plan m.station))
preset_call ciphers w number x plan open_is (OfCounter value fits) = Counts value open_is fits
preset_call ciphers w number x plan open_is (OfNumber value low fits) = Numbers value open_is low fits

-- octets come to a node in it
abbrev pub IsBrought : Event → Type 0
IsBrought (events.Deliver flight number cost) = Unit {0}
IsBrought (events.Inject number cost octets) = Unit {0}
IsBrought _ = ⊥

-- how the answers of an event's one call are read as words of the report
pub data IsWord : (A : Type 0) → (A → Answer) → Event → Type 1 where
  OfRandom : (number : ℕ) (value : RandomOctets) → IsWord _ random_word (events.RandomOctets number value)
  OfJoin : (number agent : ℕ) → IsWord _ join_word (events.Join number agent)
  OfLeave : (number : ℕ) → IsWord _ leave_word (events.Leave number)
  OfDraw : (A : Type 0) (index : ℕ) (key : Key) → IsWord (Result A CoordinatorRefusal) (ordered_word answers.Drawn) (events.Rekey index key)
  OfChallenge : (A : Type 0) (number : ℕ) → IsWord (Result A CoordinatorRefusal) (ordered_word answers.Challenged) (events.Challenge number)
  OfTurn : (A : Type 0) (number index : ℕ) → IsWord (Result A CoordinatorRefusal) (ordered_word answers.Activated) (events.Activate number index)
  OfOrder : (A : Type 0) (number index : ℕ) → IsWord (Result A CoordinatorRefusal) (ordered_word answers.Ordered) (events.Activate number index)
  OfKick : (A : Type 0) (number : ℕ) → IsWord (Result A CoordinatorRefusal) (ordered_word answers.Kicked) (events.Kick number)

pub data IsStep (ciphers : Ciphers) (w : World) : Event → Step → Type 1 where
  -- the event is not taken
  Fails : (event : Event) (fault : StepFault) → IsStep ciphers w event (Err fault)
  -- a node more
  Makes : (event : Event) (x : Node) → IsMade w event x → IsStep ciphers w event (Ok (made_node w x))
  -- nothing is done
  Rests : (event : Event) → (IsBrought event → ⊥) → IsStep ciphers w event (Ok (running_world w, trace_of (happenings w answers.NoAddress)))
  Shows : (number : ℕ) (x : Node)
      → IsStep ciphers w (events.Show number) (Ok (running_world w, trace_of (record (happenings w answers.Shown) { shown = Some (shown_of x) })))
  -- one node acts
  Acts : (event : Event) (number : ℕ) (x : Node) (A : Type 0) (halted : A) (plan : Memory → Plan Memory A) (reads : A → Answer) → node_at w number ≡ Some x
      → IsCall ciphers w number x A halted plan → IsWord A reads event → IsAsked ciphers w number x A halted plan
      → IsStep ciphers w event (Ok (node_outcome ciphers w number (answering reads (acts x halted plan))))
  BreaksLink : (number next : ℕ) (x : Node) (a : ℕ) → node_at w number ≡ Some x
      → IsCall ciphers w number x _ answers.Halted (λ m. changing answers.Broken (with_station (calls.broke a m.station) m))
      → IsStep ciphers w (events.Break number next)
      (Ok (node_outcome ciphers w number (acts x answers.Halted (λ m. changing answers.Broken (with_station (calls.broke a m.station) m)))))
  SendsFrom : (from to : ℕ) (datagram : List ℕ) (x : Node) (a : ℕ) → node_at w from ≡ Some x
      → IsCall ciphers w from x _ (Err sends.Halted) (λ m. of_station m (calls.send m.station a datagram (w.sends + 1) w.clock)) → IsAddressedAt w to a
      → IsStep ciphers w (events.Send from to datagram) (Ok (sending ciphers w from to datagram (tag_of x)
      (answering sent_word (acts x (Err sends.Halted) (λ m. of_station m (calls.send m.station a datagram (w.sends + 1) w.clock))))))
  AllowsMeter : (number : ℕ) (y c : Node) (psk : Key) → node_at w 0 ≡ Some c
      → IsCall ciphers w 0 c _ (Err orders.Halted) (λ m. coordinator_rules.allow m y.eui psk) → node_at w number ≡ Some y
      → IsStep ciphers w (events.Allow number) (Ok (allowed ciphers w number (acts c (Err orders.Halted) (λ m. coordinator_rules.allow m y.eui psk))))
  Sets : (event : Event) → (IsBrought event → ⊥) → (number : ℕ) (x : Node) (plan : StationMemory → calls.Presetting) → node_at w number ≡ Some x
      → takes_setup w ≡ true → IsPreset plan
      → IsStep ciphers w event (Ok (
        world_after ciphers (set_up w) number (acts x (Ok tt) (λ m. of_station m (plan m.station))),
        trace_of (happenings w answers.Set),
      ))
  -- two nodes act, one after the other
  SetsTwo : (event : Event) → (IsBrought event → ⊥) → (a b cost : ℕ) (x y : Node) (p q : ℕ) → node_at w a ≡ Some x → node_at w b ≡ Some y → b ≢ a
      → takes_setup w ≡ true
      → IsCall ciphers w a x _ (Ok tt) (λ m. of_station m (calls.preset_near m.station q cost w.clock))
      → IsCall ciphers w b y _ (Ok tt) (λ m. of_station m (calls.preset_near m.station p cost w.clock))
      → keeps_rank x q ≡ false → AreNear w p q cost
      → IsStep ciphers w event (Ok (
        world_after ciphers (world_after ciphers (set_up w) a (offered_near x q cost w.clock)) b (offered_near y p cost w.clock),
        trace_of (happenings w answers.Set),
      ))
  Provides : (number : ℕ) (x c : Node) (psk : Key) (g : Granted) (d : NodeStep (Result Granted CoordinatorRefusal)) → number ≢ 0 → takes_setup w ≡ true
      → node_at w number ≡ Some x → node_at w 0 ≡ Some c → psk_of x ≡ Some psk
      → d ≡ workshop c x.eui psk → d.answer ≡ Ok g
      → IsStep ciphers w (events.Depot number) (Ok (provisioned ciphers (world_after ciphers (set_up w) 0 d) number x g))
  -- octets are refused, or heard once they are accepted
  TurnsDown : (event : Event) (number : ℕ) (x : Node) (octets : List ℕ) (reason : FrameRefusal) (d : NodeStep (Result Accepted FrameRefusal))
      → node_at w number ≡ Some x → IsEvent event → Comes w event number octets
      → d ≡ accepting ciphers x octets → d.answer ≡ Err reason
      → IsStep ciphers w event (Ok (world_after ciphers (running_world w) number d, trace_of (happenings w (frame_word reason))))
  Hears : (event : Event) (number : ℕ) (x : Node) (octets : List ℕ) (cost : ℕ) (got : Accepted) → node_at w number ≡ Some x → IsEvent event
      → Comes w event number octets → cost ≤ 255
      → (accepting ciphers x octets).answer ≡ Ok got
      → IsStep ciphers w event (Ok (hearing_outcome ciphers w number (accepting ciphers x octets).node octets got cost))
  -- flights alone
  Loses : (number : ℕ) (f : Flight) → flight_at w number ≡ Some f
      → IsStep ciphers w (events.Lose number)
      (Ok (record (running_world w) { flights = slice_set w.flights (number - 1) (record f { lost = true }) }, trace_of (happenings w answers.Lost)))
  -- time, a restart, and a loss of power that is to come
  Ticks : (seconds : ℕ) → IsStep ciphers w (events.Tick seconds)
      (Ok (record (running_world w) { clock = w.clock + seconds; nodes = map (ticked (w.clock + seconds)) w.nodes }, trace_of (happenings w answers.Ticked)))
  Restarts : (number : ℕ) (x : Node) → node_at w number ≡ Some x → IsStep ciphers w (events.Restart number) (Ok (node_outcome ciphers w number (restarts x)))
  Cuts : (number nth : ℕ) (keeps_new : Bool) (x : Node) → node_at w number ≡ Some x
      → IsStep ciphers w (events.Cut number nth keeps_new)
      (Ok (node_outcome ciphers w number
      (stays (record x { store = record x.store { cut = Some (record { nth = nth; keeps_new = keeps_new }) } }) answers.Set)))

-- # Every event is one of them

no_some : {A : Type 0} (x : A) → None ≡ Some x → ⊥
no_some x e = cc

no_node : (xs : List Node) → length xs ≤ 0 → xs ≡ []
no_node [] le = refl
no_node (x ∷ xs) le = absurd (omega arith)

module _ (ciphers : Ciphers) (w : World) where
  abbrev Is : Event → Step → Type 1
  Is event s = IsStep ciphers w event s

  branch : (event : Event) (b : Bool) (p q : Step) → (b ≡ true → Is event p) → (b ≡ false → Is event q) → Is event (if b then p else q)
  branch event true p q s t = s refl
  branch event false p q s t = t refl

  by_option : {X : Type 0} (event : Event) (f : X → Step) (x : Option X) (p : Step) → ((y : X) → x ≡ Some y → Is event (f y)) → Is event p
      → Is event (option_map_or f x p)
  by_option event f None p s t = t
  by_option event f (Some y) p s t = s y refl

  once : (event : Event) (s : Step) → Is event s → Is event (once_begun w s)
  once event s h = branch event (has_begun w) s (Err faults.Setup) (λ _. h) (λ _. Fails event faults.Setup)

  setup : (event : Event) (s : Step) → (takes_setup w ≡ true → Is event s) → Is event (in_setup w s)
  setup event s h = branch event (takes_setup w) s (Err faults.Setup) h (λ _. Fails event faults.Setup)

  at_node : (event : Event) (number : ℕ) (f : Node → Step) → ((x : Node) → node_at w number ≡ Some x → Is event (f x)) → Is event (on_node w number f)
  at_node event number f h = by_option event f (node_at w number) (Err faults.Node) h (Fails event faults.Node)

  at_meter : (event : Event) (number : ℕ) (f : Node → Step) → (number ≢ 0 → (x : Node) → node_at w number ≡ Some x → Is event (f x))
      → Is event (on_meter w number f)
  at_meter event number f h =
      branch event (number == 0) (Err faults.Node) (on_node w number f) (λ _. Fails event faults.Node) (λ e. at_node event number f (h (eqb-false _ _ e)))

  at_flight : (event : Event) (number : ℕ) (f : Flight → Step) → ((x : Flight) → flight_at w number ≡ Some x → Is event (f x)) → Is event (on_flight w number f)
  at_flight event number f h = by_option event (λ x. if x.lost then Err faults.Flight else f x) (flight_at w number) (Err faults.Flight)
      (λ x e. branch event x.lost (Err faults.Flight) (f x) (λ _. Fails event faults.Flight) (λ _. h x e)) (Fails event faults.Flight)

  -- # Setup

  coordinator_step : (eui : Eui) (key : Key) → IsEui eui → IsKey key → Is (events.Coordinator eui key) (coordinator w eui key)
  unfolding coordinator
  coordinator_step eui key known long =
      branch _ (has_begun w) _ _ (λ _. Fails _ faults.Setup) (λ none. Makes _ _ (OfCoordinator eui key (no_node w.nodes (ltb-false _ _ none)) known long))

  meter_step : (eui : Eui) (psk : Key) → IsEui eui → IsKey psk → Is (events.Meter eui psk) (meter w eui psk)
  unfolding meter
  meter_step eui psk known long = branch _ (not (takes_setup w) || (nat_lt 999 (length w.nodes) || is_known w eui)) _ _ (λ _. Fails _ faults.Setup) (λ may.
      let parts = or_parts _ _ may in
      let room = or_parts _ _ parts.1 in
      Makes _ _ (OfMeter eui psk (begun_some (has_begun w) (not w.running) refl parts.0) (ltb-false _ _ room.0) room.1 known long))
    where
      begun_some : (a b : Bool) → nat_lt 0 (length w.nodes) ≡ a → not (a && b) ≡ false → 0 < length w.nodes
      begun_some true b e h = ltb-true _ _ e
      begun_some false b e h = absurd (cc)

  depot_by_step : (number : ℕ) (x c : Node) (psk : Key) → number ≢ 0 → takes_setup w ≡ true → node_at w number ≡ Some x → node_at w 0 ≡ Some c
      → psk_of x ≡ Some psk → Is (events.Depot number) (depot_by ciphers w number x (workshop c x.eui psk))
  unfolding acts
  depot_by_step number x c psk ne open_is hx hc pair = by_answer (workshop c x.eui psk).answer refl
    where
      by_answer : (r : Result Granted CoordinatorRefusal) → (workshop c x.eui psk).answer ≡ r
          → Is (events.Depot number) (depot_by ciphers w number x (workshop c x.eui psk))
      by_answer (Err reason) e = rw e (Fails _ faults.Setup)
      by_answer (Ok g) e = rw e (Provides number x c psk g (workshop c x.eui psk) ne open_is hx hc pair refl e)

  depot_step : (number : ℕ) → Is (events.Depot number) (depot ciphers w number)
  unfolding depot
  depot_step number = setup _ _ (λ open_is. at_node _ number _
      (λ x hx. at_node _ 0 _ (λ c hc. branch _ ((number == 0) || is_some (node_address x)) _ _ (λ _. Fails _ faults.Setup) (λ may.
      by_option _ (λ psk. depot_by ciphers w number x (workshop c x.eui psk)) (psk_of x) (Err faults.Setup)
      (λ psk pair. depot_by_step number x c psk (eqb-false _ _ (or_parts _ _ may).0) open_is hx hc pair) (Fails _ faults.Setup)))))

  near_by_step : (a b cost : ℕ) (x y : Node) (p q : Option ℕ) → cost ≤ 255 → takes_setup w ≡ true → node_at w a ≡ Some x → node_at w b ≡ Some y
      → node_address x ≡ p → node_address y ≡ q → Is (events.Near a b cost) (near_by ciphers w a b cost x y p q)
  near_by_step a b cost x y None q low open_is hx hy ep eq = Fails _ faults.Setup
  near_by_step a b cost x y (Some p) None low open_is hx hy ep eq = Fails _ faults.Setup
  near_by_step a b cost x y (Some p) (Some q) low open_is hx hy ep eq =
      branch _ ((a == b) || (keeps_rank x q || (ranks_full x || ranks_full y))) _ _ (λ _. Fails _ faults.Setup) (λ may.
      let parts = or_parts _ _ may in
      SetsTwo _ (λ none. none) a b cost x y p q hx hy (λ same. eqb-false _ _ parts.0 (sym same)) open_is
      (Nears q cost open_is (record { number = b; node = y; there = hy; address = eq }) low)
      (Nears p cost open_is (record { number = a; node = x; there = hx; address = ep }) low) (or_parts _ _ parts.1).0
      (record {
        first = record { number = a; node = x; there = hx; address = ep };
        second = record { number = b; node = y; there = hy; address = eq };
        low = low;
      }))

  near_step : (a b cost : ℕ) → cost ≤ 255 → Is (events.Near a b cost) (near ciphers w a b cost)
  unfolding near
  near_step a b cost low = setup _ _
      (λ open_is. at_node _ a _ (λ x hx. at_node _ b _ (λ y hy. near_by_step a b cost x y (node_address x) (node_address y) low open_is hx hy refl refl)))

  preset_step : (event : Event) → (IsBrought event → ⊥) → (number : ℕ) (plan : StationMemory → calls.Presetting) → IsPreset plan
      → Is event (preset ciphers w number plan)
  preset_step event quiet number plan is = setup _ _ (λ open_is. at_node _ number _ (λ x hx. Sets event quiet number x plan hx open_is is))

  -- # The other kinds

  allow_step : (number : ℕ) → Is (events.Allow number) (allow ciphers w number)
  unfolding allow
  allow_step number = once _ _ (at_meter _ number _ (λ ne y hy. at_node _ 0 _ (λ c hc.
      by_option _ (λ psk. Ok (allowed ciphers w number (acts c (Err orders.Halted) (λ m. coordinator_rules.allow m y.eui psk)))) (psk_of y) (Err faults.Node)
      (λ psk pair. AllowsMeter number y c psk hc (Allows number y psk refl (record { other = ne; there = hy }) pair) hy) (Fails _ faults.Node))))

  rand_step : (number : ℕ) (value : RandomOctets) → AreOctets 16 value.0 → Is (events.RandomOctets number value) (rand ciphers w number value)
  unfolding rand
  rand_step number value are =
      once _ _ (at_node _ number _ (λ x hx. Acts _ number x _ _ _ _ hx (Gives value are) (OfRandom number value) (AskRandom value are)))

  joins_step : (number agent : ℕ) (x y : Node) (o : Option ℕ) (p : Option Key) → number ≢ 0 → node_at w number ≡ Some x → node_at w agent ≡ Some y
      → node_address y ≡ o → psk_of x ≡ p → Is (events.Join number agent) (Ok (joins_by ciphers w number x o p))
  joins_step number agent x y None p ne hx hy eo ep = Rests _ (λ b. b)
  joins_step number agent x y (Some a) None ne hx hy eo ep = Rests _ (λ b. b)
  joins_step number agent x y (Some a) (Some psk) ne hx hy eo ep = Acts _ number x _ _ _ _ hx
      (Joins psk a ne ep (record { number = agent; node = y; there = hy; address = eo })) (OfJoin number agent)
      (AskJoin psk a ne ep (record { number = agent; node = y; there = hy; address = eo }))

  join_step : (number agent : ℕ) → Is (events.Join number agent) (join ciphers w number agent)
  unfolding join
  join_step number agent =
      once _ _ (at_meter _ number _ (λ ne x hx. at_node _ agent _ (λ y hy. joins_step number agent x y (node_address y) (psk_of x) ne hx hy refl refl)))

  leave_step : (number : ℕ) → Is (events.Leave number) (leave ciphers w number)
  unfolding leave
  leave_step number = once _ _ (at_meter _ number _ (λ ne x hx. Acts _ number x _ _ _ _ hx (Leaves ne) (OfLeave number) (AskLeave ne)))

  sends_step : (from to : ℕ) (datagram : List ℕ) (x y : Node) (o : Option ℕ) → IsLineOctets datagram → node_at w from ≡ Some x → node_at w to ≡ Some y
      → node_address y ≡ o → Is (events.Send from to datagram) (Ok (sends_by ciphers w from to datagram x o))
  sends_step from to datagram x y None are hx hy eo = Rests _ (λ b. b)
  sends_step from to datagram x y (Some a) are hx hy eo = SendsFrom from to datagram x a hx
      (Sends a datagram (record { number = to; node = y; there = hy; address = eo }) are) (record { node = y; there = hy; address = eo })

  send_step : (from to : ℕ) (datagram : List ℕ) → IsLineOctets datagram → Is (events.Send from to datagram) (send ciphers w from to datagram)
  unfolding send
  send_step from to datagram are =
      once _ _ (at_node _ from _ (λ x hx. at_node _ to _ (λ y hy. sends_step from to datagram x y (node_address y) are hx hy refl)))

  breaks_step : (number next : ℕ) (x y : Node) (o : Option ℕ) → node_at w number ≡ Some x → node_at w next ≡ Some y → node_address y ≡ o
      → Is (events.Break number next) (Ok (breaks_by ciphers w number x o))
  breaks_step number next x y None hx hy eo = Rests _ (λ b. b)
  breaks_step number next x y (Some a) hx hy eo = BreaksLink number next x a hx (Breaks a (record { number = next; node = y; there = hy; address = eo }))

  break_step : (number next : ℕ) → Is (events.Break number next) (breaks ciphers w number next)
  unfolding breaks
  break_step number next = once _ _ (at_node _ number _ (λ x hx. at_node _ next _ (λ y hy. breaks_step number next x y (node_address y) hx hy refl)))

  arrives_step : (event : Event) (number : ℕ) (x : Node) (octets : List ℕ) (cost : ℕ) → node_at w number ≡ Some x → IsEvent event → Comes w event number octets
      → cost ≤ 255 → Is event (Ok (arrives ciphers w number x octets cost))
  unfolding arrives acts
  arrives_step event number x octets cost hx says comes low = by_answer (accepting ciphers x octets).answer refl
    where
      by_answer : (r : Result Accepted FrameRefusal) → (accepting ciphers x octets).answer ≡ r
          → Is event (Ok (accepted_by ciphers w number octets cost (accepting ciphers x octets)))
      by_answer (Err reason) e = rw e (TurnsDown event number x octets reason (accepting ciphers x octets) hx says comes refl e)
      by_answer (Ok got) e = rw e (Hears event number x octets cost got hx says comes low e)

  deliver_step : (flight number cost : ℕ) → IsEvent (events.Deliver flight number cost)
      → Is (events.Deliver flight number cost) (deliver ciphers w flight number cost)
  unfolding deliver
  deliver_step flight number cost says = once _ _
      (at_node _ number _ (λ x hx. at_flight _ flight _ (λ f e. arrives_step _ number x f.octets cost hx says (OfFlight flight number cost f e) says.2.1)))

  inject_step : (number cost : ℕ) (octets : List ℕ) → IsEvent (events.Inject number cost octets)
      → Is (events.Inject number cost octets) (inject ciphers w number cost octets)
  unfolding inject
  inject_step number cost octets says =
      once _ _ (at_node _ number _ (λ x hx. arrives_step _ number x octets cost hx says (OfScript number cost octets) says.1.1))

  lose_step : (number : ℕ) → Is (events.Lose number) (lose w number)
  unfolding lose
  lose_step number = once _ _ (at_flight _ number _ (λ f e. Loses number f e))

  tick_step : (seconds : ℕ) → Is (events.Tick seconds) (tick w seconds)
  unfolding tick
  tick_step seconds = once _ _ (Ticks seconds)

  restart_step : (number : ℕ) → Is (events.Restart number) (restart ciphers w number)
  unfolding restart
  restart_step number = once _ _ (at_node _ number _ (λ x hx. Restarts number x hx))

  cut_step : (number nth : ℕ) (keeps_new : Bool) → Is (events.Cut number nth keeps_new) (cut ciphers w number nth keeps_new)
  unfolding cut
  cut_step number nth keeps_new = once _ _ (at_node _ number _ (λ x hx. Cuts number nth keeps_new x hx))

  show_step : (number : ℕ) → Is (events.Show number) (show w number)
  unfolding show
  show_step number = once _ _ (at_node _ number _ (λ x hx. Shows number x))

  -- # Orders

  rekey_step : (index : ℕ) (key : Key) → index ≤ 1 → IsKey key → Is (events.Rekey index key) (rekey ciphers w index key)
  unfolding rekey
  rekey_step index key low long =
      once _ _ (at_node _ 0 _ (λ c hc. Acts _ 0 c _ _ _ _ hc (Rekeys index key refl low long) (OfDraw _ index key) (AskRekey index key refl low long)))

  challenge_step : (number : ℕ) → Is (events.Challenge number) (challenge ciphers w number)
  unfolding challenge
  challenge_step number = once _ _ (at_meter _ number _ (λ ne y hy. at_node _ 0 _
      (λ c hc. Acts _ 0 c _ _ _ _ hc (Challenges number y refl (record { other = ne; there = hy })) (OfChallenge _ number)
      (AskChallenge number y refl (record { other = ne; there = hy })))))

  activate_step : (number index : ℕ) → index ≤ 1 → Is (events.Activate number index) (activate ciphers w number index)
  unfolding activate
  activate_step number index low = once _ _ (at_node _ number _ (λ y hy. at_node _ 0 _ (λ c hc. by_number (number == 0) refl y c hy hc)))
    where
      by_number : (b : Bool) → (number == 0) ≡ b → (y c : Node) → node_at w number ≡ Some y → node_at w 0 ≡ Some c
          → Is (events.Activate number index) (Ok (if b then by_coordinator ciphers w c answers.Activated (λ m. coordinator_rules.activate_self m index)
          else by_coordinator ciphers w c answers.Ordered (λ m. coordinator_rules.activate m y.eui index w.clock)))
      by_number true e y c hy hc = Acts _ 0 c _ _ _ _ hc (Turns index refl low) (OfTurn _ number index) (AskTurn index refl low)
      by_number false e y c hy hc = Acts _ 0 c _ _ _ _ hc (Activates number y index refl (record { other = eqb-false _ _ e; there = hy }) low)
          (OfOrder _ number index) (AskActivate number y index refl (record { other = eqb-false _ _ e; there = hy }) low)

  kick_step : (number : ℕ) → Is (events.Kick number) (kick ciphers w number)
  unfolding kick
  kick_step number = once _ _ (at_meter _ number _ (λ ne y hy. at_node _ 0 _
      (λ c hc. Acts _ 0 c _ _ _ _ hc (Kicks number y refl (record { other = ne; there = hy })) (OfKick _ number)
      (AskKick number y refl (record { other = ne; there = hy })))))

  -- every event is one of them
  pub step_is : (event : Event) → IsEvent event → IsStep ciphers w event (step ciphers w event)
  step_is (events.Coordinator eui key) e = coordinator_step eui key e.0 e.1
  step_is (events.Meter eui psk) e = meter_step eui psk e.0 e.1
  step_is (events.Depot node) e = depot_step node
  step_is (events.Near a b cost) e = near_step a b cost e.2.1
  step_is (events.Counter node value) e = preset_step _ (λ b. b) node _ (OfCounter value e.1)
  step_is (events.Number node value) e = preset_step _ (λ b. b) node _ (OfNumber value e.1 e.2)
  step_is (events.Allow node) e = allow_step node
  step_is (events.RandomOctets node value) e = rand_step node value e.1
  step_is (events.Join node agent) e = join_step node agent
  step_is (events.Leave node) e = leave_step node
  step_is (events.Send from to datagram) e = send_step from to datagram e.2
  step_is (events.Deliver flight node cost) e = deliver_step flight node cost e
  step_is (events.Inject node cost octets) e = inject_step node cost octets e
  step_is (events.Lose flight) e = lose_step flight
  step_is (events.Break node next) e = break_step node next
  step_is (events.Tick seconds) e = tick_step seconds
  step_is (events.Restart node) e = restart_step node
  step_is (events.Cut node nth keeps_new) e = cut_step node nth keeps_new
  step_is (events.Rekey index key) e = rekey_step index key e.0 e.1
  step_is (events.Challenge node) e = challenge_step node
  step_is (events.Activate node index) e = activate_step node index e.1
  step_is (events.Kick node) e = kick_step node
  step_is (events.Show node) e = show_step node
  step_is events.Checks e = Fails _ faults.Setup
  step_is (events.Bcast node datagram) e = Fails _ faults.Setup
  step_is (events.Scan node) e = Fails _ faults.Setup
  step_is (events.Choose node k) e = Fails _ faults.Setup
  step_is (events.Path from to) e = Fails _ faults.Setup
