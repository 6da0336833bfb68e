-- Every event of a run of the network keeps that what nodes hold and what flies is octets.
use Rattle.std.proofs.Common.{◌≡◌, ℕ, ◌+◌, ◌-◌, ◌<◌, Bool, true, false, List, [], Some, None, Result, Ok, Err, refl, sym, ap, ◌∙◌, subst, arith}
use Rattle.std.specs.Prelude.{All, IfSome, ◌==◌, if◌then◌else◌, slice_get}
use Rattle.std.proofs.lemmas.List.Elements.{All-nil, All-push, All-set, All-append, All-map, All-weaker}
use Rattle.std.proofs.lemmas.Option.{same_Some}
use Rattle.plc_base.specs.Grant.{Granted}
use Rattle.plc_base.specs.declared.key.Key.{Key}
use Rattle.line_rules.specs.Answers.{Reception, meter_reception, coordinator_reception, sent_word}
use Rattle.line_events.specs.declared.event.Answer.{Answer}
use Rattle.line_events.specs.declared.event.Answer.TheVariants as answers
use Rattle.line_events.specs.declared.event.Event.{Event}
use Rattle.node_rules.specs.Accepted.{Accepted}
use Rattle.node_rules.specs.declared.heard.SentHow.{SentHow}
use Rattle.node_rules.specs.declared.refusal.CoordinatorRefusal.{CoordinatorRefusal}
use Rattle.node_rules.specs.declared.refusal.CoordinatorRefusal.TheVariants as orders
use Rattle.node_rules.specs.declared.refusal.Dropped.TheVariants as drops
use Rattle.node_rules.specs.declared.refusal.FrameRefusal.{FrameRefusal}
use Rattle.node_rules.specs.declared.refusal.FrameRefusal.TheVariants as frames
use Rattle.node_rules.specs.declared.refusal.SendRefusal.{SendRefusal}
use Rattle.node_rules.specs.declared.refusal.SendRefusal.TheVariants as sends
use Rattle.node_rules.specs.Acceptance.{accept}
use Rattle.node_rules.specs.Calls as calls
use Rattle.node_rules.specs.Ciphers.{network}
use Rattle.node_rules.specs.Coordinators as coordinator_rules
use Rattle.node_rules.specs.Frames.{spelled, arrived}
use Rattle.node_rules.specs.Memory.{Memory, Role, Coordinator, Meter, Node}
use Rattle.node_rules.specs.MemoryDrafts.{with_station}
use Rattle.node_rules.specs.Meters as meters
use Rattle.node_rules.specs.NodeSteps.{NodeStep, acts, stays, answering, changing, of_station}
use Rattle.node_rules.specs.Plans.{Plan}
use Rattle.node_rules.specs.RestartStates.{first_grant}
use Rattle.line_events.specs.Events.{IsEvent}
use Rattle.line_rules.specs.Forgery.{Comes, accepting}
use Rattle.line_rules.specs.Worlds.{World, Flight, node_at, flight_at, start}
use Rattle.line_rules.specs.Steps.{Step, set_up, running_world, world_after, blank_node, ticked, flights_of, flight_by, node_outcome, sending, sent_if}
use Rattle.line_rules.specs.Steps.{is_taken, tag_of, hearing_step}
use Rattle.line_rules.specs.Steps.{offered_near, hearing_outcome, note_by, identity, restarts, psk_of}
use Rattle.line_laws.specs.Stores.{IsReadable, HasEui}
use Rattle.line_laws.specs.Owed.{AreOctets}
use Rattle.line_laws.proofs.Answered.{acts_answered}
use Rattle.line_laws.proofs.CoordinatorCalls.{accept_ok, accept_failed, accepted_routes}
use Rattle.line_laws.proofs.CoordinatorOctets.{coordinator_speaks, allow_speaks, depot_speaks, rekey_speaks, turn_speaks, challenge_speaks, activate_speaks}
use Rattle.line_laws.proofs.CoordinatorOctets.{kick_speaks}
use Rattle.line_laws.proofs.FlightFolds.{came_octets}
use Rattle.line_laws.proofs.MeterOctets.{meter_speaks, joins_speaks, leave_speaks}
use Rattle.line_laws.proofs.NodeCalls.{RoutesFit}
use Rattle.line_laws.proofs.Nodes.{NodeOk, acts_ok, ring_readable, node_kept, pair_octets}
use Rattle.line_laws.proofs.OctetCalls.{NodeSpeaks, DidSpeak, acts_speaks, answering_speaks, booked, new_speaks, restarts_speaks, ticked_speaks, broke_speaks}
use Rattle.line_laws.proofs.OctetCalls.{counter_speaks, number_speaks, accept_speaks, install_speaks, begin_speaks, send_speaks, near_speaks, random_speaks}
use Rattle.line_laws.proofs.OctetCalls.{booked_short}
use Rattle.line_laws.proofs.OctetDrafts.{MemorySpeaks, SentOctets, PlanSpeaks}
use Rattle.line_laws.proofs.BookGrowth.{psk_meter}
use Rattle.line_laws.proofs.StorableGrants.{held, network_ranges}
use Rattle.line_laws.proofs.StoreMarks.{accept_is}
use Rattle.line_laws.proofs.StepKinds.{IsCall, Gives, Joins, Leaves, Sends, Breaks, Nears, Counts, Numbers, Accepts, Provisions, Depots, Allows, Rekeys, Turns}
use Rattle.line_laws.proofs.StepKinds.{Challenges, Activates, Kicks, IsMade, OfCoordinator, OfMeter, preset_call, IsStep, Fails, Makes, Rests, Shows, Acts}
use Rattle.line_laws.proofs.StepKinds.{BreaksLink, SendsFrom, AllowsMeter, Sets, SetsTwo, Provides, TurnsDown, Hears, Loses, Ticks, Restarts, Cuts}
use Rattle.line_laws.proofs.Worlds.{NodeFits, FlightFits, WorldOk, at_place}

-- What the nodes of a line hold, and what flies, is octets.
pub record WorldSpeaks (w : World) : Type 0 where
  pub nodes : All NodeSpeaks w.nodes
  pub flights : All FlightFits w.flights

-- what a node did goes into the world
pub after_speaks : {A : Type 0} (u : World) (number : ℕ) (d : NodeStep A) → WorldSpeaks u → DidSpeak d → WorldSpeaks (world_after network u number d)
unfolding world_after
after_speaks u number d s did = record {
  nodes = All-set NodeSpeaks u.nodes number d.node did.node s.nodes;
  flights = All-append FlightFits u.flights (flights_of network number d) s.flights
      (All-map FlightFits (λ frame. flight_by number (spelled network frame)) d.frames did.frames);
}

-- a meter has its pair key
pub psk_role : (x : Node) (psk : Key) → psk_of x ≡ Some psk → x.role ≡ Meter psk
psk_role x psk = by_role x.role
  where
    by_role : (role : Role) → psk_of (record x { role = role }) ≡ Some psk → role ≡ Meter psk
    by_role Coordinator e = absurd (cc)
    by_role (Meter k) e = ap Meter (same_Some _ _ e)

module _ (w : World) (ok : WorldOk w) (s : WorldSpeaks w) where
  good_at : (number : ℕ) (x : Node) → node_at w number ≡ Some x → NodeOk x
  good_at number x there = at_place NodeOk w.nodes number x there ok.nodes

  given_at : (number : ℕ) (x : Node) → node_at w number ≡ Some x → NodeFits x
  given_at number x there = at_place NodeFits w.nodes number x there ok.fits

  speaks_at : (number : ℕ) (x : Node) → node_at w number ≡ Some x → NodeSpeaks x
  speaks_at number x there = at_place NodeSpeaks w.nodes number x there s.nodes

  ran_speaks : WorldSpeaks (running_world w)
  ran_speaks = record { nodes = s.nodes; flights = s.flights }

  set_up_speaks : WorldSpeaks (set_up w)
  set_up_speaks = record { nodes = s.nodes; flights = s.flights }

  pub pair_of : (number : ℕ) (x : Node) (m : Memory) (psk : Key) → node_at w number ≡ Some x → x.memory ≡ Some m → psk_of x ≡ Some psk → AreOctets psk.0
  pair_of number x m psk there here pair = pair_octets x m psk (node_kept x m (good_at number x there) here) (psk_meter x psk pair)

  -- # Calls

  -- an order of the coordinator
  order_speaks : {A E : Type 0} (number : ℕ) (x : Node) (halted : Result A E) (plan : Memory → Plan Memory (Result A E)) → number ≡ 0
      → node_at w number ≡ Some x
      → ((m : Memory) → MemorySpeaks m → IfSome m.station.ring IsReadable → x.memory ≡ Some m → x.role ≡ Coordinator → PlanSpeaks (plan m))
      → DidSpeak (acts x halted plan)
  order_speaks number x halted plan zero_is there f = acts_speaks x halted plan (speaks_at number x there)
      (λ m here h. f m h (ring_readable x m (good_at number x there) here) here (ok.first x (ap (slice_get w.nodes) (sym zero_is) ∙ there)))

  call_speaks : (number : ℕ) (x : Node) (A : Type 0) (halted : A) (plan : Memory → Plan Memory A) → node_at w number ≡ Some x
      → IsCall network w number x A halted plan → DidSpeak (acts x halted plan)
  call_speaks number x A halts plan there (Gives value are) = acts_speaks x _ _ (speaks_at number x there)
      (λ m here h. random_speaks m h (ring_readable x m (good_at number x there) here) value (are.1, let long = are.0 in omega arith))
  call_speaks number x A halts plan there (Joins psk a ne pair other) = acts_speaks x _ _ (speaks_at number x there)
      (λ m here h. joins_speaks x.eui psk (given_at number x there).eui (pair_of number x m psk there here pair) m h
      (ring_readable x m (good_at number x there) here) w.clock a)
  call_speaks number x A halts plan there (Leaves ne) = acts_speaks x _ _ (speaks_at number x there)
      (λ m here h. leave_speaks x.eui (record { 0 = [] }) (given_at number x there).eui (All-nil (λ n. n < 256)) m h
      (ring_readable x m (good_at number x there) here) w.clock)
  call_speaks number x A halts plan there (Sends a datagram other are) = acts_speaks x _ _ (speaks_at number x there)
      (λ m here h. send_speaks m h (ring_readable x m (good_at number x there) here) a datagram (w.sends + 1) w.clock are.2)
  call_speaks number x A halts plan there (Breaks a other) = acts_speaks x _ _ (speaks_at number x there) (λ m here h. broke_speaks m h a answers.Broken)
  call_speaks number x A halts plan there (Nears a cost open_is other low) =
      acts_speaks x _ _ (speaks_at number x there) (λ m here h. near_speaks m h (ring_readable x m (good_at number x there) here) a cost w.clock)
  call_speaks number x A halts plan there (Counts value open_is low) = acts_speaks x _ _ (speaks_at number x there) (λ m here h. counter_speaks m h value)
  call_speaks number x A halts plan there (Numbers value open_is some low) = acts_speaks x _ _ (speaks_at number x there) (λ m here h. number_speaks m h value)
  call_speaks number x A halts plan there (Accepts octets event says comes) =
      acts_speaks x _ _ (speaks_at number x there) (λ m here h. accept_speaks m h x.eui (arrived network octets))
  call_speaks number x A halts plan there (Provisions psk c g ne pair at is) = acts_speaks x _ _ (speaks_at number x there) (λ m here h. install_speaks m h g)
  call_speaks number x A halts plan there (Depots meter y psk zero_is open_is at pair) = order_speaks number x _ _ zero_is there
      (λ m h reads here role. depot_speaks x.eui (given_at number x there).eui m h reads (booked x m (good_at number x there) role here) w.clock y.eui psk)
  call_speaks number x A halts plan there (Allows meter y psk zero_is at pair) = order_speaks number x _ _ zero_is there
      (λ m h reads here role. allow_speaks x.eui (given_at number x there).eui m h reads (booked x m (good_at number x there) role here) w.clock y.eui psk)
  call_speaks number x A halts plan there (Rekeys index key zero_is low long) = order_speaks number x _ _ zero_is there
      (λ m h reads here role. rekey_speaks x.eui (given_at number x there).eui m h reads (booked x m (good_at number x there) role here) w.clock index key
      (held key long.0 long.1))
  call_speaks number x A halts plan there (Turns index zero_is low) = order_speaks number x _ _ zero_is there
      (λ m h reads here role. turn_speaks x.eui (given_at number x there).eui m h reads (booked x m (good_at number x there) role here) w.clock index low)
  call_speaks number x A halts plan there (Challenges meter y zero_is at) = order_speaks number x _ _ zero_is there
      (λ m h reads here role. challenge_speaks x.eui (given_at number x there).eui m h reads (booked x m (good_at number x there) role here) w.clock y.eui
      (given_at meter y at.there).eui (booked_short x m (good_at number x there) role here))
  call_speaks number x A halts plan there (Activates meter y index zero_is at low) = order_speaks number x _ _ zero_is there
      (λ m h reads here role. activate_speaks x.eui (given_at number x there).eui m h reads (booked x m (good_at number x there) role here) w.clock y.eui index
      low)
  call_speaks number x A halts plan there (Kicks meter y zero_is at) = order_speaks number x _ _ zero_is there
      (λ m h reads here role. kick_speaks x.eui (given_at number x there).eui m h reads (booked x m (good_at number x there) role here) w.clock y.eui)

  -- # What comes

  hears_speaks : (y : Node) (got : Accepted) (cost note now : ℕ) → NodeOk y → NodeSpeaks y → HasEui y.eui → AreOctets got.payload
      → DidSpeak (hearing_step network y got cost note now)
  hears_speaks y got cost note now good h own are = by_role y.role refl
    where
      hears_as : Role → NodeStep Reception
      hears_as Coordinator = answering coordinator_reception
          (acts y (Err drops.Store) (λ m. coordinator_rules.hear_coordinator (record { eui = y.eui; ciphers = network }) m got cost note now))
      hears_as (Meter psk) = answering meter_reception (acts y (Err drops.Store) (λ m. meters.hear_meter (identity network y psk) m got cost note now))

      by_role : (role : Role) → y.role ≡ role → DidSpeak (hears_as role)
      by_role Coordinator is = answering_speaks coordinator_reception _
          (acts_speaks y (Err drops.Store) _ h
          (λ m here k. coordinator_speaks y.eui own m k (ring_readable y m good here) (booked y m good is here) now got cost note are))
      by_role (Meter psk) is = answering_speaks meter_reception _ (acts_speaks y (Err drops.Store) _ h
          (λ m here k. meter_speaks y.eui psk own (pair_octets y m psk (node_kept y m good here) is) m k (ring_readable y m good here) now got cost note are))

  -- what became of octets that a node accepted
  heard_did : (event : Event) (number : ℕ) (x : Node) (octets : List ℕ) (cost : ℕ) (got : Accepted) → node_at w number ≡ Some x → IsEvent event
      → Comes w event number octets → (accepting network x octets).answer ≡ Ok got
      → DidSpeak (hearing_step network (accepting network x octets).node got cost (note_by w octets got.path) w.clock)
  heard_did event number x octets cost got there says comes is =
      let are : AreOctets octets = came_octets network network_ranges w ok s.flights event number octets says comes in
      let plan : Memory → Plan Memory (Result Accepted FrameRefusal) = λ m. of_station m (accept m.station x.eui (arrived network octets)) in
      let did = acts_ok x (Err frames.Halted) plan (good_at number x there)
      (λ m here kept sized. accept_ok network network_ranges octets are x.role m x.eui sized) in
      let left = acts_speaks x (Err frames.Halted) plan (speaks_at number x there) (λ m here h. accept_speaks m h x.eui (arrived network octets)) in
      let a = acts_answered x frames.Halted frames.Store plan
      (λ m. accept_failed network network_ranges octets are m.station _ (accept_is m.station x.eui (arrived network octets))) got is in
      let routes : RoutesFit got = accepted_routes network network_ranges octets are a.memory.station
      (ring_readable x a.memory (good_at number x there) a.there) _ got (accept_is a.memory.station x.eui (arrived network octets)) a.is in
      hears_speaks (accepting network x octets).node got cost (note_by w octets got.path) w.clock did.node left.node
      (subst HasEui (sym did.eui) (given_at number x there).eui) routes.payload

  -- # Events

  abbrev pub SpeaksIn : Step → Type 0
  SpeaksIn (Ok r) = WorldSpeaks r.0
  SpeaksIn (Err fault) = Unit {0}

  made_is : (event : Event) (x : Node) → IsMade w event x → NodeSpeaks x
  made_is event x (OfCoordinator eui key none known long) = (acts_speaks (blank_node Coordinator eui) (Ok tt) (λ m. coordinator_rules.begin m (first_grant key))
      new_speaks (λ m here h. begin_speaks m h (first_grant key))).node
  made_is event x (OfMeter eui psk some room new known long) = new_speaks

  sending_is : (from to : ℕ) (datagram : List ℕ) (x : Node) (d : NodeStep Answer) → DidSpeak d → WorldSpeaks (sending network w from to datagram (tag_of x) d).0
  sending_is from to datagram x d did = by_taken (is_taken d.answer) (after_speaks (running_world w) from d ran_speaks did)
    where
      by_taken : (b : Bool) → WorldSpeaks (world_after network (running_world w) from d)
          → WorldSpeaks (sent_if w from to datagram (tag_of x) b (node_outcome network w from d)).0
      by_taken true k = record { nodes = k.nodes; flights = k.flights }
      by_taken false k = k

  heard_is : (number : ℕ) (y : Node) (octets : List ℕ) (got : Accepted) (cost : ℕ)
      → DidSpeak (hearing_step network y got cost (note_by w octets got.path) w.clock)
      → WorldSpeaks (hearing_outcome network w number y octets got cost).0
  heard_is number y octets got cost did =
      let k = after_speaks (running_world w) number (hearing_step network y got cost (note_by w octets got.path) w.clock) ran_speaks did in
      record { nodes = k.nodes; flights = k.flights }

  flight_place : (number : ℕ) (f : Flight) → flight_at w number ≡ Some f → slice_get w.flights (number - 1) ≡ Some f
  flight_place number f = by_number (number == 0)
    where
      by_number : (b : Bool) → (if b then None else slice_get w.flights (number - 1)) ≡ Some f → slice_get w.flights (number - 1) ≡ Some f
      by_number true e = absurd (cc)
      by_number false e = e

  pub event_speaks : (event : Event) (st : Step) → IsStep network w event st → SpeaksIn st
  event_speaks event st (Fails e fault) = tt
  event_speaks event st (Makes e x is) = record { nodes = All-push NodeSpeaks w.nodes x s.nodes (made_is e x is); flights = s.flights }
  event_speaks event st (Rests e quiet) = ran_speaks
  event_speaks event st (Shows number x) = ran_speaks
  event_speaks event st (Acts e number x A halts plan reads there call word asked) =
      after_speaks (running_world w) number (answering reads (acts x halts plan)) ran_speaks
      (answering_speaks reads (acts x halts plan) (call_speaks number x A halts plan there call))
  event_speaks event st (BreaksLink number next x a there call) =
      let plan : Memory → Plan Memory Answer = λ m. changing answers.Broken (with_station (calls.broke a m.station) m) in
      after_speaks (running_world w) number (acts x answers.Halted plan) ran_speaks (call_speaks number x Answer answers.Halted plan there call)
  event_speaks event st (SendsFrom from to datagram x a there call target) =
      let plan : Memory → Plan Memory (Result SentHow SendRefusal) = λ m. of_station m (calls.send m.station a datagram (w.sends + 1) w.clock) in
      sending_is from to datagram x (answering sent_word (acts x (Err sends.Halted) plan))
      (answering_speaks sent_word (acts x (Err sends.Halted) plan) (call_speaks from x _ (Err sends.Halted) plan there call))
  event_speaks event st (AllowsMeter number y c psk there call meter) =
      let plan : Memory → Plan Memory (Result ℕ CoordinatorRefusal) = λ m. coordinator_rules.allow m y.eui psk in
      after_speaks (running_world w) 0 (acts c (Err orders.Halted) plan) ran_speaks (call_speaks 0 c _ (Err orders.Halted) plan there call)
  event_speaks event st (Sets e quiet number x plan there open_is is) =
      after_speaks (set_up w) number (acts x (Ok tt) (λ m. of_station m (plan m.station))) set_up_speaks
      (call_speaks number x _ (Ok tt) (λ m. of_station m (plan m.station)) there (preset_call network w number x plan open_is is))
  event_speaks event st (SetsTwo e quiet a b cost x y p q hx hy apart open_is first second fresh near) =
      let one = after_speaks (set_up w) a (offered_near x q cost w.clock) set_up_speaks
      (answering_speaks (λ _. tt) _ (call_speaks a x _ (Ok tt) (λ m. of_station m (calls.preset_near m.station q cost w.clock)) hx first)) in
      after_speaks (world_after network (set_up w) a (offered_near x q cost w.clock)) b (offered_near y p cost w.clock) one
      (answering_speaks (λ _. tt) _ (call_speaks b y _ (Ok tt) (λ m. of_station m (calls.preset_near m.station p cost w.clock)) hy second))
  event_speaks event st (Provides number x c psk g d ne open_is hx hc pair same is) =
      let did : DidSpeak d = subst (λ (z : NodeStep (Result Granted CoordinatorRefusal)). DidSpeak z) (sym same)
      (order_speaks 0 c (Err orders.Halted) (λ m. coordinator_rules.depot m x.eui psk) refl hc
      (λ m h reads here role. depot_speaks c.eui (given_at 0 c hc).eui m h reads (booked c m (good_at 0 c hc) role here) w.clock x.eui psk)) in
      after_speaks (world_after network (set_up w) 0 d) number (acts x (Ok tt) (λ m. meters.provision m g)) (after_speaks (set_up w) 0 d set_up_speaks did)
      (acts_speaks x (Ok tt) (λ m. meters.provision m g) (speaks_at number x hx) (λ m here h. install_speaks m h g))
  event_speaks event st (TurnsDown e number x octets reason d there says comes same is) =
      let did : DidSpeak d = subst (λ (z : NodeStep (Result Accepted FrameRefusal)). DidSpeak z) (sym same)
      (acts_speaks x (Err frames.Halted) (λ m. of_station m (accept m.station x.eui (arrived network octets))) (speaks_at number x there)
      (λ m here h. accept_speaks m h x.eui (arrived network octets))) in
      after_speaks (running_world w) number d ran_speaks did
  event_speaks event st (Hears e number x octets cost got there says comes low is) =
      heard_is number (accepting network x octets).node octets got cost (heard_did e number x octets cost got there says comes is)
  event_speaks event st (Loses number f there) = record {
    nodes = s.nodes;
    flights = All-set FlightFits w.flights (number - 1) (record f { lost = true })
        (at_place FlightFits w.flights (number - 1) f (flight_place number f there) s.flights) s.flights;
  }
  event_speaks event st (Ticks seconds) = record {
    nodes = All-map NodeSpeaks (ticked (w.clock + seconds)) w.nodes
        (All-weaker NodeSpeaks (λ x. NodeSpeaks (ticked (w.clock + seconds) x)) (ticked_speaks (w.clock + seconds)) w.nodes s.nodes);
    flights = s.flights;
  }
  event_speaks event st (Restarts number x there) = after_speaks (running_world w) number (restarts x) ran_speaks (restarts_speaks x (good_at number x there))
  event_speaks event st (Cuts number nth keeps_new x there) =
      after_speaks (running_world w) number
      (stays (record x { store = record x.store { cut = Some (record { nth = nth; keeps_new = keeps_new }) } }) answers.Set) ran_speaks
      (record { node = speaks_at number x there; frames = All-nil SentOctets })

-- # Runs

pub start_speaks : WorldSpeaks start
start_speaks = record { nodes = All-nil NodeSpeaks; flights = All-nil FlightFits }
