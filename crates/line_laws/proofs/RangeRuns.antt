-- Where no event is forged, each node of the network stays in its ranges, what flies is letters in theirs and plain frames, and what nodes spell is read back.
use Rattle.std.proofs.Common.{◌≡◌, ℕ, ◌+◌, ◌-◌, ◌<◌, Bool, true, false, List, [], length, Option, Some, None, Result, Ok, Err, refl, sym, ap, ◌∙◌, subst, arith}
use Rattle.std.specs.Prelude.{All, IfSome, ◌==◌, if◌then◌else◌, slice_get}
use Rattle.std.proofs.lemmas.Bool.{or_parts}
use Rattle.std.proofs.lemmas.Option.{same_Some, none-some}
use Rattle.std.proofs.lemmas.List.Elements.{All-nil, All-push, All-set, All-append, All-map, All-weaker}
use Rattle.plc_base.specs.Grant.{Granted}
use Rattle.plc_base.specs.declared.key.Key.{Key}
use Rattle.routing_set.specs.declared.entry.RoutingEntry.{RoutingEntry}
use Rattle.routing_set.specs.declared.entry.Route.{Route}
use Rattle.line_rules.specs.Answers.{sent_word}
use Rattle.line_events.specs.declared.event.Answer.{Answer}
use Rattle.line_events.specs.declared.event.Answer.TheVariants as answers
use Rattle.line_events.specs.declared.event.Event.{Event}
use Rattle.line_rules.specs.Forgery.{accepting}
use Rattle.line_rules.specs.Worlds.{World, Flight, node_at, flight_at, start}
use Rattle.line_rules.specs.Steps.{Step, set_up, running_world, world_after, node_outcome, sending, sent_if, is_taken, tag_of, hearing_step, hearing_outcome}
use Rattle.line_rules.specs.Steps.{note_by, forged_by, identity}
use Rattle.line_rules.specs.Steps.{psk_of}
use Rattle.line_rules.specs.Steps.{flights_of, offered_near, blank_node, restarts, memory_by, ticked}
use Rattle.node_rules.specs.Accepted.{Accepted}
use Rattle.node_rules.specs.declared.heard.SentHow.{SentHow}
use Rattle.node_rules.specs.declared.refusal.CoordinatorRefusal.{CoordinatorRefusal}
use Rattle.node_rules.specs.declared.refusal.CoordinatorRefusal.TheVariants as orders
use Rattle.node_rules.specs.declared.refusal.FrameRefusal.{FrameRefusal}
use Rattle.node_rules.specs.declared.refusal.FrameRefusal.TheVariants as frames
use Rattle.node_rules.specs.declared.refusal.SendRefusal.{SendRefusal}
use Rattle.node_rules.specs.declared.refusal.SendRefusal.TheVariants as sends
use Rattle.node_rules.specs.Acceptance.{accept}
use Rattle.node_rules.specs.Calls as calls
use Rattle.node_rules.specs.Ciphers.{network}
use Rattle.node_rules.specs.Coordinators as coordinator_rules
use Rattle.node_rules.specs.Frames.{arrived}
use Rattle.node_rules.specs.Memory.{Memory, Role, Coordinator, Meter, Node}
use Rattle.node_rules.specs.MemoryDrafts.{with_station}
use Rattle.node_rules.specs.Meters as meters
use Rattle.node_rules.specs.NodeSteps.{NodeStep, acts, stays, answering, changing, of_station}
use Rattle.node_rules.specs.Plans.{Plan}
use Rattle.node_rules.specs.RestartStates.{first_grant, blank_station}
use Rattle.line_laws.specs.SealedUnits.{IsFlight}
use Rattle.line_laws.specs.Owed.{AreOctets}
use Rattle.line_laws.specs.Ranges.{HasHop, IsBody, IsStationRanged}
use Rattle.line_laws.specs.Sizes.{IsMemorySized}
use Rattle.line_laws.specs.Stores.{IsReadable, IsReadableEntry, IsKept}
use Rattle.line_laws.proofs.Answered.{acts_answered, depot_grants}
use Rattle.line_laws.proofs.BookGrowth.{psk_meter}
use Rattle.line_laws.proofs.CommandSizes.{EntryHasEight, IsBooked, says_short, speaks_well}
use Rattle.line_laws.proofs.CoordinatorCalls.{accept_ok, accept_failed, accepted_routes, depot_failed}
use Rattle.line_laws.proofs.FlightFolds.{address_low, came_octets}
use Rattle.node_rules.proofs.NetworkOpens.{network_opens_again}
use Rattle.line_laws.proofs.LettersRead.{Reads, CallsRead, plan_reads}
use Rattle.line_laws.proofs.Made.{Given}
use Rattle.line_laws.proofs.NodeCalls.{RoutesFit, call_given, heard_given, meter_words, no_some}
use Rattle.line_laws.proofs.Nodes.{NodeOk, DidOk, acts_ok, node_kept, ring_readable, pair_octets}
use Rattle.line_laws.proofs.OctetCalls.{NodeSpeaks, DidSpeak, acts_speaks, accept_speaks}
use Rattle.line_laws.proofs.OctetDrafts.{MemorySpeaks}
use Rattle.line_laws.proofs.OctetRuns.{WorldSpeaks}
use Rattle.line_laws.proofs.RangeArrives.{NodeRanged, JoinsWell, accepts_ranged, heard_frames, meter_plan_ranged, coordinator_plan_ranged}
use Rattle.line_laws.proofs.CustodyDeliver.{opening}
use Rattle.line_laws.proofs.RangeCalls.{send_ranged, near_ranged, accept_ranged, tick_ranged, broke_ranged}
use Rattle.line_laws.proofs.RangeCoordinator.{SpeaksWell}
use Rattle.line_laws.proofs.RangeFrames.{IsSent}
use Rattle.line_laws.proofs.RangeHeard.{SaysShort}
use Rattle.line_laws.proofs.RangeOrders.{random_ranged, counter_ranged, number_ranged, provision_ranged, begin_ranged, join_ranged, leave_ranged}
use Rattle.line_laws.proofs.RangeOrders.{challenge_ranged, activate_ranged, allow_ranged, depot_ranged, rekey_ranged, turn_ranged, kick_ranged}
use Rattle.line_laws.proofs.RangePlans.{DidRanged, acts_ranged, did_flights}
use Rattle.line_laws.proofs.StorableGrants.{held, none_held, network_ranges}
use Rattle.line_laws.proofs.NodesOk.{read_again}
use Rattle.line_laws.proofs.StoreMarks.{accept_is}
use Rattle.line_laws.proofs.StepKinds.{IsCall, Gives, Joins, Leaves, Sends, Breaks, Nears, Counts, Numbers, Accepts, Provisions, Depots, Allows, Rekeys, Turns}
use Rattle.line_laws.proofs.StepKinds.{Challenges, Activates, Kicks, IsMade, OfCoordinator, OfMeter, preset_call, IsStep, Fails, Makes, Rests, Shows, Acts}
use Rattle.line_laws.proofs.StepKinds.{BreaksLink, SendsFrom, AllowsMeter, Sets, SetsTwo, Provides, TurnsDown, Hears, Loses, Ticks, Restarts, Cuts}
use Rattle.line_laws.proofs.Worlds.{NodeFits, WorldOk, at_place}
pub use Rattle.line_laws.specs.Ranges.{WorldRanged}

-- # Worlds

pub start_ranged : WorldRanged start
start_ranged = record { nodes = All-nil NodeRanged; flights = All-nil (IsFlight network) }

pub after_ranged : {A : Type 0} (u : World) (number : ℕ) (d : NodeStep A) → WorldRanged u → DidRanged d → WorldRanged (world_after network u number d)
unfolding world_after
after_ranged u number d r did = record {
  nodes = All-set NodeRanged u.nodes number d.node did.station r.nodes;
  flights = All-append (IsFlight network) u.flights (flights_of network number d) r.flights (did_flights network number d did);
}

answering_ranged : {A B : Type 0} (reads : A → B) (d : NodeStep A) → DidRanged d → DidRanged (answering reads d)
answering_ranged reads d r = record { station = r.station; frames = r.frames }

blank_ranged : IsStationRanged blank_station
blank_ranged = record { ring = tt; tag = omega arith; hops = All-nil HasHop; bodies = All-nil IsBody; number = omega arith }

-- a restart
no_hop : (e : RoutingEntry) → e.route ≡ None → HasHop e
no_hop e none = subst (λ (o : Option Route). IfSome o (λ t. t.next < 0xFFFE)) (sym none) tt

restarts_ranged : (x : Node) → NodeOk x → DidRanged (restarts x)
restarts_ranged x ok =
    let a = read_again x.role x.store.records x.memory ok.kept in
    let limit = a.kept.station.range.number in
    let below = a.kept.station.number.below in
    let again : IsStationRanged a.memory.station = record {
      ring = a.kept.station.range.ring;
      tag = a.kept.station.range.tag;
      hops = All-weaker (λ (e : RoutingEntry). e.route ≡ None) HasHop no_hop a.memory.station.routing.entries a.routes;
      bodies = subst (All IsBody) (sym a.blank.waiting) (All-nil IsBody);
      number = omega arith;
    } in
    record { station = subst (λ o. IfSome (memory_by o) (λ (m : Memory). IsStationRanged m.station)) (sym a.is) again; frames = All-nil IsSent }

ticked_ranged : (now : ℕ) (x : Node) → NodeRanged x → NodeRanged (ticked now x)
ticked_ranged now x h = by_role x.role x.memory h
  where
    by_role : (role : Role) (o : Option Memory) → IfSome o (λ (m : Memory). IsStationRanged m.station)
        → NodeRanged (ticked now (record { role = role; eui = x.eui; store = x.store; memory = o }))
    by_role Coordinator None h = tt
    by_role (Meter psk) None h = tt
    by_role Coordinator (Some m) h = tick_ranged m h now
    by_role (Meter psk) (Some m) h = tick_ranged m h now

lost_flight : (f : Flight) → IsFlight network f → IsFlight network (record f { lost = true })
lost_flight f h = record {
  sealed = λ key e. let s = h.sealed key e in record { sealed_unit = s.sealed_unit; fits = s.fits; key_is = s.key_is; octets = s.octets; note = s.note };
  plain = h.plain;
}

-- # A node

booked_in : (x : Node) (m : Memory) → NodeOk x → x.memory ≡ Some m → IsBooked m
booked_in x m good here = by_role x.role (node_kept x m good here)
  where
    by_role : (role : Role) → IsKept role m x.store.records → IsBooked m
    by_role Coordinator k = record {
      short = k.book.table.short;
      entries = All-weaker IsReadableEntry EntryHasEight (λ e h. h.eui.0) m.book k.book.each;
      sessions = k.sessions;
      ring = k.station.range.ring;
    }
    by_role (Meter psk) k = record {
      short = rw k.book.0 (omega arith);
      entries = subst (All EntryHasEight) (sym k.book.0) (All-nil EntryHasEight);
      sessions = k.sessions;
      ring = k.station.range.ring;
    }

module _ (x : Node) (good : NodeOk x) (h : NodeSpeaks x) (eight : length x.eui.0 ≡ 8) (m : Memory) (here : x.memory ≡ Some m) where
  speaks_in : MemorySpeaks m
  speaks_in = subst (λ o. IfSome o MemorySpeaks) here h

  sized_in : IsMemorySized m
  sized_in = subst (λ o. IfSome o IsMemorySized) here good.sized

  -- as the coordinator
  well : (g : Given) → ((got : Accepted) → g.got ≡ Some got → AreOctets got.payload) → SpeaksWell (record { eui = x.eui; ciphers = network }) g m
  well g are = speaks_well x.eui eight m speaks_in (booked_in x m good here) g are

  called_well : (now : ℕ) → SpeaksWell (record { eui = x.eui; ciphers = network }) (call_given 0 0 now) m
  called_well now = well (call_given 0 0 now) (λ got e. absurd (no_some got e))

joins_well : (x : Node) → NodeOk x → NodeSpeaks x → length x.eui.0 ≡ 8 → (got : Accepted) (cost note now : ℕ) → AreOctets got.payload
    → JoinsWell network x got cost note now
joins_well x good h eight got cost note now are = record {
  words = λ psk role m here word cause. meter_words x.role m (sized_in x good h eight m here) network network_ranges (identity network x psk) refl
      (heard_given got cost note now)
      (λ a e. (subst (λ (b : Accepted). AreOctets b.payload) (same_Some got a e) are, pair_octets x m psk (node_kept x m good here) role)) word cause;
  short = λ psk role m here. says_short x.eui psk eight m (speaks_in x good h eight m here);
  coordinator =
      λ m here. well x good h eight m here (heard_given got cost note now) (λ a e. subst (λ (b : Accepted). AreOctets b.payload) (same_Some got a e) are);
}

module _ (w : World) (ok : WorldOk w) (s : WorldSpeaks w) (r : WorldRanged w) where
  good_at : (number : ℕ) (x : Node) → node_at w number ≡ Some x → NodeOk x
  good_at number x there = at_place NodeOk w.nodes number x there ok.nodes

  given_at : (number : ℕ) (x : Node) → node_at w number ≡ Some x → NodeFits x
  given_at number x there = at_place NodeFits w.nodes number x there ok.fits

  speaks_at : (number : ℕ) (x : Node) → node_at w number ≡ Some x → NodeSpeaks x
  speaks_at number x there = at_place NodeSpeaks w.nodes number x there s.nodes

  ranged_at : (number : ℕ) (x : Node) → node_at w number ≡ Some x → NodeRanged x
  ranged_at number x there = at_place NodeRanged w.nodes number x there r.nodes

  station_at : (number : ℕ) (x : Node) (m : Memory) → node_at w number ≡ Some x → x.memory ≡ Some m → IsStationRanged m.station
  station_at number x m there here = subst (λ o. IfSome o (λ (n : Memory). IsStationRanged n.station)) here (ranged_at number x there)

  abbrev own_of : Node → coordinator_rules.CoordinatorIdentity
  own_of c = record { eui = c.eui; ciphers = network }

  pub ordered_well : (number : ℕ) (x : Node) (there : node_at w number ≡ Some x) (m : Memory) → x.memory ≡ Some m → (now : ℕ)
      → SpeaksWell (own_of x) (call_given 0 0 now) m
  ordered_well number x there m here now = called_well x (good_at number x there) (speaks_at number x there) (given_at number x there).eui.0 m here now

  pub short_at : (number : ℕ) (x : Node) (psk : Key) (there : node_at w number ≡ Some x) (m : Memory) → x.memory ≡ Some m
      → SaysShort (record { eui = x.eui; psk = psk; ciphers = network }) m
  short_at number x psk there m here = says_short x.eui psk (given_at number x there).eui.0 m
      (speaks_in x (good_at number x there) (speaks_at number x there) (given_at number x there).eui.0 m here)

  -- the grant of the workshop is read back
  pub workshop_grants : (number : ℕ) (x c : Node) (psk : Key) (g : Granted) → node_at w number ≡ Some x → node_at w 0 ≡ Some c → psk_of x ≡ Some psk
      → (acts c (Err orders.Halted) (λ m. coordinator_rules.depot m x.eui psk)).answer ≡ Ok g → IsReadable g
  workshop_grants number x c psk g hx hc pair is =
      let f = given_at number x hx in
      let a = acts_answered c orders.Halted orders.Store (λ m. coordinator_rules.depot m x.eui psk)
      (λ m. depot_failed network network_ranges (own_of c) m x.eui psk f.eui (f.psk psk (psk_meter x psk pair))) g is in
      let k : IsKept Coordinator a.memory c.store.records = subst (λ role. IsKept role a.memory c.store.records) (ok.first c hc)
      (node_kept c a.memory (good_at 0 c hc) a.there) in
      depot_grants a.memory x.eui psk g k.station.range.ring k.book.table.short a.is

  -- # Calls

  pub call_ranged : (number : ℕ) (x : Node) (A : Type 0) (halted : A) (plan : Memory → Plan Memory A) → node_at w number ≡ Some x
      → IsCall network w number x A halted plan → DidRanged (acts x halted plan)
  call_ranged number x A halts plan there (Gives value are) = acts_ranged x _ _ (ranged_at number x there) (λ m here h. random_ranged m h value)
  call_ranged number x A halts plan there (Joins psk a ne pair other) = acts_ranged x _ _ (ranged_at number x there)
      (λ m here h. join_ranged m h (sized_in x (good_at number x there) (speaks_at number x there) (given_at number x there).eui.0 m here) network
      network_ranges x.eui psk (short_at number x psk there m here) a w.clock)
  call_ranged number x A halts plan there (Leaves ne) = acts_ranged x _ _ (ranged_at number x there)
      (λ m here h. leave_ranged m h (sized_in x (good_at number x there) (speaks_at number x there) (given_at number x there).eui.0 m here) network
      network_ranges x.eui (record { 0 = [] }) (short_at number x (record { 0 = [] }) there m here))
  call_ranged number x A halts plan there (Sends a datagram other are) = acts_ranged x _ _ (ranged_at number x there)
      (λ m here h. send_ranged m h a datagram (w.sends + 1) w.clock (address_low other.node a (good_at other.number other.node other.there) other.address))
  call_ranged number x A halts plan there (Breaks a other) = acts_ranged x _ _ (ranged_at number x there) (λ m here h. broke_ranged m h a answers.Broken)
  call_ranged number x A halts plan there (Nears a cost open_is other low) = acts_ranged x _ _ (ranged_at number x there)
      (λ m here h. near_ranged m h a cost w.clock (address_low other.node a (good_at other.number other.node other.there) other.address) (omega arith))
  call_ranged number x A halts plan there (Counts value open_is low) = acts_ranged x _ _ (ranged_at number x there) (λ m here h. counter_ranged m h value)
  call_ranged number x A halts plan there (Numbers value open_is some low) =
      acts_ranged x _ _ (ranged_at number x there) (λ m here h. number_ranged m h value low)
  call_ranged number x A halts plan there (Accepts octets event says comes) =
      acts_ranged x _ _ (ranged_at number x there) (λ m here h. accept_ranged m h x.eui (arrived network octets))
  call_ranged number x A halts plan there (Provisions psk c g ne pair at is) =
      acts_ranged x _ _ (ranged_at number x there) (λ m here h. provision_ranged m h g (workshop_grants number x c psk g there at pair is))
  call_ranged number x A halts plan there (Depots meter y psk zero_is open_is at pair) = acts_ranged x _ _ (ranged_at number x there)
      (λ m here h. depot_ranged m h (own_of x) 0 (ordered_well number x there m here 0) y.eui psk (given_at meter y at.there).eui.0)
  call_ranged number x A halts plan there (Allows meter y psk zero_is at pair) = acts_ranged x _ _ (ranged_at number x there)
      (λ m here h. allow_ranged m h (own_of x) 0 (ordered_well number x there m here 0) y.eui psk (given_at meter y at.there).eui.0)
  call_ranged number x A halts plan there (Rekeys index key zero_is low long) = acts_ranged x _ _ (ranged_at number x there)
      (λ m here h. rekey_ranged m h (own_of x) 0 (ordered_well number x there m here 0) index key (held key long.0 long.1))
  call_ranged number x A halts plan there (Turns index zero_is low) = acts_ranged x _ _ (ranged_at number x there)
      (λ m here h. turn_ranged m h (own_of x) 0 (ordered_well number x there m here 0) index low)
  call_ranged number x A halts plan there (Challenges meter y zero_is at) = acts_ranged x _ _ (ranged_at number x there)
      (λ m here h. challenge_ranged m h (own_of x) w.clock (ordered_well number x there m here w.clock) y.eui (given_at meter y at.there).eui.0)
  call_ranged number x A halts plan there (Activates meter y index zero_is at low) = acts_ranged x _ _ (ranged_at number x there)
      (λ m here h. activate_ranged m h (own_of x) w.clock (ordered_well number x there m here w.clock) y.eui index)
  call_ranged number x A halts plan there (Kicks meter y zero_is at) = acts_ranged x _ _ (ranged_at number x there)
      (λ m here h. kick_ranged m h (own_of x) 0 (ordered_well number x there m here 0) y.eui (given_at meter y at.there).eui.0)

  -- # What comes

  module _ (number : ℕ) (x : Node) (octets : List ℕ) (cost : ℕ) (got : Accepted) (there : node_at w number ≡ Some x) (are : AreOctets octets)
      (is : (accepting network x octets).answer ≡ Ok got) where
    abbrev plan : Memory → Plan Memory (Result Accepted FrameRefusal)
    plan m = of_station m (accept m.station x.eui (arrived network octets))

    abbrev y : Node
    y = (accepting network x octets).node

    did : DidOk x (acts x (Err frames.Halted) plan)
    did = acts_ok x (Err frames.Halted) plan (good_at number x there) (λ m here kept sized. accept_ok network network_ranges octets are x.role m x.eui sized)

    left : DidSpeak (acts x (Err frames.Halted) plan)
    left = acts_speaks x (Err frames.Halted) plan (speaks_at number x there) (λ m here h. accept_speaks m h x.eui (arrived network octets))

    routes : RoutesFit got
    routes =
        let a = acts_answered x frames.Halted frames.Store plan
        (λ m. accept_failed network network_ranges octets are m.station _ (accept_is m.station x.eui (arrived network octets))) got is in
        accepted_routes network network_ranges octets are a.memory.station (ring_readable x a.memory (good_at number x there) a.there) _ got
        (accept_is a.memory.station x.eui (arrived network octets)) a.is

    eight : length y.eui.0 ≡ 8
    eight = subst (λ eui. length eui.0 ≡ 8) (sym did.eui) (given_at number x there).eui.0

    station : (m : Memory) → y.memory ≡ Some m → IsStationRanged m.station
    station m here = subst (λ o. IfSome o (λ (n : Memory). IsStationRanged n.station)) here
        (accepts_ranged network network_opens_again w r.flights number x octets cost (ranged_at number x there)).station

    pub joins : (note : ℕ) → JoinsWell network y got cost note w.clock
    joins note = joins_well y did.node left.node eight got cost note w.clock routes.payload

    module _ (honest : forged_by w octets got.path ≡ false) where
      pub heard_did : DidRanged (hearing_step network y got cost (note_by w octets got.path) w.clock)
      heard_did = heard_frames network network_opens_again w r.flights number x octets cost got is honest (ranged_at number x there)
          (joins (note_by w octets got.path))

      meter_read : (psk : Key) (m : Memory) → y.role ≡ Meter psk → y.memory ≡ Some m
          → Reads network (meters.hear_meter (identity network y psk) m got cost (note_by w octets got.path) w.clock)
      meter_read psk m role here =
          let j = joins (note_by w octets got.path) in
          plan_reads _ (meter_plan_ranged network network_opens_again w r.flights number x octets cost y psk m got (note_by w octets got.path)
          (opening network network_opens_again w r.flights number x octets cost 1 0 (omega arith) got is honest).what (station m here) (j.short psk role m here)
          (j.words psk role m here))

      coordinator_read : (m : Memory) → y.memory ≡ Some m
          → Reads network (coordinator_rules.hear_coordinator (record { eui = y.eui; ciphers = network }) m got cost (note_by w octets got.path) w.clock)
      coordinator_read m here =
          let j = joins (note_by w octets got.path) in
          plan_reads _ (coordinator_plan_ranged network network_opens_again w r.flights number x octets cost y m got (note_by w octets got.path)
          (opening network network_opens_again w r.flights number x octets cost 1 0 (omega arith) got is honest).what (station m here) (j.coordinator m here))

  -- what every call spells is read back
  pub calls_read : CallsRead network w
  calls_read = record {
    send = λ number x m there here b y to datagram other address says. plan_reads _
        (send_ranged m (station_at number x m there here) to datagram (w.sends + 1) w.clock (address_low y to (good_at b y other) address));
    challenge = λ number x m there here b y other. plan_reads _ (challenge_ranged m (station_at number x m there here) (own_of x) w.clock
        (ordered_well number x there m here w.clock) y.eui (given_at b y other).eui.0);
    activate = λ number x m there here b y index other low. plan_reads _
        (activate_ranged m (station_at number x m there here) (own_of x) w.clock (ordered_well number x there m here w.clock) y.eui index);
    kick = λ number x m there here b y other. plan_reads _
        (kick_ranged m (station_at number x m there here) (own_of x) 0 (ordered_well number x there m here 0) y.eui (given_at b y other).eui.0);
    meter_hears = λ number x octets cost got psk m there are is honest role here. meter_read number x octets cost got there are is honest psk m role here;
    coordinator_hears = λ number x octets cost got m there are is honest here. coordinator_read number x octets cost got there are is honest m here;
  }

  -- # Events

  ran_ranged : WorldRanged (running_world w)
  ran_ranged = record { nodes = r.nodes; flights = r.flights }

  set_up_ranged : WorldRanged (set_up w)
  set_up_ranged = record { nodes = r.nodes; flights = r.flights }

  abbrev pub RangedIn : Step → Type 0
  RangedIn (Ok t) = t.1.happenings.forged ≡ false → WorldRanged t.0
  RangedIn (Err fault) = Unit {0}

  made_is : (event : Event) (x : Node) → IsMade w event x → NodeRanged x
  made_is event x (OfCoordinator eui key none known long) =
      (acts_ranged (blank_node Coordinator eui) (Ok tt) (λ m. coordinator_rules.begin m (first_grant key)) blank_ranged
      (λ m here h. begin_ranged m h (first_grant key)
      (record { grant = record { index = omega arith; held = refl }; address = omega arith; key0 = held key long.0 long.1; key1 = none_held }))).station
  made_is event x (OfMeter eui psk some room new known long) = blank_ranged

  sending_is : (from to : ℕ) (datagram : List ℕ) (x : Node) (d : NodeStep Answer) → DidRanged d
      → WorldRanged (sending network w from to datagram (tag_of x) d).0
  sending_is from to datagram x d did = by_taken (is_taken d.answer) (after_ranged (running_world w) from d ran_ranged did)
    where
      by_taken : (b : Bool) → WorldRanged (world_after network (running_world w) from d)
          → WorldRanged (sent_if w from to datagram (tag_of x) b (node_outcome network w from d)).0
      by_taken true k = record { nodes = k.nodes; flights = k.flights }
      by_taken false k = k

  heard_is : (number : ℕ) (y : Node) (octets : List ℕ) (got : Accepted) (cost : ℕ)
      → DidRanged (hearing_step network y got cost (note_by w octets got.path) w.clock)
      → WorldRanged (hearing_outcome network w number y octets got cost).0
  heard_is number y octets got cost did =
      let k = after_ranged (running_world w) number (hearing_step network y got cost (note_by w octets got.path) w.clock) ran_ranged did in
      record { nodes = k.nodes; flights = k.flights }

  flight_place : (number : ℕ) (f : Flight) → flight_at w number ≡ Some f → slice_get w.flights (number - 1) ≡ Some f
  flight_place number f = by_number (number == 0)
    where
      by_number : (b : Bool) → (if b then None else slice_get w.flights (number - 1)) ≡ Some f → slice_get w.flights (number - 1) ≡ Some f
      by_number true e = absurd (none-some f e)
      by_number false e = e

  pub event_ranged : (event : Event) (st : Step) → IsStep network w event st → RangedIn st
  event_ranged event st (Fails e fault) = tt
  event_ranged event st (Makes e x is) = λ honest. record { nodes = All-push NodeRanged w.nodes x r.nodes (made_is e x is); flights = r.flights }
  event_ranged event st (Rests e quiet) = λ honest. ran_ranged
  event_ranged event st (Shows number x) = λ honest. ran_ranged
  event_ranged event st (Acts e number x A halts plan reads there call word asked) = λ honest.
      after_ranged (running_world w) number (answering reads (acts x halts plan)) ran_ranged
      (answering_ranged reads (acts x halts plan) (call_ranged number x A halts plan there call))
  event_ranged event st (BreaksLink number next x a there call) = λ honest.
      let plan : Memory → Plan Memory Answer = λ m. changing answers.Broken (with_station (calls.broke a m.station) m) in
      after_ranged (running_world w) number (acts x answers.Halted plan) ran_ranged (call_ranged number x Answer answers.Halted plan there call)
  event_ranged event st (SendsFrom from to datagram x a there call asked) = λ honest.
      let plan : Memory → Plan Memory (Result SentHow SendRefusal) = λ m. of_station m (calls.send m.station a datagram (w.sends + 1) w.clock) in
      sending_is from to datagram x (answering sent_word (acts x (Err sends.Halted) plan))
      (answering_ranged sent_word (acts x (Err sends.Halted) plan) (call_ranged from x _ (Err sends.Halted) plan there call))
  event_ranged event st (AllowsMeter number y c psk there call meter) = λ honest.
      let plan : Memory → Plan Memory (Result ℕ CoordinatorRefusal) = λ m. coordinator_rules.allow m y.eui psk in
      after_ranged (running_world w) 0 (acts c (Err orders.Halted) plan) ran_ranged (call_ranged 0 c _ (Err orders.Halted) plan there call)
  event_ranged event st (Sets e quiet number x plan there open_is is) = λ honest.
      after_ranged (set_up w) number (acts x (Ok tt) (λ m. of_station m (plan m.station))) set_up_ranged
      (call_ranged number x _ (Ok tt) (λ m. of_station m (plan m.station)) there (preset_call network w number x plan open_is is))
  event_ranged event st (SetsTwo e quiet a b cost x y p q hx hy apart open_is first second fresh far) = λ honest.
      let one = after_ranged (set_up w) a (offered_near x q cost w.clock) set_up_ranged
      (answering_ranged (λ _. tt) _ (call_ranged a x _ (Ok tt) (λ m. of_station m (calls.preset_near m.station q cost w.clock)) hx first)) in
      after_ranged (world_after network (set_up w) a (offered_near x q cost w.clock)) b (offered_near y p cost w.clock) one
      (answering_ranged (λ _. tt) _ (call_ranged b y _ (Ok tt) (λ m. of_station m (calls.preset_near m.station p cost w.clock)) hy second))
  event_ranged event st (Provides number x c psk g d ne open_is hx hc pair same is) = λ honest.
      let made = acts c (Err orders.Halted) (λ m. coordinator_rules.depot m x.eui psk) in
      let did : DidRanged d = subst (λ (z : NodeStep (Result Granted CoordinatorRefusal)). DidRanged z) (sym same)
      (call_ranged 0 c _ (Err orders.Halted) (λ m. coordinator_rules.depot m x.eui psk) hc
      (Depots number x psk refl open_is (record { other = ne; there = hx }) pair)) in
      let granted : IsReadable g = workshop_grants number x c psk g hx hc pair
      (ap (λ (z : NodeStep (Result Granted CoordinatorRefusal)). z.answer) (sym same) ∙ is) in
      after_ranged (world_after network (set_up w) 0 d) number (acts x (Ok tt) (λ m. meters.provision m g)) (after_ranged (set_up w) 0 d set_up_ranged did)
      (acts_ranged x (Ok tt) (λ m. meters.provision m g) (ranged_at number x hx) (λ m here h. provision_ranged m h g granted))
  event_ranged event st (TurnsDown e number x octets reason d there says comes same is) = λ honest.
      let did : DidRanged d = subst (λ (z : NodeStep (Result Accepted FrameRefusal)). DidRanged z) (sym same)
      (acts_ranged x (Err frames.Halted) (λ m. of_station m (accept m.station x.eui (arrived network octets))) (ranged_at number x there)
      (λ m here h. accept_ranged m h x.eui (arrived network octets))) in
      after_ranged (running_world w) number d ran_ranged did
  event_ranged event st (Hears e number x octets cost got there says comes low is) = λ honest.
      heard_is number (accepting network x octets).node octets got cost
      (heard_did number x octets cost got there (came_octets network network_ranges w ok s.flights e number octets says comes) is (or_parts _ _ honest).0)
  event_ranged event st (Loses number f there) = λ honest. record {
    nodes = r.nodes;
    flights = All-set (IsFlight network) w.flights (number - 1) (record f { lost = true })
        (lost_flight f (at_place (IsFlight network) w.flights (number - 1) f (flight_place number f there) r.flights)) r.flights;
  }
  event_ranged event st (Ticks seconds) = λ honest. record {
    nodes = All-map NodeRanged (ticked (w.clock + seconds)) w.nodes
        (All-weaker NodeRanged (λ x. NodeRanged (ticked (w.clock + seconds) x)) (ticked_ranged (w.clock + seconds)) w.nodes r.nodes);
    flights = r.flights;
  }
  event_ranged event st (Restarts number x there) =
      λ honest. after_ranged (running_world w) number (restarts x) ran_ranged (restarts_ranged x (good_at number x there))
  event_ranged event st (Cuts number nth keeps_new x there) = λ honest.
      after_ranged (running_world w) number
      (stays (record x { store = record x.store { cut = Some (record { nth = nth; keeps_new = keeps_new }) } }) answers.Set) ran_ranged
      (record { station = ranged_at number x there; frames = All-nil IsSent })
