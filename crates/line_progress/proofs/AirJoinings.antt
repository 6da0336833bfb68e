-- A meter that asks the coordinator over the air joins: its seven events, one after the other.
use Rattle.std.proofs.Common.{◌≡◌, ◌≢◌, ℕ, ◌+◌, ◌<◌, ◌≤◌, Bool, true, false, List, [], ◌∷◌, ◌++◌, length, map, Option, Some, None, Ok, Err, refl, sym, ap}
use Rattle.std.proofs.Common.{subst, ◌∙◌, arith}
use Rattle.std.specs.Prelude.{if◌then◌else◌, slice_get, slice_set, ◌==◌}
use Rattle.std.specs.Option.{option_and_then, option_map, option_map_or}
use Rattle.std.proofs.lemmas.Bool.{eq-eqb, lt-ltb, ne_eqb}
use Rattle.std.proofs.lemmas.List.{length-append}
use Rattle.plc_base.specs.declared.address.Eui.{Eui}
use Rattle.plc_base.specs.Grant.{Granted}
use Rattle.plc_base.specs.Keeper.{Records}
use Rattle.store_tables.specs.Writes.{write}
use Rattle.store_tables.proofs.SlotTables.{slice_get-push}
use Rattle.mac_frames.specs.Grammar.{IsEui}
use Rattle.group_keys.specs.declared.key_book.BookEntry.{BookEntry}
use Rattle.group_keys.specs.KeyBook as book
use Rattle.joining_messages.specs.declared.message.JoinBody.{JoinBody}
use Rattle.joining_messages.specs.declared.message.JoinBody.TheVariants as body
use Rattle.joining_messages.specs.Messages as joining
use Rattle.eap_psk.specs.Sessions.{peer_of}
use Rattle.eap_psk.specs.declared.peer.Peer.{Peer}
use Rattle.eap_psk.specs.declared.server.Agreed.{Agreed}
use Rattle.eap_psk.specs.declared.server.Server.{Server}
use Rattle.node_rules.specs.declared.heard.CoordinatorHeard.{CoordinatorHeard}
use Rattle.node_rules.specs.declared.heard.CoordinatorHeard.TheVariants as done_heard
use Rattle.node_rules.specs.declared.heard.MeterHeard.{MeterHeard}
use Rattle.node_rules.specs.declared.heard.MeterHeard.TheVariants as heard
use Rattle.node_rules.specs.declared.heard.Way.TheVariants.{Air}
use Rattle.node_rules.specs.declared.refusal.JoinRefusal.TheVariants as joins
use Rattle.node_rules.specs.Acceptance.{is_own, same_eui}
use Rattle.node_rules.specs.Ciphers.{Ciphers}
use Rattle.node_rules.specs.Coordinators.{CoordinatorIdentity, allowed_entry, grant_for, hear_join}
use Rattle.node_rules.specs.Frames.{Down, Sent, Up, spelled}
use Rattle.node_rules.specs.JoiningPackets.{first_packet, message}
use Rattle.node_rules.specs.Memory.{Coordinator, CoordinatorSession, Memory, Meter, Node, Role, node_address}
use Rattle.node_rules.specs.MemoryDrafts.{without_oldest}
use Rattle.node_rules.specs.Meters as meters
use Rattle.node_rules.specs.NodeSteps.{NodeStep, acts}
use Rattle.line_events.specs.declared.event.Answer.TheVariants as answers
use Rattle.line_events.specs.declared.event.Event.{Event}
use Rattle.line_events.specs.declared.event.Event.TheVariants.{Join, Deliver}
use Rattle.line_events.specs.declared.event.StepFault.TheVariants as faults
use Rattle.line_events.specs.declared.event.TheConstants.{MAX_EVENTS}
use Rattle.line_rules.specs.Answers.{coordinator_reception, join_word, meter_reception, only}
use Rattle.line_rules.specs.Further.{comes, line_step}
use Rattle.line_rules.specs.Runs.{run}
use Rattle.line_rules.specs.Steps as steps
use Rattle.line_rules.specs.Steps.{done_by, flight_by, has_begun, joins_by, number_of, on_meter, on_node, psk_of, world_after}
use Rattle.line_rules.specs.Worlds.{Flight, Pairing, World, node_at}
use Rattle.line_progress.proofs.Deliveries.{within}
use Rattle.line_progress.proofs.WholePlans.{acts_whole}
use Rattle.line_progress.specs.Joinings.{Admitter, IsJoined, IsOutside, JoiningsArrive, LetsIn, MayJoin, Newcomer, agreed_of, air_answers, coordinator_of}
use Rattle.line_progress.specs.Joinings.{memory_at}
use Rattle.line_progress.specs.Joinings.{meter_of, over_the_air, server_of}
use Rattle.line_progress.proofs.CoordinatorSteps.{air_accepts, air_challenges, air_grants, allowed_so, challenged, closed, entry_is, granted, session_gone}
use Rattle.line_progress.proofs.CoordinatorSteps.{session_is}
use Rattle.line_progress.proofs.Courses.{Course, Next, ends_here, goes_on, last_comes, last_flown, new_there, number_kept, same_there}
use Rattle.line_progress.proofs.FirstPackets as firsts
use Rattle.line_progress.proofs.MeterSteps.{answered, answers_first, asked, asks, joined, notes, takes_grant}
use Rattle.line_progress.proofs.NodesHear.{comes_down, comes_up, coordinator_with, meter_with}
use Rattle.line_progress.proofs.PlainComings.{Acts}
use Rattle.line_progress.proofs.PlainPlans.{Gives, at, unsealed}

-- # Between the events

-- a grant that a node took, as the history has it
abbrev pub taking_of : ℕ → Option Agreed → Option Pairing
taking_of number took = option_map (λ (agreed : Agreed). record { node = number; agreed = agreed }) took

module _ (ciphers : Ciphers) (x : Newcomer) (c : Admitter) (now : ℕ) where
  -- Both ends are there and hold this; so many events were taken and so many flights have flown, of which the last one has such a frame.
  record At (mx mc : Memory) (from : ℕ) (frame : Sent) (count place : ℕ) (w : World) : Type 0 where
    meter_stored : Records
    stored : Records
    meter : node_at w x.number ≡ Some (meter_with x.psk x.eui meter_stored mx)
    coordinator : node_at w 0 ≡ Some (coordinator_with c.eui stored mc)
    named : number_of w x.eui ≡ x.number
    events : w.events ≡ count
    clock : w.clock ≡ now
    flown : slice_get w.flights place ≡ Some (flight_by from (spelled ciphers frame))
    flights : length w.flights ≡ place + 1

  module _ (other : x.number ≢ 0) (mx mc : Memory) (from : ℕ) (frame : Sent) (count place : ℕ) (w : World) (s : At mx mc from frame count place w) where
    module _ (said : JoinBody) (fits : joining.IsBody said) where
      -- a message comes to the meter, which says something
      meter_hears : frame ≡ Down 0 (message x.eui said) → IsEui x.eui → is_own mx.station 0 ≡ false
          → (a : MeterHeard) (frames : List Sent) (left : Memory)
          → Gives (meters.hear_near (record { eui = x.eui; psk = x.psk; ciphers = ciphers }) mx 0 said now) a frames left
          → Acts ciphers w x.number (meter_with x.psk x.eui s.meter_stored mx) (meter_reception (Ok a)) frames left
          (comes ciphers w x.number (meter_with x.psk x.eui s.meter_stored mx) (spelled ciphers frame).octets x.cost)
      meter_hears is name away a frames left gives =
          subst (λ f. Acts ciphers w x.number (meter_with x.psk x.eui s.meter_stored mx) (meter_reception (Ok a)) frames left
          (comes ciphers w x.number (meter_with x.psk x.eui s.meter_stored mx) (spelled ciphers f).octets x.cost)) (sym is)
          (comes_down ciphers w x.number x.cost x.eui name s.meter_stored mx said fits frames left x.psk 0 (omega arith) away a
          (at (ap (λ t. meters.hear_near (record { eui = x.eui; psk = x.psk; ciphers = ciphers }) mx 0 said t) s.clock) gives))

      meter_step : frame ≡ Down 0 (message x.eui said) → IsEui x.eui → is_own mx.station 0 ≡ false
          → (a : MeterHeard) (sent : Sent) (left : Memory) (took : Option Pairing)
          → taking_of x.number (meter_reception (Ok a)).took ≡ took
          → done_by w (meter_reception (Ok a)).done ≡ None
          → Gives (meters.hear_near (record { eui = x.eui; psk = x.psk; ciphers = ciphers }) mx 0 said now) a (sent ∷ []) left
          → Next ciphers w (Deliver (place + 1) x.number x.cost) (meter_reception (Ok a)).answer took None
          (At left mc x.number sent (count + 1) (place + 1))
      meter_step is name away a sent left took took_is none gives =
          let acts = meter_hears is name away a (sent ∷ []) left gives in
          let r = comes ciphers w x.number (meter_with x.psk x.eui s.meter_stored mx) (spelled ciphers frame).octets x.cost in
          let y : Node = meter_with x.psk x.eui acts.records left in
          let flown = last_flown ciphers w r.0 place x.number sent s.flights acts.flights in
          record {
            r = r;
            is = last_comes ciphers w place from frame s.flown x.number x.cost (meter_with x.psk x.eui s.meter_stored mx) s.meter;
            answer_is = acts.answer_is;
            taken_is = acts.taken_is ∙ took_is;
            done_is = acts.done_is ∙ none;
            so = record {
              meter_stored = acts.records;
              stored = s.stored;
              meter = new_there w r.0 x.number y (meter_with x.psk x.eui s.meter_stored mx) acts.nodes s.meter;
              coordinator = same_there w r.0 x.number 0 y (coordinator_with c.eui s.stored mc) acts.nodes (λ e. other (sym e)) s.coordinator;
              named =
                  number_kept w r.0 x.eui x.number (meter_with x.psk x.eui s.meter_stored mx) (meter_with x.psk x.eui acts.records left) s.meter refl
                  acts.nodes ∙ s.named;
              events = acts.events ∙ ap (λ n. n + 1) s.events;
              clock = acts.clock ∙ s.clock;
              flown = flown.0;
              flights = flown.1;
            };
          }

      -- a message comes to the coordinator, which says something
      coordinator_step : frame ≡ Up 0 x.eui (message x.eui said) → IsEui x.eui → is_own mc.station 0 ≡ true → same_eui c.eui x.eui ≡ false
          → (a : CoordinatorHeard) (sent : Sent) (left : Memory) (finished : Option Pairing)
          → taking_of 0 (coordinator_reception (Ok a)).took ≡ None
          → (number_of w x.eui ≡ x.number → done_by w (coordinator_reception (Ok a)).done ≡ finished)
          → Gives (hear_join (record { eui = c.eui; ciphers = ciphers }) mc (Air x.eui) x.eui said now) a (sent ∷ []) left
          → Next ciphers w (Deliver (place + 1) 0 c.cost) (coordinator_reception (Ok a)).answer None finished
          (At mx left 0 sent (count + 1) (place + 1))
      coordinator_step is name here apart a sent left finished none done gives =
          let y : Node = coordinator_with c.eui s.stored mc in
          let r = comes ciphers w 0 y (spelled ciphers frame).octets c.cost in
          let acts : Acts ciphers w 0 y (coordinator_reception (Ok a)) (sent ∷ []) left r =
          subst (λ f. Acts ciphers w 0 y (coordinator_reception (Ok a)) (sent ∷ []) left (comes ciphers w 0 y (spelled ciphers f).octets c.cost)) (sym is)
          (comes_up ciphers w 0 c.cost c.eui x.eui name s.stored mc said fits (sent ∷ []) left 0 (omega arith, λ e. absurd (omega arith)) here apart a
          (at (ap (λ t. hear_join (record { eui = c.eui; ciphers = ciphers }) mc (Air x.eui) x.eui said t) s.clock) gives)) in
          let flown = last_flown ciphers w r.0 place 0 sent s.flights acts.flights in
          record {
            r = r;
            is = last_comes ciphers w place from frame s.flown 0 c.cost y s.coordinator;
            answer_is = acts.answer_is;
            taken_is = acts.taken_is ∙ none;
            done_is = acts.done_is ∙ done s.named;
            so = record {
              meter_stored = s.meter_stored;
              stored = acts.records;
              meter =
                  same_there w r.0 0 x.number (coordinator_with c.eui acts.records left) (meter_with x.psk x.eui s.meter_stored mx) acts.nodes other
                  s.meter;
              coordinator = new_there w r.0 0 (coordinator_with c.eui acts.records left) y acts.nodes s.coordinator;
              named = number_kept w r.0 x.eui 0 y (coordinator_with c.eui acts.records left) s.coordinator refl acts.nodes ∙ s.named;
              events = acts.events ∙ ap (λ n. n + 1) s.events;
              clock = acts.clock ∙ s.clock;
              flown = flown.0;
              flights = flown.1;
            };
          }

-- # It asks

module _ (ciphers : Ciphers) (w : World) (x : Newcomer) (agent : ℕ) (y : Node) (address : ℕ) (there : node_at w x.number ≡ Some (meter_of x))
    (other : x.number ≢ 0) (beside : node_at w agent ≡ Some y) (has : node_address y ≡ Some address) where
  abbrev pub own : meters.Identity
  own = record { eui = x.eui; psk = x.psk; ciphers = ciphers }

  pub joins_so : line_step ciphers w (Join x.number agent) ≡ Ok (joins_by ciphers w x.number (meter_of x) (Some address) (Some x.psk))
  unfolding steps.join
  joins_so =
      let begun : has_begun w ≡ true = lt-ltb 0 (length w.nodes) (within w.nodes x.number (meter_of x) there) in
      let step : Node → steps.Step = λ x'. on_node w agent (λ z. Ok (joins_by ciphers w x.number x' (node_address z) (psk_of x'))) in
      (λ i. if begun i then on_meter w x.number step else Err faults.Setup)
      ∙ (λ i. if ne_eqb x.number 0 other i then Err faults.Node else on_node w x.number step)
      ∙ (λ i. option_map_or step (there i) (Err faults.Node))
      ∙ (λ i. option_map_or (λ z. Ok (joins_by ciphers w x.number (meter_of x) (node_address z) (Some x.psk))) (beside i) (Err faults.Node))
      ∙ (λ i. Ok (joins_by ciphers w x.number (meter_of x) (has i) (Some x.psk)))

  pub joins_acts : (sent : Sent) (left : Memory) → Gives (meters.join own x.memory address w.clock) tt (sent ∷ []) left
      → Acts ciphers w x.number (meter_of x) (only answers.Asked) (sent ∷ []) left (joins_by ciphers w x.number (meter_of x) (Some address) (Some x.psk))
  unfolding world_after
  joins_acts sent left gives =
      let plan = λ (m : Memory). meters.join own m address w.clock in
      let did = acts_whole (meter_of x) x.memory (Err joins.Halted) plan refl refl in
      record {
        records = (write (plan x.memory).puts None x.records).records;
        nodes =
            ap (λ (d : NodeStep _). slice_set w.nodes x.number d.node) did
            ∙ (λ i. slice_set w.nodes x.number (meter_with x.psk x.eui (write (plan x.memory).puts None x.records).records (gives.memory_is i)));
        flights =
            ap (λ (d : NodeStep _). w.flights ++ map (λ (frame : Sent). flight_by x.number (spelled ciphers frame)) d.frames) did
            ∙ ap (λ fs. w.flights ++ map (λ (frame : Sent). flight_by x.number (spelled ciphers frame)) fs) gives.frames_is;
        events = refl;
        clock = refl;
        answer_is = ap (λ (d : NodeStep _). join_word d.answer) did ∙ ap join_word gives.answer_is;
        taken_is = refl;
        done_is = refl;
      }

-- # All of it

abbrev pub is_meter : Role → Bool
is_meter Coordinator = false
is_meter (Meter psk) = true

-- node 0 is no meter
pub no_meter : (w : World) (x : Newcomer) (c : Admitter) → node_at w x.number ≡ Some (meter_of x) → node_at w 0 ≡ Some (coordinator_of c) → x.number ≢ 0
no_meter w x c meter home e =
    let same : is_meter Coordinator ≡ is_meter (Meter x.psk) =
    ap (λ (o : Option Node). option_map_or (λ (y : Node). is_meter y.role) o false) (sym home ∙ ap (node_at w) (sym e) ∙ meter) in absurd (cc same)

-- no meter is granted the address 0
pub no_home : (m : Memory) (eui : Eui) (ring grant : Granted) → m.station.ring ≡ Some ring → grant_for m eui ≡ Some grant → grant.address ≢ 0
no_home m eui ring grant is grants =
    by_place (book.place_of m.book eui)
    (sym (λ i. option_and_then (λ address. option_map (λ (g : Granted). record g { address = address }) (is i)) (book.address_of m.book eui)) ∙ grants)
  where
    by_place : (o : Option ℕ)
        → option_and_then (λ address. option_map (λ (g : Granted). record g { address = address }) (Some ring)) (option_map (λ place. place + 1) o)
        ≡ Some grant → grant.address ≢ 0
    by_place None e = absurd (cc)
    by_place (Some place) e =
        let same : place + 1 ≡ grant.address = ap (λ (o : Option Granted). option_map_or (λ (g : Granted). g.address) o 0) e in
        λ none. absurd (omega (arith, same, none))

-- What both ends hold in the end.
pub record IsEnd (x : Newcomer) (mx mc : Memory) (w : World) : Type 0 where
  pub holds : memory_at w x.number ≡ Some mx
  pub keeps : memory_at w 0 ≡ Some mc

module _ (ciphers : Ciphers) (w : World) (x : Newcomer) (c : Admitter) (may : MayJoin ciphers w x c) where
  abbrev outside : IsOutside w x
  outside = may.outside

  abbrev lets : LetsIn w x c
  lets = may.lets

  abbrev server : Server
  server = server_of x c

  abbrev peer : Peer
  peer = peer_of server x.value

  -- the entry of the meter, which has its pair key
  abbrev entry : BookEntry
  entry = record c.entry { psk = x.psk }

  abbrev issued : BookEntry
  issued = book.issued_entry x.eui c.grant entry

  -- the packets
  abbrev second : List ℕ
  second = ciphers.second x.psk 1 peer

  abbrev third : List ℕ
  third = ciphers.third x.psk server x.value c.grant

  abbrev fourth : List ℕ
  fourth = ciphers.fourth x.psk 2 peer

  -- the sessions of the coordinator
  abbrev begun : CoordinatorSession
  begun = record { server = server; way = Air x.eui; since = w.clock }

  abbrev answered_by : Server
  answered_by = record server { rand_p = Some x.value }

  abbrev confirmed : CoordinatorSession
  confirmed = record { server = answered_by; way = Air x.eui; since = w.clock }

  -- what the meter holds after each of its steps, and what the coordinator does
  abbrev mx1 : Memory
  mx1 = asked x.memory 0 w.clock

  abbrev mx2 : Memory
  mx2 = answered mx1 0 peer w.clock

  abbrev mx3 : Memory
  mx3 = joined mx2 c.grant

  abbrev mc1 : Memory
  mc1 = challenged c.memory begun

  abbrev mc2 : Memory
  mc2 = granted mc1 confirmed issued

  abbrev mc3 : Memory
  mc3 = closed mc2 x.eui

  abbrev host : CoordinatorIdentity
  host = record { eui = c.eui; ciphers = ciphers }

  abbrev meter : meters.Identity
  meter = record { eui = x.eui; psk = x.psk; ciphers = ciphers }

  allows : allowed_entry c.memory x.eui ≡ Some entry
  allows = lets.allows ∙ (λ i. Some (record c.entry { psk = lets.psk i }))

  allows_still : allowed_entry mc2 x.eui ≡ Some issued
  allows_still = entry_is mc1.book issued (allowed_so c.memory.book x.eui entry allows).1

  other : x.number ≢ 0
  other = no_meter w x c outside.there lets.there

  eight : length x.eui.0 ≡ 8
  eight = outside.eui.0

  -- the coordinator's address is 0, and the meter's is another one
  home : (m : Memory) → m.station.ring ≡ Some c.ring → is_own m.station 0 ≡ true
  home m ring =
      (λ i. option_map_or (λ own. own == 0) (option_map (λ (g : Granted). g.address) (ring i)) false) ∙ eq-eqb c.ring.address 0 lets.address

  nowhere : (m : Memory) → m.station.ring ≡ None → is_own m.station 0 ≡ false
  nowhere m ring = λ i. option_map_or (λ own. own == 0) (option_map (λ (g : Granted). g.address) (ring i)) false

  elsewhere : is_own mx3.station 0 ≡ false
  elsewhere = ne_eqb c.grant.address 0 (no_home c.memory x.eui c.ring c.grant lets.ring lets.grants)

  abbrev Now : Memory → Memory → ℕ → Sent → (count place : ℕ) → World → Type 0
  Now mx mc from frame count place v = At ciphers x c w.clock mx mc from frame count place v

  abbrev End : World → Type 0
  End v = IsEnd x (unsealed mx3) mc3 v

  abbrev pairing : Pairing
  pairing = record { node = x.number; agreed = agreed_of x c }

  abbrev n : ℕ
  n = w.events

  abbrev p : ℕ
  p = length w.flights

  abbrev n1 : ℕ
  n1 = n + 1

  abbrev n2 : ℕ
  n2 = n1 + 1

  abbrev n3 : ℕ
  n3 = n2 + 1

  abbrev n4 : ℕ
  n4 = n3 + 1

  abbrev n5 : ℕ
  n5 = n4 + 1

  abbrev n6 : ℕ
  n6 = n5 + 1

  abbrev p1 : ℕ
  p1 = p + 1

  abbrev p2 : ℕ
  p2 = p1 + 1

  abbrev p3 : ℕ
  p3 = p2 + 1

  abbrev p4 : ℕ
  p4 = p3 + 1

  abbrev p5 : ℕ
  p5 = p4 + 1

  abbrev p6 : ℕ
  p6 = p5 + 1

  -- the events from each message on
  abbrev from_accept : List Event
  from_accept = Deliver p6 x.number x.cost ∷ []

  abbrev from_fourth : List Event
  from_fourth = Deliver p5 0 c.cost ∷ from_accept

  abbrev from_third : List Event
  from_third = Deliver p4 x.number x.cost ∷ from_fourth

  abbrev from_second : List Event
  from_second = Deliver p3 0 c.cost ∷ from_third

  abbrev from_first : List Event
  from_first = Deliver p2 x.number x.cost ∷ from_second

  abbrev from_join : List Event
  from_join = Deliver p1 0 c.cost ∷ from_first

  -- the flights
  abbrev asking : Sent
  asking = Up 0 x.eui (message x.eui (body.Join []))

  abbrev challenge : Sent
  challenge = Down 0 (message x.eui (body.Challenge (first_packet server)))

  abbrev answer_of : Sent
  answer_of = Up 0 x.eui (message x.eui (body.Join second))

  abbrev granting : Sent
  granting = Down 0 (message x.eui (body.Challenge third))

  abbrev taking : Sent
  taking = Up 0 x.eui (message x.eui (body.Join fourth))

  abbrev accepting : Sent
  accepting = Down 0 (message x.eui (body.Accept 2))

  room : (k count : ℕ) (v : World) → k ≤ 6 → count ≡ n + k → v.events ≡ count → v.events < MAX_EVENTS
  room k count v few is events = omega (arith, few, is, events, may.room)

  -- # The events, the last one first

  noted : (v : World) → Now mx3 mc3 0 accepting n6 p5 v
      → Course End v (answers.Noted ∷ []) [] [] (run ciphers v from_accept)
  noted v s =
      let y : Node = meter_with x.psk x.eui s.meter_stored mx3 in
      let acts = meter_hears ciphers x c w.clock other mx3 mc3 0 accepting n6 p5 v s (body.Accept 2)
      (omega arith) refl outside.eui elsewhere heard.Noted [] (unsealed mx3) (notes meter mx3 0 w.clock 2) in
      let r = comes ciphers v x.number y (spelled ciphers accepting).octets x.cost in
      let z : Node = meter_with x.psk x.eui acts.records (unsealed mx3) in
      goes_on End End ciphers v (Deliver p6 x.number x.cost) [] answers.Noted None None [] [] []
      (room 6 n6 v (omega arith) (omega arith) s.events) (record {
        r = r;
        is = last_comes ciphers v p5 0 accepting s.flown x.number x.cost y s.meter;
        answer_is = acts.answer_is;
        taken_is = acts.taken_is;
        done_is = acts.done_is;
        so = record {
          holds = ap (λ (o : Option Node). option_and_then (λ (z : Node). z.memory) o) (new_there v r.0 x.number z y acts.nodes s.meter);
          keeps =
              ap (λ (o : Option Node). option_and_then (λ (z : Node). z.memory) o)
              (same_there v r.0 x.number 0 z (coordinator_with c.eui s.stored mc3) acts.nodes (λ e. other (sym e)) s.coordinator);
        };
      }) (λ u end. ends_here End u end)

  finished : (v : World) → Now mx3 mc2 x.number taking n5 p4 v
      → Course End v (answers.Done ∷ answers.Noted ∷ []) [] (pairing ∷ [])
      (run ciphers v from_fourth)
  finished v s =
      goes_on End (Now mx3 mc3 0 accepting n6 p5) ciphers v (Deliver p5 0 c.cost)
      from_accept answers.Done None (Some pairing) (answers.Noted ∷ []) [] []
      (room 5 n5 v (omega arith) (omega arith) s.events)
      (coordinator_step ciphers x c w.clock other mx3 mc2 x.number taking n5 p4 v s (body.Join fourth)
      may.pass.fourth.fits.few refl outside.eui (home mc2 lets.ring) lets.apart (done_heard.Done x.eui (agreed_of x c)) accepting mc3 (Some pairing) refl
      (λ named. ap (λ (k : ℕ). Some (record { node = k; agreed = agreed_of x c })) named)
      (air_accepts host mc2 x.eui w.clock issued allows_still answered_by w.clock (session_is mc1 confirmed) fourth may.pass.fourth.fits.some x.value refl
      may.pass.fourth.taken)) noted

  took : (v : World) → Now mx2 mc2 0 granting n4 p3 v
      → Course End v (answers.Took ∷ answers.Done ∷ answers.Noted ∷ []) (pairing ∷ []) (pairing ∷ [])
      (run ciphers v from_third)
  took v s =
      goes_on End (Now mx3 mc2 x.number taking n5 p4) ciphers v (Deliver p4 x.number x.cost)
      from_fourth answers.Took (Some pairing) None
      (answers.Done ∷ answers.Noted ∷ []) [] (pairing ∷ [])
      (room 4 n4 v (omega arith) (omega arith) s.events)
      (meter_step ciphers x c w.clock other mx2 mc2 0 granting n4 p3 v s (body.Challenge third)
      (may.pass.third.fits.some, may.pass.third.fits.few) refl outside.eui (nowhere mx2 outside.alone) (heard.Took (agreed_of x c)) taking mx3 (Some pairing)
      refl refl
      (takes_grant meter mx2 0 w.clock outside.alone peer w.clock refl third may.pass.third.later may.pass.third.taken c.grant may.pass.third.grants 2
      may.pass.third.numbered)) finished

  keyed : (v : World) → Now mx2 mc1 x.number answer_of n3 p2 v
      → Course End v (answers.Keyed ∷ answers.Took ∷ answers.Done ∷ answers.Noted ∷ []) (pairing ∷ []) (pairing ∷ [])
      (run ciphers v from_second)
  keyed v s =
      goes_on End (Now mx2 mc2 0 granting n4 p3) ciphers v (Deliver p3 0 c.cost)
      from_third
      answers.Keyed None None (answers.Took ∷ answers.Done ∷ answers.Noted ∷ []) (pairing ∷ []) (pairing ∷ [])
      (room 3 n3 v (omega arith) (omega arith) s.events)
      (coordinator_step ciphers x c w.clock other mx2 mc1 x.number answer_of n3 p2 v s (body.Join second) may.pass.second.fits.few refl
      outside.eui (home mc1 lets.ring) lets.apart (done_heard.Keyed x.eui c.grant) granting mc2 None refl (λ named. refl)
      (air_grants host mc1 x.eui w.clock entry allows server w.clock (session_is (without_oldest c.memory) begun) second may.pass.second.fits.some refl
      may.pass.second.taken x.value may.pass.second.says c.grant lets.grants)) took

  replied : (v : World) → Now mx1 mc1 0 challenge n2 p1 v
      → Course End v (answers.Replied ∷ answers.Keyed ∷ answers.Took ∷ answers.Done ∷ answers.Noted ∷ []) (pairing ∷ []) (pairing ∷ [])
      (run ciphers v from_first)
  replied v s =
      goes_on End (Now mx2 mc1 x.number answer_of n3 p2) ciphers v (Deliver p2 x.number x.cost)
      from_second answers.Replied None None
      (answers.Keyed ∷ answers.Took ∷ answers.Done ∷ answers.Noted ∷ []) (pairing ∷ []) (pairing ∷ [])
      (room 2 n2 v (omega arith) (omega arith) s.events)
      (let fits = firsts.fits x.eui c.eui c.value lets.eui lets.octets in
      meter_step ciphers x c w.clock other mx1 mc1 0 challenge n2 p1 v s (body.Challenge (first_packet server)) (fits.some, fits.few) refl
      outside.eui (nowhere mx1 outside.alone) heard.Replied answer_of mx2 None refl refl
      (answers_first meter mx1 0 w.clock outside.alone None w.clock refl x.value outside.value (first_packet server)
      (firsts.is_one x.eui c.eui c.value lets.eui lets.octets) (firsts.no_fault x.eui c.eui c.value lets.eui lets.octets) 1
      (firsts.numbered x.eui c.eui c.value lets.eui lets.octets) peer (firsts.answered_by x.eui c.eui c.value lets.eui lets.octets x.value))) keyed

  challenged_by : (v : World) → Now mx1 c.memory x.number asking n1 p v
      → Course End v (answers.Challenged ∷ answers.Replied ∷ answers.Keyed ∷ answers.Took ∷ answers.Done ∷ answers.Noted ∷ []) (pairing ∷ []) (pairing ∷ [])
      (run ciphers v from_join)
  challenged_by v s =
      goes_on End (Now mx1 mc1 0 challenge n2 p1) ciphers v (Deliver p1 0 c.cost)
      from_first answers.Challenged None None
      (answers.Replied ∷ answers.Keyed ∷ answers.Took ∷ answers.Done ∷ answers.Noted ∷ []) (pairing ∷ []) (pairing ∷ [])
      (room 1 n1 v (omega arith) (omega arith) s.events)
      (coordinator_step ciphers x c w.clock other mx1 c.memory x.number asking n1 p v s (body.Join []) (omega arith) refl outside.eui
      (home c.memory lets.ring) lets.apart done_heard.Challenged challenge mc1 None refl (λ named. refl)
      (air_challenges host c.memory x.eui w.clock entry allows lets.room c.value lets.value)) replied

  events_are : over_the_air p1 x c
      ≡ Join x.number 0 ∷ Deliver p1 0 c.cost ∷ Deliver p2 x.number x.cost ∷ Deliver p3 0 c.cost ∷ Deliver p4 x.number x.cost ∷ Deliver p5 0 c.cost
      ∷ Deliver p6 x.number x.cost ∷ []
  events_are =
      let e2 : p + 1 + 2 ≡ p3 = omega arith in
      let e3 : p + 1 + 3 ≡ p4 = omega arith in
      let e4 : p + 1 + 4 ≡ p5 = omega arith in
      let e5 : p + 1 + 5 ≡ p6 = omega arith in
      λ i. Join x.number 0 ∷ Deliver p1 0 c.cost ∷ Deliver p2 x.number x.cost ∷ Deliver (e2 i) 0 c.cost ∷ Deliver (e3 i) x.number x.cost
      ∷ Deliver (e4 i) 0 c.cost ∷ Deliver (e5 i) x.number x.cost ∷ []

  course : Course End w air_answers (pairing ∷ []) (pairing ∷ []) (run ciphers w (over_the_air p1 x c))
  course =
      let r = joins_by ciphers w x.number (meter_of x) (Some 0) (Some x.psk) in
      let has : node_address (coordinator_of c) ≡ Some 0 =
      (λ i. option_map (λ (g : Granted). g.address) (lets.ring i)) ∙ ap (λ (a : ℕ). Some a) lets.address in
      let acts = joins_acts ciphers w x 0 (coordinator_of c) 0 outside.there other lets.there has asking mx1
      (asks meter x.memory 0 w.clock outside.alone) in
      let f : Flight = flight_by x.number (spelled ciphers asking) in
      subst (λ events. Course End w air_answers (pairing ∷ []) (pairing ∷ []) (run ciphers w events)) (sym events_are)
      (goes_on End (Now mx1 c.memory x.number asking n1 p) ciphers w (Join x.number 0) from_join answers.Asked None None
      (answers.Challenged ∷ answers.Replied ∷ answers.Keyed ∷ answers.Took ∷ answers.Done ∷ answers.Noted ∷ []) (pairing ∷ []) (pairing ∷ [])
      (room 0 n w (omega arith) (omega arith) refl) (record {
        r = r;
        is = joins_so ciphers w x 0 (coordinator_of c) 0 outside.there other lets.there has;
        answer_is = acts.answer_is;
        taken_is = acts.taken_is;
        done_is = acts.done_is;
        so = record {
          meter_stored = acts.records;
          stored = c.records;
          meter = new_there w r.0 x.number (meter_with x.psk x.eui acts.records mx1) (meter_of x) acts.nodes outside.there;
          coordinator =
              same_there w r.0 x.number 0 (meter_with x.psk x.eui acts.records mx1) (coordinator_of c) acts.nodes (λ e. other (sym e)) lets.there;
          named =
              number_kept w r.0 x.eui x.number (meter_of x) (meter_with x.psk x.eui acts.records mx1) outside.there refl acts.nodes ∙ outside.named;
          events = acts.events;
          clock = acts.clock;
          flown = ap (λ fs. slice_get fs p) acts.flights ∙ slice_get-push w.flights f;
          flights = ap length acts.flights ∙ length-append w.flights (f ∷ []);
        };
      }) challenged_by)

  comes_in : IsJoined air_answers x c w (run ciphers w (over_the_air p1 x c))
  comes_in = record {
    answers = course.answers_are;
    taken = course.taken_are;
    done = course.done_are;
    memory = unsealed mx3;
    holds = course.last.holds;
    ring = refl;
    over = refl;
    book = mc3;
    keeps = course.last.keeps;
    closed = session_gone mc2 x.eui;
  }

pub arrive : JoiningsArrive
arrive ciphers w x c may = comes_in ciphers w x c may
