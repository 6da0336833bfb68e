-- A meter that asks a joined neighbour of the coordinator joins: its thirteen events, one after the other.
use Rattle.std.proofs.Common.{◌≡◌, ◌≢◌, ℕ, ◌+◌, ◌-◌, ◌<◌, ◌≤◌, ◌^◌, true, false, List, [], ◌∷◌, length, Option, Some, None, refl, sym, ap, subst, ◌∙◌}
use Rattle.std.proofs.Common.{arith}
use Rattle.std.specs.Prelude.{nat_lt, slice_get, ◌==◌}
use Rattle.std.specs.Option.{option_and_then, option_map, option_map_or}
use Rattle.std.proofs.lemmas.Bool.{eq-eqb, le-ltb, ltb-false, ne_eqb}
use Rattle.std.proofs.lemmas.List.{length-append}
use Rattle.store_tables.proofs.SlotTables.{slice_get-push}
use Rattle.std.proofs.lemmas.Bool.Decides.{nat_tests}
use Rattle.plc_base.specs.declared.address.Eui.{Eui}
use Rattle.routing_set.specs.RoutingSet as routing
use Rattle.plc_base.specs.Grant.{Granted}
use Rattle.group_keys.specs.declared.key_book.BookEntry.{BookEntry}
use Rattle.group_keys.specs.KeyBook as book
use Rattle.group_keys.specs.KeyBook.{eui_number}
use Rattle.joining_messages.specs.declared.message.JoinBody.TheVariants as body
use Rattle.eap_psk.specs.Sessions.{peer_of}
use Rattle.eap_psk.specs.declared.peer.Peer.{Peer}
use Rattle.eap_psk.specs.declared.server.Server.{Server}
use Rattle.node_rules.specs.declared.heard.CoordinatorHeard.TheVariants as done_heard
use Rattle.node_rules.specs.declared.heard.MeterHeard.TheVariants as heard
use Rattle.node_rules.specs.declared.heard.Way.TheVariants.{Mesh}
use Rattle.node_rules.specs.Acceptance.{is_own, same_eui}
use Rattle.node_rules.specs.Ciphers.{Ciphers}
use Rattle.node_rules.specs.Coordinators.{CoordinatorIdentity, allowed_entry, with_session, without_session}
use Rattle.node_rules.specs.Drafts.{counters_left}
use Rattle.node_rules.specs.Frames.{Down, Sealed, Sent, Up, spelled}
use Rattle.node_rules.specs.JoiningPackets.{first_packet, message}
use Rattle.node_rules.specs.Memory.{Coordinator, CoordinatorSession, Memory, Meter, Node, next_hop, node_address}
use Rattle.node_rules.specs.MemoryDrafts.{without_oldest}
use Rattle.node_rules.specs.Meters as meters
use Rattle.line_events.specs.declared.event.Answer.{Answer}
use Rattle.line_events.specs.declared.event.Answer.TheVariants as answers
use Rattle.line_events.specs.declared.event.Event.{Event}
use Rattle.line_events.specs.declared.event.Event.TheVariants.{Join, Deliver}
use Rattle.line_events.specs.declared.event.TheConstants.{MAX_EVENTS}
use Rattle.line_rules.specs.Further.{comes}
use Rattle.line_rules.specs.Runs.{run}
use Rattle.line_rules.specs.Steps.{flight_by, joins_by}
use Rattle.line_rules.specs.Worlds.{Flight, Pairing, World, node_at}
use Rattle.line_progress.proofs.NextCounter.{is_marked, room_above}
use Rattle.line_progress.specs.AgentJoinings.{Agent, Carries, JoiningsArriveByAgent, MayJoinBy, agent_answers, agent_of, by_agent}
use Rattle.line_progress.specs.Joinings.{Admitter, IsJoined, IsOutside, LetsIn, Newcomer, agreed_of, coordinator_of, meter_of, server_of}
use Rattle.line_progress.proofs.AgentSteps.{carries_accept, carries_challenge, carries_up, commands_accept, commands_challenge, commands_grant}
use Rattle.line_progress.proofs.AirJoinings.{IsEnd, is_meter, joins_acts, joins_so, no_meter}
use Rattle.line_progress.proofs.Commands.{heard_from, letter, sealed_one}
use Rattle.line_progress.proofs.CoordinatorSteps.{allowed_so, entry_is, session_gone, session_is}
use Rattle.line_progress.proofs.Courses.{Course, ends_here, goes_on, last_comes, new_there, number_kept, same_there}
use Rattle.line_progress.proofs.FirstPackets as firsts
use Rattle.line_progress.proofs.MeterSteps.{answered, answers_first, asked, asks, joined, notes, takes_grant}
use Rattle.line_progress.proofs.NodesHear.{coordinator_with, meter_with}
use Rattle.line_progress.proofs.PlainPlans.{unsealed}
use Rattle.line_progress.proofs.AgentEvents.{At, meter_hears, meter_step, agent_up, agent_down, home_step}

-- # All of it

-- a route is kept where the ranks are
route_kept : (m n : Memory) (dest hop : ℕ) → n.station.routing ≡ m.station.routing → next_hop m.station dest ≡ Some hop → next_hop n.station dest ≡ Some hop
unfolding next_hop
route_kept m n dest hop same route = ap (λ r. routing.next_of r dest) same ∙ route

same_sym : (e f : Eui) → same_eui f e ≡ same_eui e f
same_sym e f = by_order (eui_number e) (eui_number f)
  where
    by_order : (j k : ℕ) → (k == j) ≡ (j == k)
    by_order j k = grind (arith, nat_tests)

module _ (ciphers : Ciphers) (w : World) (x : Newcomer) (c : Admitter) (a : Agent) (may : MayJoinBy ciphers w x c a) where
  abbrev outside : IsOutside w x
  outside = may.outside

  abbrev lets : LetsIn w x c
  lets = may.lets

  abbrev carries : Carries w x c a
  carries = may.carries

  abbrev near : ℕ
  near = a.ring.address

  abbrev hub : ℕ
  hub = c.ring.address

  abbrev server : Server
  server = server_of x c

  abbrev peer : Peer
  peer = peer_of server x.value

  -- the entry of the meter, which has its pair key
  abbrev entry : BookEntry
  entry = record c.entry { psk = x.psk }

  abbrev issued : BookEntry
  issued = book.issued_entry x.eui c.grant entry

  -- the packets
  abbrev second : List ℕ
  second = ciphers.second x.psk 1 peer

  abbrev third : List ℕ
  third = ciphers.third x.psk server x.value c.grant

  abbrev fourth : List ℕ
  fourth = ciphers.fourth x.psk 2 peer

  -- the sessions of the coordinator
  abbrev begun : CoordinatorSession
  begun = record { server = server; way = Mesh near; since = w.clock }

  abbrev answered_by : Server
  answered_by = record server { rand_p = Some x.value }

  abbrev confirmed : CoordinatorSession
  confirmed = record { server = answered_by; way = Mesh near; since = w.clock }

  -- what each holds after each of its steps, and the two at the link when they have accepted a frame
  abbrev ma1 : Memory
  ma1 = sealed_one a.memory

  abbrev hc1 : Memory
  hc1 = heard_from c.memory near a.memory.station.counter.next

  abbrev mc1 : Memory
  mc1 = sealed_one (with_session begun (without_oldest hc1))

  abbrev ha2 : Memory
  ha2 = heard_from ma1 hub hc1.station.counter.next

  abbrev ma2 : Memory
  ma2 = unsealed ha2

  abbrev mx1 : Memory
  mx1 = asked x.memory near w.clock

  abbrev mx2 : Memory
  mx2 = answered mx1 near peer w.clock

  abbrev ma3 : Memory
  ma3 = sealed_one ma2

  abbrev hc2 : Memory
  hc2 = heard_from mc1 near ma2.station.counter.next

  abbrev mc2 : Memory
  mc2 = sealed_one (record (with_session confirmed hc2) { book = book.with_entry hc2.book issued })

  abbrev ha4 : Memory
  ha4 = heard_from ma3 hub hc2.station.counter.next

  abbrev ma4 : Memory
  ma4 = unsealed ha4

  abbrev mx3 : Memory
  mx3 = joined mx2 c.grant

  abbrev ma5 : Memory
  ma5 = sealed_one ma4

  abbrev hc3 : Memory
  hc3 = heard_from mc2 near ma4.station.counter.next

  abbrev mc3 : Memory
  mc3 = sealed_one (without_session x.eui hc3)

  abbrev ha6 : Memory
  ha6 = heard_from ma5 hub hc3.station.counter.next

  abbrev ma6 : Memory
  ma6 = unsealed ha6

  abbrev host : CoordinatorIdentity
  host = record { eui = c.eui; ciphers = ciphers }

  abbrev meter : meters.Identity
  meter = record { eui = x.eui; psk = x.psk; ciphers = ciphers }

  abbrev agent : meters.Identity
  agent = record { eui = a.eui; psk = a.psk; ciphers = ciphers }

  allows : allowed_entry c.memory x.eui ≡ Some entry
  allows = lets.allows ∙ (λ i. Some (record c.entry { psk = lets.psk i }))

  allows_still : allowed_entry hc3 x.eui ≡ Some issued
  allows_still = entry_is hc2.book issued (allowed_so c.memory.book x.eui entry allows).1

  x0 : x.number ≢ 0
  x0 = no_meter w x c outside.there lets.there

  a0 : a.number ≢ 0
  a0 e =
      let same : is_meter Coordinator ≡ is_meter (Meter a.psk) =
      ap (λ (o : Option Node). option_map_or (λ (y : Node). is_meter y.role) o false) (sym lets.there ∙ ap (node_at w) (sym e) ∙ carries.there) in
      absurd (cc same)

  -- the agent is joined, and the meter is not
  xa : x.number ≢ a.number
  xa e =
      let same : x.memory.station.ring ≡ a.memory.station.ring =
      ap (λ (o : Option Node). option_map_or (λ (y : Node). option_map_or (λ (m : Memory). m.station.ring) y.memory None) o None)
      (sym outside.there ∙ ap (node_at w) e ∙ carries.there) in
      let joined_not : ◌≡◌ {A = Option Granted} None (Some a.ring) = sym outside.alone ∙ same ∙ carries.ready.ring in absurd (cc joined_not)

  own_near : (m : Memory) → m.station.ring ≡ Some a.ring → is_own m.station near ≡ true
  own_near m ring = (λ i. option_map_or (λ own. own == near) (option_map (λ (g : Granted). g.address) (ring i)) false) ∙ eq-eqb near near refl

  nowhere : (m : Memory) → m.station.ring ≡ None → is_own m.station near ≡ false
  nowhere m ring = λ i. option_map_or (λ own. own == near) (option_map (λ (g : Granted). g.address) (ring i)) false

  elsewhere : is_own mx3.station near ≡ false
  elsewhere = ne_eqb c.grant.address near carries.other

  -- routes and counters
  up_route : (m : Memory) → m.station.routing ≡ a.memory.station.routing → next_hop m.station 0 ≡ Some 0
  up_route m same = route_kept a.memory m 0 0 same (carries.up.route ∙ ap (λ (k : ℕ). Some k) lets.address)

  down_route : (m : Memory) → m.station.routing ≡ c.memory.station.routing → next_hop m.station near ≡ Some near
  down_route m same = route_kept c.memory m near near same carries.down.route

  some_left : (base : Memory) → nat_lt (counters_left base.station) 3 ≡ false → (m : Memory) (k : ℕ) → k ≤ 2
      → m.station.counter.next ≡ base.station.counter.next + k → nat_lt (counters_left m.station) 1 ≡ false
  some_left base three m k few next =
      let left = ltb-false (counters_left base.station) 3 three in le-ltb (counters_left m.station) 1 (omega (arith, left, few, next))

  in_range : (base : Memory) → nat_lt (counters_left base.station) 3 ≡ false → (counter k : ℕ) → k ≤ 2 → counter ≡ base.station.counter.next + k
      → counter < 2 ^ 32
  in_range base three counter k few next =
      let left = ltb-false (counters_left base.station) 3 three in omega (arith, left, few, next)

  mine : same_eui x.eui x.eui ≡ true
  mine = eq-eqb (eui_number x.eui) (eui_number x.eui) refl

  abbrev Now : (mx ma mc : Memory) → ℕ → Sent → (count place : ℕ) → World → Type 0
  Now mx ma mc from frame count place v = At ciphers may.opens x c a w.clock mx ma mc from frame count place v

  abbrev End : World → Type 0
  End v = IsEnd x (unsealed mx3) mc3 v

  abbrev pairing : Pairing
  pairing = record { node = x.number; agreed = agreed_of x c }

  abbrev n0 : ℕ
  n0 = w.events

  abbrev p0 : ℕ
  p0 = length w.flights

  abbrev n1 : ℕ
  n1 = n0 + 1

  abbrev n2 : ℕ
  n2 = n1 + 1

  abbrev n3 : ℕ
  n3 = n2 + 1

  abbrev n4 : ℕ
  n4 = n3 + 1

  abbrev n5 : ℕ
  n5 = n4 + 1

  abbrev n6 : ℕ
  n6 = n5 + 1

  abbrev n7 : ℕ
  n7 = n6 + 1

  abbrev n8 : ℕ
  n8 = n7 + 1

  abbrev n9 : ℕ
  n9 = n8 + 1

  abbrev n10 : ℕ
  n10 = n9 + 1

  abbrev n11 : ℕ
  n11 = n10 + 1

  abbrev n12 : ℕ
  n12 = n11 + 1

  abbrev p1 : ℕ
  p1 = p0 + 1

  abbrev p2 : ℕ
  p2 = p1 + 1

  abbrev p3 : ℕ
  p3 = p2 + 1

  abbrev p4 : ℕ
  p4 = p3 + 1

  abbrev p5 : ℕ
  p5 = p4 + 1

  abbrev p6 : ℕ
  p6 = p5 + 1

  abbrev p7 : ℕ
  p7 = p6 + 1

  abbrev p8 : ℕ
  p8 = p7 + 1

  abbrev p9 : ℕ
  p9 = p8 + 1

  abbrev p10 : ℕ
  p10 = p9 + 1

  abbrev p11 : ℕ
  p11 = p10 + 1

  abbrev p12 : ℕ
  p12 = p11 + 1

  -- the events from one on, and what is answered to them
  abbrev e13 : List Event
  e13 = Deliver p12 x.number x.cost ∷ []

  abbrev a13 : List Answer
  a13 = answers.Noted ∷ []

  abbrev e12 : List Event
  e12 = Deliver p11 a.number a.above ∷ e13

  abbrev a12 : List Answer
  a12 = answers.Carried ∷ a13

  abbrev e11 : List Event
  e11 = Deliver p10 0 c.cost ∷ e12

  abbrev a11 : List Answer
  a11 = answers.Done ∷ a12

  abbrev e10 : List Event
  e10 = Deliver p9 a.number a.below ∷ e11

  abbrev a10 : List Answer
  a10 = answers.Carried ∷ a11

  abbrev e9 : List Event
  e9 = Deliver p8 x.number x.cost ∷ e10

  abbrev a9 : List Answer
  a9 = answers.Took ∷ a10

  abbrev e8 : List Event
  e8 = Deliver p7 a.number a.above ∷ e9

  abbrev a8 : List Answer
  a8 = answers.Carried ∷ a9

  abbrev e7 : List Event
  e7 = Deliver p6 0 c.cost ∷ e8

  abbrev a7 : List Answer
  a7 = answers.Keyed ∷ a8

  abbrev e6 : List Event
  e6 = Deliver p5 a.number a.below ∷ e7

  abbrev a6 : List Answer
  a6 = answers.Carried ∷ a7

  abbrev e5 : List Event
  e5 = Deliver p4 x.number x.cost ∷ e6

  abbrev a5 : List Answer
  a5 = answers.Replied ∷ a6

  abbrev e4 : List Event
  e4 = Deliver p3 a.number a.above ∷ e5

  abbrev a4 : List Answer
  a4 = answers.Carried ∷ a5

  abbrev e3 : List Event
  e3 = Deliver p2 0 c.cost ∷ e4

  abbrev a3 : List Answer
  a3 = answers.Challenged ∷ a4

  abbrev e2 : List Event
  e2 = Deliver p1 a.number a.below ∷ e3

  abbrev a2 : List Answer
  a2 = answers.Carried ∷ a3

  -- the flights
  abbrev f2 : Sent
  f2 = Up near x.eui (message x.eui (body.Join []))

  abbrev f3 : Sent
  f3 = Sealed (letter a.ring a.key 0 0 a.memory.station.counter.next (message x.eui (body.Join [])))

  abbrev f4 : Sent
  f4 = Sealed (letter c.ring a.home_key near near hc1.station.counter.next (message x.eui (body.Challenge (first_packet server))))

  abbrev f5 : Sent
  f5 = Down near (message x.eui (body.Challenge (first_packet server)))

  abbrev f6 : Sent
  f6 = Up near x.eui (message x.eui (body.Join second))

  abbrev f7 : Sent
  f7 = Sealed (letter a.ring a.key 0 0 ma2.station.counter.next (message x.eui (body.Join second)))

  abbrev f8 : Sent
  f8 = Sealed (letter c.ring a.home_key near near hc2.station.counter.next (message x.eui (body.Challenge third)))

  abbrev f9 : Sent
  f9 = Down near (message x.eui (body.Challenge third))

  abbrev f10 : Sent
  f10 = Up near x.eui (message x.eui (body.Join fourth))

  abbrev f11 : Sent
  f11 = Sealed (letter a.ring a.key 0 0 ma4.station.counter.next (message x.eui (body.Join fourth)))

  abbrev f12 : Sent
  f12 = Sealed (letter c.ring a.home_key near near hc3.station.counter.next (message x.eui (body.Accept 2)))

  abbrev f13 : Sent
  f13 = Down near (message x.eui (body.Accept 2))

  room : (k count : ℕ) (v : World) → k ≤ 12 → count ≡ n0 + k → v.events ≡ count → v.events < MAX_EVENTS
  room k count v few is events = omega (arith, few, is, events, may.room)

  abbrev one : List Pairing
  one = pairing ∷ []

  -- # The events, the last one first

  apart : same_eui x.eui a.eui ≡ false
  apart = same_sym a.eui x.eui ∙ carries.apart

  s13 : (v : World) → Now mx3 ma6 mc3 a.number f13 n12 p11 v → Course End v a13 [] [] (run ciphers v e13)
  s13 v s =
      let y : Node = meter_with x.psk x.eui s.meter_stored mx3 in
      let acts = meter_hears ciphers may.opens x c a w.clock w carries lets outside.eui xa x0 a0 mx3 ma6 mc3 a.number f13 n12 p11 v s (body.Accept 2)
      (omega arith) refl elsewhere heard.Noted [] (unsealed mx3) (notes meter mx3 near w.clock 2) in
      let r = comes ciphers v x.number y (spelled ciphers f13).octets x.cost in
      let z : Node = meter_with x.psk x.eui acts.records (unsealed mx3) in
      goes_on End End ciphers v (Deliver p12 x.number x.cost) [] answers.Noted None None [] [] [] (room 12 n12 v (omega arith) (omega arith) s.events)
      (record {
        r = r;
        is = last_comes ciphers v p11 a.number f13 s.flown x.number x.cost y s.meter;
        answer_is = acts.answer_is;
        taken_is = acts.taken_is;
        done_is = acts.done_is;
        so = record {
          holds = ap (λ (o : Option Node). option_and_then (λ (z : Node). z.memory) o) (new_there v r.0 x.number z y acts.nodes s.meter);
          keeps =
              ap (λ (o : Option Node). option_and_then (λ (z : Node). z.memory) o)
              (same_there v r.0 x.number 0 z (coordinator_with c.eui s.stored mc3) acts.nodes (λ e. x0 (sym e)) s.coordinator);
        };
      }) (λ u end. ends_here End u end)

  s12 : (v : World) → Now mx3 ma5 mc3 0 f12 n11 p10 v → Course End v a12 [] [] (run ciphers v e12)
  s12 v s =
      goes_on End (Now mx3 ma6 mc3 a.number f13 n12 p11) ciphers v (Deliver p11 a.number a.above) e13 answers.Carried None None a13 [] []
      (room 11 n11 v (omega arith) (omega arith) s.events)
      (agent_down ciphers may.opens x c a w.clock w carries lets outside.eui xa x0 a0 mx3 ma5 mc3 0 f12 n11 p10 v s (body.Accept 2) hc3.station.counter.next
      (omega arith) (in_range c.memory carries.down.left hc3.station.counter.next 2 (omega arith) (omega arith)) refl carries.ready.ring
      (room_above ma5.station.marks hub hc2.station.counter.next hc3.station.counter.next (omega arith)
      (is_marked ma3.station.marks hub hc2.station.counter.next)) f13 ma6 (carries_accept agent ha6 a.ring carries.ready.ring w.clock x.eui apart 2)) s13

  s11 : (v : World) → Now mx3 ma5 mc2 a.number f11 n10 p9 v → Course End v a11 [] one (run ciphers v e11)
  s11 v s =
      goes_on End (Now mx3 ma5 mc3 0 f12 n11 p10) ciphers v (Deliver p10 0 c.cost) e12 answers.Done None (Some pairing) a12 [] []
      (room 10 n10 v (omega arith) (omega arith) s.events)
      (home_step ciphers may.opens x c a w.clock w carries lets outside.eui xa x0 a0 mx3 ma5 mc2 a.number f11 n10 p9 v s fourth ma4.station.counter.next
      may.pass.fourth.fits.few (in_range a.memory carries.up.left ma4.station.counter.next 2 (omega arith) (omega arith)) refl lets.ring
      (room_above mc2.station.marks near ma2.station.counter.next ma4.station.counter.next (omega arith)
      (is_marked mc1.station.marks near ma2.station.counter.next)) (done_heard.Done x.eui (agreed_of x c)) f12 mc3 (Some pairing) refl
      (λ named. ap (λ (k : ℕ). Some (record { node = k; agreed = agreed_of x c })) named)
      (commands_accept host hc3 x.eui w.clock issued allows_still near near (down_route hc3 refl) c.ring lets.ring a.home_key carries.home.key
      (some_left c.memory carries.down.left hc3 2 (omega arith) (omega arith)) answered_by w.clock (session_is hc2 confirmed) fourth may.pass.fourth.fits.some
      x.value refl may.pass.fourth.taken)) s12

  s10 : (v : World) → Now mx3 ma4 mc2 x.number f10 n9 p8 v → Course End v a10 [] one (run ciphers v e10)
  s10 v s =
      goes_on End (Now mx3 ma5 mc2 a.number f11 n10 p9) ciphers v (Deliver p9 a.number a.below) e11 answers.Carried None None a11 [] one
      (room 9 n9 v (omega arith) (omega arith) s.events)
      (agent_up ciphers may.opens x c a w.clock w carries lets outside.eui xa x0 a0 mx3 ma4 mc2 x.number f10 n9 p8 v s fourth may.pass.fourth.fits.few refl
      (own_near ma4 carries.ready.ring) f11 ma5 (carries_up agent ma4 a.ring carries.ready.ring w.clock a.key carries.ready.key (up_route ma4 refl)
      (some_left a.memory carries.up.left ma4 2 (omega arith) (omega arith)) x.eui fourth mine)) s11

  s9 : (v : World) → Now mx2 ma4 mc2 a.number f9 n8 p7 v → Course End v a9 one one (run ciphers v e9)
  s9 v s =
      goes_on End (Now mx3 ma4 mc2 x.number f10 n9 p8) ciphers v (Deliver p8 x.number x.cost) e10 answers.Took (Some pairing) None a10 [] one
      (room 8 n8 v (omega arith) (omega arith) s.events)
      (meter_step ciphers may.opens x c a w.clock w carries lets outside.eui xa x0 a0 mx2 ma4 mc2 a.number f9 n8 p7 v s (body.Challenge third)
      (may.pass.third.fits.some, may.pass.third.fits.few) refl (nowhere mx2 outside.alone) (heard.Took (agreed_of x c)) f10 mx3 (Some pairing) refl refl
      (takes_grant meter mx2 near w.clock outside.alone peer w.clock refl third may.pass.third.later may.pass.third.taken c.grant may.pass.third.grants 2
      may.pass.third.numbered)) s10

  s8 : (v : World) → Now mx2 ma3 mc2 0 f8 n7 p6 v → Course End v a8 one one (run ciphers v e8)
  s8 v s =
      goes_on End (Now mx2 ma4 mc2 a.number f9 n8 p7) ciphers v (Deliver p7 a.number a.above) e9 answers.Carried None None a9 one one
      (room 7 n7 v (omega arith) (omega arith) s.events)
      (agent_down ciphers may.opens x c a w.clock w carries lets outside.eui xa x0 a0 mx2 ma3 mc2 0 f8 n7 p6 v s (body.Challenge third) hc2.station.counter.next
      (may.pass.third.fits.some, may.pass.third.fits.few) (in_range c.memory carries.down.left hc2.station.counter.next 1 (omega arith) (omega arith)) refl
      carries.ready.ring (room_above ma3.station.marks hub hc1.station.counter.next hc2.station.counter.next (omega arith)
      (is_marked ma1.station.marks hub hc1.station.counter.next)) f9 ma4 (carries_challenge agent ha4 a.ring carries.ready.ring w.clock x.eui apart third)) s9

  s7 : (v : World) → Now mx2 ma3 mc1 a.number f7 n6 p5 v → Course End v a7 one one (run ciphers v e7)
  s7 v s =
      goes_on End (Now mx2 ma3 mc2 0 f8 n7 p6) ciphers v (Deliver p6 0 c.cost) e8 answers.Keyed None None a8 one one
      (room 6 n6 v (omega arith) (omega arith) s.events)
      (home_step ciphers may.opens x c a w.clock w carries lets outside.eui xa x0 a0 mx2 ma3 mc1 a.number f7 n6 p5 v s second ma2.station.counter.next
      may.pass.second.fits.few (in_range a.memory carries.up.left ma2.station.counter.next 1 (omega arith) (omega arith)) refl lets.ring
      (room_above mc1.station.marks near a.memory.station.counter.next ma2.station.counter.next (omega arith)
      (is_marked c.memory.station.marks near a.memory.station.counter.next)) (done_heard.Keyed x.eui c.grant) f8 mc2 None refl (λ named. refl)
      (commands_grant host hc2 x.eui w.clock entry allows near near (down_route hc2 refl) c.ring lets.ring a.home_key carries.home.key
      (some_left c.memory carries.down.left hc2 1 (omega arith) (omega arith)) server w.clock (session_is (without_oldest hc1) begun) second
      may.pass.second.fits.some refl may.pass.second.taken x.value may.pass.second.says c.grant lets.grants)) s8

  s6 : (v : World) → Now mx2 ma2 mc1 x.number f6 n5 p4 v → Course End v a6 one one (run ciphers v e6)
  s6 v s =
      goes_on End (Now mx2 ma3 mc1 a.number f7 n6 p5) ciphers v (Deliver p5 a.number a.below) e7 answers.Carried None None a7 one one
      (room 5 n5 v (omega arith) (omega arith) s.events)
      (agent_up ciphers may.opens x c a w.clock w carries lets outside.eui xa x0 a0 mx2 ma2 mc1 x.number f6 n5 p4 v s second may.pass.second.fits.few refl
      (own_near ma2 carries.ready.ring) f7 ma3 (carries_up agent ma2 a.ring carries.ready.ring w.clock a.key carries.ready.key (up_route ma2 refl)
      (some_left a.memory carries.up.left ma2 1 (omega arith) (omega arith)) x.eui second mine)) s7

  s5 : (v : World) → Now mx1 ma2 mc1 a.number f5 n4 p3 v → Course End v a5 one one (run ciphers v e5)
  s5 v s =
      goes_on End (Now mx2 ma2 mc1 x.number f6 n5 p4) ciphers v (Deliver p4 x.number x.cost) e6 answers.Replied None None a6 one one
      (room 4 n4 v (omega arith) (omega arith) s.events)
      (let fits = firsts.fits x.eui c.eui c.value lets.eui lets.octets in
      meter_step ciphers may.opens x c a w.clock w carries lets outside.eui xa x0 a0 mx1 ma2 mc1 a.number f5 n4 p3 v s (body.Challenge (first_packet server))
      (fits.some, fits.few) refl (nowhere mx1 outside.alone) heard.Replied f6 mx2 None refl refl
      (answers_first meter mx1 near w.clock outside.alone None w.clock refl x.value outside.value (first_packet server)
      (firsts.is_one x.eui c.eui c.value lets.eui lets.octets) (firsts.no_fault x.eui c.eui c.value lets.eui lets.octets) 1
      (firsts.numbered x.eui c.eui c.value lets.eui lets.octets) peer (firsts.answered_by x.eui c.eui c.value lets.eui lets.octets x.value))) s6

  s4 : (v : World) → Now mx1 ma1 mc1 0 f4 n3 p2 v → Course End v a4 one one (run ciphers v e4)
  s4 v s =
      goes_on End (Now mx1 ma2 mc1 a.number f5 n4 p3) ciphers v (Deliver p3 a.number a.above) e5 answers.Carried None None a5 one one
      (room 3 n3 v (omega arith) (omega arith) s.events)
      (let fits = firsts.fits x.eui c.eui c.value lets.eui lets.octets in
      agent_down ciphers may.opens x c a w.clock w carries lets outside.eui xa x0 a0 mx1 ma1 mc1 0 f4 n3 p2 v s (body.Challenge (first_packet server))
      hc1.station.counter.next (fits.some, fits.few) (in_range c.memory carries.down.left hc1.station.counter.next 0 (omega arith) (omega arith)) refl
      carries.ready.ring carries.down.admits f5 ma2 (carries_challenge agent ha2 a.ring carries.ready.ring w.clock x.eui apart (first_packet server))) s5

  s3 : (v : World) → Now mx1 ma1 c.memory a.number f3 n2 p1 v → Course End v a3 one one (run ciphers v e3)
  s3 v s =
      goes_on End (Now mx1 ma1 mc1 0 f4 n3 p2) ciphers v (Deliver p2 0 c.cost) e4 answers.Challenged None None a4 one one
      (room 2 n2 v (omega arith) (omega arith) s.events)
      (home_step ciphers may.opens x c a w.clock w carries lets outside.eui xa x0 a0 mx1 ma1 c.memory a.number f3 n2 p1 v s [] a.memory.station.counter.next
      (omega arith) (in_range a.memory carries.up.left a.memory.station.counter.next 0 (omega arith) (omega arith)) refl lets.ring carries.up.admits
      done_heard.Challenged f4 mc1 None refl (λ named. refl) (commands_challenge host hc1 x.eui w.clock entry allows near near (down_route hc1 refl) c.ring
      lets.ring a.home_key carries.home.key (some_left c.memory carries.down.left hc1 0 (omega arith) (omega arith)) lets.room c.value lets.value)) s4

  s2 : (v : World) → Now mx1 a.memory c.memory x.number f2 n1 p0 v → Course End v a2 one one (run ciphers v e2)
  s2 v s =
      goes_on End (Now mx1 ma1 c.memory a.number f3 n2 p1) ciphers v (Deliver p1 a.number a.below) e3 answers.Carried None None a3 one one
      (room 1 n1 v (omega arith) (omega arith) s.events)
      (agent_up ciphers may.opens x c a w.clock w carries lets outside.eui xa x0 a0 mx1 a.memory c.memory x.number f2 n1 p0 v s [] (omega arith) refl
      (own_near a.memory carries.ready.ring) f3 ma1 (carries_up agent a.memory a.ring carries.ready.ring w.clock a.key carries.ready.key
      (up_route a.memory refl) (some_left a.memory carries.up.left a.memory 0 (omega arith) (omega arith)) x.eui [] mine)) s3

  events_are : by_agent p1 x c a ≡ Join x.number a.number ∷ e2
  events_are =
      let q2 : p0 + 1 + 2 ≡ p3 = omega arith in
      let q3 : p0 + 1 + 3 ≡ p4 = omega arith in
      let q4 : p0 + 1 + 4 ≡ p5 = omega arith in
      let q5 : p0 + 1 + 5 ≡ p6 = omega arith in
      let q6 : p0 + 1 + 6 ≡ p7 = omega arith in
      let q7 : p0 + 1 + 7 ≡ p8 = omega arith in
      let q8 : p0 + 1 + 8 ≡ p9 = omega arith in
      let q9 : p0 + 1 + 9 ≡ p10 = omega arith in
      let q10 : p0 + 1 + 10 ≡ p11 = omega arith in
      let q11 : p0 + 1 + 11 ≡ p12 = omega arith in
      λ i. Join x.number a.number ∷ Deliver p1 a.number a.below ∷ Deliver p2 0 c.cost ∷ Deliver (q2 i) a.number a.above ∷ Deliver (q3 i) x.number x.cost
      ∷ Deliver (q4 i) a.number a.below ∷ Deliver (q5 i) 0 c.cost ∷ Deliver (q6 i) a.number a.above ∷ Deliver (q7 i) x.number x.cost
      ∷ Deliver (q8 i) a.number a.below ∷ Deliver (q9 i) 0 c.cost ∷ Deliver (q10 i) a.number a.above ∷ Deliver (q11 i) x.number x.cost ∷ []

  course : Course End w agent_answers one one (run ciphers w (by_agent p1 x c a))
  course =
      let r = joins_by ciphers w x.number (meter_of x) (Some near) (Some x.psk) in
      let has : node_address (agent_of a) ≡ Some near = λ i. option_map (λ (g : Granted). g.address) (carries.ready.ring i) in
      let acts = joins_acts ciphers w x a.number (agent_of a) near outside.there x0 carries.there has f2 mx1 (asks meter x.memory near w.clock outside.alone) in
      let f : Flight = flight_by x.number (spelled ciphers f2) in
      let y : Node = meter_with x.psk x.eui acts.records mx1 in
      subst (λ events. Course End w agent_answers one one (run ciphers w events)) (sym events_are)
      (goes_on End (Now mx1 a.memory c.memory x.number f2 n1 p0) ciphers w (Join x.number a.number) e2 answers.Asked None None a2 one one
      (room 0 n0 w (omega arith) (omega arith) refl) (record {
        r = r;
        is = joins_so ciphers w x a.number (agent_of a) near outside.there x0 carries.there has;
        answer_is = acts.answer_is;
        taken_is = acts.taken_is;
        done_is = acts.done_is;
        so = record {
          meter_stored = acts.records;
          agent_stored = a.records;
          stored = c.records;
          meter = new_there w r.0 x.number y (meter_of x) acts.nodes outside.there;
          agent = same_there w r.0 x.number a.number y (agent_of a) acts.nodes (λ e. xa (sym e)) carries.there;
          coordinator = same_there w r.0 x.number 0 y (coordinator_of c) acts.nodes (λ e. x0 (sym e)) lets.there;
          named = number_kept w r.0 x.eui x.number (meter_of x) y outside.there refl acts.nodes ∙ outside.named;
          events = acts.events;
          clock = acts.clock;
          flown = ap (λ fs. slice_get fs p0) acts.flights ∙ slice_get-push w.flights f;
          flights = ap length acts.flights ∙ length-append w.flights (f ∷ []);
        };
      }) s2)

  comes_in : IsJoined agent_answers x c w (run ciphers w (by_agent p1 x c a))
  comes_in = record {
    answers = course.answers_are;
    taken = course.taken_are;
    done = course.done_are;
    memory = unsealed mx3;
    holds = course.last.holds;
    ring = refl;
    over = refl;
    book = mc3;
    keeps = course.last.keeps;
    closed = session_gone hc3 x.eui;
  }

pub arrive : JoiningsArriveByAgent
arrive ciphers w x c a may = comes_in ciphers w x c a may
