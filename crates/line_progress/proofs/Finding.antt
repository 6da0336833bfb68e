-- A datagram without a route arrives: the request goes, the reply comes back, and what waits leaves.
use Rattle.std.proofs.Common.{◌≡◌, ℕ, zero, suc, ◌+◌, ◌*◌, ◌<◌, ◌≤◌, false, List, [], ◌∷◌, ◌++◌, length, Some, None, Ok, refl, sym}
use Rattle.std.proofs.Common.{ap, subst, ◌∙◌, arith}
use Rattle.std.specs.Prelude.{if◌then◌else◌, nat_lt, slice_get}
use Rattle.std.specs.List.{filter}
use Rattle.std.proofs.lemmas.Bool.{eq-eqb, le-ltb, ltb-false}
use Rattle.std.proofs.lemmas.List.{append_assoc, length-append, length-map}
use Rattle.std.proofs.lemmas.List.Elements.{filter-append}
use Rattle.frame_counters.specs.PeerMarks.{kept_after}
use Rattle.frame_counters.specs.SendCounter.{reserved}
use Rattle.store_tables.proofs.SlotTables.{slice_get-set}
use Rattle.mesh_header.specs.declared.unit.Unit.{Unit as MeshUnit}
use Rattle.loadng_messages.specs.declared.message.Message.{Message}
use Rattle.loadng_messages.specs.declared.message.Message.TheVariants.{Rrep}
use Rattle.loadng_messages.specs.Grammar as messages
use Rattle.loadng_messages.specs.Reader.{message_in}
use Rattle.loadng_messages.proofs.Readings.{message_read}
use Rattle.routing_set.specs.declared.rank.Rank.{Rank}
use Rattle.routing_set.specs.RoutingSet.{offered}
use Rattle.fragment_buffers.specs.Laws.{Awaits}
use Rattle.node_rules.specs.declared.heard.Heard.TheVariants as heard
use Rattle.node_rules.specs.Ciphers.{Ciphers, OpensWhatItSeals}
use Rattle.node_rules.specs.Drafts.{UnsealedUnit, all_go, counters_left, sealed_units, units_of, waits_for}
use Rattle.node_rules.specs.Frames.{Sealed}
use Rattle.node_rules.specs.HearingRules.{rank_over}
use Rattle.node_rules.specs.Memory.{Body, Datagram, Node, StationMemory}
use Rattle.node_rules.specs.MemoryDrafts.{with_station}
use Rattle.line_events.specs.declared.event.Answer.{Answer}
use Rattle.line_events.specs.declared.event.Answer.TheVariants as answers
use Rattle.line_events.specs.declared.event.Event.{Event}
use Rattle.line_events.specs.declared.event.Event.TheVariants as events
use Rattle.line_events.specs.declared.happenings.Handed.{Handed}
use Rattle.line_rules.specs.Answers.{station_reception}
use Rattle.line_rules.specs.Further.{line_step}
use Rattle.line_rules.specs.Runs.{run}
use Rattle.line_rules.specs.Worlds.{World, Flight, Trace, node_at}
use Rattle.line_progress.specs.Arrival.{Stop, IsReady, HasLink, HasRoute, AreReady, IsNoneOf, IsStraight, MayGather, IsBrought, last_of, deliveries}
use Rattle.line_progress.specs.Arrival.{all_deliveries, delivery_answers, all_answers, last_answer}
use Rattle.line_progress.specs.Discovery.{TakesRequest, AreReached, Search, AreBack, MayReach}
use Rattle.line_progress.specs.Discovery.{MayFind, DiscoveriesArrive, asked_of, back_answers, back_deliveries}
use Rattle.line_progress.specs.Discovery.{cost_back, counter_back, search_of}
use Rattle.line_progress.proofs.RouteArrivals.{InFrames, start_so, flies_at, flight_for, flights_for, count_of, in_frames}
use Rattle.line_progress.proofs.Deliveries.{Goes}
use Rattle.line_progress.proofs.Messages.{Holds, IsComing, came, is_target, message_goes, step_is, still, to_me, to_one, unit_is}
use Rattle.line_progress.proofs.NextCounter.{IsMarked, is_marked, room_above, stays_marked}
use Rattle.line_progress.proofs.OfferedRoutes.{next_by}
use Rattle.line_progress.proofs.PieceByPiece.{fly_on}
use Rattle.line_progress.proofs.Replies.{is_learned, learned_of}
use Rattle.line_progress.proofs.ReplyRoutes.{HavePassed, Returned, low_back, passed_of, returns}
use Rattle.line_progress.proofs.RequestRoutes.{Reached, goes_out, out, request_by, sent_to, sought_of, step_out}
use Rattle.line_progress.proofs.Requests.{IsTakeable, none_kept}
use Rattle.line_progress.proofs.Routes.{AreFit, Says, all_there, fit_of, get_after, last_ready, place_within, runs_on, says_first}
use Rattle.line_progress.proofs.Seeking.{seeking_of}
use Rattle.line_progress.proofs.SentDatagrams.{Leaves}

-- # The nodes of a way when the reply has gone back

-- a node of a route as it is with another station
abbrev pub now_as : Stop → Node → StationMemory → Stop
now_as t node station = record t { node = node; memory = with_station station t.memory }

-- The nodes of a way as they then are: a route whose links hold for the frames that follow, along which the same events go.
record Finals (q : Search) (v : World) (s t : Stop) (rest : List Stop) : Type 0 where
  node : Node
  station : StationMemory
  more : List Stop
  marked : IsMarked station.marks s.granted.address s.memory.station.counter.next
  ready : AreReady v (now_as t node station ∷ more)
  none : (k : ℕ) → IsNoneOf k (t ∷ rest) → IsNoneOf k (now_as t node station ∷ more)
  line : IsStraight (now_as t node station ∷ more)
  route : HasRoute q.frames q.dest (now_as t node station) more
  many : length more ≡ length rest
  events_are : (flight next : ℕ) → deliveries flight next (now_as t node station) more ≡ deliveries flight next t rest
  answers_are : (word : Answer) → delivery_answers word more ≡ delivery_answers word rest
  last_number : (last_of (now_as t node station) more).number ≡ (last_of t rest).number
  last_address : (last_of (now_as t node station) more).granted.address ≡ (last_of t rest).granted.address
  last_held : (last_of (now_as t node station) more).memory.station.reassemblies ≡ (last_of t rest).memory.station.reassemblies

module _ (q : Search) (v : World) where
  ready_as : (t : Stop) (station : StationMemory) (h : Holds v t station) → station.ring ≡ Some t.granted → IsReady t → IsReady (now_as t h.node station)
  ready_as t station h ring fit =
      record { memory = h.runs; spared = h.spared; ring = ring; address = fit.address; index = fit.index; key = fit.key }

  finals : (rest : List Stop) (total : ℕ) (s t : Stop) → AreFit (t ∷ rest) → IsStraight (t ∷ rest)
      → TakesRequest q.asked total q.origin q.clock s t → AreReached q.asked (total + t.cost) q.origin q.dest q.clock t rest → AreBack q total s t rest
      → q.dest ≡ (last_of t rest).granted.address → HavePassed v q total s t rest → Finals q v s t rest
  finals [] total s t fit straight takes reached back dest_is h = record {
    node = h.node;
    station = sought_of q.asked total q.origin q.clock s t;
    more = [];
    marked = is_marked t.memory.station.marks s.granted.address s.memory.station.counter.next;
    ready = (h.there, ready_as t (sought_of q.asked total q.origin q.clock s t) h fit.0.ring fit.0, tt);
    none = λ k n. n;
    line = (tt, tt);
    route = sym dest_is;
    many = refl;
    events_are = λ flight next. refl;
    answers_are = λ word. refl;
    last_number = refl;
    last_address = refl;
    last_held = refl;
  }
  finals (z ∷ rest) total s t fit straight takes reached back dest_is h =
      let inner = finals rest (total + t.cost) t z fit.1 straight.1 reached.1 reached.2 back.1 dest_is h.1 in
      let later : Stop = now_as z inner.node inner.station in
      let station : StationMemory = passed_of q q.clock total s t z rest in
      let next_takes = reached.1 in
      let passes = back.0 in
      let reply_takes = passes.takes in
      let enough : 2 + q.frames ≤ counters_left t.memory.station = ltb-false (counters_left t.memory.station) (2 + q.frames) passes.left in
      let link : HasLink q.frames q.dest (now_as t h.0.node station) later = record {
        on = reached.0;
        apart = next_takes.apart;
        route = next_by station (asked_of q.asked total q.origin q.clock s t).routing q.dest (rank_over q.answered (cost_back z rest) t.cost)
            z.granted.address q.clock refl;
        left = le-ltb (counters_left station) q.frames (omega (arith, enough));
        opens = next_takes.opens;
        admits = room_above inner.station.marks t.granted.address t.memory.station.counter.next station.counter.next (omega arith) inner.marked;
      } in
      record {
        node = h.0.node;
        station = station;
        more = later ∷ inner.more;
        marked = stays_marked (kept_after t.memory.station.marks s.granted.address s.memory.station.counter.next) s.granted.address
            s.memory.station.counter.next z.granted.address (counter_back z rest) passes.apart
            (is_marked t.memory.station.marks s.granted.address s.memory.station.counter.next);
        ready = (h.0.there, ready_as t station h.0 fit.0.ring fit.0, inner.ready);
        none = λ k n. (n.0, inner.none k n.1);
        line = (inner.none t.number straight.0, inner.line);
        route = (link, inner.route);
        many = let same = inner.many in omega (arith, same);
        events_are = λ flight next. ap (λ es. events.Deliver flight t.number t.cost ∷ es) (inner.events_are next (next + 1));
        answers_are = λ word. ap (λ xs. answers.Relayed ∷ xs) (inner.answers_are word);
        last_number = inner.last_number;
        last_address = inner.last_address;
        last_held = inner.last_held;
      }

  -- the same events of all frames, and the same answers
  all_same : (s t : Stop) (rest : List Stop) (f : Finals q v s t rest) (count flight next : ℕ)
      → all_deliveries count flight next (now_as t f.node f.station) f.more ≡ all_deliveries count flight next t rest
  all_same s t rest f zero flight next = refl
  all_same s t rest f (suc count) flight next =
      (λ i. f.events_are flight next i ++ all_deliveries count (flight + 1) (next + f.many i) (now_as t f.node f.station) f.more)
      ∙ ap (λ es. deliveries flight next t rest ++ es) (all_same s t rest f count (flight + 1) (next + length rest))

  all_answered : (s t : Stop) (rest : List Stop) (f : Finals q v s t rest) (count : ℕ) → all_answers count f.more ≡ all_answers count rest
  all_answered s t rest f zero = refl
  all_answered s t rest f (suc count) = λ i. f.answers_are (last_answer count) i ++ all_answered s t rest f count i

-- # The law

-- the node that is sought has a number for its reply
answer_low : (number origin dest now : ℕ) (rest : List Stop) (total : ℕ) (t : Stop) → AreReached number total origin dest now t rest
    → (last_of t rest).memory.station.own_number.last < 65535
answer_low number origin dest now [] total t reached = reached.numbers
answer_low number origin dest now (z ∷ rest) total t reached = answer_low number origin dest now rest (total + z.cost) z reached.2

module _ (ciphers : Ciphers) (opens : OpensWhatItSeals ciphers) (w : World) (s t : Stop) (rest : List Stop) (datagram : List ℕ)
    (may : MayFind w s t rest datagram) where
  abbrev z : Stop
  z = last_of t rest

  abbrev q : Search
  q = search_of w s z datagram

  abbrev note : ℕ
  note = w.sends + 1

  reach_may : MayReach w s t rest datagram
  reach_may = may.reach

  fit : AreFit (s ∷ t ∷ rest)
  fit = let ready = reach_may.ready in fit_of w (s ∷ t ∷ rest) ready

  line : IsStraight (s ∷ t ∷ rest)
  line = reach_may.straight

  reached : AreReached q.asked 0 q.origin q.dest q.clock s (t ∷ rest)
  reached = reach_may.reached

  last : (node_at w z.number ≡ Some z.node) × IsReady z
  last = let ready = reach_may.ready in last_ready w t rest ready.2

  cut : InFrames s z datagram
  cut = let some = reach_may.some in let few = reach_may.few in in_frames s z datagram some few may.gathers

  abbrev sent : World × Trace
  sent = sent_to ciphers opens w s t rest datagram reach_may cut.puts cut.tag cut.cut.begun

  abbrev first : ℕ
  first = length w.flights + 1

  abbrev waiting : StationMemory
  waiting = seeking_of s.memory.station q.dest cut.tag datagram note w.clock

  leaving : Leaves ciphers w s.number answers.Waiting (Sealed (request_by s q.asked 0 q.origin q.dest) ∷ []) (with_station waiting s.memory) sent
  leaving = out ciphers opens w s t rest datagram reach_may cut.puts cut.tag cut.cut.begun

  away : Reached ciphers q.asked 0 q.origin q.clock sent.0 first (first + 1) s t rest
  away = goes_out ciphers opens w s t rest datagram reach_may cut.puts cut.tag cut.cut.begun

  abbrev reply : ℕ
  reply = first + (1 + length rest)

  abbrev place : ℕ
  place = length sent.0.flights + length rest

  longer : length sent.0.flights ≡ length w.flights + 1
  longer = ap length leaving.flights ∙ length-append w.flights _

  above : messages.IsNumber q.answered
  above = let low = answer_low q.asked q.origin q.dest q.clock rest (0 + t.cost) t reached.2 in (omega arith, omega (arith, low))

  back : Returned ciphers q away.world place reply 0 s t rest
  back =
      let many = away.flights in
      let counted = away.events in
      let one = leaving.events in
      let room = may.events in
      returns ciphers opens q above fit.0.address last.1.address away.world place reply (omega (arith, longer)) (omega (arith, many)) away.unchecked
      away.clock rest 0 s t fit.1 line.1 reached.1 reached.2 may.back refl refl away.heard away.answered (omega (arith, room, counted, one))

  -- # The reply comes to the node that asked

  abbrev v : World
  v = back.world

  takes : TakesRequest q.asked 0 q.origin q.clock s t
  takes = reached.1

  holds : Holds v s waiting
  holds =
      let ready = reach_may.ready in
      still sent.0 v s waiting (back.others s.number line.0 ∙ away.others s.number line.0) (record {
        node = leaving.node;
        there = ap (λ ns. slice_get ns s.number) leaving.nodes
            ∙ slice_get-set w.nodes s.number leaving.node (place_within w.nodes s.number s.node ready.0);
        runs = leaving.memory;
        spared = leaving.spared;
      })

  coming : IsComing v t s waiting s.granted.address (counter_back t rest) false
  coming =
      let learns = may.learns in
      let reply_takes = learns.takes in
      let first_fit = fit.0 in
      record {
        first = fit.1.0;
        holds = holds;
        ring = first_fit.ring;
        off = back.unchecked;
        target = is_target s fit.0;
        low = low_back q 0 s t rest takes.left may.back;
        apart = λ e. takes.apart (sym e);
        opens = reply_takes.opens;
        admits = reply_takes.admits;
        is_all = to_one s fit.0;
        mine = to_me s waiting first_fit.ring;
      }

  abbrev answer : Message
  answer = Rrep q.answered (cost_back t rest) q.dest q.origin

  message_is : message_in (messages.spelling answer) ≡ Some answer
  message_is =
      let learns = may.learns in
      let reply_takes = learns.takes in
      let cheap = reply_takes.cheap in
      let first_fit = fit.0 in
      let last_fit = last.1 in
      message_read answer (messages.spelling answer) ((above, omega (arith, cheap), last_fit.address, first_fit.address), refl)

  abbrev marked_now : StationMemory
  marked_now = record waiting { marks = kept_after waiting.marks t.granted.address (counter_back t rest) }

  abbrev rank : Rank
  rank = rank_over q.answered (cost_back t rest) s.cost

  takeable : IsTakeable marked_now s.granted.address q.dest rank v.clock
  takeable =
      let learns = may.learns in
      let reply_takes = learns.takes in
      subst (λ c. IsTakeable marked_now s.granted.address q.dest rank c) (sym back.clock)
      (record { away = reached.0; better = reply_takes.better; cheap = reply_takes.cheap; room = reply_takes.room })

  -- the datagram is all that waits for the node
  abbrev body : Body
  body = record { to = q.dest; note = note; since = w.clock; load = Datagram datagram s.memory.station.next_tag }

  waits : filter (waits_for q.dest) marked_now.waiting ≡ body ∷ []
  waits =
      let seeks = reach_may.seeks in
      filter-append (waits_for q.dest) s.memory.station.waiting (body ∷ [])
      ∙ (λ i. none_kept (waits_for q.dest) s.memory.station.waiting seeks.idle i ++ filter (waits_for q.dest) (body ∷ []))
      ∙ (λ i. if eq-eqb q.dest q.dest refl i then body ∷ [] else [])

  -- its units, and how many they are
  abbrev mesh_units : List MeshUnit
  mesh_units = units_of s.granted.address q.dest (Datagram datagram s.memory.station.next_tag)

  abbrev us : List UnsealedUnit
  us = all_go t.granted.address note mesh_units

  units_are : mesh_units ≡ cut.us
  units_are = let parts = cut.cut in parts.units

  count_is : length us ≡ q.frames
  count_is = length-map mesh_units _ ∙ ap length units_are ∙ cut.many

  enough : 1 + q.frames ≤ counters_left s.memory.station
  enough = let learns = may.learns in ltb-false (counters_left s.memory.station) (1 + q.frames) learns.left

  left : nat_lt (counters_left marked_now) (length us) ≡ false
  left = le-ltb (counters_left marked_now) (length us) (omega (arith, enough, count_is))

  abbrev came_now : World × Trace
  came_now = came ciphers opens v t s waiting s.granted.address (counter_back t rest) false answer coming

  abbrev event : Event
  event = events.Deliver (reply + length rest) s.number s.cost

  step : line_step ciphers v event ≡ Ok came_now
  step =
      step_is ciphers opens v t s waiting s.granted.address (counter_back t rest) false answer coming (place + length rest) (reply + length rest)
      (omega (arith, longer)) back.flies

  goes : Goes ciphers v s.number (station_reception heard.Learned) (sealed_units s.granted s.key marked_now.counter.next us)
      (with_station (learned_of marked_now q.dest rank t.granted.address v.clock (length us)) s.memory) came_now
  goes =
      let first_fit = fit.0 in
      message_goes ciphers opens v t s waiting s.granted.address (counter_back t rest) false answer coming heard.Learned
      (sealed_units s.granted s.key marked_now.counter.next us) (learned_of marked_now q.dest rank t.granted.address v.clock (length us))
      (λ heard_note. is_learned marked_now s.granted first_fit.ring t.granted.address t.key q.answered (cost_back t rest) q.dest q.origin _
      (unit_is ciphers opens v t s waiting s.granted.address (counter_back t rest) false answer coming) message_is s.cost heard_note v.clock takeable s.key
      first_fit.key body waits refl left) refl

  -- # What waited goes along

  -- the node that asked, as it is before its frames leave
  abbrev learned : StationMemory
  learned = record s.memory.station {
    routing = offered s.memory.station.routing q.dest rank t.granted.address q.clock;
    counter = reserved s.memory.station.counter 1;
  }

  abbrev s_now : Stop
  s_now = now_as s (record s.node { memory = Some (with_station learned s.memory) }) learned

  f : Finals q v s t rest
  f = finals q v rest 0 s t fit.1 line.1 takes reached.2 may.back refl back.passed

  abbrev t_now : Stop
  t_now = now_as t f.node f.station

  abbrev z_now : Stop
  z_now = last_of t_now f.more

  first_now : IsReady s_now
  first_now =
      let first_fit = fit.0 in
      record {
        memory = refl;
        spared = first_fit.spared;
        ring = first_fit.ring;
        address = first_fit.address;
        index = first_fit.index;
        key = first_fit.key;
      }

  link : HasLink q.frames q.dest s_now t_now
  link =
      let learns = may.learns in
      let reply_takes = learns.takes in
      record {
        on = reached.0;
        apart = takes.apart;
        route = next_by learned s.memory.station.routing q.dest rank t.granted.address q.clock refl;
        left = le-ltb (counters_left learned) q.frames (omega (arith, enough));
        opens = takes.opens;
        admits = room_above f.station.marks s.granted.address s.memory.station.counter.next learned.counter.next (omega arith) f.marked;
      }

  route : HasRoute q.frames z_now.granted.address s_now (t_now ∷ f.more)
  route = subst (λ d. HasRoute q.frames d s_now (t_now ∷ f.more)) (sym f.last_address) (link, f.route)

  gathers : 376 ≤ length datagram → MayGather s_now z_now datagram
  gathers long =
      let gather = may.gathers long in
      record {
        tag = gather.tag;
        awaits = subst (λ rs. Awaits rs s.granted.address datagram s.memory.station.next_tag) (sym f.last_held) gather.awaits;
      }

  cut_now : InFrames s_now z_now datagram
  cut_now = let some = reach_may.some in let few = reach_may.few in in_frames s_now z_now datagram some few gathers

  same_units : mesh_units ≡ cut_now.us
  same_units =
      let parts = cut_now.cut in
      ap (λ d. units_of s.granted.address d (Datagram datagram s.memory.station.next_tag)) (sym f.last_address) ∙ parts.units

  abbrev base : ℕ
  base = length v.flights

  abbrev new : List Flight
  new = flights_for ciphers s.number s.granted s.key t.granted.address note learned.counter.next mesh_units

  flights_are : came_now.0.flights ≡ v.flights ++ new
  flights_are = goes.flights

  flies : (k : ℕ) (unit : MeshUnit) → slice_get cut_now.us k ≡ Some unit
      → slice_get came_now.0.flights (base + k)
      ≡ Some (flight_for ciphers s.number s.granted s.key t.granted.address note (learned.counter.next + k) unit)
  flies k unit e =
      ap (λ fs. slice_get fs (base + k)) flights_are ∙ get_after v.flights new (base + k) k refl
      ∙ flies_at ciphers s.number s.granted s.key t.granted.address note mesh_units learned.counter.next k unit
      (ap (λ xs. slice_get xs k) same_units ∙ e)

  more_flights : length came_now.0.flights ≡ base + q.frames
  more_flights =
      ap length flights_are ∙ length-append v.flights new
      ∙ ap (λ n. base + n) (count_of ciphers s.number s.granted s.key t.granted.address note mesh_units learned.counter.next ∙ ap length units_are ∙ cut.many)

  abbrev leaves : ℕ
  leaves = reply + (1 + length rest)

  starts_at : base + 1 ≡ leaves
  starts_at = let many = back.flights in omega (arith, many, longer)

  counted : came_now.0.events ≡ w.events + (1 + (2 * (1 + length rest)))
  counted =
      let one = leaving.events in
      let two = away.events in
      let three = back.events in
      let four = goes.events in omega (arith, one, two, three, four)

  abbrev data_events : List Event
  data_events = all_deliveries q.frames leaves (leaves + q.frames) t rest

  brought : IsBrought (all_answers q.frames rest) z.number datagram (run ciphers came_now.0 data_events)
  brought =
      let room = may.events in
      let short = may.short in
      let many = f.many in
      let start = starts_at in
      let split : (1 + length rest) * (2 + q.frames) ≡ 2 * (1 + length rest) + q.frames * (1 + length rest) = omega arith in
      let budget : q.frames * (1 + length f.more) ≡ q.frames * (1 + length rest) = ap (λ n. q.frames * (1 + n)) many in
      let goes_on = fly_on ciphers opens came_now.0 s_now t_now f.more datagram base cut_now first_now
      (all_there v came_now.0 s.number goes.node (t_now ∷ f.more) goes.nodes (f.none s.number line.0) f.ready) f.line route
      (start_so ciphers came_now.0 s_now t_now f.more datagram base note cut_now (omega (arith, short, many)) flies)
      (leaves + q.frames) (omega (arith, more_flights, start)) (omega (arith, room, split, budget, counted)) in
      let as_first = subst (λ n. IsBrought (all_answers q.frames f.more) z_now.number datagram
      (run ciphers came_now.0 (all_deliveries q.frames n (leaves + q.frames) t_now f.more))) start goes_on in
      let as_events = subst (λ es. IsBrought (all_answers q.frames f.more) z_now.number datagram (run ciphers came_now.0 es))
      (all_same q v s t rest f q.frames leaves (leaves + q.frames)) as_first in
      let as_answers = subst (λ xs. IsBrought xs z_now.number datagram (run ciphers came_now.0 data_events))
      (all_answered q v s t rest f q.frames) as_events in
      subst (λ n. IsBrought (all_answers q.frames rest) n datagram (run ciphers came_now.0 data_events)) f.last_number as_answers

  -- # All of it

  abbrev handed : List Handed
  handed = record { node = z.number; note = brought.note; octets = datagram } ∷ []

  said_data : Says (all_answers q.frames rest) handed (run ciphers came_now.0 data_events)
  said_data = record { answers = brought.answers; handed_is = brought.up }

  abbrev last_events : List Event
  last_events = event ∷ data_events

  abbrev last_said : List Answer
  last_said = answers.Learned ∷ all_answers q.frames rest

  said_last : Says last_said handed (run ciphers v last_events)
  said_last =
      let room = may.events in
      let one = leaving.events in
      let two = away.events in
      let three = back.events in
      let some : 2 * (1 + length rest) ≤ (1 + length rest) * (2 + q.frames) = omega arith in
      subst (λ es. Says last_said handed es)
      (sym (runs_on ciphers v event data_events came_now (omega (arith, room, one, two, three, some)) step))
      (says_first (record { number = v.events + 1; event = event; trace = came_now.1; after = came_now.0 }) answers.Learned None
      (all_answers q.frames rest) handed (run ciphers came_now.0 data_events) goes.answer_is goes.up_is said_data)

  abbrev back_events : List Event
  back_events = back_deliveries reply s (t ∷ rest) ++ data_events

  said_back : Says (back_answers rest ++ last_said) handed (run ciphers away.world back_events)
  said_back =
      subst (λ es. Says (back_answers rest ++ last_said) handed (run ciphers away.world es))
      (sym (append_assoc (back_deliveries reply t rest) (event ∷ []) data_events)) (back.says last_events last_said handed said_last)

  abbrev way_events : List Event
  way_events = deliveries first (first + 1) t rest ++ back_events

  abbrev way_said : List Answer
  way_said = delivery_answers answers.Answered rest ++ (back_answers rest ++ last_said)

  pub finds : IsBrought (answers.Waiting ∷ way_said) z.number datagram (run ciphers w (events.Send s.number z.number datagram ∷ way_events))
  finds =
      let room = may.events in
      let whole = runs_on ciphers w (events.Send s.number z.number datagram) way_events sent (omega (arith, room))
      (step_out ciphers opens w s t rest datagram reach_may cut.puts cut.tag cut.cut.begun) in
      let said = says_first (record { number = w.events + 1; event = events.Send s.number z.number datagram; trace = sent.1; after = sent.0 })
      answers.Waiting None way_said handed (run ciphers sent.0 way_events) leaving.answer_is leaving.up_is
      (away.says back_events (back_answers rest ++ last_said) handed said_back) in
      subst (λ es. IsBrought (answers.Waiting ∷ way_said) z.number datagram es) (sym whole)
      (record { answers = said.answers; note = brought.note; up = said.handed_is })

pub find_it : DiscoveriesArrive
find_it = finds
