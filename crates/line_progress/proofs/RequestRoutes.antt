-- A route request goes along a way whose nodes take it: by induction on the nodes.
use Rattle.std.proofs.Common.{◌≡◌, ◌≢◌, ℕ, ◌+◌, ◌-◌, ◌≤◌, Bool, true, false, List, [], ◌∷◌, ◌++◌, length, Some, None, Ok}
use Rattle.std.proofs.Common.{refl, sym, ap, subst, ◌∙◌, arith}
use Rattle.std.specs.Prelude.{nat_le, nat_lt, slice_get}
use Rattle.std.specs.Option.{option_and_then}
use Rattle.std.proofs.lemmas.List.{append-nil, length-append}
use Rattle.plc_base.specs.Addresses.{IsAddress}
use Rattle.plc_base.specs.Grant.{Granted}
use Rattle.plc_base.specs.Keeper.{Write}
use Rattle.frame_counters.specs.PeerMarks.{kept_after}
use Rattle.store_tables.proofs.SlotTables.{slice_get-set, slice_get-set_other}
use Rattle.mesh_header.specs.Grammar.{spelling}
use Rattle.mesh_header.specs.Reader.{unit_in}
use Rattle.loadng_messages.specs.declared.message.Message.{Message}
use Rattle.loadng_messages.specs.declared.message.Message.TheVariants.{Rreq, Rrep}
use Rattle.loadng_messages.specs.Grammar as messages
use Rattle.loadng_messages.specs.Reader.{message_in}
use Rattle.loadng_messages.proofs.Readings.{message_read}
use Rattle.routing_set.specs.RoutingSet as routing
use Rattle.node_rules.specs.declared.heard.Heard.TheVariants as heard
use Rattle.node_rules.specs.declared.heard.SentHow.TheVariants as how_of
use Rattle.node_rules.specs.Calls.{tag_taken}
use Rattle.node_rules.specs.Ciphers.{Ciphers, OpensWhatItSeals}
use Rattle.node_rules.specs.Drafts.{counters_left, empty_draft, tag_after, tag_write}
use Rattle.node_rules.specs.Frames.{SealedUnit, Sealed, to_all}
use Rattle.node_rules.specs.HearingRules.{rank_over}
use Rattle.node_rules.specs.Memory.{StationMemory, Memory, Node, next_hop, node_route, station_route}
use Rattle.node_rules.specs.MemoryDrafts.{with_station}
use Rattle.line_events.specs.declared.event.Answer.{Answer}
use Rattle.line_events.specs.declared.event.Answer.TheVariants as answers
use Rattle.line_events.specs.declared.event.Event.{Event}
use Rattle.line_events.specs.declared.event.Event.TheVariants as events
use Rattle.line_events.specs.declared.event.TheConstants.{MAX_EVENTS}
use Rattle.line_events.specs.declared.happenings.Handed.{Handed}
use Rattle.line_rules.specs.Answers.{station_reception}
use Rattle.line_rules.specs.Further.{line_step}
use Rattle.line_rules.specs.Runs.{last_world, run, ups}
use Rattle.line_rules.specs.Steps.{sends_by}
use Rattle.line_rules.specs.Worlds.{World, Trace, node_at}
use Rattle.line_progress.specs.Arrival.{Stop, IsReady, AreReady, IsNoneOf, IsStraight, last_of, deliveries, delivery_answers, answers_of}
use Rattle.line_progress.specs.Discovery.{TakesRequest, asked_of, MayAnswer, AreReached, LeadTo, hop_at, IsSought, MayReach, RequestsArrive}
use Rattle.line_progress.proofs.Acceptance.{got_by}
use Rattle.line_progress.proofs.Deliveries.{Goes}
use Rattle.line_progress.proofs.Messages.{Holds, IsComing, IsFlying, came, counter_low, flies_last, holds_then, message_by, message_goes, step_is, still}
use Rattle.line_progress.proofs.Messages.{to_everyone, unit_is}
use Rattle.line_progress.proofs.OfferedRoutes.{next_by}
use Rattle.line_progress.proofs.Requests.{IsTakeable, is_answered, is_passed_on, numbered}
use Rattle.line_progress.proofs.Seeking.{seeking_of, seeks_it}
use Rattle.line_progress.proofs.SentDatagrams.{Leaves, begun_with, it_leaves, steps_so, takes_next, takes_none}
use Rattle.line_progress.proofs.Routes.{AreFit, Says, address_is, all_there, fit_of, last_ready, runs_on, says_first}

-- # On the way

-- the request of a node of a way
abbrev pub request_by : Stop → (number total origin dest : ℕ) → SealedUnit
request_by s number total origin dest = message_by s to_all s.memory.station.counter.next (Rreq number total origin dest)

-- at the end a node has taken an own number too
abbrev pub sought_of : (number total origin now : ℕ) → Stop → Stop → StationMemory
sought_of number total origin now s t = numbered (asked_of number total origin now s t)

-- each node after the first has taken the request
abbrev pub HaveHeard : World → (number total origin now : ℕ) → Stop → List Stop → Type 0
HaveHeard w number total origin now s [] = Unit {0}
HaveHeard w number total origin now s (t ∷ []) = Holds w t (sought_of number total origin now s t)
HaveHeard w number total origin now s (t ∷ z ∷ rest) =
    Holds w t (asked_of number total origin now s t) × HaveHeard w number (total + t.cost) origin now t (z ∷ rest)

-- the answer of the last node to the one before it
abbrev pub answer_by : Stop → Stop → (origin : ℕ) → SealedUnit
answer_by s t origin =
    message_by t s.granted.address t.memory.station.counter.next (Rrep (t.memory.station.own_number.last + 1) 0 t.granted.address origin)

-- it flies
abbrev pub IsAnswered : Ciphers → World → (place origin : ℕ) → Stop → Stop → List Stop → Type 0
IsAnswered ciphers w place origin s t [] = IsFlying ciphers w place (answer_by s t origin)
IsAnswered ciphers w place origin s t (z ∷ rest) = IsAnswered ciphers w place origin t z rest

-- What a way is when a request has gone along it, and what was said.
pub record Reached (ciphers : Ciphers) (number total origin now : ℕ) (w : World) (flight next : ℕ) (s t : Stop) (rest : List Stop) : Type 0 where
  pub world : World
  pub heard : HaveHeard world number total origin now s (t ∷ rest)
  pub others : (k : ℕ) → IsNoneOf k (t ∷ rest) → node_at world k ≡ node_at w k
  pub answered : IsAnswered ciphers world (length w.flights + length rest) origin s t rest
  pub flights : length world.flights ≡ length w.flights + (1 + length rest)
  pub events : world.events ≡ w.events + (1 + length rest)
  pub clock : world.clock ≡ now
  pub unchecked : world.checks_on ≡ false
  pub says : (more : List Event) (expected : List Answer) (handed : List Handed) → Says expected handed (run ciphers world more)
      → Says (delivery_answers answers.Answered rest ++ expected) handed (run ciphers w (deliveries flight next t rest ++ more))
  pub ends : (more : List Event) → last_world w (run ciphers w (deliveries flight next t rest ++ more)) ≡ last_world world (run ciphers world more)

-- # One node

module _ (ciphers : Ciphers) (opens : OpensWhatItSeals ciphers) (number origin dest : ℕ) (above : messages.IsNumber number)
    (here : IsAddress origin) (sought : IsAddress dest) (w : World) (total : ℕ) (s t : Stop) (first : IsReady s) (ready : IsReady t)
    (there : node_at w t.number ≡ Some t.node) (off : w.checks_on ≡ false)
    (takes : TakesRequest number total origin w.clock s t) (left : nat_lt (counters_left s.memory.station) 1 ≡ false) where
  abbrev request : Message
  request = Rreq number total origin dest

  coming : IsComing w s t t.memory.station to_all s.memory.station.counter.next true
  coming = record {
    first = first;
    holds = record { node = t.node; there = there; runs = ready.memory; spared = ready.spared };
    ring = ready.ring;
    off = off;
    target = (omega arith, λ e. absurd (omega (arith, e)));
    low = counter_low s.memory.station left;
    apart = takes.apart;
    opens = takes.opens;
    admits = takes.admits;
    is_all = refl;
    mine = to_everyone t.memory.station;
  }

  message_is : message_in (messages.spelling request) ≡ Some request
  message_is = let cheap = takes.cheap in message_read request (messages.spelling request) ((above, omega (arith, cheap), here, sought), refl)

  -- the station that has accepted the frame
  abbrev marked_now : StationMemory
  marked_now = record t.memory.station { marks = kept_after t.memory.station.marks s.granted.address s.memory.station.counter.next }

  takeable : IsTakeable marked_now t.granted.address origin (rank_over number total t.cost) w.clock
  takeable = record { away = takes.away; better = takes.better; cheap = takes.cheap; room = takes.room }

  abbrev came_now : World × Trace
  came_now = came ciphers opens w s t t.memory.station to_all s.memory.station.counter.next true request coming

  step_now : (place flight : ℕ) → flight ≡ place + 1 → IsFlying ciphers w place (request_by s number total origin dest)
      → line_step ciphers w (events.Deliver flight t.number t.cost) ≡ Ok came_now
  step_now = step_is ciphers opens w s t t.memory.station to_all s.memory.station.counter.next true request coming

  unit_so : unit_in (got_by true (request_by s number total origin dest)).payload ≡ Some (request_by s number total origin dest).unit
  unit_so = unit_is ciphers opens w s t t.memory.station to_all s.memory.station.counter.next true request coming

  -- before the last node it goes on
  module _ (away : t.granted.address ≢ dest) where
    comes_on : Goes ciphers w t.number (station_reception heard.Relayed) (Sealed (request_by t number (total + t.cost) origin dest) ∷ [])
        (with_station (asked_of number total origin w.clock s t) t.memory) came_now
    comes_on =
        message_goes ciphers opens w s t t.memory.station to_all s.memory.station.counter.next true request coming heard.Relayed
        (Sealed (request_by t number (total + t.cost) origin dest) ∷ []) (asked_of number total origin w.clock s t)
        (λ note. is_passed_on marked_now t.granted ready.ring s.granted.address s.key number total origin dest _ unit_so message_is t.cost note w.clock
        takeable takes.idle takes.left t.key ready.key (λ e. away (sym e))) refl

    holds_on : Holds came_now.0 t (asked_of number total origin w.clock s t)
    holds_on =
        holds_then ciphers opens w s t t.memory.station to_all s.memory.station.counter.next true request coming heard.Relayed
        (Sealed (request_by t number (total + t.cost) origin dest) ∷ []) (asked_of number total origin w.clock s t) comes_on

  -- the node that is sought answers
  module _ (may : MayAnswer dest t) where
    comes_last : Goes ciphers w t.number (station_reception heard.Answered) (Sealed (answer_by s t origin) ∷ [])
        (with_station (sought_of number total origin w.clock s t) t.memory) came_now
    comes_last =
        message_goes ciphers opens w s t t.memory.station to_all s.memory.station.counter.next true request coming heard.Answered
        (Sealed (answer_by s t origin) ∷ []) (sought_of number total origin w.clock s t)
        (λ note. is_answered marked_now t.granted ready.ring s.granted.address s.key number total origin dest _ unit_so message_is t.cost note w.clock
        takeable takes.idle takes.left t.key ready.key (sym may.at) may.numbers) refl

    holds_last : Holds came_now.0 t (sought_of number total origin w.clock s t)
    holds_last =
        holds_then ciphers opens w s t t.memory.station to_all s.memory.station.counter.next true request coming heard.Answered
        (Sealed (answer_by s t origin) ∷ []) (sought_of number total origin w.clock s t) comes_last

-- # The whole way

module _ (ciphers : Ciphers) (opens : OpensWhatItSeals ciphers) (number origin dest now : ℕ) (above : messages.IsNumber number)
    (here : IsAddress origin) (sought : IsAddress dest) where
  pub reach : (rest : List Stop) (w : World) (place flight next total : ℕ) (s t : Stop) → flight ≡ place + 1 → next ≡ length w.flights + 1
      → IsReady s → AreReady w (t ∷ rest) → IsStraight (t ∷ rest) → w.checks_on ≡ false → w.clock ≡ now
      → nat_lt (counters_left s.memory.station) 1 ≡ false → TakesRequest number total origin now s t
      → AreReached number (total + t.cost) origin dest now t rest → IsFlying ciphers w place (request_by s number total origin dest)
      → w.events + (1 + length rest) ≤ MAX_EVENTS → Reached ciphers number total origin now w flight next s t rest
  reach [] w place flight next total s t is after first ready straight off time left takes reached asked room =
      let takes_now = subst (λ c. TakesRequest number total origin c s t) (sym time) takes in
      let r : World × Trace = came_now ciphers opens number origin dest above here sought w total s t first ready.1 ready.0 off takes_now left in
      let goes = comes_last ciphers opens number origin dest above here sought w total s t first ready.1 ready.0 off takes_now left reached in
      let event : Event = events.Deliver flight t.number t.cost in
      let step = step_now ciphers opens number origin dest above here sought w total s t first ready.1 ready.0 off takes_now left place flight is asked in
      record {
        world = r.0;
        heard = subst (λ c. Holds r.0 t (sought_of number total origin c s t)) time
            (holds_last ciphers opens number origin dest above here sought w total s t first ready.1 ready.0 off takes_now left reached);
        others = λ k none. ap (λ ns. slice_get ns k) goes.nodes ∙ slice_get-set_other w.nodes t.number k goes.node (λ e. none.0 (sym e));
        answered = subst (λ n. IsFlying ciphers r.0 n (answer_by s t origin)) (omega arith)
            (flies_last ciphers w r.0 t.number (answer_by s t origin) goes.flights);
        flights = ap length goes.flights ∙ length-append w.flights _;
        events = goes.events;
        clock = goes.clock ∙ time;
        unchecked = goes.checks ∙ off;
        says = λ more expected handed h. subst (λ es. Says (answers.Answered ∷ expected) handed es)
            (sym (runs_on ciphers w event more r (omega (arith, room)) step))
            (says_first (record { number = w.events + 1; event = event; trace = r.1; after = r.0 }) answers.Answered None expected handed
            (run ciphers r.0 more) goes.answer_is goes.up_is h);
        ends = λ more. ap (last_world w) (runs_on ciphers w event more r (omega (arith, room)) step);
      }
  reach (z ∷ rest) w place flight next total s t is after first ready straight off time left takes reached asked room =
      let takes_now = subst (λ c. TakesRequest number total origin c s t) (sym time) takes in
      let r : World × Trace = came_now ciphers opens number origin dest above here sought w total s t first ready.1 ready.0 off takes_now left in
      let goes = comes_on ciphers opens number origin dest above here sought w total s t first ready.1 ready.0 off takes_now left reached.0 in
      let event : Event = events.Deliver flight t.number t.cost in
      let step = step_now ciphers opens number origin dest above here sought w total s t first ready.1 ready.0 off takes_now left place flight is asked in
      let longer : length r.0.flights ≡ length w.flights + 1 = ap length goes.flights ∙ length-append w.flights _ in
      let counted : r.0.events ≡ w.events + 1 = goes.events in
      let ahead = reach rest r.0 (length w.flights) next (next + 1) (total + t.cost) t z after (omega (arith, after, longer)) ready.1
      (all_there w r.0 t.number goes.node (z ∷ rest) goes.nodes straight.0 ready.2) straight.1 (goes.checks ∙ off) (goes.clock ∙ time) takes.left
      reached.1 reached.2
      (flies_last ciphers w r.0 t.number (request_by t number (total + t.cost) origin dest) goes.flights)
      (omega (arith, room, counted)) in
      record {
        world = ahead.world;
        heard = (
          still r.0 ahead.world t (asked_of number total origin now s t) (ahead.others t.number straight.0)
              (subst (λ c. Holds r.0 t (asked_of number total origin c s t)) time
              (holds_on ciphers opens number origin dest above here sought w total s t first ready.1 ready.0 off takes_now left reached.0)),
          ahead.heard,
        );
        others = λ k none. ahead.others k none.1 ∙ ap (λ ns. slice_get ns k) goes.nodes
            ∙ slice_get-set_other w.nodes t.number k goes.node (λ e. none.0 (sym e));
        answered = subst (λ n. IsAnswered ciphers ahead.world n origin t z rest) (omega (arith, longer)) ahead.answered;
        flights = let all = ahead.flights in omega (arith, all, longer);
        events = let all = ahead.events in omega (arith, all, counted);
        clock = ahead.clock;
        unchecked = ahead.unchecked;
        says = λ more expected handed h. subst (λ es. Says (answers.Relayed ∷ (delivery_answers answers.Answered rest ++ expected)) handed es)
            (sym (runs_on ciphers w event (deliveries next (next + 1) z rest ++ more) r (omega (arith, room)) step))
            (says_first (record { number = w.events + 1; event = event; trace = r.1; after = r.0 }) answers.Relayed None
            (delivery_answers answers.Answered rest ++ expected) handed
            (run ciphers r.0 (deliveries next (next + 1) z rest ++ more)) goes.answer_is goes.up_is (ahead.says more expected handed h));
        ends = λ more. ap (last_world w) (runs_on ciphers w event (deliveries next (next + 1) z rest ++ more) r (omega (arith, room)) step)
            ∙ ahead.ends more;
      }

-- # Back to the origin

module _ (number origin dest now : ℕ) where
  -- a node that took the request has a route to its origin by the node before it
  leads : (w : World) (total : ℕ) (s t : Stop) (station : StationMemory) → Holds w t station → station.ring ≡ Some t.granted
      → station.routing ≡ routing.offered t.memory.station.routing origin (rank_over number total t.cost) s.granted.address now
      → hop_at w t.number origin ≡ Some s.granted.address
  leads w total s t station holds ring routes =
      ap (λ o. option_and_then (λ (x : Node). node_route x origin) o) holds.there
      ∙ ap (λ o. option_and_then (λ (m : Memory). station_route m.station origin) o) holds.runs
      ∙ (λ i. option_and_then (λ (g : Granted). next_hop station origin) (ring i))
      ∙ next_by station t.memory.station.routing origin (rank_over number total t.cost) s.granted.address now routes

  pub all_lead : (rest : List Stop) (w : World) (total : ℕ) (s t : Stop) → AreFit (t ∷ rest) → TakesRequest number total origin now s t
      → AreReached number (total + t.cost) origin dest now t rest → HaveHeard w number total origin now s (t ∷ rest) → LeadTo w origin s (t ∷ rest)
  all_lead [] w total s t fit takes reached heard =
      (leads w total s t (sought_of number total origin now s t) heard fit.0.ring refl, tt)
  all_lead (z ∷ rest) w total s t fit takes reached heard = (
    leads w total s t (asked_of number total origin now s t) heard.0 fit.0.ring refl,
    all_lead rest w (total + t.cost) t z fit.1 reached.1 reached.2 heard.1,
  )

-- # The law

module _ (ciphers : Ciphers) (opens : OpensWhatItSeals ciphers) (w : World) (s t : Stop) (rest : List Stop) (datagram : List ℕ)
    (may : MayReach w s t rest datagram) where
  abbrev z : Stop
  z = last_of t rest

  abbrev dest : ℕ
  dest = z.granted.address

  abbrev origin : ℕ
  origin = s.granted.address

  abbrev number : ℕ
  number = s.memory.station.own_number.last + 1

  abbrev first : ℕ
  first = length w.flights + 1

  module _ (puts : List Write) (tag : ℕ)
      (cut : tag_taken datagram (empty_draft s.memory.station) ≡ begun_with s.memory.station puts tag) where
    abbrev pub sent_to : World × Trace
    sent_to = sends_by ciphers w s.number z.number datagram s.node (Some dest)

    abbrev event : Event
    event = events.Send s.number z.number datagram

    last : (node_at w z.number ≡ Some z.node) × IsReady z
    last = let ready = may.ready in last_ready w t rest ready.2

    above : messages.IsNumber number
    above = let seeks = may.seeks in let low = seeks.numbers in (omega arith, omega (arith, low))

    pub step_out : line_step ciphers w event ≡ Ok sent_to
    step_out = let ready = may.ready in steps_so ciphers w s.number z.number datagram s.node z.node dest ready.0 last.0 (address_is z last.1)

    -- the datagram waits, and the request flies
    pub out : Leaves ciphers w s.number answers.Waiting
        (Sealed (request_by s number 0 origin dest) ∷ [])
        (with_station (seeking_of s.memory.station dest tag datagram (w.sends + 1) w.clock) s.memory) sent_to
    out =
        let ready = may.ready in
        let first : IsReady s = ready.1 in
        let seeks = may.seeks in
        let reached = may.reached in
        let some = may.some in
        let few = may.few in
        it_leaves ciphers w s.number z.number datagram s.node z.node dest ready.0 last.0 (address_is z last.1) s.memory first.memory first.spared
        how_of.Waiting (Sealed (request_by s number 0 origin dest) ∷ [])
        (seeking_of s.memory.station dest tag datagram (w.sends + 1) w.clock) refl
        (seeks_it s.memory.station s.granted first.ring dest reached.0 seeks.lost seeks.idle s.key first.key datagram some few seeks.room seeks.numbers
        seeks.left (w.sends + 1) w.clock puts tag cut)

    pub goes_out : Reached ciphers number 0 origin w.clock sent_to.0 first (first + 1) s t rest
    goes_out =
        let ready = may.ready in
        let straight = may.straight in
        let off = may.unchecked in
        let seeks = may.seeks in
        let reached = may.reached in
        let room = may.events in
        let longer : length sent_to.0.flights ≡ length w.flights + 1 = ap length out.flights ∙ length-append w.flights _ in
        let counted = out.events in
        reach ciphers opens number origin dest w.clock above ready.1.address last.1.address rest sent_to.0 (length w.flights) first (first + 1) 0 s t refl
        (omega (arith, longer)) ready.1 (all_there w sent_to.0 s.number out.node (t ∷ rest) out.nodes straight.0 ready.2) straight.1 (out.checks ∙ off)
        out.clock
        seeks.left reached.1 reached.2 (flies_last ciphers w sent_to.0 s.number (request_by s number 0 origin dest) out.flights) (omega (arith, room, counted))

    abbrev way : List Event
    way = deliveries first (first + 1) t rest

    is_sought : IsSought (answers.Waiting ∷ delivery_answers answers.Answered rest) origin s (t ∷ rest) w (run ciphers w (event ∷ way))
    is_sought =
        let ready = may.ready in
        let reached = may.reached in
        let room = may.events in
        let whole : run ciphers w (event ∷ way)
        ≡ record { number = w.events + 1; event = event; trace = sent_to.1; after = sent_to.0 } ∷ run ciphers sent_to.0 way =
        runs_on ciphers w event way sent_to (omega (arith, room)) step_out in
        let said : Says (delivery_answers answers.Answered rest) [] (run ciphers sent_to.0 way) =
        subst (λ es. Says es [] (run ciphers sent_to.0 way)) (append-nil (delivery_answers answers.Answered rest))
        (subst (λ es. Says (delivery_answers answers.Answered rest ++ []) [] (run ciphers sent_to.0 es)) (append-nil way)
        (goes_out.says [] [] [] (record { answers = refl; handed_is = refl }))) in
        let all = says_first (record { number = w.events + 1; event = event; trace = sent_to.1; after = sent_to.0 }) answers.Waiting None
        (delivery_answers answers.Answered rest) [] (run ciphers sent_to.0 way) out.answer_is out.up_is said in
        let ends : last_world w (run ciphers w (event ∷ way)) ≡ goes_out.world =
        ap (last_world w) whole ∙ sym (ap (λ es. last_world sent_to.0 (run ciphers sent_to.0 es)) (append-nil way)) ∙ goes_out.ends [] in
        record {
          answers = ap answers_of whole ∙ all.answers;
          none_up = ap ups whole ∙ all.handed_is;
          back = subst (λ v. LeadTo v origin s (t ∷ rest)) (sym ends)
              (all_lead number origin dest w.clock rest goes_out.world 0 s t (fit_of w (t ∷ rest) ready.2) reached.1 reached.2 goes_out.heard);
        }

  pub sought_by : IsSought (answers.Waiting ∷ delivery_answers answers.Answered rest) origin s (t ∷ rest) w
      (run ciphers w (events.Send s.number z.number datagram ∷ deliveries first (first + 1) t rest))
  sought_by = by_size (nat_le (length datagram) 375) refl
    where
      by_size : (b : Bool) → nat_le (length datagram) 375 ≡ b
          → IsSought (answers.Waiting ∷ delivery_answers answers.Answered rest) origin s (t ∷ rest) w
          (run ciphers w (events.Send s.number z.number datagram ∷ deliveries first (first + 1) t rest))
      by_size true small = is_sought [] s.memory.station.next_tag (takes_none s.memory.station datagram small)
      by_size false long =
          is_sought (tag_write s.memory.station.next_tag ∷ []) (tag_after s.memory.station.next_tag) (takes_next s.memory.station datagram long)

pub requests_do : RequestsArrive
requests_do = sought_by
