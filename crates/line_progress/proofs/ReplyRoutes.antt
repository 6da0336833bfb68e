-- A route reply comes back along the way that the request went: by induction on the nodes.
use Rattle.std.proofs.Common.{◌≡◌, ◌≢◌, ℕ, ◌+◌, ◌<◌, ◌≤◌, ◌^◌, false, List, [], ◌∷◌, ◌++◌, length, Some, None, Ok, refl, sym, ap, subst, ◌∙◌, arith}
use Rattle.std.specs.Prelude.{nat_lt, slice_get}
use Rattle.std.proofs.lemmas.Bool.{le-ltb, ltb-false}
use Rattle.std.proofs.lemmas.List.{append_assoc, length-append}
use Rattle.plc_base.specs.Addresses.{IsAddress}
use Rattle.frame_counters.specs.PeerMarks.{kept_after}
use Rattle.store_tables.proofs.SlotTables.{slice_get-set_other}
use Rattle.mesh_header.specs.Reader.{unit_in}
use Rattle.loadng_messages.specs.declared.message.Message.{Message}
use Rattle.loadng_messages.specs.declared.message.Message.TheVariants.{Rrep}
use Rattle.loadng_messages.specs.Grammar as messages
use Rattle.loadng_messages.specs.Reader.{message_in}
use Rattle.loadng_messages.proofs.Readings.{message_read}
use Rattle.node_rules.specs.declared.heard.Heard.TheVariants as heard
use Rattle.node_rules.specs.Ciphers.{Ciphers, OpensWhatItSeals}
use Rattle.node_rules.specs.Drafts.{counters_left}
use Rattle.node_rules.specs.Frames.{SealedUnit, Sealed}
use Rattle.node_rules.specs.HearingRules.{rank_over}
use Rattle.node_rules.specs.Memory.{StationMemory, next_hop}
use Rattle.node_rules.specs.MemoryDrafts.{with_station}
use Rattle.line_events.specs.declared.event.Answer.{Answer}
use Rattle.line_events.specs.declared.event.Answer.TheVariants as answers
use Rattle.line_events.specs.declared.event.Event.{Event}
use Rattle.line_events.specs.declared.event.Event.TheVariants as events
use Rattle.line_events.specs.declared.event.TheConstants.{MAX_EVENTS}
use Rattle.line_events.specs.declared.happenings.Handed.{Handed}
use Rattle.line_rules.specs.Answers.{station_reception}
use Rattle.line_rules.specs.Further.{line_step}
use Rattle.line_rules.specs.Runs.{run}
use Rattle.line_rules.specs.Worlds.{World, Trace, node_at}
use Rattle.line_progress.specs.Arrival.{Stop, IsReady, IsNoneOf, IsStraight, last_of}
use Rattle.line_progress.specs.Discovery.{TakesRequest, AreReached, Search, AreBack, PassesBack}
use Rattle.line_progress.specs.Discovery.{asked_of, back_answers, back_deliveries, cost_back, counter_back}
use Rattle.line_progress.proofs.Acceptance.{got_by}
use Rattle.line_progress.proofs.Deliveries.{Goes}
use Rattle.line_progress.proofs.Messages.{Holds, IsComing, IsFlying, came, counter_low, flies_last, holds_then, is_target, message_by, message_goes, step_is}
use Rattle.line_progress.proofs.Messages.{still, to_me, to_one, unit_is}
use Rattle.line_progress.proofs.OfferedRoutes.{next_by}
use Rattle.line_progress.proofs.Replies.{is_sent_back}
use Rattle.line_progress.proofs.RequestRoutes.{HaveHeard, IsAnswered, sought_of}
use Rattle.line_progress.proofs.Requests.{IsTakeable, offered_by, sent_with}
use Rattle.line_progress.proofs.Routes.{AreFit, Says, runs_on, says_first}

-- the reply that a node of a way sends to the one before it
abbrev pub reply_by : Search → Stop → Stop → List Stop → SealedUnit
reply_by q s t rest = message_by t s.granted.address (counter_back t rest) (Rrep q.answered (cost_back t rest) q.dest q.origin)

-- the station of a node that has passed the request on, and the reply back
abbrev pub passed_of : Search → (now total : ℕ) → Stop → Stop → Stop → List Stop → StationMemory
passed_of q now total s t z rest =
    let l : StationMemory = asked_of q.asked total q.origin q.clock s t in
    sent_with (offered_by q.dest (rank_over q.answered (cost_back z rest) t.cost) z.granted.address now
    (record l { marks = kept_after l.marks z.granted.address (counter_back z rest) }))

-- each node between has passed the reply back, and the last one has answered
abbrev pub HavePassed : World → Search → ℕ → Stop → Stop → List Stop → Type 0
HavePassed w q total s t [] = Holds w t (sought_of q.asked total q.origin q.clock s t)
HavePassed w q total s t (z ∷ rest) = Holds w t (passed_of q q.clock total s t z rest) × HavePassed w q (total + t.cost) t z rest

-- where another node does something, they have it still
pub all_passed : (v u : World) (q : Search) (rest : List Stop) (total number : ℕ) (s t : Stop)
    → ((k : ℕ) → k ≢ number → node_at u k ≡ node_at v k) → IsNoneOf number (t ∷ rest) → HavePassed v q total s t rest → HavePassed u q total s t rest
all_passed v u q [] total number s t same none passed =
    still v u t (sought_of q.asked total q.origin q.clock s t) (same t.number none.0) passed
all_passed v u q (z ∷ rest) total number s t same none passed = (
  still v u t (passed_of q q.clock total s t z rest) (same t.number none.0) passed.0,
  all_passed v u q rest (total + t.cost) number t z same none.1 passed.1,
)

-- What a way is when the reply flies from a node of it to the one before, and what was said.
pub record Returned (ciphers : Ciphers) (q : Search) (w : World) (place flight total : ℕ) (s t : Stop) (rest : List Stop) : Type 0 where
  pub world : World
  pub passed : HavePassed world q total s t rest
  pub others : (k : ℕ) → IsNoneOf k (t ∷ rest) → node_at world k ≡ node_at w k
  pub flies : IsFlying ciphers world (place + length rest) (reply_by q s t rest)
  pub flights : length world.flights ≡ (place + 1) + length rest
  pub events : world.events ≡ w.events + length rest
  pub clock : world.clock ≡ q.clock
  pub unchecked : world.checks_on ≡ false
  pub says : (more : List Event) (expected : List Answer) (handed : List Handed) → Says expected handed (run ciphers world more)
      → Says (back_answers rest ++ expected) handed (run ciphers w (back_deliveries flight t rest ++ more))

-- the counter of a reply is one of 32 bits
pub low_back : (q : Search) (total : ℕ) (s t : Stop) (rest : List Stop) → nat_lt (counters_left t.memory.station) 1 ≡ false → AreBack q total s t rest
    → counter_back t rest < 2 ^ 32
low_back q total s t [] left back = counter_low t.memory.station left
low_back q total s t (z ∷ rest) left back =
    let two : 2 + q.frames ≤ counters_left t.memory.station = ltb-false (counters_left t.memory.station) (2 + q.frames) back.0.left in omega (arith, two)

-- # One node

module _ (ciphers : Ciphers) (opens : OpensWhatItSeals ciphers) (q : Search) (above : messages.IsNumber q.answered) (here : IsAddress q.origin)
    (sought : IsAddress q.dest) (w : World) (total : ℕ) (s t z : Stop) (rest : List Stop) (ready : IsReady t) (next : IsReady z)
    (holds : Holds w t (asked_of q.asked total q.origin q.clock s t)) (off : w.checks_on ≡ false) (time : w.clock ≡ q.clock)
    (takes : TakesRequest q.asked total q.origin q.clock s t) (on : t.granted.address ≢ q.dest) (after : z.granted.address ≢ t.granted.address)
    (back : PassesBack q total s t z rest) (low : counter_back z rest < 2 ^ 32) where
  abbrev station : StationMemory
  station = asked_of q.asked total q.origin q.clock s t

  abbrev reply : Message
  reply = Rrep q.answered (cost_back z rest) q.dest q.origin

  coming : IsComing w z t station t.granted.address (counter_back z rest) false
  coming =
      let reply_takes = back.takes in
      record {
        first = next;
        holds = holds;
        ring = ready.ring;
        off = off;
        target = is_target t ready;
        low = low;
        apart = λ e. after (sym e);
        opens = reply_takes.opens;
        admits = reply_takes.admits;
        is_all = to_one t ready;
        mine = to_me t station ready.ring;
      }

  message_is : message_in (messages.spelling reply) ≡ Some reply
  message_is =
      let reply_takes = back.takes in
      let cheap = reply_takes.cheap in message_read reply (messages.spelling reply) ((above, omega (arith, cheap), sought, here), refl)

  -- the station that has accepted the frame
  abbrev marked_now : StationMemory
  marked_now = record station { marks = kept_after station.marks z.granted.address (counter_back z rest) }

  takeable : IsTakeable marked_now t.granted.address q.dest (rank_over q.answered (cost_back z rest) t.cost) w.clock
  takeable =
      let reply_takes = back.takes in
      subst (λ c. IsTakeable marked_now t.granted.address q.dest (rank_over q.answered (cost_back z rest) t.cost) c) (sym time)
      (record { away = on; better = reply_takes.better; cheap = reply_takes.cheap; room = reply_takes.room })

  route : next_hop marked_now q.origin ≡ Some s.granted.address
  route =
      next_by marked_now t.memory.station.routing q.origin (rank_over q.asked total t.cost) s.granted.address q.clock refl

  left : nat_lt (counters_left marked_now) 1 ≡ false
  left =
      let two : 2 + q.frames ≤ counters_left t.memory.station = ltb-false (counters_left t.memory.station) (2 + q.frames) back.left in
      le-ltb (counters_left marked_now) 1 (omega (arith, two))

  abbrev came_now : World × Trace
  came_now = came ciphers opens w z t station t.granted.address (counter_back z rest) false reply coming

  step_now : (place flight : ℕ) → flight ≡ place + 1 → IsFlying ciphers w place (reply_by q t z rest)
      → line_step ciphers w (events.Deliver flight t.number t.cost) ≡ Ok came_now
  step_now = step_is ciphers opens w z t station t.granted.address (counter_back z rest) false reply coming

  unit_so : unit_in (got_by false (reply_by q t z rest)).payload ≡ Some (reply_by q t z rest).unit
  unit_so = unit_is ciphers opens w z t station t.granted.address (counter_back z rest) false reply coming

  comes_back : Goes ciphers w t.number (station_reception heard.Relayed) (Sealed (reply_by q s t (z ∷ rest)) ∷ [])
      (with_station (passed_of q w.clock total s t z rest) t.memory) came_now
  comes_back =
      message_goes ciphers opens w z t station t.granted.address (counter_back z rest) false reply coming heard.Relayed
      (Sealed (reply_by q s t (z ∷ rest)) ∷ []) (passed_of q w.clock total s t z rest)
      (λ note. is_sent_back marked_now t.granted ready.ring z.granted.address z.key q.answered (cost_back z rest) q.dest q.origin _ unit_so message_is
      t.cost note w.clock takeable t.key ready.key (λ e. takes.away (sym e)) s.granted.address route back.idle left) refl

  holds_back : Holds came_now.0 t (passed_of q q.clock total s t z rest)
  holds_back =
      subst (λ c. Holds came_now.0 t (passed_of q c total s t z rest)) time
      (holds_then ciphers opens w z t station t.granted.address (counter_back z rest) false reply coming heard.Relayed
      (Sealed (reply_by q s t (z ∷ rest)) ∷ []) (passed_of q w.clock total s t z rest) comes_back)

-- # The whole way

module _ (ciphers : Ciphers) (opens : OpensWhatItSeals ciphers) (q : Search) (above : messages.IsNumber q.answered) (here : IsAddress q.origin)
    (sought : IsAddress q.dest) (w : World) (place flight : ℕ) (is : flight ≡ place + 1) (longer : length w.flights ≡ place + 1)
    (off : w.checks_on ≡ false) (time : w.clock ≡ q.clock) where
  pub returns : (rest : List Stop) (total : ℕ) (s t : Stop) → AreFit (t ∷ rest) → IsStraight (t ∷ rest) → TakesRequest q.asked total q.origin q.clock s t
      → AreReached q.asked (total + t.cost) q.origin q.dest q.clock t rest → AreBack q total s t rest
      → q.answered ≡ (last_of t rest).memory.station.own_number.last + 1 → q.dest ≡ (last_of t rest).granted.address
      → HaveHeard w q.asked total q.origin q.clock s (t ∷ rest) → IsAnswered ciphers w place q.origin s t rest → w.events + length rest ≤ MAX_EVENTS
      → Returned ciphers q w place flight total s t rest
  returns [] total s t fit straight takes reached back number_is dest_is have answered room = record {
    world = w;
    passed = have;
    others = λ k none. refl;
    flies = subst (λ n. IsFlying ciphers w n (reply_by q s t [])) (omega arith)
        (subst (λ m. IsFlying ciphers w place (message_by t s.granted.address t.memory.station.counter.next m))
        (λ i. Rrep (sym number_is i) 0 (sym dest_is i) q.origin) answered);
    flights = omega (arith, longer);
    events = omega arith;
    clock = time;
    unchecked = off;
    says = λ more expected handed h. h;
  }
  returns (z ∷ rest) total s t fit straight takes reached back number_is dest_is have answered room =
      let inner = returns rest (total + t.cost) t z fit.1 straight.1 reached.1 reached.2 back.1 number_is dest_is have.1 answered (omega (arith, room)) in
      let v : World = inner.world in
      let holds : Holds v t (asked_of q.asked total q.origin q.clock s t) =
      still w v t (asked_of q.asked total q.origin q.clock s t) (inner.others t.number straight.0) have.0 in
      let next_takes = reached.1 in
      let low = low_back q (total + t.cost) t z rest next_takes.left back.1 in
      let r : World × Trace = came_now ciphers opens q above here sought v total s t z rest fit.0 fit.1.0 holds inner.unchecked inner.clock takes reached.0
      next_takes.apart back.0 low in
      let goes = comes_back ciphers opens q above here sought v total s t z rest fit.0 fit.1.0 holds inner.unchecked inner.clock takes reached.0
      next_takes.apart back.0 low in
      let event : Event = events.Deliver (flight + length rest) t.number t.cost in
      let step = step_now ciphers opens q above here sought v total s t z rest fit.0 fit.1.0 holds inner.unchecked inner.clock takes reached.0
      next_takes.apart back.0 low (place + length rest) (flight + length rest) (omega (arith, is)) inner.flies in
      let counted = inner.events in
      let many = inner.flights in
      record {
        world = r.0;
        passed = (
          holds_back ciphers opens q above here sought v total s t z rest fit.0 fit.1.0 holds inner.unchecked inner.clock takes reached.0
              next_takes.apart back.0 low,
          all_passed v r.0 q rest (total + t.cost) t.number t z (λ k none. ap (λ ns. slice_get ns k) goes.nodes
              ∙ slice_get-set_other v.nodes t.number k goes.node none) straight.0 inner.passed,
        );
        others = λ k none. ap (λ ns. slice_get ns k) goes.nodes ∙ slice_get-set_other v.nodes t.number k goes.node (λ e. none.0 (sym e))
            ∙ inner.others k none.1;
        flies = subst (λ n. IsFlying ciphers r.0 n (reply_by q s t (z ∷ rest))) (omega (arith, many))
            (flies_last ciphers v r.0 t.number (reply_by q s t (z ∷ rest)) goes.flights);
        flights = let one = ap length goes.flights ∙ length-append v.flights _ in omega (arith, many, one);
        events = let one = goes.events in omega (arith, counted, one);
        clock = goes.clock ∙ inner.clock;
        unchecked = goes.checks ∙ inner.unchecked;
        says = λ more expected handed h. subst (λ es. Says es handed
            (run ciphers w ((back_deliveries flight z rest ++ (event ∷ [])) ++ more)))
            (sym (append_assoc (back_answers rest) (answers.Relayed ∷ []) expected))
            (subst (λ es. Says (back_answers rest ++ (answers.Relayed ∷ expected)) handed (run ciphers w es))
            (sym (append_assoc (back_deliveries flight z rest) (event ∷ []) more))
            (inner.says (event ∷ more) (answers.Relayed ∷ expected) handed
            (subst (λ es. Says (answers.Relayed ∷ expected) handed es) (sym (runs_on ciphers v event more r (omega (arith, room, counted)) step))
            (says_first (record { number = v.events + 1; event = event; trace = r.1; after = r.0 }) answers.Relayed None expected handed
            (run ciphers r.0 more) goes.answer_is goes.up_is h))));
      }
