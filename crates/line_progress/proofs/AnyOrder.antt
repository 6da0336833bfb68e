-- The frames of a datagram come over the links of a route in any order: by induction on the deliveries, and for each on the links before its own.
use Rattle.std.proofs.Common.{◌≡◌, ◌≢◌, ℕ, zero, suc, ◌+◌, ◌*◌, ◌<◌, ◌≤◌, List, [], ◌∷◌, ◌++◌, length, Option, Some, None, Ok}
use Rattle.std.proofs.Common.{refl, sym, ap, subst, ◌∙◌, arith, suc-mul}
use Rattle.std.specs.Prelude.{slice_get}
use Rattle.std.specs.List.{range_with_len}
use Rattle.std.proofs.lemmas.List.{length-append}
use Rattle.std.proofs.lemmas.List.FromFn.{length-range_with_len}
use Rattle.store_tables.proofs.SlotTables.{slice_get-set_other}
use Rattle.plc_base.specs.Addresses.{IsAddress}
use Rattle.fragment_buffers.specs.Fragmentation.{pieces_of}
use Rattle.fragment_buffers.specs.Reassembly.{Reassembly}
use Rattle.node_rules.specs.Ciphers.{Ciphers, OpensWhatItSeals}
use Rattle.node_rules.specs.Memory.{StationMemory}
use Rattle.line_events.specs.declared.event.Answer.{Answer}
use Rattle.line_events.specs.declared.event.Event.{Event}
use Rattle.line_events.specs.declared.event.Event.TheVariants as events
use Rattle.line_events.specs.declared.event.TheConstants.{MAX_EVENTS}
use Rattle.line_events.specs.declared.happenings.Handed.{Handed}
use Rattle.line_rules.specs.Answers.{Up, station_reception}
use Rattle.line_rules.specs.Further.{line_step}
use Rattle.line_rules.specs.Runs.{one_of, run}
use Rattle.line_rules.specs.Steps.{handed_by}
use Rattle.line_rules.specs.Worlds.{World, Flight, Trace, node_at}
use Rattle.line_progress.specs.Arrival.{Stop, IsReady, HasRoute, AreReady, IsNoneOf, IsStraight, last_of, last_answer, IsBrought}
use Rattle.line_progress.specs.AnyOrder.{flights_over, in_all, none_over, ways_at_first, ways_after, next_after, delivery_over, answer_over}
use Rattle.line_progress.specs.AnyOrder.{IsOrder, deliveries_over, answers_over, DatagramsArriveInAnyOrder}
use Rattle.line_progress.proofs.Contents.{Content, IsContent}
use Rattle.line_progress.proofs.RouteArrivals.{InFrames, IsHanded, moved, all_at_first, cut_of, sent_so}
use Rattle.line_progress.proofs.Routes.{AreFit, IsNow, AreNow, IsUnderWay, Ends, Says, fit_of, last_ready, says_first, runs_on, still, get_before}
use Rattle.line_progress.proofs.Routes.{came, step_is, end, comes_last, last_now, comes_on, on_now, on_its_way}

-- # Counting

-- how many deliveries bring all that is under way to the end
abbrev to_come : List (List ℕ) → ℕ
to_come [] = 0
to_come (flights ∷ ways) = length flights * (1 + length ways) + to_come ways

same_length : (next j : ℕ) (ways : List (List ℕ)) → length (ways_after next j ways) ≡ length ways
same_length next j [] = refl
same_length next zero ([] ∷ ways) = refl
same_length next zero ((flight ∷ flights) ∷ []) = refl
same_length next zero ((flight ∷ flights) ∷ others ∷ ways) = refl
same_length next (suc j) (flights ∷ ways) = let more = same_length next j ways in omega (arith, more)

-- each delivery is one of them
one_less : (next j : ℕ) (ways : List (List ℕ)) → 0 < length (flights_over j ways) → to_come (ways_after next j ways) + 1 ≡ to_come ways
one_less next j [] some = absurd (omega arith)
one_less next zero ([] ∷ ways) some = absurd (omega arith)
one_less next zero ((flight ∷ flights) ∷ []) some = let each = suc-mul (length flights) (1 + 0) in omega (arith, each)
one_less next zero ((flight ∷ flights) ∷ others ∷ ways) some =
    let each = suc-mul (length flights) (1 + length (others ∷ ways)) in
    let one_longer : length (others ++ next ∷ []) ≡ suc (length others) = length-append others (next ∷ []) ∙ omega arith in
    let longer : length (others ++ next ∷ []) * (1 + length ways) ≡ length others * (1 + length ways) + (1 + length ways) =
    ap (λ n. n * (1 + length ways)) one_longer ∙ suc-mul (length others) (1 + length ways) in
    omega (arith, each, longer)
one_less next (suc j) (flights ∷ ways) some =
    let more = one_less next j ways some in
    let same : length flights * (1 + length (ways_after next j ways)) ≡ length flights * (1 + length ways) =
    ap (λ n. length flights * (1 + n)) (same_length next j ways) in
    omega (arith, more, same)

over_in_all : (j : ℕ) (ways : List (List ℕ)) → length (flights_over j ways) ≤ in_all ways
over_in_all j [] = omega arith
over_in_all zero (flights ∷ ways) = omega arith
over_in_all (suc j) (flights ∷ ways) = let more = over_in_all j ways in omega (arith, more)

nothing_more : (order : List ℕ) (next : ℕ) (ways : List (List ℕ)) → in_all ways ≡ 0 → IsOrder next ways order → order ≡ []
nothing_more [] next ways none is = refl
nothing_more (j ∷ order) next ways none is = let some = is.0 in let all = over_in_all j ways in absurd (omega (arith, none, some, all))

-- # A route on which frames are under way

-- a node that has sent all frames that came to it is as before, whatever the last node gathers
passed_by : (w v : World) (dest from next sent : ℕ) (held any : List Reassembly) (s : Stop) → s.granted.address ≢ dest
    → node_at v s.number ≡ node_at w s.number → IsNow w dest from next sent held s → IsNow v dest from next sent any s
passed_by w v dest from next sent held any s on same now = record {
  node = now.node;
  memory = now.memory;
  there = same ∙ now.there;
  runs = now.runs;
  spared = now.spared;
  ring = now.ring;
  routing = now.routing;
  sends = now.sends;
  gathers = λ e. absurd (on e);
  admits = now.admits;
}

module _ (ciphers : Ciphers) (dest origin : ℕ) (contents : ℕ → Content) where
  -- A flight brings the frame of a number to the next node.
  record IsFlying (w : World) (number : ℕ) (s t : Stop) (more flight : ℕ) : Type 0 where
    place : ℕ
    flight_is : flight ≡ place + 1
    way : IsUnderWay ciphers w place dest origin number s t (contents number) more

  -- these flights bring the frames from a number on
  abbrev AreFlying : World → (number : ℕ) → Stop → Stop → (more : ℕ) → List ℕ → Type 0
  AreFlying w number s t more [] = Unit {0}
  AreFlying w number s t more (flight ∷ flights) = IsFlying w number s t more flight × AreFlying w (number + 1) s t more flights

  -- A link over which this many of the frames that were sent have come.
  record IsGoing (w : World) (sent done : ℕ) (held : List Reassembly) (s t : Stop) (more : ℕ) (flights : List ℕ) : Type 0 where
    all : done + length flights ≡ sent
    now : IsNow w dest s.granted.address (s.memory.station.counter.next + done) done held t
    fly : AreFlying w done s t more flights

  -- each link of a route, to whose end this many have come
  abbrev AreGoing : World → (arrived : ℕ) → List Reassembly → (sent : ℕ) → Stop → List Stop → List (List ℕ) → Type 0
  AreGoing w arrived held sent s [] [] = sent ≡ arrived
  AreGoing w arrived held sent s [] (flights ∷ ways) = ⊥
  AreGoing w arrived held sent s (t ∷ rest) [] = ⊥
  AreGoing w arrived held sent s (t ∷ rest) (flights ∷ ways) =
      (done : ℕ) × IsGoing w sent done held s t (length rest) flights × AreGoing w arrived held done t rest ways

  Stay : World → World → Type 0
  Stay w v = (k : ℕ) (f : Flight) → slice_get w.flights k ≡ Some f → slice_get v.flights k ≡ Some f

  still_fly : (w v : World) (number : ℕ) (s t : Stop) (more : ℕ) (flights : List ℕ)
      → ((k : ℕ) (f : Flight) → slice_get w.flights k ≡ Some f → slice_get v.flights k ≡ Some f)
      → AreFlying w number s t more flights → AreFlying v number s t more flights
  still_fly w v number s t more [] stays fly = tt
  still_fly w v number s t more (flight ∷ flights) stays fly = (
    record {
      place = fly.0.place;
      flight_is = fly.0.flight_is;
      way = moved ciphers w v fly.0.place dest origin number s t (contents number) more stays fly.0.way;
    },
    still_fly w v (number + 1) s t more flights stays fly.1,
  )

  -- one more flies behind them
  one_more : (w : World) (number last : ℕ) (s t : Stop) (more : ℕ) (flights : List ℕ) (flight : ℕ) → number + length flights ≡ last
      → AreFlying w number s t more flights → IsFlying w last s t more flight → AreFlying w number s t more (flights ++ flight ∷ [])
  one_more w number last s t more [] flight count fly new =
      let same : last ≡ number = omega (arith, count) in
      (subst (λ n. IsFlying w n s t more flight) same new, tt)
  one_more w number last s t more (f ∷ flights) flight count fly new =
      (fly.0, one_more w (number + 1) last s t more flights flight (omega (arith, count)) fly.1 new)

  -- the links of a route at whose nodes nothing happened
  still_go : (w v : World) (arrived : ℕ) (held : List Reassembly) (sent : ℕ) (s : Stop) (rest : List Stop) (ways : List (List ℕ)) (number : ℕ)
      → ((k : ℕ) (f : Flight) → slice_get w.flights k ≡ Some f → slice_get v.flights k ≡ Some f)
      → ((other : ℕ) → number ≢ other → node_at v other ≡ node_at w other) → IsNoneOf number rest
      → AreGoing w arrived held sent s rest ways → AreGoing v arrived held sent s rest ways
  still_go w v arrived held sent s [] [] number stays others none go = go
  still_go w v arrived held sent s [] (flights ∷ ways) number stays others none go = absurd go
  still_go w v arrived held sent s (t ∷ rest) [] number stays others none go = absurd go
  still_go w v arrived held sent s (t ∷ rest) (flights ∷ ways) number stays others none go =
      let g = go.1 in (
        go.0,
        record {
          all = g.all;
          now = still w v dest s.granted.address (s.memory.station.counter.next + go.0) go.0 held t (others t.number (λ e. none.0 (sym e))) g.now;
          fly = still_fly w v go.0 s t (length rest) flights stays g.fly;
        },
        still_go w v arrived held go.0 t rest ways number stays others none.1 go.2,
      )

  -- what was sent has come to the end or is under way
  none_is_lost : (w : World) (arrived : ℕ) (held : List Reassembly) (sent : ℕ) (s : Stop) (rest : List Stop) (ways : List (List ℕ))
      → AreGoing w arrived held sent s rest ways → in_all ways + arrived ≡ sent
  none_is_lost w arrived held sent s [] [] go = let same = go in omega (arith, same)
  none_is_lost w arrived held sent s [] (flights ∷ ways) go = absurd go
  none_is_lost w arrived held sent s (t ∷ rest) [] go = absurd go
  none_is_lost w arrived held sent s (t ∷ rest) (flights ∷ ways) go =
      let all = go.1.all in
      let ahead = none_is_lost w arrived held go.0 t rest ways go.2 in omega (arith, all, ahead)

-- # One delivery

-- What a delivery is at the last node and at another one: its answer, what it hands up, and how many have come to the last node then.
data IsDone (datagram : List ℕ) (left arrived : ℕ) (over : Answer → Answer) (then : ℕ) (answer : Answer) (up : Option Up) : Type 0 where
  AtEnd : then ≡ arrived + 1 → answer ≡ over (last_answer left) → IsHanded datagram left up → IsDone datagram left arrived over then answer up
  Between : then ≡ arrived → ((word : Answer) → answer ≡ over word) → up ≡ None → IsDone datagram left arrived over then answer up

module _ (ciphers : Ciphers) (opens : OpensWhatItSeals ciphers) (frames dest origin : ℕ) (here : IsAddress origin) (there : IsAddress dest)
    (datagram : List ℕ) (contents : ℕ → Content) (fits : (k : ℕ) → k < frames → IsContent (contents k)) (Held : ℕ → List Reassembly → Type 0)
    (ends : (sent more : ℕ) → sent + (more + 1) ≡ frames → (held : List Reassembly) → Held sent held → (l : StationMemory) (note now : ℕ)
    → l.reassemblies ≡ held → Ends (contents sent) origin (last_answer more) (Held (sent + 1)) (IsHanded datagram more) l note now) where
  -- What a delivery leaves.
  record HasMoved (w : World) (next j sent arrived left : ℕ) (s : Stop) (stops : List Stop) (ways : List (List ℕ)) : Type 0 where
    event : Event
    event_is : delivery_over j stops ways ≡ event ∷ []
    result : World × Trace
    step : line_step ciphers w event ≡ Ok result
    up : Option Up
    up_is : result.1.happenings.up ≡ handed_by (last_of s stops).number up
    then : ℕ
    kept : List Reassembly
    holds : Held then kept
    done : IsDone datagram left arrived (λ word. answer_over j word ways) then result.1.happenings.answer up
    going : AreGoing ciphers dest origin contents result.0 then kept sent s stops (ways_after next j ways)
    others : (number : ℕ) → IsNoneOf number stops → node_at result.0 number ≡ node_at w number
    stays : (k : ℕ) (f : Flight) → slice_get w.flights k ≡ Some f → slice_get result.0.flights k ≡ Some f
    numbered : next_after next j ways ≡ length result.0.flights + 1
    counted : result.0.events ≡ w.events + 1

  one_comes : (j : ℕ) (stops : List Stop) (ways : List (List ℕ)) (w : World) (next sent arrived left : ℕ) (held : List Reassembly) (s : Stop)
      → arrived + (left + 1) ≡ frames → sent ≤ frames → next ≡ length w.flights + 1 → Held arrived held → AreFit (s ∷ stops) → IsStraight stops
      → HasRoute frames dest s stops → AreGoing ciphers dest origin contents w arrived held sent s stops ways → 0 < length (flights_over j ways)
      → HasMoved w next j sent arrived left s stops ways
  one_comes j stops [] w next sent arrived left held s all few numbered holds fit straight route go some = absurd (omega arith)
  one_comes j [] (flights ∷ ways) w next sent arrived left held s all few numbered holds fit straight route go some = absurd go
  one_comes zero (t ∷ rest) ([] ∷ ways) w next sent arrived left held s all few numbered holds fit straight route go some = absurd (omega arith)
  one_comes zero (t ∷ z ∷ rest) ((flight ∷ flights) ∷ []) w next sent arrived left held s all few numbered holds fit straight route go some = absurd (go.2)
  one_comes zero (t ∷ []) ((flight ∷ flights) ∷ others ∷ ways) w next sent arrived left held s all few numbered holds fit straight route go some =
      absurd (go.2)
  one_comes zero (t ∷ []) ((flight ∷ flights) ∷ []) w next sent arrived left held s all few numbered holds fit straight route go some =
      let done : ℕ = go.0 in
      let g = go.1 in
      let same : done ≡ arrived = go.2 in
      let count : done + suc (length flights) ≡ sent = g.all in
      let first = g.fly.0 in
      let below : done < frames = omega (arith, count, few) in
      let fit_one : IsContent (contents done) = fits done below in
      let ending = ends done left (omega (arith, all, same)) held (subst (λ n. Held n held) (sym same) holds) in
      let r : World × Trace =
      came ciphers opens frames dest origin done here there below (contents done) fit_one held w first.place s t 0 fit.0 fit.1.0 route.0 g.now first.way in
      let goes = comes_last ciphers opens frames dest origin done here there below (contents done) fit_one held w first.place s t 0 fit.0 fit.1.0 route.0
      g.now first.way (last_answer left) (Held (done + 1)) (IsHanded datagram left) ending route.1 in
      let over = end ciphers opens frames dest origin done here there below (contents done) fit_one held w first.place s t 0 fit.0 fit.1.0 route.0
      g.now first.way (last_answer left) (Held (done + 1)) (IsHanded datagram left) ending route.1 in
      let longer : length r.0.flights ≡ length w.flights = ap length goes.flights ∙ length-append w.flights [] ∙ omega arith in
      let stays : (k : ℕ) (f : Flight) → slice_get w.flights k ≡ Some f → slice_get r.0.flights k ≡ Some f =
      λ k f e. ap (λ fs. slice_get fs k) goes.flights ∙ get_before w.flights [] k f e in
      record {
        event = events.Deliver flight t.number t.cost;
        event_is = refl;
        result = r;
        step = step_is ciphers opens frames dest origin done here there below (contents done) fit_one held w first.place s t 0 fit.0 fit.1.0 route.0
            g.now first.way flight first.flight_is;
        up = (station_reception over.answer).up;
        up_is = goes.up_is;
        then = done + 1;
        kept = over.left;
        holds = over.good;
        done = AtEnd (omega (arith, same)) (goes.answer_is ∙ over.word_is) over.said;
        going = (
          done + 1,
          record {
            all = omega (arith, count);
            now = last_now ciphers opens frames dest origin done here there below (contents done) fit_one held w first.place s t 0 fit.0 fit.1.0 route.0
                g.now first.way (last_answer left) (Held (done + 1)) (IsHanded datagram left) ending route.1;
            fly = still_fly ciphers dest origin contents w r.0 (done + 1) s t 0 flights stays g.fly.1;
          },
          refl,
        );
        others = λ number none. ap (λ ns. slice_get ns number) goes.nodes
            ∙ slice_get-set_other w.nodes t.number number goes.node (λ e. none.0 (sym e));
        stays = stays;
        numbered = omega (arith, numbered, longer);
        counted = goes.events;
      }
  one_comes zero (t ∷ z ∷ rest) ((flight ∷ flights) ∷ behind ∷ ways) w next sent arrived left held s all few numbered holds fit straight route go some =
      let done : ℕ = go.0 in
      let g = go.1 in
      let count : done + suc (length flights) ≡ sent = g.all in
      let first = g.fly.0 in
      let below : done < frames = omega (arith, count, few) in
      let fit_one : IsContent (contents done) = fits done below in
      let more : ℕ = length (z ∷ rest) in
      let enough : 1 ≤ more = omega arith in
      let r : World × Trace =
      came ciphers opens frames dest origin done here there below (contents done) fit_one held w first.place s t more fit.0 fit.1.0 route.0 g.now first.way in
      let goes = comes_on ciphers opens frames dest origin done here there below (contents done) fit_one held w first.place s t more fit.0 fit.1.0 route.0
      g.now first.way z route.1.0 enough in
      let longer : length r.0.flights ≡ length w.flights + 1 = ap length goes.flights ∙ length-append w.flights _ in
      let stays : (k : ℕ) (f : Flight) → slice_get w.flights k ≡ Some f → slice_get r.0.flights k ≡ Some f =
      λ k f e. ap (λ fs. slice_get fs k) goes.flights ∙ get_before w.flights _ k f e in
      let apart : (other : ℕ) → t.number ≢ other → node_at r.0 other ≡ node_at w other =
      λ other ne. ap (λ ns. slice_get ns other) goes.nodes ∙ slice_get-set_other w.nodes t.number other goes.node (λ e. ne (sym e)) in
      let ahead = still_go ciphers dest origin contents w r.0 arrived held done t (z ∷ rest) (behind ∷ ways) t.number stays apart straight.0 go.2 in
      let count_z : ahead.0 + length behind ≡ done = ahead.1.all in
      let pushed = length-append behind (next ∷ []) in
      record {
        event = events.Deliver flight t.number t.cost;
        event_is = refl;
        result = r;
        step = step_is ciphers opens frames dest origin done here there below (contents done) fit_one held w first.place s t more fit.0 fit.1.0 route.0
            g.now first.way flight first.flight_is;
        up = None;
        up_is = goes.up_is;
        then = arrived;
        kept = held;
        holds = holds;
        done = Between refl (λ word. goes.answer_is) refl;
        going = (
          done + 1,
          record {
            all = omega (arith, count);
            now = on_now ciphers opens frames dest origin done here there below (contents done) fit_one held w first.place s t more fit.0 fit.1.0 route.0
                g.now first.way z route.1.0 enough held;
            fly = still_fly ciphers dest origin contents w r.0 (done + 1) s t more flights stays g.fly.1;
          },
          (
            ahead.0,
            record {
              all = omega (arith, count_z, pushed);
              now = ahead.1.now;
              fly = one_more ciphers dest origin contents r.0 ahead.0 done t z (length rest) behind next count_z ahead.1.fly (record {
                place = length w.flights;
                flight_is = numbered;
                way = on_its_way ciphers opens frames dest origin done here there below (contents done) fit_one held w first.place s t more fit.0 fit.1.0
                    route.0 g.now first.way z route.1.0 enough (length rest) (omega arith);
              });
            },
            ahead.2,
          ),
        );
        others = λ number none. apart number none.0;
        stays = stays;
        numbered = omega (arith, numbered, longer);
        counted = goes.events;
      }
  one_comes (suc j) (t ∷ []) (flights ∷ []) w next sent arrived left held s all few numbered holds fit straight route go some = absurd (omega arith)
  one_comes (suc j) (t ∷ []) (flights ∷ behind ∷ ways) w next sent arrived left held s all few numbered holds fit straight route go some = absurd (go.2)
  one_comes (suc j) (t ∷ z ∷ rest) (flights ∷ ways) w next sent arrived left held s all few numbered holds fit straight route go some =
      let g = go.1 in
      let count = g.all in
      let ahead = one_comes j (z ∷ rest) ways w next go.0 arrived left held t all (omega (arith, count, few)) numbered holds fit.1 straight.1 route.1
      go.2 some in
      record {
        event = ahead.event;
        event_is = ahead.event_is;
        result = ahead.result;
        step = ahead.step;
        up = ahead.up;
        up_is = ahead.up_is;
        then = ahead.then;
        kept = ahead.kept;
        holds = ahead.holds;
        done = ahead.done;
        going = (
          go.0,
          record {
            all = g.all;
            now = passed_by w ahead.result.0 dest s.granted.address (s.memory.station.counter.next + go.0) go.0 held ahead.kept t route.1.0.on
                (ahead.others t.number straight.0) g.now;
            fly = still_fly ciphers dest origin contents w ahead.result.0 go.0 s t (length (z ∷ rest)) flights ahead.stays g.fly;
          },
          ahead.going,
        );
        others = λ number none. ahead.others number none.1;
        stays = ahead.stays;
        numbered = ahead.numbered;
        counted = ahead.counted;
      }

  -- # All deliveries

  module _ (s : Stop) (stops : List Stop) (fit : AreFit (s ∷ stops)) (straight : IsStraight stops) (route : HasRoute frames dest s stops) where
    abbrev target : ℕ
    target = (last_of s stops).number

    module _ (j : ℕ) (order : List ℕ) (ways : List (List ℕ)) (w : World) (next arrived left : ℕ) (one : HasMoved w next j frames arrived left s stops ways)
        (is : IsOrder (next_after next j ways) (ways_after next j ways) order) (room : w.events < MAX_EVENTS) where
      abbrev ways_then : List (List ℕ)
      ways_then = ways_after next j ways

      abbrev further : List Event
      further = deliveries_over (next_after next j ways) stops ways_then order

      abbrev expected : List Answer
      expected = answers_over (next_after next j ways) ways_then order

      abbrev word : Answer
      word = answer_over j (last_answer (in_all ways_then)) ways

      abbrev Goal : Type 0
      Goal = IsBrought (word ∷ expected) target datagram (run ciphers w (delivery_over j stops ways ++ further))

      abbrev v : World
      v = one.result.0

      lost : in_all ways_then + one.then ≡ frames
      lost = none_is_lost ciphers dest origin contents v one.then one.kept frames s stops ways_then one.going

      -- one event, and then the others
      first_of : (up : Option Handed) (handed : List Handed) → one.result.1.happenings.answer ≡ word → handed_by target one.up ≡ up
          → Says expected handed (run ciphers v further)
          → Says (word ∷ expected) (one_of up ++ handed) (run ciphers w (delivery_over j stops ways ++ further))
      first_of up handed a u said =
          subst (λ es. Says (word ∷ expected) (one_of up ++ handed) es)
          (sym (ap (λ es. run ciphers w (es ++ further)) one.event_is ∙ runs_on ciphers w one.event further one.result room one.step))
          (says_first (record { number = w.events + 1; event = one.event; trace = one.result.1; after = v }) word up expected handed
          (run ciphers v further) a (one.up_is ∙ u) said)

      goes_on : one.result.1.happenings.answer ≡ word → one.up ≡ None → IsBrought expected target datagram (run ciphers v further) → Goal
      goes_on a u ahead =
          let brought : List Handed = record { node = target; note = ahead.note; octets = datagram } ∷ [] in
          let said = first_of None brought a (ap (handed_by target) u) (record { answers = ahead.answers; handed_is = ahead.up }) in
          record { answers = said.answers; note = ahead.note; up = said.handed_is }

      ends_so : in_all ways_then ≡ 0 → one.result.1.happenings.answer ≡ word → (note : ℕ) → one.up ≡ Some (record { note = note; octets = datagram }) → Goal
      ends_so none a note u =
          let over : order ≡ [] = nothing_more order (next_after next j ways) ways_then none is in
          let rest : Says expected [] (run ciphers v further) =
          subst (λ o. Says (answers_over (next_after next j ways) ways_then o) [] (run ciphers v (deliveries_over (next_after next j ways) stops ways_then o)))
          (sym over) (record { answers = refl; handed_is = refl }) in
          let said = first_of (Some (record { node = target; note = note; octets = datagram })) [] a (ap (handed_by target) u) rest in
          record { answers = said.answers; note = note; up = said.handed_is }

      finish : arrived + (left + 1) ≡ frames
          → ((more : ℕ) → one.then + (more + 1) ≡ frames → IsBrought expected target datagram (run ciphers v further)) → Goal
      finish all ahead = by_done left one.done all
        where
          by_done : (left : ℕ) → IsDone datagram left arrived (λ said. answer_over j said ways) one.then one.result.1.happenings.answer one.up
              → arrived + (left + 1) ≡ frames → Goal
          by_done zero (AtEnd then a u) all =
              let count = lost in
              let none : in_all ways_then ≡ 0 = omega (arith, count, all, then) in
              ends_so none (a ∙ ap (λ n. answer_over j (last_answer n) ways) (sym none)) u.0 u.1
          by_done (suc more) (AtEnd then a u) all =
              let count = lost in
              let some : suc more ≡ in_all ways_then = omega (arith, count, all, then) in
              goes_on (a ∙ ap (λ n. answer_over j (last_answer n) ways) some) u (ahead more (omega (arith, all, then)))
          by_done more (Between then a u) all = goes_on (a (last_answer (in_all ways_then))) u (ahead more (omega (arith, all, then)))

    all_come : (order : List ℕ) (ways : List (List ℕ)) (w : World) (next arrived left : ℕ) (held : List Reassembly) → arrived + (left + 1) ≡ frames
        → next ≡ length w.flights + 1 → Held arrived held → AreGoing ciphers dest origin contents w arrived held frames s stops ways
        → IsOrder next ways order → w.events + to_come ways ≤ MAX_EVENTS
        → IsBrought (answers_over next ways order) target datagram (run ciphers w (deliveries_over next stops ways order))
    all_come [] ways w next arrived left held all numbered holds go is room =
        let count = none_is_lost ciphers dest origin contents w arrived held frames s stops ways go in absurd (omega (arith, all, count, is))
    all_come (j ∷ order) ways w next arrived left held all numbered holds go is room =
        let one = one_comes j stops ways w next frames arrived left held s all (omega arith) numbered holds fit straight route go is.0 in
        let shorter = one_less next j ways is.0 in
        let counted = one.counted in
        finish j order ways w next arrived left one is.1 (omega (arith, room, shorter)) all
        (λ more rest. all_come order (ways_after next j ways) one.result.0 (next_after next j ways) one.then more one.kept rest one.numbered one.holds
        one.going is.1 (omega (arith, room, shorter, counted)))

-- # As the route is at first

module _ (ciphers : Ciphers) (dest origin : ℕ) (contents : ℕ → Content) where
  -- nothing is under way
  none_go : (w : World) (held : List Reassembly) (s : Stop) (rest : List Stop) → AreNow w dest 0 held s rest
      → AreGoing ciphers dest origin contents w 0 held 0 s rest (none_over rest)
  none_go w held s [] now = refl
  none_go w held s (t ∷ rest) now = (0, record { all = refl; now = now.0; fly = tt }, none_go w held t rest now.1)

  all_fly : (w : World) (base number count flight frames : ℕ) (s t : Stop) (more : ℕ) → number + count ≡ frames → flight ≡ (base + number) + 1
      → ((k : ℕ) → k < frames → IsUnderWay ciphers w (base + k) dest origin k s t (contents k) more)
      → AreFlying ciphers dest origin contents w number s t more (range_with_len flight count)
  all_fly w base number zero flight frames s t more all is ways = tt
  all_fly w base number (suc count) flight frames s t more all is ways = (
    record { place = base + number; flight_is = is; way = ways number (omega (arith, all)) },
    all_fly w base (number + 1) count (flight + 1) frames s t more (omega (arith, all)) (omega (arith, is)) ways,
  )

none_long : (rest : List Stop) → (length (none_over rest) ≡ length rest) × (to_come (none_over rest) ≡ 0)
none_long [] = (refl, refl)
none_long (t ∷ rest) =
    let more = none_long rest in
    let long = more.0 in
    let none = more.1 in (omega (arith, long), omega (arith, none))

budget : (first frames : ℕ) (rest : List Stop) → to_come (ways_at_first first frames rest) ≡ frames * (1 + length rest)
budget first frames rest =
    let none = none_long rest in
    let zero_left = none.1 in
    let same : length (range_with_len first frames) * (1 + length (none_over rest)) ≡ frames * (1 + length rest) =
    (λ i. length-range_with_len first frames i * (1 + none.0 i)) in
    omega (arith, same, zero_left)

module _ (ciphers : Ciphers) (opens : OpensWhatItSeals ciphers) (v : World) (s t : Stop) (rest : List Stop) (datagram : List ℕ) (base : ℕ)
    (cut : InFrames s (last_of t rest) datagram) (first : IsReady s) (ready : AreReady v (t ∷ rest)) (straight : IsStraight (t ∷ rest))
    (route : HasRoute (pieces_of (length datagram)) (last_of t rest).granted.address s (t ∷ rest))
    (fly : (k : ℕ) → k < pieces_of (length datagram)
    → IsUnderWay ciphers v (base + k) (last_of t rest).granted.address s.granted.address k s t (cut.contents k) (length rest))
    (next : ℕ) (numbered : next ≡ length v.flights + 1)
    (room : v.events + pieces_of (length datagram) * (1 + length rest) ≤ MAX_EVENTS) where
  abbrev count : ℕ
  count = pieces_of (length datagram)

  abbrev far : ℕ
  far = (last_of t rest).granted.address

  abbrev ways : List (List ℕ)
  ways = ways_at_first (base + 1) count rest

  -- frames that fly to the first node come to the last one
  pub fly_in_order : (order : List ℕ) → IsOrder next ways order → IsBrought (answers_over next ways order) (last_of t rest).number datagram
      (run ciphers v (deliveries_over next (t ∷ rest) ways order))
  fly_in_order order is =
      let cost = budget (base + 1) count rest in
      let target = last_ready v t rest ready in
      let held : List Reassembly = (last_of t rest).memory.station.reassemblies in
      let same : suc cut.more ≡ count = sym cut.some_frames in
      let at = all_at_first v count far rest s t ready route in
      all_come ciphers opens count far s.granted.address first.address target.1.address datagram cut.contents cut.fits cut.Held cut.ends s (t ∷ rest)
      (first, fit_of v (t ∷ rest) ready) straight route order ways v next 0 cut.more held (omega (arith, same)) numbered cut.starts (
        0,
        record {
          all = let long = length-range_with_len (base + 1) count in omega (arith, long);
          now = at.0;
          fly = all_fly ciphers far s.granted.address cut.contents v base 0 count (base + 1) count s t (length rest) (omega arith) (omega arith) fly;
        },
        none_go ciphers far s.granted.address cut.contents v held t rest at.1,
      ) is (omega (arith, room, cost))

pub arrive_so : DatagramsArriveInAnyOrder
arrive_so ciphers opens w s t rest datagram may order is =
    let room = may.room in
    let ready : AreReady w (s ∷ t ∷ rest) = may.ready in
    let straight : IsStraight (s ∷ t ∷ rest) = may.straight in
    let frames : ℕ = pieces_of (length datagram) in
    let next : ℕ = (length w.flights + 1) + frames in
    let ways : List (List ℕ) = ways_at_first (length w.flights + 1) frames rest in
    sent_so ciphers opens w s t rest datagram may (deliveries_over next (t ∷ rest) ways order) (answers_over next ways order)
    (λ v now fly longer counted. fly_in_order ciphers opens v s t rest datagram (length w.flights) (cut_of w s t rest datagram may) ready.1 now
    straight.1 may.route fly next (omega (arith, longer)) (omega (arith, room, counted)) order is)
