-- What the record of a run says became of a flight is so.
use Rattle.std.proofs.Common.{◌≡◌, ℕ, zero, suc, ◌+◌, ◌-◌, ◌≤◌, ◌<◌, ◌==◌, true, false, List, [], ◌∷◌, ◌++◌, length, Option, Some, None, Ok}
use Rattle.std.proofs.Common.{refl, sym, ap, subst, ◌∙◌, ◌⊎◌, ⊎_elim, arith, length-append}
use Rattle.std.specs.Prelude.{drop, is_some, take}
use Rattle.std.specs.Option.{option_map}
use Rattle.std.proofs.lemmas.Bool.{and_parts, eqb-true, ne_eqb}
use Rattle.std.proofs.lemmas.List.{append-nil, append_assoc, length-drop, length-take-le}
use Rattle.std.proofs.lemmas.Option.{none-some, same_Some}
use Rattle.node_rules.specs.Ciphers.{network}
use Rattle.line_events.specs.declared.event.Event.{Event}
use Rattle.line_events.specs.declared.event.Event.TheVariants as events
use Rattle.line_laws.proofs.LawRuns.{every_count}
use Rattle.line_progress.proofs.Events.{StepHas, Taken, outcome_has, once, at_node, at_flight}
use Rattle.line_rules.specs.Further.{delivers, line_step}
use Rattle.line_rules.specs.Runs.{Entry, IsRun, last_world}
use Rattle.line_rules.specs.Steps.{lose}
use Rattle.line_rules.specs.Traces.{Adds, CountsRight}
use Rattle.line_rules.specs.Worlds.{Flight, Trace, World, flight_at, start}
use Rattle.line_record.specs.declared.course.Course.{Course}
use Rattle.line_record.specs.declared.course.Fate.TheVariants as fates
use Rattle.line_record.specs.declared.recorded.RecordedEvent.{RecordedEvent}
use Rattle.line_record.specs.declared.recorded.RecordedFlight.{RecordedFlight}
use Rattle.line_record.specs.Acts.{act_of, flight_come}
use Rattle.line_record.specs.Kinds.{actor_of, prepares}
use Rattle.line_record.specs.Marks.{courses_by, is_for}
use Rattle.line_record.specs.RunRecords.{made_by, numbered}
use Rattle.line_record.specs.Stories.{Stories, announced, bears_of, event_by, event_seen, events_seen, flight_owner, flight_seen, flights_seen, kept_seen}
use Rattle.line_record.specs.Stories.{last_owner, next_event, no_stories, node_of, record_seen, search_at, search_of, settled, stories_after, stories_of}
use Rattle.line_record.proofs.Counts.{one_more, seen}
use Rattle.story_laws.specs.Ends.{recorded_by}
use Rattle.story_laws.specs.Fates.{AreRecordedAfter, Comes, FatesAreSo, HearingsAreSo, IsDelivered, IsInjected, IsRecordedAfter, hears, loses, octets_at}
use Rattle.story_laws.proofs.Fates.{AllMissed, AreSo, IsOfFlights, are_so_after, courses_length}
use Rattle.story_laws.proofs.Keepings.{settled_number}
use Rattle.story_laws.proofs.Numbered.{number_place, within}

true_false : true ≡ false → ⊥
true_false e = cc

-- # The flights of an event

course_of : RecordedFlight → Stories → Course
course_of f s = record {
  story = flight_owner f (last_owner s.owners) s;
  to = node_of f.target f.device s.homes;
  fate = fates.Missed;
  bears = bears_of f (numbered s.stories (flight_owner f (last_owner s.owners) s));
  overheard = false;
  search = search_of f.gist (length s.courses + 1) (search_at (numbered s.courses s.came));
}

flight_course : (f : RecordedFlight) (s : Stories) → (flight_seen f s).courses ≡ s.courses ++ (course_of f s ∷ [])
unfolding flight_seen course_of
flight_course f s = refl

course_missed : (f : RecordedFlight) (s : Stories) → (course_of f s).fate ≡ fates.Missed
unfolding course_of
course_missed f s = refl

none_missed : AllMissed []
none_missed i c is = absurd (none-some c (sym (number_place [] i) ∙ is))

one_missed : (c : Course) (cs : List Course) → c.fate ≡ fates.Missed → AllMissed cs → AllMissed (c ∷ cs)
one_missed c cs missed rest zero d is =
    ap (λ (x : Course). x.fate) (sym (same_Some c d (sym (number_place (c ∷ cs) zero) ∙ is))) ∙ missed
one_missed c cs missed rest (suc i) d is = rest i d (number_place cs i ∙ (sym (number_place (c ∷ cs) (suc i)) ∙ is))

-- the courses with those of some flights, which are new
record HasMore (old new : List Course) (count : ℕ) : Type 0 where
  more : List Course
  are : new ≡ old ++ more
  counted : length more ≡ count
  missed : AllMissed more

flights_more : (fs : List RecordedFlight) (s : Stories) → HasMore s.courses (flights_seen fs s).courses (length fs)
flights_more [] s = record { more = []; are = sym (append-nil s.courses); counted = refl; missed = none_missed }
flights_more (f ∷ fs) s =
    let rest = flights_more fs (flight_seen f s) in
    record {
      more = course_of f s ∷ rest.more;
      are =
          rest.are ∙ ap (λ (cs : List Course). cs ++ rest.more) (flight_course f s) ∙ append_assoc s.courses (course_of f s ∷ []) rest.more;
      counted = ap suc rest.counted;
      missed = one_missed (course_of f s) rest.more (course_missed f s) rest.missed;
    }

-- # An event

-- an event that prepares a node for a joining changes no course
abbrev IsQuiet : RecordedEvent → Type 0
IsQuiet e = is_some (prepares e.act) ≡ true → (m : ℕ) (cs : List Course) → courses_by e m cs ≡ cs

event_courses : (e : RecordedEvent) (s : Stories) → IsQuiet e → (event_seen e s).courses ≡ courses_by e (next_event s) s.courses
unfolding event_seen settled stories_after kept_seen
event_courses e s quiet = by_ready (prepares e.act) refl
  where
    by_ready : (o : Option ℕ) → prepares e.act ≡ o → (event_by o e s).courses ≡ courses_by e (next_event s) s.courses
    by_ready (Some node) is = sym (quiet (ap is_some is) (next_event s) s.courses)
    by_ready None is = ap (λ (n : ℕ). courses_by e n s.courses) (settled_number e.act s)

announced_courses : (e : RecordedEvent) (flights : List RecordedFlight) (s : Stories) → (announced e flights s).courses ≡ s.courses
unfolding announced
announced_courses e flights s = refl

record_courses : (e : RecordedEvent) (flights : List RecordedFlight) (s : Stories) → IsQuiet e
    → HasMore (courses_by e (next_event s) s.courses) (record_seen e flights s).courses (length (made_by e flights))
unfolding record_seen
record_courses e flights s quiet =
    let rest = flights_more (made_by e flights) (announced e flights (event_seen e s)) in
    record {
      more = rest.more;
      are = rest.are ∙ ap (λ (cs : List Course). cs ++ rest.more) (announced_courses e flights (event_seen e s) ∙ event_courses e s quiet);
      counted = rest.counted;
      missed = rest.missed;
    }

-- # What is recorded of an entry

quiet_by : (row same : ℕ) (event : Event) (r : World × Trace) → IsQuiet (recorded_by row same event r)
quiet_by row same (events.Allow node) r readied m cs = refl
quiet_by row same (events.RandomOctets node value) r readied m cs = refl
quiet_by row same (events.Coordinator eui key) r readied m cs = absurd (true_false (sym readied))
quiet_by row same (events.Meter eui psk) r readied m cs = absurd (true_false (sym readied))
quiet_by row same (events.Depot node) r readied m cs = absurd (true_false (sym readied))
quiet_by row same (events.Near a b cost) r readied m cs = absurd (true_false (sym readied))
quiet_by row same (events.Counter node value) r readied m cs = absurd (true_false (sym readied))
quiet_by row same (events.Number node value) r readied m cs = absurd (true_false (sym readied))
quiet_by row same (events.Join node agent) r readied m cs = absurd (true_false (sym readied))
quiet_by row same (events.Leave node) r readied m cs = absurd (true_false (sym readied))
quiet_by row same (events.Send from to datagram) r readied m cs = absurd (true_false (sym readied))
quiet_by row same (events.Deliver flight node cost) r readied m cs = absurd (true_false (sym readied))
quiet_by row same (events.Inject node cost octets) r readied m cs = absurd (true_false (sym readied))
quiet_by row same (events.Lose flight) r readied m cs = absurd (true_false (sym readied))
quiet_by row same (events.Break node next) r readied m cs = absurd (true_false (sym readied))
quiet_by row same (events.Tick seconds) r readied m cs = absurd (true_false (sym readied))
quiet_by row same (events.Restart node) r readied m cs = absurd (true_false (sym readied))
quiet_by row same (events.Cut node nth keeps_new) r readied m cs = absurd (true_false (sym readied))
quiet_by row same (events.Rekey index key) r readied m cs = absurd (true_false (sym readied))
quiet_by row same (events.Challenge node) r readied m cs = absurd (true_false (sym readied))
quiet_by row same (events.Activate node index) r readied m cs = absurd (true_false (sym readied))
quiet_by row same (events.Kick node) r readied m cs = absurd (true_false (sym readied))
quiet_by row same (events.Show node) r readied m cs = absurd (true_false (sym readied))
quiet_by row same events.Checks r readied m cs = absurd (true_false (sym readied))
quiet_by row same (events.Bcast node datagram) r readied m cs = absurd (true_false (sym readied))
quiet_by row same (events.Scan node) r readied m cs = absurd (true_false (sym readied))
quiet_by row same (events.Choose node k) r readied m cs = absurd (true_false (sym readied))
quiet_by row same (events.Path from to) r readied m cs = absurd (true_false (sym readied))

-- a flight that comes or is lost has flown
deliver_within : (w : World) (flight node cost : ℕ) → StepHas (λ (r : World × Trace). flight ≤ length w.flights) (delivers network w flight node cost)
unfolding delivers
deliver_within w flight node cost =
    let has : World × Trace → Type 0 = λ (r : World × Trace). flight ≤ length w.flights in
    once has w _ (at_node has w node _ (λ x there. at_flight has w flight _ (λ f is. Taken _ (within w.flights flight f is))))

lose_within : (w : World) (flight : ℕ) → StepHas (λ (r : World × Trace). flight ≤ length w.flights) (lose w flight)
unfolding lose
lose_within w flight =
    let has : World × Trace → Type 0 = λ (r : World × Trace). flight ≤ length w.flights in
    once has w _ (at_flight has w flight _ (λ f is. Taken _ (within w.flights flight f is)))

octets_within : (w : World) (n : ℕ) (octets : List ℕ) → octets_at w n ≡ Some octets → n ≤ length w.flights
octets_within w n octets is = by_flight (flight_at w n) refl is
  where
    by_flight : (o : Option Flight) → flight_at w n ≡ o → option_map (λ (f : Flight). f.octets) o ≡ Some octets → n ≤ length w.flights
    by_flight None there has = absurd (none-some octets has)
    by_flight (Some f) there has = within w.flights n f there

module _ (w : World) (x : Entry) (e : RecordedEvent) (recorded : IsRecordedAfter w x e) where
  act_is : (event : Event) → x.event ≡ event → e.act ≡ act_of event
  act_is event is = ap (λ (d : RecordedEvent). d.act) recorded.recorded.is ∙ ap act_of is

  came_is : (event : Event) → x.event ≡ event → e.came ≡ flight_come (act_of event) recorded.recorded.same
  came_is event is = ap (λ (d : RecordedEvent). d.came) recorded.recorded.is ∙ ap (λ (y : Event). flight_come (act_of y) recorded.recorded.same) is

  first_is : e.first_flight ≡ x.trace.happenings.first_flight
  first_is = ap (λ (d : RecordedEvent). d.first_flight) recorded.recorded.is

  flights_is : e.flights ≡ x.trace.happenings.flights
  flights_is = ap (λ (d : RecordedEvent). d.flights) recorded.recorded.is

  is_quiet : IsQuiet e
  is_quiet = subst IsQuiet (sym recorded.recorded.is) (quiet_by recorded.recorded.row recorded.recorded.same x.event (x.after, x.trace))

  -- an event that brings no flight and loses none
  abbrev Of : Type 0
  Of = IsOfFlights e (length w.flights)

  plain : e.came ≡ 0 → ((n : ℕ) → loses n e.act ≡ false) → Of
  plain none unlost = record {
    comes = omega (arith, none);
    unlost = λ n later. unlost n;
    one = λ n is. absurd (true_false (sym is ∙ unlost n));
  }

  other : (event : Event) → x.event ≡ event → flight_come (act_of event) recorded.recorded.same ≡ 0 → ((n : ℕ) → loses n (act_of event) ≡ false) → Of
  other event is none unlost = plain (came_is event is ∙ none) (λ n. ap (loses n) (act_is event is) ∙ unlost n)

  step_is : line_step network w x.event ≡ Ok (x.after, x.trace) → (event : Event) → x.event ≡ event → line_step network w event ≡ Ok (x.after, x.trace)
  step_is step event is = ap (line_step network w) (sym is) ∙ step

  delivered : (flight node cost : ℕ) → x.event ≡ events.Deliver flight node cost → line_step network w x.event ≡ Ok (x.after, x.trace) → Of
  delivered flight node cost is step =
      let bound =
      outcome_has (λ (r : World × Trace). flight ≤ length w.flights) (delivers network w flight node cost) (x.after, x.trace)
      (deliver_within w flight node cost) (step_is step (events.Deliver flight node cost) is) in
      let came = came_is (events.Deliver flight node cost) is in
      let unlost : (n : ℕ) → loses n e.act ≡ false = λ n. ap (loses n) (act_is (events.Deliver flight node cost) is) in
      record { comes = omega (arith, bound, came); unlost = λ n later. unlost n; one = λ n lost. absurd (true_false (sym lost ∙ unlost n)) }

  injected : (node cost : ℕ) (octets : List ℕ) → x.event ≡ events.Inject node cost octets → Of
  injected node cost octets is =
      let bound : e.came ≤ length w.flights =
      ⊎_elim (λ (none : e.came ≡ 0). omega (arith, none)) (λ (has : octets_at w e.came ≡ Some octets). octets_within w e.came octets has)
      (recorded.same node cost octets is) in
      let unlost : (n : ℕ) → loses n e.act ≡ false = λ n. ap (loses n) (act_is (events.Inject node cost octets) is) in
      record { comes = bound; unlost = λ n later. unlost n; one = λ n lost. absurd (true_false (sym lost ∙ unlost n)) }

  lost : (flight : ℕ) → x.event ≡ events.Lose flight → line_step network w x.event ≡ Ok (x.after, x.trace) → Of
  lost flight is step =
      let bound =
      outcome_has (λ (r : World × Trace). flight ≤ length w.flights) (lose w flight) (x.after, x.trace) (lose_within w flight)
      (step_is step (events.Lose flight) is) in
      let came : e.came ≡ 0 = came_is (events.Lose flight) is in
      record {
        comes = omega (arith, came);
        unlost = λ n later. ap (loses n) (act_is (events.Lose flight) is) ∙ ne_eqb flight n (λ same. absurd (omega (arith, bound, later, same)));
        one = λ n loses_it. came;
      }

  of_flights : line_step network w x.event ≡ Ok (x.after, x.trace) → Of
  of_flights step = by_event x.event refl
    where
      by_event : (event : Event) → x.event ≡ event → Of
      by_event (events.Deliver flight node cost) is = delivered flight node cost is step
      by_event (events.Inject node cost octets) is = injected node cost octets is
      by_event (events.Lose flight) is = lost flight is step
      by_event (events.Coordinator eui key) is = other (events.Coordinator eui key) is refl (λ n. refl)
      by_event (events.Meter eui psk) is = other (events.Meter eui psk) is refl (λ n. refl)
      by_event (events.Depot node) is = other (events.Depot node) is refl (λ n. refl)
      by_event (events.Near a b cost) is = other (events.Near a b cost) is refl (λ n. refl)
      by_event (events.Counter node value) is = other (events.Counter node value) is refl (λ n. refl)
      by_event (events.Number node value) is = other (events.Number node value) is refl (λ n. refl)
      by_event (events.Allow node) is = other (events.Allow node) is refl (λ n. refl)
      by_event (events.RandomOctets node value) is = other (events.RandomOctets node value) is refl (λ n. refl)
      by_event (events.Join node agent) is = other (events.Join node agent) is refl (λ n. refl)
      by_event (events.Leave node) is = other (events.Leave node) is refl (λ n. refl)
      by_event (events.Send from to datagram) is = other (events.Send from to datagram) is refl (λ n. refl)
      by_event (events.Break node next) is = other (events.Break node next) is refl (λ n. refl)
      by_event (events.Tick seconds) is = other (events.Tick seconds) is refl (λ n. refl)
      by_event (events.Restart node) is = other (events.Restart node) is refl (λ n. refl)
      by_event (events.Cut node nth keeps_new) is = other (events.Cut node nth keeps_new) is refl (λ n. refl)
      by_event (events.Rekey index key) is = other (events.Rekey index key) is refl (λ n. refl)
      by_event (events.Challenge node) is = other (events.Challenge node) is refl (λ n. refl)
      by_event (events.Activate node index) is = other (events.Activate node index) is refl (λ n. refl)
      by_event (events.Kick node) is = other (events.Kick node) is refl (λ n. refl)
      by_event (events.Show node) is = other (events.Show node) is refl (λ n. refl)
      by_event events.Checks is = other events.Checks is refl (λ n. refl)
      by_event (events.Bcast node datagram) is = other (events.Bcast node datagram) is refl (λ n. refl)
      by_event (events.Scan node) is = other (events.Scan node) is refl (λ n. refl)
      by_event (events.Choose node k) is = other (events.Choose node k) is refl (λ n. refl)
      by_event (events.Path from to) is = other (events.Path from to) is refl (λ n. refl)

  -- # What comes

  hearing_is : (n : ℕ) (to : Option ℕ) → 0 < n → hears n to e ≡ true → Comes w x n (actor_of e.act)
  hearing_is n to some heard = by_event x.event refl
    where
      came : e.came ≡ n
      came = eqb-true e.came n (and_parts (e.came == n) (is_for to (actor_of e.act)) heard).0

      nothing : (event : Event) → x.event ≡ event → flight_come (act_of event) recorded.recorded.same ≡ 0 → Comes w x n (actor_of e.act)
      nothing event is none = let zero_is = sym came ∙ came_is event is ∙ none in absurd (omega (arith, zero_is, some))

      at_node_of : (event : Event) (node : ℕ) → x.event ≡ event → actor_of (act_of event) ≡ node → actor_of e.act ≡ node
      at_node_of event node is there = ap actor_of (act_is event is) ∙ there

      brought : (flight node cost : ℕ) → x.event ≡ events.Deliver flight node cost → Comes w x n (actor_of e.act)
      brought flight node cost is =
          let number : flight ≡ n = sym (came_is (events.Deliver flight node cost) is) ∙ came in
          let place : actor_of e.act ≡ node = at_node_of (events.Deliver flight node cost) node is refl in
          IsDelivered cost (is ∙ (λ i. events.Deliver (number i) (sym place i) cost))

      octets_come : (node cost : ℕ) (octets : List ℕ) → x.event ≡ events.Inject node cost octets → Comes w x n (actor_of e.act)
      octets_come node cost octets is =
          let place : actor_of e.act ≡ node = at_node_of (events.Inject node cost octets) node is refl in
          ⊎_elim (λ (none : e.came ≡ 0). let zero_is = sym came ∙ none in absurd (omega (arith, zero_is, some)))
          (λ (has : octets_at w e.came ≡ Some octets).
          IsInjected cost octets (is ∙ (λ i. events.Inject (sym place i) cost octets)) (ap (octets_at w) (sym came) ∙ has))
          (recorded.same node cost octets is)

      by_event : (event : Event) → x.event ≡ event → Comes w x n (actor_of e.act)
      by_event (events.Deliver flight node cost) is = brought flight node cost is
      by_event (events.Inject node cost octets) is = octets_come node cost octets is
      by_event (events.Lose flight) is = nothing (events.Lose flight) is refl
      by_event (events.Coordinator eui key) is = nothing (events.Coordinator eui key) is refl
      by_event (events.Meter eui psk) is = nothing (events.Meter eui psk) is refl
      by_event (events.Depot node) is = nothing (events.Depot node) is refl
      by_event (events.Near a b cost) is = nothing (events.Near a b cost) is refl
      by_event (events.Counter node value) is = nothing (events.Counter node value) is refl
      by_event (events.Number node value) is = nothing (events.Number node value) is refl
      by_event (events.Allow node) is = nothing (events.Allow node) is refl
      by_event (events.RandomOctets node value) is = nothing (events.RandomOctets node value) is refl
      by_event (events.Join node agent) is = nothing (events.Join node agent) is refl
      by_event (events.Leave node) is = nothing (events.Leave node) is refl
      by_event (events.Send from target datagram) is = nothing (events.Send from target datagram) is refl
      by_event (events.Break node next) is = nothing (events.Break node next) is refl
      by_event (events.Tick seconds) is = nothing (events.Tick seconds) is refl
      by_event (events.Restart node) is = nothing (events.Restart node) is refl
      by_event (events.Cut node nth keeps_new) is = nothing (events.Cut node nth keeps_new) is refl
      by_event (events.Rekey index key) is = nothing (events.Rekey index key) is refl
      by_event (events.Challenge node) is = nothing (events.Challenge node) is refl
      by_event (events.Activate node index) is = nothing (events.Activate node index) is refl
      by_event (events.Kick node) is = nothing (events.Kick node) is refl
      by_event (events.Show node) is = nothing (events.Show node) is refl
      by_event events.Checks is = nothing events.Checks is refl
      by_event (events.Bcast node datagram) is = nothing (events.Bcast node datagram) is refl
      by_event (events.Scan node) is = nothing (events.Scan node) is refl
      by_event (events.Choose node k) is = nothing (events.Choose node k) is refl
      by_event (events.Path from target) is = nothing (events.Path from target) is refl

pub hearings_are_so : HearingsAreSo
hearings_are_so w x e recorded n to some heard = hearing_is w x e recorded n to some heard

-- # A run

flights_grow : (xs : List Entry) (w : World) → CountsRight w xs → length w.flights ≤ length (last_world w xs).flights
flights_grow [] w counts = omega arith
flights_grow (x ∷ xs) w counts =
    let rest = flights_grow xs x.after counts.1 in
    let more = counts.0.flights in
    omega (arith, rest, more)

-- an event has its flights in the record
made_count : (e : RecordedEvent) (flights : List RecordedFlight) (before : ℕ) → e.first_flight ≡ before + 1 → before + e.flights ≤ length flights
    → length (made_by e flights) ≡ e.flights
made_count e flights before first enough =
    length-take-le e.flights (drop (e.first_flight - 1) flights)
    (omega (arith, length-drop (e.first_flight - 1) flights, first, enough))

one_entry : (x : Entry) (e : RecordedEvent) (flights : List RecordedFlight) (w : World) (done : List RecordedEvent) (s : Stories)
    → line_step network w x.event ≡ Ok (x.after, x.trace) → IsRecordedAfter w x e → seen s ≡ length done → length s.courses ≡ length w.flights
    → AreSo done s.courses → AreSo (done ++ (e ∷ [])) (record_seen e flights s).courses
one_entry x e flights w done s step recorded count flown so =
    let all = record_courses e flights s (is_quiet w x e recorded) in
    let of : IsOfFlights e (length s.courses) = subst (IsOfFlights e) (sym flown) (of_flights w x e recorded step) in
    subst (AreSo (done ++ (e ∷ [])))
    (ap (λ (n : ℕ). courses_by e (n + 1) s.courses ++ all.more) (sym count) ∙ sym all.are)
    (are_so_after done e s.courses so of all.more all.missed)

entry_count : (x : Entry) (e : RecordedEvent) (flights : List RecordedFlight) (w : World) (done : List RecordedEvent) (s : Stories)
    → Adds w x → line_step network w x.event ≡ Ok (x.after, x.trace) → IsRecordedAfter w x e → seen s ≡ length done → length s.courses ≡ length w.flights
    → length x.after.flights ≤ length flights → AreSo done s.courses → length (record_seen e flights s).courses ≡ length x.after.flights
entry_count x e flights w done s adds step recorded count flown enough so =
    let all = record_courses e flights s (is_quiet w x e recorded) in
    let of : IsOfFlights e (length s.courses) = subst (IsOfFlights e) (sym flown) (of_flights w x e recorded step) in
    let old : length (courses_by e (next_event s) s.courses) ≡ length s.courses =
    ap (λ (n : ℕ). length (courses_by e (n + 1) s.courses)) count ∙ courses_length done e s.courses so of in
    let first : e.first_flight ≡ length w.flights + 1 = first_is w x e recorded ∙ adds.first in
    let made : e.flights ≡ x.trace.happenings.flights = flights_is w x e recorded in
    let more = adds.flights in
    let counted = made_count e flights (length w.flights) first (omega (arith, made, more, enough)) in
    let sum = ap length all.are ∙ length-append (courses_by e (next_event s) s.courses) all.more in
    let new = all.counted in
    omega (arith, sum, old, new, counted, made, more, flown)

all_so : (flights : List RecordedFlight) (xs : List Entry) (w : World) (done es : List RecordedEvent) (s : Stories) → IsRun network w xs → CountsRight w xs
    → AreRecordedAfter w xs es → length flights ≡ length (last_world w xs).flights → seen s ≡ length done → length s.courses ≡ length w.flights
    → AreSo done s.courses → AreSo (done ++ es) (events_seen flights es s).courses
all_so flights [] w done [] s run counts recorded enough count flown so =
    subst (λ (ds : List RecordedEvent). AreSo ds s.courses) (sym (append-nil done)) so
all_so flights [] w done (e ∷ es) s run counts recorded enough count flown so = absurd recorded
all_so flights (x ∷ xs) w done [] s run counts recorded enough count flown so = absurd recorded
all_so flights (x ∷ xs) w done (e ∷ es) s run counts recorded enough count flown so =
    let t = record_seen e flights s in
    let grown = flights_grow xs x.after counts.1 in
    let one = one_more e flights s in
    subst (λ (ds : List RecordedEvent). AreSo ds (events_seen flights es t).courses) (append_assoc done (e ∷ []) es)
    (all_so flights xs x.after (done ++ (e ∷ [])) es t run.3 counts.1 recorded.1 enough (omega (arith, one, count, length-append done (e ∷ [])))
    (entry_count x e flights w done s counts.0 run.2 recorded.0 count flown (omega (arith, grown, enough)) so)
    (one_entry x e flights w done s run.2 recorded.0 count flown so))

none_so : AreSo [] []
none_so = record {
  fates = λ n c is. absurd (none_numbered n c is);
  come = λ k d is. absurd (none_event k d is);
  unlost = λ n later k d is. absurd (none_event k d is);
}
  where
    none_numbered : (n : ℕ) (c : Course) → numbered [] n ≡ Some c → ⊥
    none_numbered zero c is = none-some c is
    none_numbered (suc n) c is = none-some c (sym (number_place [] n) ∙ is)

    none_event : (n : ℕ) (d : RecordedEvent) → numbered [] n ≡ Some d → ⊥
    none_event zero d is = none-some d is
    none_event (suc n) d is = none-some d (sym (number_place [] n) ∙ is)

pub fates_are_so : FatesAreSo
unfolding stories_of
fates_are_so entries recorded flights run are enough n course is =
    (all_so flights entries start [] recorded no_stories run.run (every_count network entries run) are enough refl refl none_so).fates n course is
