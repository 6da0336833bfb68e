-- Each frame over all links before the next one is an order of deliveries: so a datagram arrives in it.
use Rattle.std.proofs.Common.{◌≡◌, ℕ, zero, suc, ◌+◌, ◌*◌, ◌<◌, ◌≤◌, List, [], ◌∷◌, ◌++◌, length, refl, sym, ap, subst, ◌∙◌, arith}
use Rattle.std.specs.List.{range_with_len}
use Rattle.std.proofs.lemmas.List.FromFn.{length-range_with_len}
use Rattle.fragment_buffers.specs.Fragmentation.{pieces_of}
use Rattle.node_rules.specs.Ciphers.{Ciphers, OpensWhatItSeals}
use Rattle.line_events.specs.declared.event.Answer.{Answer}
use Rattle.line_events.specs.declared.event.Answer.TheVariants as answers
use Rattle.line_events.specs.declared.event.Event.{Event}
use Rattle.line_events.specs.declared.event.Event.TheVariants as events
use Rattle.line_events.specs.declared.event.TheConstants.{MAX_EVENTS}
use Rattle.line_rules.specs.Runs.{run}
use Rattle.line_rules.specs.Worlds.{World}
use Rattle.line_progress.specs.Arrival.{Stop, IsReady, HasRoute, AreReady, IsStraight, last_of, deliveries, delivery_answers, all_deliveries, all_answers}
use Rattle.line_progress.specs.Arrival.{IsBrought, DatagramsArrive, last_answer}
use Rattle.line_progress.specs.AnyOrder.{flights_over, in_all, none_over, ways_at_first, ways_after, next_after, delivery_over, answer_over}
use Rattle.line_progress.specs.AnyOrder.{IsOrder, deliveries_over, answers_over}
use Rattle.line_progress.proofs.AnyOrder.{fly_in_order, arrive_so}
use Rattle.line_progress.proofs.RouteArrivals.{InFrames}
use Rattle.line_progress.proofs.Routes.{IsUnderWay}

-- An order of deliveries, with its events and what is answered to them.
record IsSo (next : ℕ) (stops : List Stop) (ways : List (List ℕ)) (order : List ℕ) (es : List Event) (says : List Answer) : Type 0 where
  is : IsOrder next ways order
  events_are : deliveries_over next stops ways order ≡ es
  answers_are : answers_over next ways order ≡ says

-- one delivery, and then the others
turn : (j next : ℕ) (stops : List Stop) (ways : List (List ℕ)) (order : List ℕ) (es : List Event) (says : List Answer) (event : Event) (word : Answer)
    (after : ℕ) (left : List (List ℕ)) → 0 < length (flights_over j ways) → next_after next j ways ≡ after → ways_after next j ways ≡ left
    → delivery_over j stops ways ≡ event ∷ [] → answer_over j (last_answer (in_all left)) ways ≡ word → IsSo after stops left order es says
    → IsSo next stops ways (j ∷ order) (event ∷ es) (word ∷ says)
turn j next stops ways order es says event word after left some number_is left_is event_is word_is so = record {
  is = (
    some,
    subst (λ n. IsOrder n (ways_after next j ways) order) (sym number_is) (subst (λ q. IsOrder after q order) (sym left_is) so.is),
  );
  events_are = (λ i. event_is i ++ deliveries_over (number_is i) stops (left_is i) order) ∙ ap (λ (more : List Event). event ∷ more) so.events_are;
  answers_are = (λ i. answer_over j (last_answer (in_all (left_is i))) ways ∷ answers_over (number_is i) (left_is i) order)
      ∙ (λ i. word_is i ∷ so.answers_are i);
}

-- Links after others, over which this many are under way: what a delivery over one of the later links makes of all.
record IsAfter (j before : ℕ) (nodes : List Stop → List Stop) (links : List (List ℕ) → List (List ℕ)) : Type 0 where
  left : (next k i : ℕ) → k ≡ j + i → (q : List (List ℕ)) → ways_after next k (links q) ≡ links (ways_after next i q)
  number : (next k i : ℕ) → k ≡ j + i → (q : List (List ℕ)) → next_after next k (links q) ≡ next_after next i q
  over : (k i : ℕ) → k ≡ j + i → (q : List (List ℕ)) → flights_over k (links q) ≡ flights_over i q
  event : (k i : ℕ) → k ≡ j + i → (rest : List Stop) (q : List (List ℕ)) → delivery_over k (nodes rest) (links q) ≡ delivery_over i rest q
  word : (k i : ℕ) → k ≡ j + i → (said : Answer) (q : List (List ℕ)) → answer_over k said (links q) ≡ answer_over i said q
  count : (q : List (List ℕ)) → in_all (links q) ≡ before + in_all q

after_none : IsAfter 0 0 (λ rest. rest) (λ q. q)
after_none = record {
  left = λ next k i e q. ap (λ n. ways_after next n q) (same k i e);
  number = λ next k i e q. ap (λ n. next_after next n q) (same k i e);
  over = λ k i e q. ap (λ n. flights_over n q) (same k i e);
  event = λ k i e rest q. ap (λ n. delivery_over n rest q) (same k i e);
  word = λ k i e said q. ap (λ n. answer_over n said q) (same k i e);
  count = λ q. omega arith;
}
  where
    same : (k i : ℕ) → k ≡ 0 + i → k ≡ i
    same k i e = omega (arith, e)

after_one_more : (j before : ℕ) (nodes : List Stop → List Stop) (links : List (List ℕ) → List (List ℕ)) (t : Stop) (flights : List ℕ)
    → IsAfter j before nodes links → IsAfter (j + 1) (before + length flights) (λ rest. nodes (t ∷ rest)) (λ q. links (flights ∷ q))
after_one_more j before nodes links t flights at = record {
  left = λ next k i e q. at.left next k (suc i) (further k i e) (flights ∷ q);
  number = λ next k i e q. at.number next k (suc i) (further k i e) (flights ∷ q);
  over = λ k i e q. at.over k (suc i) (further k i e) (flights ∷ q);
  event = λ k i e rest q. at.event k (suc i) (further k i e) (t ∷ rest) (flights ∷ q);
  word = λ k i e said q. at.word k (suc i) (further k i e) said (flights ∷ q);
  count = λ q. let all = at.count (flights ∷ q) in omega (arith, all);
}
  where
    further : (k i : ℕ) → k ≡ (j + 1) + i → k ≡ j + suc i
    further k i e = omega (arith, e)

-- # One frame over all links

-- over a link of a number, and over each further one
abbrev one_way : ℕ → List Stop → List ℕ
one_way j [] = j ∷ []
one_way j (t ∷ rest) = j ∷ one_way (j + 1) rest

goes_all_way : (rest : List Stop) (t : Stop) (j before : ℕ) (nodes : List Stop → List Stop) (links : List (List ℕ) → List (List ℕ))
    → IsAfter j before nodes links → (flight : ℕ) (flights : List ℕ) (next left : ℕ) → before + length flights ≡ left
    → (order : List ℕ) (es : List Event) (says : List Answer)
    → IsSo (next + length rest) (nodes (t ∷ rest)) (links (flights ∷ none_over rest)) order es says
    → IsSo next (nodes (t ∷ rest)) (links ((flight ∷ flights) ∷ none_over rest)) (one_way j rest ++ order) (deliveries flight next t rest ++ es)
    (delivery_answers (last_answer left) rest ++ says)
goes_all_way [] t j before nodes links at flight flights next left count order es says so =
    let ways : List (List ℕ) = (flight ∷ flights) ∷ [] in
    let here : j ≡ j + 0 = omega arith in
    let many = at.count (flights ∷ []) in
    let number : next + 0 ≡ next = omega arith in
    turn j next (nodes (t ∷ [])) (links ways) order es says (events.Deliver flight t.number t.cost) (last_answer left) next (links (flights ∷ []))
    (subst (λ fs. 0 < length fs) (sym (at.over j 0 here ways)) (omega arith)) (at.number next j 0 here ways) (at.left next j 0 here ways)
    (at.event j 0 here (t ∷ []) ways)
    (at.word j 0 here (last_answer (in_all (links (flights ∷ [])))) ways ∙ ap last_answer (omega (arith, many, count)))
    (subst (λ n. IsSo n (nodes (t ∷ [])) (links (flights ∷ [])) order es says) number so)
goes_all_way (z ∷ rest) t j before nodes links at flight flights next left count order es says so =
    let ways : List (List ℕ) = (flight ∷ flights) ∷ [] ∷ none_over rest in
    let here : j ≡ j + 0 = omega arith in
    let number : next + length (z ∷ rest) ≡ (next + 1) + length rest = omega arith in
    turn j next (nodes (t ∷ z ∷ rest)) (links ways) (one_way (j + 1) rest ++ order) (deliveries next (next + 1) z rest ++ es)
    (delivery_answers (last_answer left) rest ++ says) (events.Deliver flight t.number t.cost) answers.Relayed (next + 1)
    (links (flights ∷ (next ∷ []) ∷ none_over rest))
    (subst (λ fs. 0 < length fs) (sym (at.over j 0 here ways)) (omega arith)) (at.number next j 0 here ways) (at.left next j 0 here ways)
    (at.event j 0 here (t ∷ z ∷ rest) ways)
    (at.word j 0 here (last_answer (in_all (links (flights ∷ (next ∷ []) ∷ none_over rest)))) ways)
    (goes_all_way rest z (j + 1) (before + length flights) (λ more. nodes (t ∷ more)) (λ q. links (flights ∷ q))
    (after_one_more j before nodes links t flights at) next [] (next + 1) left (omega (arith, count)) order es says
    (subst (λ n. IsSo n (nodes (t ∷ z ∷ rest)) (links (flights ∷ [] ∷ none_over rest)) order es says) number so))

-- # Frame after frame

abbrev by_piece : ℕ → List Stop → List ℕ
by_piece zero rest = []
by_piece (suc more) rest = one_way 0 rest ++ by_piece more rest

none_at_all : (rest : List Stop) → in_all (none_over rest) ≡ 0
none_at_all [] = refl
none_at_all (t ∷ rest) = let more = none_at_all rest in omega (arith, more)

all_go : (frames flight next : ℕ) (t : Stop) (rest : List Stop) → IsSo next (t ∷ rest) (ways_at_first flight frames rest) (by_piece frames rest)
    (all_deliveries frames flight next t rest) (all_answers frames rest)
all_go zero flight next t rest =
    record { is = let none = none_at_all rest in omega (arith, none); events_are = refl; answers_are = refl }
all_go (suc more) flight next t rest =
    let long = length-range_with_len (flight + 1) more in
    goes_all_way rest t 0 0 (λ stops. stops) (λ q. q) after_none flight (range_with_len (flight + 1) more) next more (omega (arith, long))
    (by_piece more rest) (all_deliveries more (flight + 1) (next + length rest) t rest) (all_answers more rest)
    (all_go more (flight + 1) (next + length rest) t rest)

-- # The law

pub fly_on : (ciphers : Ciphers) (opens : OpensWhatItSeals ciphers) (v : World) (s t : Stop) (rest : List Stop) (datagram : List ℕ) (base : ℕ)
    (cut : InFrames s (last_of t rest) datagram) → IsReady s → AreReady v (t ∷ rest) → IsStraight (t ∷ rest)
    → HasRoute (pieces_of (length datagram)) (last_of t rest).granted.address s (t ∷ rest)
    → ((k : ℕ) → k < pieces_of (length datagram)
    → IsUnderWay ciphers v (base + k) (last_of t rest).granted.address s.granted.address k s t (cut.contents k) (length rest))
    → (next : ℕ) → next ≡ length v.flights + 1 → v.events + pieces_of (length datagram) * (1 + length rest) ≤ MAX_EVENTS
    → IsBrought (all_answers (pieces_of (length datagram)) rest) (last_of t rest).number datagram
    (run ciphers v (all_deliveries (pieces_of (length datagram)) (base + 1) next t rest))
fly_on ciphers opens v s t rest datagram base cut first ready straight route fly next numbered room =
    let frames : ℕ = pieces_of (length datagram) in
    let so = all_go frames (base + 1) next t rest in
    let there = fly_in_order ciphers opens v s t rest datagram base cut first ready straight route fly next numbered room (by_piece frames rest) so.is in
    subst (λ es. IsBrought (all_answers frames rest) (last_of t rest).number datagram (run ciphers v es)) so.events_are
    (subst (λ said. IsBrought said (last_of t rest).number datagram
    (run ciphers v (deliveries_over next (t ∷ rest) (ways_at_first (base + 1) frames rest) (by_piece frames rest)))) so.answers_are there)

pub arrive : DatagramsArrive
arrive ciphers opens w s t rest datagram may =
    let frames : ℕ = pieces_of (length datagram) in
    let first : ℕ = length w.flights + 1 in
    let next : ℕ = first + frames in
    let so = all_go frames first next t rest in
    let there = arrive_so ciphers opens w s t rest datagram may (by_piece frames rest) so.is in
    subst (λ es. IsBrought (answers.Sent ∷ all_answers frames rest) (last_of t rest).number datagram
    (run ciphers w (events.Send s.number (last_of t rest).number datagram ∷ es))) so.events_are
    (subst (λ said. IsBrought (answers.Sent ∷ said) (last_of t rest).number datagram
    (run ciphers w (events.Send s.number (last_of t rest).number datagram
    ∷ deliveries_over next (t ∷ rest) (ways_at_first first frames rest) (by_piece frames rest)))) so.answers_are there)
