-- What is kept still began at its event, and no later event ended it.
use Rattle.std.proofs.Common.{◌≡◌, ℕ, suc, ◌+◌, ◌-◌, ◌<◌, ◌==◌, Bool, true, false, not, List, [], ◌∷◌, ◌++◌, length, Option, Some, None}
use Rattle.std.proofs.Common.{refl, sym, ap, subst, ◌∙◌, ◌⊎◌, ⊎_elim, arith, length-append}
use Rattle.std.proofs.lemmas.List.{append-nil, append_assoc}
use Rattle.std.specs.Prelude.{◌&&◌, ◌||◌, All, if◌then◌else◌, is_some, nat_le}
use Rattle.std.specs.List.{list_any}
use Rattle.std.proofs.lemmas.Bool.{and_parts}
use Rattle.std.proofs.lemmas.Option.{none-some, same_Some}
use Rattle.line_progress.specs.Lists.{Among, Here, Later}
use Rattle.line_record.specs.declared.act.Act.{Act}
use Rattle.line_record.specs.declared.act.Act.TheVariants as acts
use Rattle.line_record.specs.declared.kept.Kept.{Kept}
use Rattle.line_record.specs.declared.kept.KeptEnd.{KeptEnd}
use Rattle.line_record.specs.declared.kept.KeptEnd.TheVariants as kept_ends
use Rattle.line_record.specs.declared.course.Course.{Course}
use Rattle.line_record.specs.declared.recorded.RecordedEvent.{RecordedEvent}
use Rattle.line_record.specs.declared.recorded.RecordedFlight.{RecordedFlight}
use Rattle.line_record.specs.KeptItems.{end_of, is_kept_of, is_left, is_power_lost, is_restart, is_still, is_tick, makes_message, may_end, restarts, time_of}
use Rattle.line_record.specs.Kinds.{actor_of, is_piece_held, prepares, sends}
use Rattle.line_record.specs.RunRecords.{made_by, numbered}
use Rattle.line_record.specs.NodeItems.{about_by, asked_about, has_kept, is_message_about, is_waiting, keeping_left, kept_if, message_about, message_kept}
use Rattle.line_record.specs.NodeItems.{new_kept}
use Rattle.line_record.specs.NodeItems.{others_kept, piece_kept, piece_of, still_kept, waiting_kept}
use Rattle.line_record.specs.Stories.{Stories, announced, event_by, event_seen, events_seen, flight_owner, flight_seen, flights_seen, kept_begun}
use Rattle.line_record.specs.Stories.{kept_ended, kept_seen, last_owner, may_leave, message_story, next_event, no_stories, readied, stories_after}
use Rattle.line_record.specs.Stories.{settled, stories_of, record_seen, up_by, up_keeping, up_kept}
use Rattle.line_record.proofs.Counts.{one_more, seen, settled_count}
use Rattle.story_laws.proofs.Numbered.{kept_number, last_number, pushed_number, within}
use Rattle.story_laws.specs.Keepings.{HasBegun, IsGathered, IsKeptSince, IsMessage, KeptAreSince, MakesNone, Waits}

true_false : true ≡ false → ⊥
true_false e = cc

-- # What does not end anything

no_restart : (node : ℕ) (act : Act) → restarts act ≡ false → is_restart node act ≡ false
no_restart node (acts.Coordinator eui) is = refl
no_restart node (acts.Meter eui) is = refl
no_restart node (acts.Depot other) is = refl
no_restart node (acts.Near a b) is = refl
no_restart node (acts.Counter other) is = refl
no_restart node (acts.Number other) is = refl
no_restart node (acts.Allow other) is = refl
no_restart node (acts.RandomOctets other) is = refl
no_restart node (acts.Join other agent) is = refl
no_restart node (acts.Leave other) is = refl
no_restart node (acts.Send from to octets) is = refl
no_restart node (acts.Deliver flight other cost) is = refl
no_restart node (acts.Inject other cost octets) is = refl
no_restart node (acts.Lose flight) is = refl
no_restart node (acts.Break other next) is = refl
no_restart node (acts.Tick seconds) is = refl
no_restart node (acts.Restart other) is = absurd (true_false is)
no_restart node (acts.Cut other nth keeps_new) is = refl
no_restart node (acts.Rekey index) is = refl
no_restart node (acts.Challenge other) is = refl
no_restart node (acts.Activate other index) is = refl
no_restart node (acts.Kick other) is = refl
no_restart node (acts.Show other) is = refl
no_restart node acts.Checks is = refl
no_restart node (acts.Bcast other octets) is = refl
no_restart node (acts.Scan other) is = refl
no_restart node (acts.Choose other k) is = refl
no_restart node (acts.Path from to) is = refl

none_of : (t l p r : Bool) → (if t || (l || p) then true else r) ≡ false → (t ≡ false) × (l ≡ false) × (p ≡ false) × (r ≡ false)
none_of true l p r e = absurd (true_false e)
none_of false true p r e = absurd (true_false e)
none_of false false true r e = absurd (true_false e)
none_of false false false true e = absurd (true_false e)
none_of false false false false e = (refl, refl, refl, refl)

never_ends : (n : ℕ) (e : RecordedEvent) (k : Kept) → may_end e ≡ false → end_of n e k ≡ kept_ends.Still
never_ends n e k never =
    let a = none_of (is_tick e.act) (is_left e.answer) (is_power_lost e.answer) (restarts e.act) never in
    let r = no_restart k.node e.act a.3 in
    λ i. if a.0 i && nat_le (time_of k.gathered) (e.clock - k.clock) then kept_ends.Aged n (e.clock - k.clock)
    else (if r i then kept_ends.Restarted n
    else (if a.1 i && (actor_of e.act == k.node) then kept_ends.Left n
    else (if a.2 i && (actor_of e.act == k.node) then kept_ends.Halted n else kept_ends.Still)))

still_is : (end : KeptEnd) → is_still end ≡ true → end ≡ kept_ends.Still
still_is kept_ends.Still is = refl
still_is (kept_ends.Aged n age) is = absurd (true_false (sym is))
still_is (kept_ends.Restarted n) is = absurd (true_false (sym is))
still_is (kept_ends.Left n) is = absurd (true_false (sym is))
still_is (kept_ends.Halted n) is = absurd (true_false (sym is))

-- # What holds of each that is kept

abbrev Each : (Kept → Type 0) → List Kept → Type 0
Each P [] = Unit {0}
Each P (k ∷ ks) = P k × Each P ks

module _ (P : Kept → Type 0) where
  each_append : (xs ys : List Kept) → Each P xs → Each P ys → Each P (xs ++ ys)
  each_append [] ys a b = b
  each_append (k ∷ xs) ys a b = (a.0, each_append xs ys a.1 b)

  each_if : (b : Bool) (k : Kept) → (b ≡ true → P k) → Each P (kept_if b k)
  each_if true k is = (is refl, tt)
  each_if false k is = tt

  each_either : (b : Bool) (xs ys : List Kept) → Each P xs → Each P ys → Each P (if b then xs else ys)
  each_either true xs ys a b = a
  each_either false xs ys a b = b

  each_others : (gathered : Bool) (story node : ℕ) (xs : List Kept) → Each P xs → Each P (others_kept gathered story node xs)
  each_others gathered story node [] a = tt
  each_others gathered story node (k ∷ xs) a =
      each_append (kept_if (not (is_kept_of gathered story node k)) k) (others_kept gathered story node xs)
      (each_if (not (is_kept_of gathered story node k)) k (λ is. a.0)) (each_others gathered story node xs a.1)

  each_among : (k : Kept) (xs : List Kept) → Each P xs → Among k xs → P k
  each_among k xs a (Here rest) = a.0
  each_among k xs a (Later y rest more) = each_among k rest a.1 more

  each_begun : (o : Option Kept) (s : Stories) → ((k : Kept) → o ≡ Some k → P k) → Each P s.keeping → Each P (kept_begun o s).keeping
  each_begun None s new a = a
  each_begun (Some k) s new a = each_append s.keeping (k ∷ []) a (new k refl, tt)

module _ (P Q : Kept → Type 0) where
  each_more : (xs : List Kept) → ((k : Kept) → P k → Q k) → Each P xs → Each Q xs
  each_more [] f a = tt
  each_more (k ∷ xs) f a = (f k a.0, each_more xs f a.1)

  each_still : (n : ℕ) (e : RecordedEvent) (xs : List Kept) → ((k : Kept) → P k → end_of n e k ≡ kept_ends.Still → Q k) → Each P xs
      → Each Q (still_kept n e xs)
  each_still n e [] f a = tt
  each_still n e (k ∷ xs) f a =
      each_append Q (kept_if (is_still (end_of n e k)) k) (still_kept n e xs)
      (each_if Q (is_still (end_of n e k)) k (λ is. f k a.0 (still_is (end_of n e k) is)))
      (each_still n e xs f a.1)

-- # One event

module _ (es : List RecordedEvent) (e : RecordedEvent) where
  abbrev Old : Kept → Type 0
  Old k = IsKeptSince es k

  abbrev New : Kept → Type 0
  New k = IsKeptSince (es ++ (e ∷ [])) k

  goes_on : (k : Kept) → Old k → end_of (length es + 1) e k ≡ kept_ends.Still → New k
  goes_on k old is = record {
    event = old.event;
    there = kept_number es e k.event old.event old.there;
    clock = old.clock;
    node = old.node;
    began = old.began;
    still = still;
  }
    where
      last : (m : ℕ) (x : RecordedEvent) → m ≡ length es + 1 → x ≡ e → end_of m x k ≡ kept_ends.Still
      last m x at same = (λ i. end_of (at i) (same i) k) ∙ is

      still : (m : ℕ) (x : RecordedEvent) → k.event < m → numbered (es ++ (e ∷ [])) m ≡ Some x → end_of m x k ≡ kept_ends.Still
      still m x later at =
          ⊎_elim (λ (before : numbered es m ≡ Some x). old.still m x later before)
          (λ (new : (m ≡ length es + 1) × (x ≡ e)). last m x new.0 new.1) (pushed_number es e m x at)

  begins : (k : Kept) → k.event ≡ length es + 1 → e.clock ≡ k.clock → actor_of e.act ≡ k.node → HasBegun k e → New k
  begins k at clock node began = record {
    event = e;
    there = ap (λ (n : ℕ). numbered (es ++ (e ∷ [])) n) at ∙ last_number es e;
    clock = clock;
    node = node;
    began = began;
    still = λ m x later there.
        let inside = within (es ++ (e ∷ [])) m x there in absurd (omega (arith, inside, later, at, length-append es (e ∷ [])));
  }

  ended_each : (n : ℕ) (s : Stories) → n ≡ length es + 1 → Each Old s.keeping → Each New (kept_ended e n s).keeping
  ended_each n s at a = by_test (may_end e) refl
    where
      by_test : (b : Bool) → may_end e ≡ b → Each New (if b then still_kept n e s.keeping else s.keeping)
      by_test true is =
          each_still Old New n e s.keeping (λ k old still. goes_on k old (ap (λ (m : ℕ). end_of m e k) (sym at) ∙ still)) a
      by_test false is = each_more Old New s.keeping (λ k old. goes_on k old (never_ends (length es + 1) e k is)) a

  up_each : (s : Stories) → Each New s.keeping → Each New (up_kept e s).keeping
  up_each s a = by_note e.up
    where
      by_story : (o : Option ℕ) → Each New (up_by o (actor_of e.act) s.keeping)
      by_story None = a
      by_story (Some story) =
          each_either New (has_kept true story (actor_of e.act) s.keeping) (others_kept true story (actor_of e.act) s.keeping) s.keeping
          (each_others New true story (actor_of e.act) s.keeping a) a

      by_note : (o : Option ℕ) → Each New (up_keeping o (actor_of e.act) s.sent s.keeping)
      by_note None = a
      by_note (Some note) = by_story (numbered s.sent note)

  module _ (n : ℕ) (at : n ≡ length es + 1) where
    waiting_new : (story : ℕ) (k : Kept) → waiting_kept e n story ≡ Some k → New k
    waiting_new story k is = by_test (sends e.act e.answer && is_waiting e.answer) refl is
      where
        by_test : (b : Bool) → (sends e.act e.answer && is_waiting e.answer) ≡ b → (if b then Some (new_kept story e n 0 false) else None) ≡ Some k
            → New k
        by_test true test is =
            let parts = and_parts (sends e.act e.answer) _ test in
            subst New (same_Some (new_kept story e n 0 false) k is) (begins (new_kept story e n 0 false) at refl refl (Waits refl parts.0 parts.1))
        by_test false test is = absurd (none-some k is)

    piece_new : (courses : List Course) (keeping : List Kept) (k : Kept) → piece_kept e n courses keeping ≡ Some k → New k
    piece_new courses keeping k is = by_held (is_piece_held e.answer) refl (e.came == 0) is
      where
        by_begun : is_piece_held e.answer ≡ true → (course : Course) (b : Bool) → (if b then Some (new_kept course.story e n 0 true) else None) ≡ Some k → New k
        by_begun held course true is =
            subst New (same_Some (new_kept course.story e n 0 true) k is) (begins (new_kept course.story e n 0 true) at refl refl (IsGathered refl held))
        by_begun held course false is = absurd (none-some k is)

        by_lot : is_piece_held e.answer ≡ true → (o : Option Course) → piece_of o e n keeping ≡ Some k → New k
        by_lot held None is = absurd (none-some k is)
        by_lot held (Some course) is = by_begun held course (course.bears && not (has_kept true course.story (actor_of e.act) keeping)) is

        by_held : (held : Bool) → is_piece_held e.answer ≡ held → (none : Bool)
            → (if not held || none then None else piece_of (numbered courses e.came) e n keeping) ≡ Some k → New k
        by_held true held true is = absurd (none-some k is)
        by_held true held false is = by_lot held (numbered courses e.came) is
        by_held false held none is = absurd (none-some k is)

    message_new : (flights made : List RecordedFlight) (story : ℕ) (k : Kept) → message_kept (message_about e flights) e n story made ≡ Some k → New k
    message_new flights made story k is = by_test (makes_message e.answer) refl (message_about e flights) refl is
      where
        by_made : makes_message e.answer ≡ true → (about : ℕ) (b : Bool) → (if b then None else Some (new_kept story e n about false)) ≡ Some k → New k
        by_made makes about true is = absurd (none-some k is)
        by_made makes about false is =
            subst New (same_Some (new_kept story e n about false) k is) (begins (new_kept story e n about false) at refl refl (IsMessage refl makes))

        by_about : makes_message e.answer ≡ true → (o : Option ℕ) → message_kept o e n story made ≡ Some k → New k
        by_about makes None is = absurd (none-some k is)
        by_about makes (Some about) is = by_made makes about (list_any (is_message_about about) made) is

        by_test : (b : Bool) → makes_message e.answer ≡ b → (o : Option ℕ) → message_about e flights ≡ o → message_kept o e n story made ≡ Some k → New k
        by_test true makes o about is = by_about makes o is
        by_test false makes None about is = absurd (none-some k is)
        by_test false makes (Some x) about is =
            absurd (none-some x
            (sym (ap (λ (b : Bool). if not b then None else (if e.came == 0 then asked_about e.act else about_by (numbered flights e.came))) makes) ∙ about))

    kept_each : (story : ℕ) (s : Stories) → Each Old s.keeping → Each New (kept_seen e n story s).keeping
    unfolding kept_seen
    kept_each story s a =
        let b = up_kept e (kept_ended e n s) in
        let c = kept_begun (waiting_kept e n story) b in
        each_begun New (piece_kept e n c.courses c.keeping) c (piece_new c.courses c.keeping)
        (each_begun New (waiting_kept e n story) b (waiting_new story) (up_each (kept_ended e n s) (ended_each n s at a)))

none_ready : (act : Act) (s : Stories) → length (settled act s).ready ≡ 0
unfolding settled
none_ready act s = refl

pub settled_number : (act : Act) (s : Stories) → length (settled act s).owners ≡ seen s + 1
settled_number act s = omega (arith, settled_count act s, none_ready act s)

module _ (es : List RecordedEvent) (e : RecordedEvent) (s : Stories) (count : seen s ≡ length es) where
  number_of : length (settled e.act s).owners ≡ length es + 1
  number_of = let a = settled_number e.act s in omega (arith, a, count)

  event_each : Each (IsKeptSince es) s.keeping → Each (New es e) (event_seen e s).keeping
  unfolding event_seen settled stories_after
  event_each a = by_ready (prepares e.act)
    where
      by_ready : (o : Option ℕ) → Each (New es e) (event_by o e s).keeping
      by_ready (Some node) = ended_each es e (next_event s) (readied node e s) (omega (arith, count)) a
      by_ready None =
          let owned = settled e.act s in
          kept_each es e (length owned.owners) number_of (last_owner owned.owners)
          (stories_after e (length owned.owners) (last_owner owned.owners) owned) a

  owners_of : prepares e.act ≡ None → length (event_seen e s).owners ≡ length es + 1
  unfolding event_seen stories_after kept_seen
  owners_of none = ap (λ (o : Option ℕ). length (event_by o e s).owners) none ∙ number_of

  announced_each : (flights : List RecordedFlight) → MakesNone e → Each (New es e) (event_seen e s).keeping
      → Each (New es e) (announced e flights (event_seen e s)).keeping
  unfolding announced
  announced_each flights makes a =
      each_begun (New es e) (message_kept about e (length t.owners) story (made_by e flights)) t (λ k is. by_ready (prepares e.act) refl k is) a
    where
      t : Stories
      t = event_seen e s

      about : Option ℕ
      about = message_about e flights

      story : ℕ
      story = message_story about (last_owner t.owners) t

      none_about : makes_message e.answer ≡ false → about ≡ None
      none_about is =
          ap (λ (b : Bool). if not b then None else (if e.came == 0 then asked_about e.act else about_by (numbered flights e.came))) is

      by_ready : (o : Option ℕ) → prepares e.act ≡ o → (k : Kept) → message_kept about e (length t.owners) story (made_by e flights) ≡ Some k
          → IsKeptSince (es ++ (e ∷ [])) k
      by_ready None is k new = message_new es e (length t.owners) (owners_of is) flights (made_by e flights) story k new
      by_ready (Some node) is k new =
          absurd (none-some k
          (sym (ap (λ (o : Option ℕ). message_kept o e (length t.owners) story (made_by e flights)) (none_about (makes (ap is_some is)))) ∙ new))

-- # A whole record

module _ (P : Kept → Type 0) where
  flight_each : (f : RecordedFlight) (t : Stories) → Each P t.keeping → Each P (flight_seen f t).keeping
  unfolding flight_seen
  flight_each f t a =
      let owner = flight_owner f (last_owner t.owners) t in
      each_either P (may_leave f) (keeping_left owner f.from t.keeping) t.keeping
      (each_either P (has_kept false owner f.from t.keeping) (others_kept false owner f.from t.keeping) t.keeping
      (each_others P false owner f.from t.keeping a) a) a

  flights_each : (fs : List RecordedFlight) (t : Stories) → Each P t.keeping → Each P (flights_seen fs t).keeping
  flights_each [] t a = a
  flights_each (f ∷ fs) t a = flights_each fs (flight_seen f t) (flight_each f t a)

recorded_each : (es : List RecordedEvent) (e : RecordedEvent) (flights : List RecordedFlight) (s : Stories) → seen s ≡ length es → MakesNone e
    → Each (IsKeptSince es) s.keeping → Each (IsKeptSince (es ++ (e ∷ []))) (record_seen e flights s).keeping
unfolding record_seen
recorded_each es e flights s count makes a =
    flights_each (IsKeptSince (es ++ (e ∷ []))) (made_by e flights) (announced e flights (event_seen e s))
    (announced_each es e s count flights makes (event_each es e s count a))

all_first : (e : RecordedEvent) (es : List RecordedEvent) → All MakesNone (e ∷ es) → MakesNone e
all_first e es only = only 0 e (omega arith)

all_rest : (e : RecordedEvent) (es : List RecordedEvent) → All MakesNone (e ∷ es) → All MakesNone es
all_rest e es only = λ k d inside. only (suc k) d (omega (arith, inside))

events_each : (flights : List RecordedFlight) (before es : List RecordedEvent) (s : Stories) → All MakesNone es → seen s ≡ length before
    → Each (IsKeptSince before) s.keeping → Each (IsKeptSince (before ++ es)) (events_seen flights es s).keeping
events_each flights before [] s makes count a = subst (λ (xs : List RecordedEvent). Each (IsKeptSince xs) s.keeping) (sym (append-nil before)) a
events_each flights before (e ∷ es) s makes count a =
    let t = record_seen e flights s in
    let more = one_more e flights s in
    let counted : seen t ≡ length (before ++ (e ∷ [])) = omega (arith, more, count, length-append before (e ∷ [])) in
    subst (λ (xs : List RecordedEvent). Each (IsKeptSince xs) (events_seen flights es t).keeping) (append_assoc before (e ∷ []) es)
    (events_each flights (before ++ (e ∷ [])) es t (all_rest e es makes) counted
    (recorded_each before e flights s count (all_first e es makes) a))

pub kept_are_since : KeptAreSince
unfolding stories_of
kept_are_since events flights makes k among =
    each_among (IsKeptSince events) k (events_seen flights events no_stories).keeping (events_each flights [] events no_stories makes refl tt) among
