-- Each story of a record but that of a datagram is done where an event of its own says so.
use Rattle.std.proofs.Common.{◌≡◌, ℕ, ◌+◌, ◌-◌, ◌≤◌, Bool, true, false, List, [], ◌∷◌, ◌++◌, length, slice_get, Option, Some, None, zero, suc}
use Rattle.std.proofs.Common.{refl, sym, ap, subst, ◌∙◌, arith, length-append}
use Rattle.std.specs.Prelude.{All, if◌then◌else◌, is_some, map}
use Rattle.std.proofs.lemmas.List.{append-nil, append_assoc}
use Rattle.std.proofs.lemmas.Option.{none-some}
use Rattle.store_tables.proofs.SlotTables.{slice_get-push}
use Rattle.line_events.specs.declared.event.Answer.{Answer}
use Rattle.line_record.specs.declared.act.Act.{Act}
use Rattle.line_record.specs.declared.act.Act.TheVariants as acts
use Rattle.line_record.specs.declared.kind.StoryKind.{StoryKind}
use Rattle.line_record.specs.declared.kind.StoryKind.TheVariants as kinds
use Rattle.line_record.specs.declared.place.Place.{Place}
use Rattle.line_record.specs.declared.place.Place.TheVariants.{At, New}
use Rattle.line_record.specs.declared.recorded.RecordedEvent.{RecordedEvent}
use Rattle.line_record.specs.declared.recorded.RecordedFlight.{RecordedFlight}
use Rattle.line_record.specs.declared.story.Story.{Story}
use Rattle.line_record.specs.Kinds.{begins, is_line, joins, person_of, prepares, sends}
use Rattle.line_record.specs.Lists.{changed_at}
use Rattle.line_record.specs.Marks.{came, marked, new_story}
use Rattle.line_record.specs.RunRecords.{made_by, numbered}
use Rattle.line_record.specs.Stories.{Stories, announced, ended, event_by, event_seen, events_seen, flights_seen, kept_seen, last_owner, line_at, line_number}
use Rattle.line_record.specs.Stories.{next_event, no_stories, number_at, place_by, place_of, ready_owners, record_seen, sent_with, settled}
use Rattle.line_record.specs.Stories.{settled_by, stories_after, stories_of, unready, up_marked, with_line, with_place}
use Rattle.line_record.proofs.Counts.{one_more, seen}
use Rattle.story_laws.proofs.Dones.{CoreIsSo, Holds, IsDatagramAt, IsMute, Never, grown, handed_up, owned, sent_more, still_datagram, told, unowned}
use Rattle.story_laws.proofs.Keepings.{settled_number}
use Rattle.story_laws.proofs.Numbered.{last_number, map_pushed, number_place, within}
use Rattle.story_laws.proofs.StoryCores.{Core, Stays, all_stay, came_cores, core_marked, core_of, ending_stays, kept_stays, marked_cores}

true_false : true ≡ false → ⊥
true_false e = cc

send_begins : (act : Act) (a : Answer) → sends act a ≡ true → begins act ≡ Some kinds.Datagram
send_begins (acts.Send from to octets) a is = refl
send_begins (acts.Coordinator eui) a is = absurd (true_false (sym is))
send_begins (acts.Meter eui) a is = absurd (true_false (sym is))
send_begins (acts.Depot node) a is = absurd (true_false (sym is))
send_begins (acts.Near x y) a is = absurd (true_false (sym is))
send_begins (acts.Counter node) a is = absurd (true_false (sym is))
send_begins (acts.Number node) a is = absurd (true_false (sym is))
send_begins (acts.Allow node) a is = absurd (true_false (sym is))
send_begins (acts.RandomOctets node) a is = absurd (true_false (sym is))
send_begins (acts.Join node agent) a is = absurd (true_false (sym is))
send_begins (acts.Leave node) a is = absurd (true_false (sym is))
send_begins (acts.Deliver flight node cost) a is = absurd (true_false (sym is))
send_begins (acts.Inject node cost octets) a is = absurd (true_false (sym is))
send_begins (acts.Lose flight) a is = absurd (true_false (sym is))
send_begins (acts.Break node next) a is = absurd (true_false (sym is))
send_begins (acts.Tick seconds) a is = absurd (true_false (sym is))
send_begins (acts.Restart node) a is = absurd (true_false (sym is))
send_begins (acts.Cut node nth keeps) a is = absurd (true_false (sym is))
send_begins (acts.Rekey index) a is = absurd (true_false (sym is))
send_begins (acts.Challenge node) a is = absurd (true_false (sym is))
send_begins (acts.Activate node index) a is = absurd (true_false (sym is))
send_begins (acts.Kick node) a is = absurd (true_false (sym is))
send_begins (acts.Show node) a is = absurd (true_false (sym is))
send_begins acts.Checks a is = absurd (true_false (sym is))
send_begins (acts.Bcast node octets) a is = absurd (true_false (sym is))
send_begins (acts.Scan node) a is = absurd (true_false (sym is))
send_begins (acts.Choose node k) a is = absurd (true_false (sym is))
send_begins (acts.Path from to) a is = absurd (true_false (sym is))

-- # Stories that begin

abbrev Fit : List RecordedEvent → List ℕ → List Story → List ℕ → Type 0
Fit es owners xs sent = Holds es owners (map core_of xs) sent

module _ (es : List RecordedEvent) (owners sent : List ℕ) where
  pushed : (xs : List Story) (x : Story) → ((i : ℕ) → CoreIsSo es owners i (core_of x)) → (is_line x.kind ≡ false → x.first ≤ length es + 1)
      → Fit es owners xs sent → Fit es owners (xs ++ (x ∷ [])) sent
  pushed xs x so since h =
      subst (λ (cs : List Core). Holds es owners cs sent) (sym (map_pushed core_of xs x)) (grown es owners (map core_of xs) sent h (core_of x) so since)

  line_pushed : (b : Bool) (first : ℕ) (xs : List Story) → Fit es owners xs sent
      → Fit es owners (with_place (if b then At (length xs) else New kinds.Line) first 0 xs) sent
  line_pushed true first xs h = h
  line_pushed false first xs h =
      pushed xs (new_story kinds.Line first 0) (λ i other. Never (λ m d of. refl)) (λ line. absurd (true_false line)) h

  line_fits : (o : Option ℕ) (first : ℕ) (xs : List Story) → Fit es owners xs sent → Fit es owners (with_line o first xs) sent
  line_fits None first xs h = h
  line_fits (Some place) first xs h = line_pushed (line_at (slice_get xs (length xs - 1))) (first + place) xs h

  place_fits : (place : Place) (node : ℕ) (xs : List Story) → Fit es owners xs sent → Fit es owners (with_place place (length es + 1) node xs) sent
  place_fits (At number) node xs h = h
  place_fits (New kind) node xs h =
      pushed xs (new_story kind (length es + 1) node)
      (λ i other. Never (λ m d of.
      let inside = within es m d of.there in let since = of.since in absurd (omega (arith, inside, since))))
      (λ line. omega arith) h

-- # The story of an event

last_pushed : (xs : List ℕ) (y : ℕ) → last_owner (xs ++ (y ∷ [])) ≡ y
last_pushed xs y =
    let place : length (xs ++ (y ∷ [])) - 1 ≡ length xs = omega (arith, length-append xs (y ∷ [])) in
    ap (λ (o : Option ℕ). elim o [ None ↦ 0 | Some story ↦ story ])
    (ap (λ (k : ℕ). slice_get (xs ++ (y ∷ [])) k) place ∙ slice_get-push xs y)

-- What is known once an event has its story.
record Settled (es : List RecordedEvent) (act : Act) (t : Stories) : Type 0 where
  fits : Fit es t.owners t.stories t.sent
  counted : length t.owners ≡ length es + 1
  own : numbered t.owners (length es + 1) ≡ Some (last_owner t.owners)
  sending : begins act ≡ Some kinds.Datagram → IsDatagramAt (map core_of t.stories) (last_owner t.owners)

cores_count : (xs : List Story) → length (map core_of xs) ≡ length xs
cores_count [] = refl
cores_count (x ∷ xs) = ap (λ (n : ℕ). suc n) (cores_count xs)

new_datagram : (first node : ℕ) (xs : List Story) → IsDatagramAt (map core_of (xs ++ (new_story kinds.Datagram first node ∷ []))) (length xs + 1)
new_datagram first node xs =
    let new = new_story kinds.Datagram first node in
    record {
      core = core_of new;
      there =
          ap (λ (cs : List Core). numbered cs (length xs + 1)) (map_pushed core_of xs new)
          ∙ ap (λ (n : ℕ). numbered (map core_of xs ++ (core_of new ∷ [])) (n + 1)) (sym (cores_count xs))
          ∙ last_number (map core_of xs) (core_of new);
      kind = refl;
    }

place_datagram : (place : Place) (first node : ℕ) (xs : List Story) → place ≡ New kinds.Datagram
    → IsDatagramAt (map core_of (with_place place first node xs)) (number_at place xs)
place_datagram place first node xs is =
    subst (λ (p : Place). IsDatagramAt (map core_of (with_place p first node xs)) (number_at p xs)) (sym is) (new_datagram first node xs)

module _ (es : List RecordedEvent) (act : Act) where
  last_own : (xs : List ℕ) (y : ℕ) → length (xs ++ (y ∷ [])) ≡ length es + 1
      → numbered (xs ++ (y ∷ [])) (length es + 1) ≡ Some (last_owner (xs ++ (y ∷ [])))
  last_own xs y counted =
      ap (λ (n : ℕ). numbered (xs ++ (y ∷ [])) n) (omega (arith, counted, length-append xs (y ∷ []))) ∙ last_number xs y
      ∙ ap Some (sym (last_pushed xs y))

  -- by the stories with that of the line
  settled_so : (xs : List Story) (line first : ℕ) (s : Stories) → Fit es s.owners xs s.sent → first ≡ length es + 1
      → length (settled_by xs line act first s).owners ≡ length es + 1 → Settled es act (settled_by xs line act first s)
  settled_so xs line first s h is counted =
      let place = place_of act xs s.courses in
      let ready = ready_owners (joins act) (number_at place xs) line s.ready in
      let ys = with_place place first (person_of act) xs in
      let placed : Fit es s.owners ys s.sent =
      subst (λ (n : ℕ). Fit es s.owners (with_place place n (person_of act) xs) s.sent) (sym is)
      (place_fits es s.owners s.sent place (person_of act) xs h) in
      record {
        fits =
            owned es (s.owners ++ ready) (map core_of ys) s.sent (owned es s.owners (map core_of ys) s.sent placed ready) (number_at place xs ∷ []);
        counted = counted;
        own = last_own (s.owners ++ ready) (number_at place xs) counted;
        sending = λ new.
            subst (IsDatagramAt (map core_of ys)) (sym (last_pushed (s.owners ++ ready) (number_at place xs)))
            (place_datagram place first (person_of act) xs (ap (λ (o : Option StoryKind). place_by o act xs s.courses) new));
      }

  settled_fits : (s : Stories) → seen s ≡ length es → Fit es s.owners s.stories s.sent → Settled es act (settled act s)
  unfolding settled
  settled_fits s count h =
      settled_so (with_line (unready (joins act) s.ready) (length s.owners + 1) s.stories) (line_number (unready (joins act) s.ready) s.stories)
      (next_event s) s (line_fits es s.owners s.sent (unready (joins act) s.ready) (length s.owners + 1) s.stories h)
      (ap (λ (n : ℕ). n + 1) count) (settled_number act s ∙ ap (λ (n : ℕ). n + 1) count)

-- # One event

abbrev FitIn : List RecordedEvent → Stories → Type 0
FitIn es s = Fit es s.owners s.stories s.sent

stay_fit : (es : List RecordedEvent) (s t : Stories) → Stays s t → FitIn es s → FitIn es t
stay_fit es s t stays h =
    subst (λ (xs : List ℕ). Holds es t.owners (map core_of t.stories) xs) (sym stays.sent)
    (subst (λ (xs : List ℕ). Holds es xs (map core_of t.stories) s.sent) (sym stays.owners)
    (subst (λ (cs : List Core). Holds es s.owners cs s.sent) (sym stays.cores) h))

module _ (es : List RecordedEvent) (owners : List ℕ) where
  -- what is handed up
  up_fits : (o : Option ℕ) (n : ℕ) (sent : List ℕ) (xs : List Story) → Fit es owners xs sent → Fit es owners (up_marked o n sent xs) sent
  up_fits None n sent xs h = h
  up_fits (Some note) n sent xs h = by_story (numbered sent note) refl
    where
      by_story : (o : Option ℕ) → numbered sent note ≡ o
          → Fit es owners (elim o [ None ↦ xs | Some story ↦ changed_at story (came n) xs ]) sent
      by_story None is = h
      by_story (Some story) is =
          subst (λ (cs : List Core). Holds es owners cs sent) (sym (came_cores n story xs))
          (handed_up es owners (map core_of xs) sent h story n (h.sends note story is))

  sent_fits : (b : Bool) (story : ℕ) (sent : List ℕ) (cs : List Core) → (b ≡ true → IsDatagramAt cs story) → Holds es owners cs sent
      → Holds es owners cs (sent_with b story sent)
  sent_fits true story sent cs datagram h = sent_more es owners cs sent h story (datagram refl)
  sent_fits false story sent cs datagram h = h

module _ (es : List RecordedEvent) (e : RecordedEvent) where
  abbrev More : List RecordedEvent
  More = es ++ (e ∷ [])

  -- an event that has its story
  after_fits : (t : Stories) → Settled es e.act t → FitIn More (stories_after e (length t.owners) (last_owner t.owners) t)
  unfolding stories_after
  after_fits t so =
      let story = last_owner t.owners in
      let n = length es + 1 in
      let cs = changed_at story (core_marked n e) (map core_of t.stories) in
      let sent = sent_with (sends e.act e.answer) story t.sent in
      let marked_fits : Holds More t.owners cs t.sent = told es t.owners (map core_of t.stories) t.sent so.fits e story so.counted so.own in
      let sent_so : Holds More t.owners cs sent =
      sent_fits More t.owners (sends e.act e.answer) story t.sent cs
      (λ is. marked_datagram story (map core_of t.stories) (so.sending (send_begins e.act e.answer is))) marked_fits in
      subst (λ (k : ℕ). Fit More t.owners (up_marked e.up k sent (changed_at story (marked k e) t.stories)) sent) (sym so.counted)
      (up_fits More t.owners e.up n sent (changed_at story (marked n e) t.stories)
      (subst (λ (ds : List Core). Holds More t.owners ds sent) (sym (marked_cores n e story t.stories)) sent_so))
    where
      marked_datagram : (story : ℕ) (cs : List Core) → IsDatagramAt cs story
          → IsDatagramAt (changed_at story (core_marked (length es + 1) e) cs) story
      marked_datagram story cs datagram = still_datagram (core_marked (length es + 1) e) (λ c. refl) cs story story datagram

  ready_fits : (node : ℕ) (s : Stories) → IsMute e → FitIn es s → FitIn More (event_by (Some node) e s)
  ready_fits node s mute h =
      subst (λ (cs : List Core). Holds More s.owners cs s.sent) (sym (ending_stays e (next_event s) s))
      (unowned es s.owners (map core_of s.stories) s.sent h e mute)

  none_fits : (s : Stories) → seen s ≡ length es → FitIn es s → FitIn More (event_by None e s)
  none_fits s count h =
      let t = settled e.act s in
      let u = stories_after e (length t.owners) (last_owner t.owners) t in
      stay_fit More u (kept_seen e (length t.owners) (last_owner t.owners) u) (kept_stays e (length t.owners) (last_owner t.owners) u)
      (after_fits t (settled_fits es e.act s count h))

  event_fits : (s : Stories) → (is_some (prepares e.act) ≡ true → IsMute e) → seen s ≡ length es → FitIn es s → FitIn More (event_seen e s)
  unfolding event_seen
  event_fits s quiet count h = by_ready (prepares e.act) refl
    where
      by_ready : (o : Option ℕ) → prepares e.act ≡ o → FitIn More (event_by o e s)
      by_ready (Some node) is = ready_fits node s (quiet (ap is_some is)) h
      by_ready None is = none_fits s count h

  record_fits : (flights : List RecordedFlight) (s : Stories) → (is_some (prepares e.act) ≡ true → IsMute e) → seen s ≡ length es → FitIn es s
      → FitIn More (record_seen e flights s)
  unfolding record_seen
  record_fits flights s quiet count h =
      stay_fit More (event_seen e s) (flights_seen (made_by e flights) (announced e flights (event_seen e s))) (all_stay e flights (event_seen e s))
      (event_fits s quiet count h)

-- # A whole record

-- an event that prepares a node for a joining says nothing of any story
abbrev pub IsQuiet : RecordedEvent → Type 0
IsQuiet e = is_some (prepares e.act) ≡ true → IsMute e

all_first : (e : RecordedEvent) (es : List RecordedEvent) → All IsQuiet (e ∷ es) → IsQuiet e
all_first e es only = only 0 e (omega arith)

all_rest : (e : RecordedEvent) (es : List RecordedEvent) → All IsQuiet (e ∷ es) → All IsQuiet es
all_rest e es only = λ k d inside. only (suc k) d (omega (arith, inside))

events_fit : (flights : List RecordedFlight) (before es : List RecordedEvent) (s : Stories) → All IsQuiet es → seen s ≡ length before → FitIn before s
    → FitIn (before ++ es) (events_seen flights es s)
events_fit flights before [] s quiet count h = subst (λ (ds : List RecordedEvent). FitIn ds s) (sym (append-nil before)) h
events_fit flights before (e ∷ es) s quiet count h =
    let t = record_seen e flights s in
    let more = one_more e flights s in
    let counted : seen t ≡ length (before ++ (e ∷ [])) = omega (arith, more, count, length-append before (e ∷ [])) in
    subst (λ (ds : List RecordedEvent). FitIn ds (events_seen flights es t)) (append_assoc before (e ∷ []) es)
    (events_fit flights (before ++ (e ∷ [])) es t (all_rest e es quiet) counted (record_fits before e flights s (all_first e es quiet) count h))

none_numbered : {A : Type 0} (n : ℕ) (x : A) → numbered [] n ≡ Some x → ⊥
none_numbered zero x is = none-some x is
none_numbered (suc n) x is = none-some x (sym (number_place [] n) ∙ is)

none_fit : FitIn [] no_stories
none_fit = record {
  so = λ i c is. absurd (none_numbered i c is);
  since = λ i c is. absurd (none_numbered i c is);
  mute = λ m d later is. absurd (none_numbered m d is);
  sends = λ k i is. absurd (none_numbered k i is);
}

ended_fits : (es : List RecordedEvent) (s : Stories) → FitIn es s → FitIn es (ended s)
ended_fits es s h =
    owned es s.owners (map core_of (with_line (unready None s.ready) (length s.owners + 1) s.stories)) s.sent
    (line_fits es s.owners s.sent (unready None s.ready) (length s.owners + 1) s.stories h)
    (ready_owners None 0 (line_number (unready None s.ready) s.stories) s.ready)

pub stories_fit : (events : List RecordedEvent) (flights : List RecordedFlight) → All IsQuiet events
    → Holds events (stories_of events flights).owners (map core_of (stories_of events flights).stories) (stories_of events flights).sent
unfolding stories_of
stories_fit events flights quiet =
    ended_fits events (events_seen flights events no_stories) (events_fit flights [] events no_stories quiet refl none_fit)
