-- The story of a datagram says at which event that came first.
use Rattle.std.proofs.Common.{◌≡◌, ◌≢◌, ℕ, zero, suc, ◌+◌, ◌-◌, ◌==◌, Bool, true, false, not, List, [], ◌∷◌, ◌++◌, length, Option, Some, None}
use Rattle.std.proofs.Common.{refl, ap, sym, ◌∙◌, subst, arith, length-append, ◌⊎◌, ⊎_elim}
use Rattle.std.specs.Prelude.{All, is_some, if◌then◌else◌}
use Rattle.std.specs.Option.{option_and_then}
use Rattle.std.proofs.lemmas.Bool.{eqb-false, eqb-true}
use Rattle.std.proofs.lemmas.Option.{none-some, option_and_then_some, some_pair_parts}
use Rattle.line_events.specs.declared.event.Answer.TheVariants as answers
use Rattle.line_record.specs.declared.act.Act.{Act}
use Rattle.line_record.specs.declared.act.Act.TheVariants as acts
use Rattle.line_record.specs.declared.recorded.RecordedEvent.{RecordedEvent}
use Rattle.line_record.specs.declared.recorded.RecordedFlight.{RecordedFlight}
use Rattle.line_record.specs.declared.ends.Ends.{Ends}
use Rattle.line_record.specs.declared.kept.Kept.{Kept}
use Rattle.line_record.specs.declared.verdict.Verdict.{Verdict}
use Rattle.line_record.specs.declared.verdict.Verdict.TheVariants as verdicts
use Rattle.line_record.specs.declared.kind.StoryKind.{StoryKind}
use Rattle.line_record.specs.declared.kind.StoryKind.TheVariants as kinds
use Rattle.line_record.specs.declared.story.Story.{Story}
use Rattle.line_record.specs.KeptItems.{may_end}
use Rattle.line_record.specs.Kinds.{is_sent, prepares, sends}
use Rattle.line_record.specs.Lists.{changed_at}
use Rattle.line_record.specs.Marks.{came, marked, or_first}
use Rattle.line_record.specs.RunRecords.{made_by, numbered}
use Rattle.line_record.specs.Verdicts.{is_begun, reached_or, unreached_datagram, verdict_by, verdict_of}
use Rattle.line_record.specs.NodeItems.{has_kept, message_about, message_kept, piece_kept, stories_left}
use Rattle.line_record.specs.NodeItems.{waiting_kept}
use Rattle.line_record.proofs.Counts.{events_count, one_more, settled_count}
use Rattle.line_record.specs.Laws.{DatagramsAreReached, IsDatagramStory, ReadiesOnly, first_up, is_of, sends_in}
use Rattle.line_record.specs.Stories.{Stories, last_owner, next_event, settled}
use Rattle.line_record.specs.Stories.{unready, announced, ended, flight_owner, flight_seen, flights_seen, kept_begun, kept_ended}
use Rattle.line_record.specs.Stories.{event_by, event_seen, events_seen, no_stories, stories_after, stories_of, record_seen}
use Rattle.line_record.specs.Stories.{kept_seen, may_leave, message_story, piece_begun, sent_with, up_kept, up_marked}
use Rattle.line_record.proofs.SendStories.{face_by, face, face_at, number_place, changed_here, changed_other, changed_length, AreOwn, Follows, GoOn}
use Rattle.line_record.proofs.SendStories.{go_through, stay, line_on, begun_on, may_end_on, left_on, marked_on, own_on, follows_on, GoesOn}
use Rattle.line_record.proofs.SendStories.{goes_through, sends_begin, settled_so, begun_so, last_number, own_sent, follows_sent}

-- # What is handed up

came_face : (n event : ℕ) (at_last : Option ℕ) (k : StoryKind) (first : ℕ) (reached : Option ℕ) → face_by k first reached ≡ Some (event, at_last)
    → face_by k first (or_first reached true n) ≡ Some (event, or_first at_last true n)
came_face n event at_last kinds.Datagram first reached is =
    let parts = some_pair_parts first event reached at_last is in
    ap (λ (k : ℕ). Some (k, or_first reached true n)) parts.0 ∙ ap (λ (o : Option ℕ). Some (event, or_first o true n)) parts.1
came_face n event at_last kinds.Setup first reached is = absurd (none-some (event, at_last) is)
came_face n event at_last kinds.Joining first reached is = absurd (none-some (event, at_last) is)
came_face n event at_last kinds.Renewal first reached is = absurd (none-some (event, at_last) is)
came_face n event at_last kinds.Order first reached is = absurd (none-some (event, at_last) is)
came_face n event at_last kinds.Injection first reached is = absurd (none-some (event, at_last) is)
came_face n event at_last kinds.Broadcast first reached is = absurd (none-some (event, at_last) is)
came_face n event at_last kinds.Walk first reached is = absurd (none-some (event, at_last) is)
came_face n event at_last kinds.Line first reached is = absurd (none-some (event, at_last) is)

came_here : (n number event : ℕ) (at_last : Option ℕ) (stories : List Story) → face_at number stories ≡ Some (event, at_last)
    → face_at number (changed_at number (came n) stories) ≡ Some (event, or_first at_last true n)
came_here n number event at_last stories is =
    option_and_then_some face (numbered stories number) (event, at_last) is
    (λ x there faced. ap (option_and_then face) (changed_here (came n) number stories x there) ∙ came_face n event at_last x.kind x.first x.reached faced)

same_first : (at_last : Option ℕ) (n : ℕ) → or_first at_last false n ≡ at_last
same_first None n = refl
same_first (Some m) n = refl

up_length : (o : Option ℕ) (n : ℕ) (sent : List ℕ) (stories : List Story) → length (up_marked o n sent stories) ≡ length stories
up_length None n sent stories = refl
up_length (Some note) n sent stories = by_story (numbered sent note)
  where
    by_story : (o : Option ℕ) → length {A = Story} (elim o [ None ↦ stories | Some story ↦ changed_at story (came n) stories ]) ≡ length stories
    by_story None = refl
    by_story (Some story) = changed_length (came n) story stories

-- an event of this number that hands up a datagram, or none
follows_up : (o : Option ℕ) (n send event : ℕ) (at_last : Option ℕ) (sent : List ℕ) (count : ℕ) (stories : List Story) → AreOwn sent count
    → Follows send event at_last sent stories → Follows send event (or_first at_last (is_of o send) n) sent (up_marked o n sent stories)
follows_up None n send event at_last sent count stories own f =
    record { number = f.number; owner = f.owner; recorded = f.recorded ∙ ap (λ (c : Option ℕ). Some (event, c)) (sym (same_first at_last n)) }
follows_up (Some note) n send event at_last sent count stories own f = by_test (note == send) refl
  where
    marked_story : Option ℕ → List Story
    marked_story o = elim o [ None ↦ stories | Some story ↦ changed_at story (came n) stories ]

    other : (o : Option ℕ) → numbered sent note ≡ o → note ≢ send → face_at f.number (marked_story o) ≡ face_at f.number stories
    other None is apart = refl
    other (Some story) is apart =
        changed_other (came n) story f.number stories (λ same. apart (own.one note send story is (f.owner ∙ ap Some (sym same))))

    by_test : (b : Bool) → (note == send) ≡ b
        → Follows send event (or_first at_last b n) sent (marked_story (numbered sent note))
    by_test true is =
        let here : numbered sent note ≡ Some f.number = ap (λ (k : ℕ). numbered sent k) (eqb-true note send is) ∙ f.owner in
        record {
          number = f.number;
          owner = f.owner;
          recorded = ap (λ (o : Option ℕ). face_at f.number (marked_story o)) here ∙ came_here n f.number event at_last stories f.recorded;
        }
    by_test false is =
        record {
          number = f.number;
          owner = f.owner;
          recorded =
              other (numbered sent note) refl (eqb-false note send is) ∙ f.recorded ∙ ap (λ (c : Option ℕ). Some (event, c)) (sym (same_first at_last n));
        }

-- # What an event does to what nodes keep, and its flights

kept_on : (e : RecordedEvent) (n story : ℕ) (s : Stories) → GoesOn s (kept_seen e n story s)
unfolding kept_seen
kept_on e n story s =
    let a = kept_ended e n s in
    let b = up_kept e a in
    let c = kept_begun (waiting_kept e n story) b in
    record {
      sent = refl;
      on = go_through s.stories a.stories (piece_begun e n c).stories (may_end_on (may_end e) n e s.keeping s.stories)
          (go_through a.stories c.stories (piece_begun e n c).stories (begun_on (waiting_kept e n story) a.stories)
          (begun_on (piece_kept e n c.courses c.keeping) c.stories));
    }

announced_on : (e : RecordedEvent) (flights : List RecordedFlight) (s : Stories) → GoesOn s (announced e flights s)
unfolding announced
announced_on e flights s =
    let about = message_about e flights in
    record {
      sent = refl;
      on = begun_on (message_kept about e (length s.owners) (message_story about (last_owner s.owners) s) (made_by e flights)) s.stories;
    }

leave_on : (b : Bool) (owner node : ℕ) (keeping : List Kept) (xs : List Story) → GoOn xs (if b then stories_left owner node keeping xs else xs)
leave_on true owner node keeping xs = left_on (has_kept false owner node keeping) owner xs
leave_on false owner node keeping xs = stay xs xs refl (λ n. refl)

flight_on : (f : RecordedFlight) (s : Stories) → GoesOn s (flight_seen f s)
unfolding flight_seen
flight_on f s =
    let owner = flight_owner f (last_owner s.owners) s in
    record { sent = refl; on = leave_on (may_leave f) owner f.from s.keeping s.stories }

flights_on : (fs : List RecordedFlight) (s : Stories) → GoesOn s (flights_seen fs s)
flights_on [] s = record { sent = refl; on = stay s.stories s.stories refl (λ n. refl) }
flights_on (f ∷ fs) s = goes_through s (flight_seen f s) (flights_seen fs (flight_seen f s)) (flight_on f s) (flights_on fs (flight_seen f s))

ended_on : (s : Stories) → GoesOn s (ended s)
ended_on s = record { sent = refl; on = line_on (unready None s.ready) (length s.owners + 1) s.stories }

-- # One event

-- no two sends have one story, and all that have one are there
abbrev AreOwnIn : Stories → Type 0
AreOwnIn s = AreOwn s.sent (length s.stories)

abbrev FollowsIn : ℕ → ℕ → Option ℕ → Stories → Type 0
FollowsIn send event at_last s = Follows send event at_last s.sent s.stories

goes_own : (s t : Stories) → GoesOn s t → AreOwnIn s → AreOwnIn t
goes_own s t on own =
    subst (λ (xs : List ℕ). AreOwn xs (length t.stories)) (sym on.sent) (own_on s.sent (length s.stories) (length t.stories) on.on.longer own)

goes_follow : (send event : ℕ) (at_last : Option ℕ) (s t : Stories) → GoesOn s t → FollowsIn send event at_last s → FollowsIn send event at_last t
goes_follow send event at_last s t on f =
    subst (λ (xs : List ℕ). Follows send event at_last xs t.stories) (sym on.sent) (follows_on send event at_last s.sent s.stories t.stories on.on f)

none_ready : (act : Act) (s : Stories) → (settled act s).ready ≡ []
unfolding settled
none_ready act s = refl

settled_number : (act : Act) (s : Stories) → length (settled act s).owners ≡ next_event s
settled_number act s = omega (arith, settled_count act s, ap length (none_ready act s))

-- the list of sends, and the stories, after an event of a story said what it says
record IsRecorded (e : RecordedEvent) (n story : ℕ) (s t : Stories) : Type 0 where
  sent : t.sent ≡ sent_with (sends e.act e.answer) story s.sent
  stories : t.stories ≡ up_marked e.up n (sent_with (sends e.act e.answer) story s.sent) (changed_at story (marked n e) s.stories)

recorded_so : (e : RecordedEvent) (n story : ℕ) (s : Stories) → IsRecorded e n story s (stories_after e n story s)
unfolding stories_after
recorded_so e n story s = record { sent = refl; stories = refl }

recorded_length : (e : RecordedEvent) (n story : ℕ) (s : Stories) → length (stories_after e n story s).stories ≡ length s.stories
recorded_length e n story s =
    ap length (recorded_so e n story s).stories
    ∙ up_length e.up n (sent_with (sends e.act e.answer) story s.sent) (changed_at story (marked n e) s.stories)
    ∙ changed_length (marked n e) story s.stories

settled_own : (e : RecordedEvent) (s : Stories) → AreOwnIn s
    → AreOwn (sent_with (sends e.act e.answer) (last_owner (settled e.act s).owners) (settled e.act s).sent) (length (settled e.act s).stories)
settled_own e s own =
    let on = settled_so e.act s in
    subst
    (λ (xs : List ℕ). AreOwn (sent_with (sends e.act e.answer) (last_owner (settled e.act s).owners) xs) (length (settled e.act s).stories))
    (sym on.sent)
    (own_sent (sends e.act e.answer) s.sent (last_owner (settled e.act s).owners) (length s.stories) (length (settled e.act s).stories) on.on.longer
    (λ is. let begun = begun_so e.act s (sends_begin e.act e.answer is).0 in (begun.owner, begun.longer)) own)

recorded_own : (e : RecordedEvent) (s : Stories) → AreOwnIn s
    → AreOwnIn (stories_after e (length (settled e.act s).owners) (last_owner (settled e.act s).owners) (settled e.act s))
recorded_own e s own =
    let t = settled e.act s in
    let n = length t.owners in
    let story = last_owner t.owners in
    let is = recorded_so e n story t in
    subst (λ (xs : List ℕ). AreOwn xs (length (stories_after e n story t).stories)) (sym is.sent)
    (subst (λ (k : ℕ). AreOwn (sent_with (sends e.act e.answer) story t.sent) k) (sym (recorded_length e n story t)) (settled_own e s own))

readied_on : (node : ℕ) (e : RecordedEvent) (s : Stories) → GoesOn s (event_by (Some node) e s)
readied_on node e s = record { sent = refl; on = may_end_on (may_end e) (next_event s) e s.keeping s.stories }

event_own_by : (o : Option ℕ) (e : RecordedEvent) (s : Stories) → AreOwnIn s → AreOwnIn (event_by o e s)
event_own_by (Some node) e s own = goes_own s (event_by (Some node) e s) (readied_on node e s) own
event_own_by None e s own =
    let t = settled e.act s in
    let n = length t.owners in
    let story = last_owner t.owners in
    goes_own (stories_after e n story t) (kept_seen e n story (stories_after e n story t)) (kept_on e n story (stories_after e n story t))
    (recorded_own e s own)

event_own : (e : RecordedEvent) (s : Stories) → AreOwnIn s → AreOwnIn (event_seen e s)
unfolding event_seen
event_own e s own = event_own_by (prepares e.act) e s own

-- a send that was followed, when an event of this number said what it says
recorded_follows : (e : RecordedEvent) (n story send event : ℕ) (at_last : Option ℕ) (s : Stories)
    → AreOwn (sent_with (sends e.act e.answer) story s.sent) (length s.stories)
    → Follows send event at_last (sent_with (sends e.act e.answer) story s.sent) (changed_at story (marked n e) s.stories)
    → FollowsIn send event (or_first at_last (is_of e.up send) n) (stories_after e n story s)
recorded_follows e n story send event at_last s own f =
    let is = recorded_so e n story s in
    let sent = sent_with (sends e.act e.answer) story s.sent in
    subst (λ (xs : List ℕ). Follows send event (or_first at_last (is_of e.up send) n) xs (stories_after e n story s).stories) (sym is.sent)
    (subst (λ (xs : List Story). Follows send event (or_first at_last (is_of e.up send) n) sent xs) (sym is.stories)
    (follows_up e.up n send event at_last sent (length s.stories) (changed_at story (marked n e) s.stories) own f))

-- the event of a story, by what is followed when it is settled
settled_follows : (e : RecordedEvent) (send event : ℕ) (at_last : Option ℕ) (s : Stories) → AreOwnIn s → prepares e.act ≡ None
    → Follows send event at_last (sent_with (sends e.act e.answer) (last_owner (settled e.act s).owners) (settled e.act s).sent) (settled e.act s).stories
    → FollowsIn send event (or_first at_last (is_of e.up send) (next_event s)) (event_seen e s)
unfolding event_seen
settled_follows e send event at_last s own none f =
    let t = settled e.act s in
    let n = length t.owners in
    let story = last_owner t.owners in
    let r = stories_after e n story t in
    subst (λ (o : Option ℕ). FollowsIn send event (or_first at_last (is_of e.up send) (next_event s)) (event_by o e s)) (sym none)
    (subst (λ (k : ℕ). FollowsIn send event (or_first at_last (is_of e.up send) k) (kept_seen e n story r)) (settled_number e.act s)
    (goes_follow send event (or_first at_last (is_of e.up send) n) r (kept_seen e n story r) (kept_on e n story r)
    (recorded_follows e n story send event at_last t (settled_own e s own)
    (follows_on send event at_last (sent_with (sends e.act e.answer) story t.sent) t.stories (changed_at story (marked n e) t.stories)
    (marked_on n e story t.stories) f))))

-- a send that was followed before
event_follows : (e : RecordedEvent) (send event : ℕ) (at_last : Option ℕ) (s : Stories) → ReadiesOnly e → AreOwnIn s → FollowsIn send event at_last s
    → FollowsIn send event (or_first at_last (is_of e.up send) (next_event s)) (event_seen e s)
unfolding event_seen
event_follows e send event at_last s only own f = by_ready (prepares e.act) refl
  where
    readied : (node : ℕ) → FollowsIn send event at_last (event_by (Some node) e s)
    readied node = goes_follow send event at_last s (event_by (Some node) e s) (readied_on node e s) f

    by_ready : (o : Option ℕ) → prepares e.act ≡ o → FollowsIn send event (or_first at_last (is_of e.up send) (next_event s)) (event_seen e s)
    by_ready (Some node) is =
        let quiet : or_first at_last (is_of e.up send) (next_event s) ≡ at_last =
        ap (λ (u : Option ℕ). or_first at_last (is_of u send) (next_event s)) (only (ap is_some is)) ∙ same_first at_last (next_event s) in
        subst (λ (c : Option ℕ). FollowsIn send event c (event_by (prepares e.act) e s)) (sym quiet)
        (subst (λ (o : Option ℕ). FollowsIn send event at_last (event_by o e s)) (sym is) (readied node))
    by_ready None is =
        let t = settled e.act s in
        let on = settled_so e.act s in
        settled_follows e send event at_last s own is
        (follows_sent (sends e.act e.answer) (last_owner t.owners) send event at_last t.sent t.stories (goes_follow send event at_last s t on f))

-- a send that begins
event_begins : (e : RecordedEvent) (s : Stories) → AreOwnIn s → sends e.act e.answer ≡ true
    → FollowsIn (length s.sent + 1) (next_event s) (or_first None (is_of e.up (length s.sent + 1)) (next_event s)) (event_seen e s)
event_begins e s own is =
    let t = settled e.act s in
    let asks = sends_begin e.act e.answer is in
    let begun = begun_so e.act s asks.0 in
    let on = settled_so e.act s in
    settled_follows e (length s.sent + 1) (next_event s) None s own asks.1
    (record {
      number = length t.stories;
      owner =
          ap (λ (b : Bool). numbered (sent_with b (last_owner t.owners) t.sent) (length s.sent + 1)) is
          ∙ ap (λ (xs : List ℕ). numbered (xs ++ (last_owner t.owners ∷ [])) (length s.sent + 1)) on.sent
          ∙ last_number s.sent (last_owner t.owners) ∙ ap Some begun.owner;
      recorded = begun.recorded;
    })

-- # A whole record

told_on : (e : RecordedEvent) (flights : List RecordedFlight) (s : Stories) → GoesOn (event_seen e s) (record_seen e flights s)
unfolding record_seen
told_on e flights s =
    let t = event_seen e s in
    goes_through t (announced e flights t) (flights_seen (made_by e flights) (announced e flights t)) (announced_on e flights t)
    (flights_on (made_by e flights) (announced e flights t))

told_own : (e : RecordedEvent) (flights : List RecordedFlight) (s : Stories) → AreOwnIn s → AreOwnIn (record_seen e flights s)
told_own e flights s own = goes_own (event_seen e s) (record_seen e flights s) (told_on e flights s) (event_own e s own)

events_own : (flights : List RecordedFlight) (es : List RecordedEvent) (s : Stories) → AreOwnIn s → AreOwnIn (events_seen flights es s)
events_own flights [] s own = own
events_own flights (e ∷ es) s own = events_own flights es (record_seen e flights s) (told_own e flights s own)

abbrev or_else : Option ℕ → Option ℕ → Option ℕ
or_else None other = other
or_else (Some n) other = Some n

first_then : (at_last : Option ℕ) (b : Bool) (n : ℕ) (rest : Option ℕ) → or_else (or_first at_last b n) rest ≡ or_else at_last (if b then Some n else rest)
first_then None true n rest = refl
first_then None false n rest = refl
first_then (Some m) b n rest = refl

all_first : (e : RecordedEvent) (es : List RecordedEvent) → All ReadiesOnly (e ∷ es) → ReadiesOnly e
all_first e es only = only 0 e (omega arith)

all_rest : (e : RecordedEvent) (es : List RecordedEvent) → All ReadiesOnly (e ∷ es) → All ReadiesOnly es
all_rest e es only = λ k d inside. only (suc k) d (omega (arith, inside))

events_follow : (flights : List RecordedFlight) (es : List RecordedEvent) (send event : ℕ) (at_last : Option ℕ) (s : Stories) → All ReadiesOnly es → AreOwnIn s
    → FollowsIn send event at_last s → FollowsIn send event (or_else at_last (first_up send (next_event s) es)) (events_seen flights es s)
events_follow flights [] send event None s only own f = f
events_follow flights [] send event (Some n) s only own f = f
events_follow flights (e ∷ es) send event at_last s only own f =
    let t = record_seen e flights s in
    let c = or_first at_last (is_of e.up send) (next_event s) in
    let next : next_event t ≡ next_event s + 1 = omega (arith, one_more e flights s) in
    let rest =
    events_follow flights es send event c t (all_rest e es only) (told_own e flights s own)
    (goes_follow send event c (event_seen e s) t (told_on e flights s) (event_follows e send event at_last s (all_first e es only) own f)) in
    let numbers : or_else c (first_up send (next_event t) es) ≡ or_else at_last (first_up send (next_event s) (e ∷ es)) =
    ap (λ (k : ℕ). or_else c (first_up send k es)) next
    ∙ first_then at_last (is_of e.up send) (next_event s) (first_up send (next_event s + 1) es) in
    subst (λ (o : Option ℕ). FollowsIn send event o (events_seen flights es t)) numbers rest

events_through : (flights : List RecordedFlight) (before after : List RecordedEvent) (s : Stories)
    → events_seen flights (before ++ after) s ≡ events_seen flights after (events_seen flights before s)
events_through flights [] after s = refl
events_through flights (e ∷ es) after s = events_through flights es after (record_seen e flights s)

-- the number of sends after an event
one_sent : (e : RecordedEvent) (flights : List RecordedFlight) (s : Stories)
    → length (record_seen e flights s).sent ≡ length s.sent + (if sends e.act e.answer then 1 else 0)
unfolding event_seen
one_sent e flights s = ap length (told_on e flights s).sent ∙ by_ready (prepares e.act) refl
  where
    with_sent : (b : Bool) (story : ℕ) (xs : List ℕ) → length (sent_with b story xs) ≡ length xs + (if b then 1 else 0)
    with_sent true story xs = length-append xs (story ∷ [])
    with_sent false story xs = omega arith

    sends_none : (b : Bool) (node : ℕ) → sends e.act e.answer ≡ b → prepares e.act ≡ Some node → length s.sent ≡ length s.sent + (if b then 1 else 0)
    sends_none true node asks is = absurd (none-some node (sym (sends_begin e.act e.answer asks).1 ∙ is))
    sends_none false node asks is = omega arith

    by_none : length (event_by None e s).sent ≡ length s.sent + (if sends e.act e.answer then 1 else 0)
    by_none =
        let t = settled e.act s in
        let n = length t.owners in
        let story = last_owner t.owners in
        ap length ((kept_on e n story (stories_after e n story t)).sent ∙ (recorded_so e n story t).sent)
        ∙ with_sent (sends e.act e.answer) story t.sent
        ∙ ap (λ (xs : List ℕ). length xs + (if sends e.act e.answer then 1 else 0)) (settled_so e.act s).sent

    by_ready : (o : Option ℕ) → prepares e.act ≡ o → length (event_seen e s).sent ≡ length s.sent + (if sends e.act e.answer then 1 else 0)
    by_ready (Some node) is =
        ap (λ (o : Option ℕ). length (event_by o e s).sent) is ∙ sends_none (sends e.act e.answer) node refl is
    by_ready None is = ap (λ (o : Option ℕ). length (event_by o e s).sent) is ∙ by_none

events_sent : (flights : List RecordedFlight) (es : List RecordedEvent) (s : Stories) → length (events_seen flights es s).sent ≡ length s.sent + sends_in es
events_sent flights [] s = omega arith
events_sent flights (e ∷ es) s = omega (arith, events_sent flights es (record_seen e flights s), one_sent e flights s)

no_numbers : (k i : ℕ) → numbered [] k ≡ Some i → ⊥
no_numbers zero i is = none-some i is
no_numbers (suc k) i is = none-some i (sym (number_place [] k) ∙ is)

none_own : AreOwnIn no_stories
none_own = record { within = λ k i is. absurd (no_numbers k i is); one = λ a b i x y. absurd (no_numbers a i x) }

face_parts : (k : StoryKind) (first event : ℕ) (reached at_last : Option ℕ) → face_by k first reached ≡ Some (event, at_last)
    → (k ≡ kinds.Datagram) × (first ≡ event) × (reached ≡ at_last)
face_parts kinds.Datagram first event reached at_last is =
    let parts = some_pair_parts first event reached at_last is in
    (refl, parts.0, parts.1)
face_parts kinds.Setup first event reached at_last is = absurd (none-some (event, at_last) is)
face_parts kinds.Joining first event reached at_last is = absurd (none-some (event, at_last) is)
face_parts kinds.Renewal first event reached at_last is = absurd (none-some (event, at_last) is)
face_parts kinds.Order first event reached at_last is = absurd (none-some (event, at_last) is)
face_parts kinds.Injection first event reached at_last is = absurd (none-some (event, at_last) is)
face_parts kinds.Broadcast first event reached at_last is = absurd (none-some (event, at_last) is)
face_parts kinds.Walk first event reached at_last is = absurd (none-some (event, at_last) is)
face_parts kinds.Line first event reached at_last is = absurd (none-some (event, at_last) is)

-- # The verdict of the story of a datagram

begun_verdict : (x : Story) (ends : Ends) (e : RecordedEvent) (at_last : Option ℕ) → is_begun e.answer ≡ true → x.kind ≡ kinds.Datagram → x.reached ≡ at_last
    → verdict_of x ends e ≡ reached_or at_last (unreached_datagram ends)
begun_verdict x ends e at_last begun kind reached =
    ap (λ (k : StoryKind). verdict_by k x ends e) kind
    ∙ ap (λ (b : Bool). if not b then verdicts.NotBegun else reached_or x.reached (unreached_datagram ends)) begun
    ∙ ap (λ (o : Option ℕ). reached_or o (unreached_datagram ends)) reached

-- a verdict of another kind is not that it came
came_at : Verdict → Option ℕ
came_at (verdicts.Reached n) = Some n
came_at _ = None

unreached_at : (ends : Ends) → came_at (unreached_datagram ends) ≡ None
unfolding came_at
unreached_at ends = by_bears ends.bears (ends.broken == 0)
  where
    by_bears : (b c : Bool) → came_at (if b then (if c then verdicts.Loose ends.last else verdicts.Ended ends.broken) else verdicts.NeverLeft ends.last) ≡ None
    by_bears true true = refl
    by_bears true false = refl
    by_bears false c = refl

never_reached : (x : Story) (ends : Ends) (e : RecordedEvent) (n : ℕ) → verdict_of x ends e ≡ reached_or None (unreached_datagram ends)
    → verdict_of x ends e ≡ verdicts.Reached n → ⊥
unfolding came_at
never_reached x ends e n is reached = none-some n (sym (unreached_at ends) ∙ ap came_at (sym is ∙ reached))

story_so : (send event : ℕ) (at_last : Option ℕ) (e : RecordedEvent) (s : Stories) → is_begun e.answer ≡ true → FollowsIn send event at_last s
    → IsDatagramStory send event at_last e s
story_so send event at_last e s begun f =
    option_and_then_some face (numbered s.stories f.number) (event, at_last) f.recorded
    (λ x there faced.
    let parts = face_parts x.kind x.first event x.reached at_last faced in
    record {
      number = f.number;
      story = x;
      sent = f.owner;
      recorded = there;
      kind = parts.0;
      first = parts.1;
      came = λ n is ends. begun_verdict x ends e (Some n) begun parts.0 (parts.2 ∙ is);
      never = λ is ends n. never_reached x ends e n (begun_verdict x ends e None begun parts.0 (parts.2 ∙ is));
    })

followed_from : (e : RecordedEvent) (after : List RecordedEvent) (flights : List RecordedFlight) (s : Stories) → All ReadiesOnly (e ∷ after)
    → sends e.act e.answer ≡ true → AreOwnIn s
    → FollowsIn (length s.sent + 1) (next_event s) (first_up (length s.sent + 1) (next_event s) (e ∷ after)) (events_seen flights (e ∷ after) s)
followed_from e after flights s only is own =
    let send = length s.sent + 1 in
    let event = next_event s in
    let t = record_seen e flights s in
    let c = or_first None (is_of e.up send) event in
    let next : next_event t ≡ event + 1 = omega (arith, one_more e flights s) in
    let rest =
    events_follow flights after send event c t (all_rest e after only) (told_own e flights s own)
    (goes_follow send event c (event_seen e s) t (told_on e flights s) (event_begins e s own is)) in
    let numbers : or_else c (first_up send (next_event t) after) ≡ first_up send event (e ∷ after) =
    ap (λ (k : ℕ). or_else c (first_up send k after)) next ∙ first_then None (is_of e.up send) event (first_up send (event + 1) after) in
    subst (λ (o : Option ℕ). FollowsIn send event o (events_seen flights after t)) numbers rest

sent_sends : (e : RecordedEvent) (from to octets : ℕ) → e.act ≡ acts.Send from to octets → (e.answer ≡ answers.Sent) ⊎ (e.answer ≡ answers.Waiting)
    → sends e.act e.answer ≡ true
sent_sends e from to octets act is =
    ap (λ (a : Act). sends a e.answer) act
    ∙ ⊎_elim (λ (one : e.answer ≡ answers.Sent). ap is_sent one) (λ (other : e.answer ≡ answers.Waiting). ap is_sent other) is

sent_begun : (e : RecordedEvent) → (e.answer ≡ answers.Sent) ⊎ (e.answer ≡ answers.Waiting) → is_begun e.answer ≡ true
sent_begun e is = ⊎_elim (λ (one : e.answer ≡ answers.Sent). ap is_begun one) (λ (other : e.answer ≡ answers.Waiting). ap is_begun other) is

pub datagrams_are_reached : DatagramsAreReached
unfolding stories_of
datagrams_are_reached before after e flights from to octets only act taken =
    let is = sent_sends e from to octets act taken in
    let s = events_seen flights before no_stories in
    let all = events_seen flights (before ++ (e ∷ after)) no_stories in
    let send : length s.sent + 1 ≡ sends_in before + 1 = omega (arith, events_sent flights before no_stories) in
    let event : next_event s ≡ length before + 1 = omega (arith, events_count flights before no_stories) in
    let found =
    subst (λ (t : Stories). FollowsIn (length s.sent + 1) (next_event s) (first_up (length s.sent + 1) (next_event s) (e ∷ after)) t)
    (sym (events_through flights before (e ∷ after) no_stories))
    (followed_from e after flights s only is (events_own flights before no_stories none_own)) in
    let numbered_so =
    subst (λ (k : ℕ). FollowsIn k (length before + 1) (first_up k (length before + 1) (e ∷ after)) all) send
    (subst (λ (k : ℕ). FollowsIn (length s.sent + 1) k (first_up (length s.sent + 1) k (e ∷ after)) all) event found) in
    story_so (sends_in before + 1) (length before + 1) (first_up (sends_in before + 1) (length before + 1) (e ∷ after)) e (ended all) (sent_begun e taken)
    (goes_follow (sends_in before + 1) (length before + 1) (first_up (sends_in before + 1) (length before + 1) (e ∷ after)) all (ended all)
    (ended_on all) numbered_so)
