-- A datagram that waits is kept by its story.
use Rattle.std.proofs.Common.{◌≡◌, ℕ, ◌+◌, Bool, true, false, List, [], ◌∷◌, ◌++◌, length, Option, Some, None, refl, sym, ap, subst, arith}
use Rattle.std.specs.Prelude.{◌&&◌, if◌then◌else◌}
use Rattle.line_events.specs.declared.event.Answer.{Answer}
use Rattle.line_progress.specs.Lists.{Among, Here, Later}
use Rattle.line_progress.proofs.BodyFates.{among_back}
use Rattle.line_progress.proofs.PieceFates.{among_front}
use Rattle.line_record.specs.declared.act.Act.{Act}
use Rattle.line_record.specs.declared.act.Act.TheVariants as acts
use Rattle.line_record.specs.declared.kept.Kept.{Kept}
use Rattle.line_record.specs.declared.recorded.RecordedEvent.{RecordedEvent}
use Rattle.line_record.specs.declared.recorded.RecordedFlight.{RecordedFlight}
use Rattle.line_record.specs.Kinds.{prepares, sends}
use Rattle.line_record.specs.RunRecords.{made_by}
use Rattle.line_record.specs.NodeItems.{is_waiting, keeping_begun, keeping_left, message_about, message_kept, new_kept, piece_kept, waiting_kept}
use Rattle.line_record.specs.Stories.{Stories, announced, event_by, event_seen, events_seen, flight_owner, flight_seen, flights_seen, kept_begun}
use Rattle.line_record.specs.Stories.{kept_ended, kept_seen, last_owner, may_leave, message_story, no_stories, stories_after, settled, record_seen, up_kept}
use Rattle.line_record.proofs.Counts.{events_count, seen}
use Rattle.story_laws.specs.Keepings.{BeginsToWait, WaitsAreKept}
use Rattle.story_laws.proofs.Keepings.{settled_number}

true_false : true ≡ false → ⊥
true_false e = cc

readies_none : (act : Act) (word : Answer) → sends act word ≡ true → prepares act ≡ None
readies_none (acts.Coordinator eui) word is = refl
readies_none (acts.Meter eui) word is = refl
readies_none (acts.Depot node) word is = refl
readies_none (acts.Near a b) word is = refl
readies_none (acts.Counter node) word is = refl
readies_none (acts.Number node) word is = refl
readies_none (acts.Allow node) word is = absurd (true_false (sym is))
readies_none (acts.RandomOctets node) word is = absurd (true_false (sym is))
readies_none (acts.Join node agent) word is = refl
readies_none (acts.Leave node) word is = refl
readies_none (acts.Send from to octets) word is = refl
readies_none (acts.Deliver flight node cost) word is = refl
readies_none (acts.Inject node cost octets) word is = refl
readies_none (acts.Lose flight) word is = refl
readies_none (acts.Break node next) word is = refl
readies_none (acts.Tick seconds) word is = refl
readies_none (acts.Restart node) word is = refl
readies_none (acts.Cut node nth keeps_new) word is = refl
readies_none (acts.Rekey index) word is = refl
readies_none (acts.Challenge node) word is = refl
readies_none (acts.Activate node index) word is = refl
readies_none (acts.Kick node) word is = refl
readies_none (acts.Show node) word is = refl
readies_none acts.Checks word is = refl
readies_none (acts.Bcast node octets) word is = refl
readies_none (acts.Scan node) word is = refl
readies_none (acts.Choose node k) word is = refl
readies_none (acts.Path from to) word is = refl

-- # It is there still

begun_inside : (k : Kept) (o : Option Kept) (xs : List Kept) → Among k xs → Among k (keeping_begun o xs)
begun_inside k None xs inside = inside
begun_inside k (Some other) xs inside = among_front k xs (other ∷ []) inside

begun_last : (k : Kept) (o : Option Kept) (xs : List Kept) → o ≡ Some k → Among k (keeping_begun o xs)
begun_last k o xs is = subst (λ (p : Option Kept). Among k (keeping_begun p xs)) (sym is) (among_back k xs (k ∷ []) (Here []))

-- what is kept after an event of a story, the stories of events being the same
record Holds (k : Kept) (owners : List ℕ) (t : Stories) : Type 0 where
  inside : Among k t.keeping
  same : t.owners ≡ owners

announced_holds : (k : Kept) (owners : List ℕ) (e : RecordedEvent) (flights : List RecordedFlight) (t : Stories) → Holds k owners t
    → Holds k owners (announced e flights t)
unfolding announced
announced_holds k owners e flights t h = record {
  inside =
      begun_inside k
      (message_kept (message_about e flights) e (length t.owners) (message_story (message_about e flights) (last_owner t.owners) t)
      (made_by e flights)) t.keeping h.inside;
  same = h.same;
}

flight_holds : (k : Kept) (owners : List ℕ) (f : RecordedFlight) (t : Stories) → may_leave f ≡ false → Holds k owners t → Holds k owners (flight_seen f t)
unfolding flight_seen
flight_holds k owners f t stays h = record {
  inside =
      subst (λ (b : Bool). Among k (if b then keeping_left (flight_owner f (last_owner t.owners) t) f.from t.keeping else t.keeping)) (sym stays) h.inside;
  same = h.same;
}

flights_hold : (k : Kept) (owners : List ℕ) (fs : List RecordedFlight) (t : Stories) → ((f : RecordedFlight) → Among f fs → may_leave f ≡ false)
    → Holds k owners t → Holds k owners (flights_seen fs t)
flights_hold k owners [] t stay h = h
flights_hold k owners (f ∷ fs) t stay h =
    flights_hold k owners fs (flight_seen f t) (λ g in_fs. stay g (Later f fs in_fs)) (flight_holds k owners f t (stay f (Here fs)) h)

-- # One event

module _ (before : List RecordedEvent) (e : RecordedEvent) (s : Stories) (count : seen s ≡ length before) (asks : sends e.act e.answer ≡ true)
    (waits : is_waiting e.answer ≡ true) where
  abbrev owned : Stories
  owned = settled e.act s

  abbrev number : ℕ
  number = length owned.owners

  abbrev story : ℕ
  story = last_owner owned.owners

  abbrev kept : Kept
  kept = new_kept story e number 0 false

  begun : waiting_kept e number story ≡ Some kept
  begun = λ i. if asks i && waits i then Some kept else None

  kept_holds : Holds kept owned.owners (kept_seen e number story (stories_after e number story owned))
  unfolding kept_seen stories_after
  kept_holds =
      let b = up_kept e (kept_ended e number (stories_after e number story owned)) in
      let c = kept_begun (waiting_kept e number story) b in
      record {
        inside = begun_inside kept (piece_kept e number c.courses c.keeping) c.keeping (begun_last kept (waiting_kept e number story) b.keeping begun);
        same = refl;
      }

  event_holds : Holds kept owned.owners (event_seen e s)
  unfolding event_seen
  event_holds = subst (λ (o : Option ℕ). Holds kept owned.owners (event_by o e s)) (sym (readies_none e.act e.answer asks)) kept_holds

  recorded_begins : (flights : List RecordedFlight) → ((f : RecordedFlight) → Among f (made_by e flights) → may_leave f ≡ false)
      → BeginsToWait e (length before + 1) (record_seen e flights s)
  unfolding record_seen
  recorded_begins flights stay =
      let t = event_seen e s in
      let h =
      flights_hold kept owned.owners (made_by e flights) (announced e flights t) stay (announced_holds kept owned.owners e flights t event_holds) in
      let counted = settled_number e.act s in
      record {
        kept = kept;
        inside = h.inside;
        waits = refl;
        event = omega (arith, counted, count);
        node = refl;
        story = ap last_owner (sym h.same);
      }

events_through : (flights : List RecordedFlight) (before after : List RecordedEvent) (s : Stories)
    → events_seen flights (before ++ after) s ≡ events_seen flights after (events_seen flights before s)
events_through flights [] after s = refl
events_through flights (e ∷ es) after s = events_through flights es after (record_seen e flights s)

pub waits_are_kept : WaitsAreKept
waits_are_kept before e flights asks waits stay =
    let s = events_seen flights before no_stories in
    let counted = events_count flights before no_stories in
    let count : seen s ≡ length before = omega (arith, counted) in
    subst (λ (t : Stories). BeginsToWait e (length before + 1) t) (sym (events_through flights before (e ∷ []) no_stories))
    (recorded_begins before e s count asks waits flights stay)
