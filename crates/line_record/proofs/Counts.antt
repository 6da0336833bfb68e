-- Each event is owned by one story.
use Rattle.std.proofs.Common.{◌≡◌, ℕ, ◌+◌, ◌-◌, List, [], ◌∷◌, ◌++◌, length, Option, Some, None, refl, ◌∙◌, arith, length-append}
use Rattle.line_record.specs.declared.recorded.RecordedEvent.{RecordedEvent}
use Rattle.line_record.specs.declared.recorded.RecordedFlight.{RecordedFlight}
use Rattle.line_record.specs.declared.act.Act.{Act}
use Rattle.line_record.specs.declared.story.Story.{Story}
use Rattle.line_record.specs.Kinds.{joins, prepares}
use Rattle.line_record.specs.RunRecords.{made_by}
use Rattle.line_record.specs.Stories.{Stories, no_stories, settled_by, settled, next_event, with_line, line_number, unready, number_at, place_of}
use Rattle.line_record.specs.Stories.{stories_after}
use Rattle.line_record.specs.Stories.{announced, event_by, event_seen, flight_seen, flights_seen, kept_seen, record_seen}
use Rattle.line_record.specs.Stories.{events_seen, ended, stories_of, ready_owners, last_owner}
use Rattle.line_record.specs.Laws.{EventsAreOwned}

-- how many events were seen
abbrev pub seen : Stories → ℕ
seen s = length s.owners + length s.ready

ready_count : (joined : Option ℕ) (story line : ℕ) (ready : List ℕ) → length (ready_owners joined story line ready) ≡ length ready
ready_count joined story line [] = refl
ready_count joined story line (node ∷ ready) = grind (arith, ready_count joined story line ready)

count_more : (owners readied ready : List ℕ) (story : ℕ) → length readied ≡ length ready
    → length ((owners ++ readied) ++ (story ∷ [])) + 0 ≡ length owners + length ready + 1
count_more owners readied ready story is = omega (arith, length-append (owners ++ readied) (story ∷ []), length-append owners readied, is)

settled_by_count : (stories : List Story) (line : ℕ) (act : Act) (first : ℕ) (s : Stories) → seen (settled_by stories line act first s) ≡ seen s + 1
settled_by_count stories line act first s =
    let story = number_at (place_of act stories s.courses) stories in
    count_more s.owners (ready_owners (joins act) story line s.ready) s.ready story (ready_count (joins act) story line s.ready)

pub settled_count : (act : Act) (s : Stories) → seen (settled act s) ≡ seen s + 1
unfolding settled
settled_count act s =
    settled_by_count (with_line (unready (joins act) s.ready) (length s.owners + 1) s.stories) (line_number (unready (joins act) s.ready) s.stories)
    act (next_event s) s

recorded_count : (e : RecordedEvent) (n story : ℕ) (s : Stories) → seen (stories_after e n story s) ≡ seen s
unfolding stories_after
recorded_count e n story s = refl

kept_count : (e : RecordedEvent) (n story : ℕ) (s : Stories) → seen (kept_seen e n story s) ≡ seen s
unfolding kept_seen
kept_count e n story s = refl

announced_count : (e : RecordedEvent) (flights : List RecordedFlight) (s : Stories) → seen (announced e flights s) ≡ seen s
unfolding announced
announced_count e flights s = refl

flight_count : (f : RecordedFlight) (s : Stories) → seen (flight_seen f s) ≡ seen s
unfolding flight_seen
flight_count f s = refl

event_count_by : (o : Option ℕ) (e : RecordedEvent) (s : Stories) → seen (event_by o e s) ≡ seen s + 1
event_count_by (Some node) e s = omega (arith, length-append s.ready (node ∷ []))
event_count_by None e s =
    let n = length (settled e.act s).owners in
    let story = last_owner (settled e.act s).owners in
    kept_count e n story (stories_after e n story (settled e.act s)) ∙ recorded_count e n story (settled e.act s) ∙ settled_count e.act s

event_count : (e : RecordedEvent) (s : Stories) → seen (event_seen e s) ≡ seen s + 1
unfolding event_seen
event_count e s = event_count_by (prepares e.act) e s

flights_count : (fs : List RecordedFlight) (s : Stories) → seen (flights_seen fs s) ≡ seen s
flights_count [] s = refl
flights_count (f ∷ fs) s = flights_count fs (flight_seen f s) ∙ flight_count f s

-- an event and its flights
pub one_more : (e : RecordedEvent) (flights : List RecordedFlight) (s : Stories) → seen (record_seen e flights s) ≡ seen s + 1
unfolding record_seen
one_more e flights s =
    flights_count (made_by e flights) (announced e flights (event_seen e s)) ∙ announced_count e flights (event_seen e s) ∙ event_count e s

pub events_count : (flights : List RecordedFlight) (es : List RecordedEvent) (s : Stories) → seen (events_seen flights es s) ≡ seen s + length es
events_count flights [] s = omega arith
events_count flights (e ∷ es) s =
    let rest = events_count flights es (record_seen e flights s) in
    let one = one_more e flights s in
    omega (arith, rest, one)

ended_count : (s : Stories) → length (ended s).owners ≡ seen s
ended_count s =
    let line = line_number (unready None s.ready) s.stories in
    omega (arith, length-append s.owners (ready_owners None 0 line s.ready), ready_count None 0 line s.ready)

pub events_are_owned : EventsAreOwned
unfolding stories_of
events_are_owned events flights = ended_count (events_seen flights events no_stories) ∙ omega (arith, events_count flights events no_stories)
