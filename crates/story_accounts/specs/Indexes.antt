-- What is looked up of a run again and again, by stories and flights.
use Rattle.std.specs.Prelude.{ℕ, ◌+◌, ◌-◌, ◌==◌, ◌&&◌, Bool, false, not, List, [], ◌∷◌, ◌++◌, length, replicate, slice_get}
use Rattle.std.specs.Prelude.{Option, None, Some, if◌then◌else◌}
use Rattle.frame_facts.specs.declared.gist.Gist.{Gist}
use Rattle.frame_facts.specs.declared.gist.Gist.TheVariants as gists
use Rattle.line_record.specs.declared.act.Act.{Act}
use Rattle.line_record.specs.declared.act.Act.TheVariants as acts
use Rattle.line_record.specs.declared.recorded.RecordedEvent.{RecordedEvent}
use Rattle.line_record.specs.declared.recorded.RecordedFlight.{RecordedFlight}
use Rattle.line_record.specs.declared.course.Course.{Course}
use Rattle.line_record.specs.Lists.{changed_at}
use Rattle.line_record.specs.RunRecords.{made_by, numbered}
use Rattle.line_record.specs.Verdicts.{first_nonzero, went_on}

-- # Lists by number

abbrev pub with_number : ℕ → List ℕ → List ℕ
with_number n numbers = numbers ++ (n ∷ [])

abbrev pub is_last : ℕ → Option ℕ → Bool
is_last n None = false
is_last n (Some m) = m == n

-- the same where the number stands at the end already
abbrev pub with_new_number : ℕ → List ℕ → List ℕ
with_new_number n numbers = if is_last n (slice_get numbers (length numbers - 1)) then numbers else with_number n numbers

abbrev pub nothing_by : ℕ → List (List ℕ)
nothing_by count = replicate count []

-- # Sends

-- the first send of each story, 0 where it has none: the stories of the sends from the one after `place` on
abbrev pub sends_from : ℕ → List ℕ → List ℕ → List ℕ
sends_from place [] sends = sends
sends_from place (story ∷ sent) sends = sends_from (place + 1) sent (changed_at story (λ send. first_nonzero send (place + 1)) sends)

abbrev pub sends_of : ℕ → List ℕ → List ℕ
sends_of count sent = sends_from 0 sent (replicate count 0)

-- # Flights that did not go on

-- whether a flight carries a datagram, or a piece of it, and did not go on
abbrev pub is_broken : Course → Bool
is_broken course = course.bears && not (went_on course.fate)

abbrev pub broken_with : ℕ → Course → List (List ℕ) → List (List ℕ)
broken_with n course broken = if is_broken course then changed_at course.story (with_number n) broken else broken

abbrev pub broken_from : ℕ → List Course → List (List ℕ) → List (List ℕ)
broken_from place [] broken = broken
broken_from place (course ∷ courses) broken = broken_from (place + 1) courses (broken_with (place + 1) course broken)

-- those of each story
abbrev pub broken_of : ℕ → List Course → List (List ℕ)
broken_of count courses = broken_from 0 courses (nothing_by count)

-- # Route requests

-- whether a flight is a route request that its sender begins
abbrev pub begins_request : Gist → Bool
begins_request (gists.Seeks origin sought cost) = cost == 0
begins_request _ = false

abbrev pub requests_with : ℕ → RecordedFlight → List (List ℕ) → List (List ℕ)
requests_with n flight requests = if begins_request flight.gist then changed_at (flight.from + 1) (with_number n) requests else requests

abbrev pub requests_from : ℕ → List RecordedFlight → List (List ℕ) → List (List ℕ)
requests_from place [] requests = requests
requests_from place (flight ∷ flights) requests = requests_from (place + 1) flights (requests_with (place + 1) flight requests)

-- the requests that each of this many nodes began
abbrev pub requests_of : ℕ → List RecordedFlight → List (List ℕ)
requests_of nodes flights = requests_from 0 flights (nothing_by nodes)

-- # Searches for routes

abbrev pub searches_from : ℕ → List Course → List (List ℕ) → List (List ℕ)
searches_from place [] searches = searches
searches_from place (course ∷ courses) searches = searches_from (place + 1) courses (changed_at course.search (with_number (place + 1)) searches)

-- the flights of each search, by the number of the request that began it
abbrev pub searches_of : List Course → List (List ℕ)
searches_of courses = searches_from 0 courses (nothing_by (length courses))

-- # Restarts

-- the place of a node, from 1, where an event restarts it; 0 else
abbrev pub restarted : Act → ℕ
restarted (acts.Restart node) = node + 1
restarted _ = 0

abbrev pub later : ℕ → ℕ → ℕ
later event old = event

abbrev pub restarts_from : ℕ → List RecordedEvent → List ℕ → List ℕ
restarts_from place [] restarts = restarts
restarts_from place (e ∷ es) restarts = restarts_from (place + 1) es (changed_at (restarted e.act) (later (place + 1)) restarts)

-- the last restart of each node
abbrev pub restarts_of : ℕ → List RecordedEvent → List ℕ
restarts_of nodes es = restarts_from 0 es (replicate nodes 0)

-- # Hearings

abbrev pub hearings_from : ℕ → List RecordedEvent → List (List ℕ) → List (List ℕ)
hearings_from place [] hearings = hearings
hearings_from place (e ∷ es) hearings =
    hearings_from (place + 1) es (changed_at e.came (with_number (place + 1)) hearings)

-- the events at which each flight came to a node
abbrev pub hearings_of : ℕ → List RecordedEvent → List (List ℕ)
hearings_of count events = hearings_from 0 events (nothing_by count)

-- # Events of stories

abbrev pub owner_with : ℕ → Option ℕ → List (List ℕ) → List (List ℕ)
owner_with n None events = events
owner_with n (Some story) events = changed_at story (with_new_number n) events

abbrev pub makers_with : ℕ → List Course → List (List ℕ) → List (List ℕ)
makers_with n [] events = events
makers_with n (course ∷ courses) events = makers_with n courses (changed_at course.story (with_new_number n) events)

unfoldable pub event_with : ℕ → RecordedEvent → List ℕ → List Course → List (List ℕ) → List (List ℕ)
event_with place e owners courses events = makers_with (place + 1) (made_by e courses) (owner_with (place + 1) (slice_get owners place) events)

abbrev pub events_from : ℕ → List RecordedEvent → List ℕ → List Course → List (List ℕ) → List (List ℕ)
events_from place [] owners courses events = events
events_from place (e ∷ es) owners courses events = events_from (place + 1) es owners courses (event_with place e owners courses events)

-- the events of each story: those that it owns, and those of others that made one of its flights
abbrev pub events_of : ℕ → List RecordedEvent → List ℕ → List Course → List (List ℕ)
events_of count es owners courses = events_from 0 es owners courses (nothing_by count)

-- # All of it

pub record Index : Type 0 where
  -- the first send of each story, 0 where it has none
  pub sends : List ℕ
  -- the events of each story
  pub events : List (List ℕ)
  -- the flights of each story with its datagram, or a piece of it, that did not go on
  pub broken : List (List ℕ)
  -- the events at which each flight came to a node
  pub hearings : List (List ℕ)
  -- the route requests that each node began, where node 0 is the first
  pub requests : List (List ℕ)
  -- the flights of each search for a route, by the number of the request that began it
  pub searches : List (List ℕ)
  -- the last restart of each node, where node 0 is the first; 0 where there was none
  pub restarts : List ℕ

-- that of a run with this many stories and nodes, by the stories of its sends and of its events
unfoldable pub index_of : ℕ → ℕ → List RecordedEvent → List RecordedFlight → List Course → List ℕ → List ℕ → Index
index_of count nodes es flights courses sent owners =
    record {
      sends = sends_of count sent;
      events = events_of count es owners courses;
      broken = broken_of count courses;
      hearings = hearings_of (length courses) es;
      requests = requests_of nodes flights;
      searches = searches_of courses;
      restarts = restarts_of nodes es;
    }

abbrev pub number_or_0 : Option ℕ → ℕ
number_or_0 None = 0
number_or_0 (Some n) = n

abbrev pub numbers_or_none : Option (List ℕ) → List ℕ
numbers_or_none None = []
numbers_or_none (Some numbers) = numbers

-- the flights of a search, by the number of the request that began it
abbrev pub search_at : Index → ℕ → List ℕ
search_at index request = numbers_or_none (numbered index.searches request)

-- the last restart of a node, by its number from 0; 0 where there was none
abbrev pub restart_at : Index → ℕ → ℕ
restart_at index node = number_or_0 (slice_get index.restarts node)

abbrev pub send_at : Index → ℕ → ℕ
send_at index story = number_or_0 (numbered index.sends story)

abbrev pub events_at : Index → ℕ → List ℕ
events_at index story = numbers_or_none (numbered index.events story)

abbrev pub broken_at : Index → ℕ → List ℕ
broken_at index story = numbers_or_none (numbered index.broken story)

abbrev pub hearings_at : Index → ℕ → List ℕ
hearings_at index flight = numbers_or_none (numbered index.hearings flight)

-- those that a node began, by its number from 0
abbrev pub requests_at : Index → ℕ → List ℕ
requests_at index node = numbers_or_none (numbered index.requests (node + 1))
