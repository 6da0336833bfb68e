-- Which story owns which event and which flight of a record.
use Rattle.std.specs.Prelude.{ℕ, ◌+◌, ◌-◌, ◌==◌, ◌&&◌, ◌||◌, Bool, true, false, not, List, [], ◌∷◌, ◌++◌, length, position, slice_get, slice_set}
use Rattle.std.specs.Prelude.{Option, None, Some, if◌then◌else◌}
use Rattle.frame_facts.specs.declared.gist.FrameTarget.{FrameTarget}
use Rattle.frame_facts.specs.declared.gist.FrameTarget.TheVariants as targets
use Rattle.frame_facts.specs.declared.gist.Gist.{Gist}
use Rattle.frame_facts.specs.declared.gist.Gist.TheVariants as gists
use Rattle.line_events.specs.declared.event.Answer.{Answer}
use Rattle.line_events.specs.declared.event.Answer.TheVariants as answers
use Rattle.line_record.specs.declared.act.Act.{Act}
use Rattle.line_record.specs.declared.act.Act.TheVariants as acts
use Rattle.line_record.specs.declared.recorded.RecordedEvent.{RecordedEvent}
use Rattle.line_record.specs.declared.recorded.RecordedFlight.{RecordedFlight}
use Rattle.line_record.specs.RunRecords.{made_by, numbered}
use Rattle.line_record.specs.declared.kind.StoryKind.{StoryKind}
use Rattle.line_record.specs.declared.kind.StoryKind.TheVariants as kinds
use Rattle.line_record.specs.declared.story.Story.{Story}
use Rattle.line_record.specs.declared.course.Course.{Course}
use Rattle.line_record.specs.declared.course.Fate.TheVariants as fates
use Rattle.line_record.specs.declared.place.Place.{Place}
use Rattle.line_record.specs.declared.place.Place.TheVariants.{At, New}
use Rattle.line_record.specs.Kinds.{actor_of, begins, goes_on_with, is_line, is_setup, is_setup_kind}
use Rattle.line_record.specs.Kinds.{joins, keeps_joinings, makes_node, person_of, prepares, sends}
use Rattle.line_record.specs.Lists.{changed_at}
use Rattle.line_record.specs.declared.kept.Kept.{Kept}
use Rattle.line_record.specs.KeptItems.{may_end}
use Rattle.line_record.specs.Marks.{came, is_node, courses_by, marked, new_story}
use Rattle.line_record.specs.NodeItems.{handed_up, is_joining, keeping_begun, keeping_left, message_about, message_kept, piece_kept, still_kept}
use Rattle.line_record.specs.NodeItems.{stories_begun, stories_ended, stories_left, waiting_kept, waiting_story}

-- # What is known while a record is gone through

pub record Stories : Type 0 where
  -- by their numbers from 1
  pub stories : List Story
  -- the story of each event, by its number from 1
  pub owners : List ℕ
  -- the flights, by their numbers from 1
  pub courses : List Course
  -- the story of each send, by its number from 1
  pub sent : List ℕ
  -- the last joining or renewal of each node, by its number from 0; 0 where there was none
  pub joinings : List ℕ
  -- the node of each short address, from 0
  pub homes : List ℕ
  -- what the last events readied, which have no story so far: the nodes, 0 for the coordinator
  pub ready : List ℕ
  -- the flight that came at the last event, 0 where none did
  pub came : ℕ
  -- what nodes keep of stories, in the order in which that began
  pub keeping : List Kept
  -- the meter that the joining message is about which the last event made
  pub message : Option ℕ

abbrev pub no_stories : Stories
no_stories =
    record {
      stories = [];
      owners = [];
      courses = [];
      sent = [];
      joinings = [];
      homes = [];
      ready = [];
      came = 0;
      keeping = [];
      message = None;
    }

-- # The story of an event

abbrev pub line_at : Option Story → Bool
line_at None = false
line_at (Some story) = is_line story.kind

abbrev pub setup_at : Option Story → Bool
setup_at None = false
setup_at (Some story) = is_setup_kind story.kind

-- what happens on the line goes to the newest story where that is such a one
abbrev pub line_place : List Story → Place
line_place stories = if line_at (slice_get stories (length stories - 1)) then At (length stories) else New kinds.Line

-- the setup is the first story
abbrev pub setup_place : List Story → Place
setup_place stories = if setup_at (slice_get stories 0) then At 1 else New kinds.Setup

abbrev pub course_place : Option Course → List Story → Place
course_place (Some course) stories = At course.story
course_place None stories = line_place stories

-- an event that begins no story
abbrev pub old_place : Option ℕ → Bool → List Story → List Course → Place
old_place (Some flight) setup stories courses = course_place (numbered courses flight) stories
old_place None true stories courses = setup_place stories
old_place None false stories courses = line_place stories

abbrev pub place_by : Option StoryKind → Act → List Story → List Course → Place
place_by (Some kind) act stories courses = New kind
place_by None act stories courses = old_place (goes_on_with act) (is_setup act) stories courses

abbrev pub place_of : Act → List Story → List Course → Place
place_of act stories courses = place_by (begins act) act stories courses

-- the number of the story at a place
abbrev pub number_at : Place → List Story → ℕ
number_at (At number) stories = number
number_at (New kind) stories = length stories + 1

-- the stories with the one at a place, which begins with an event and is about a node
abbrev pub with_place : Place → ℕ → ℕ → List Story → List Story
with_place (At number) first node stories = stories
with_place (New kind) first node stories = stories ++ (new_story kind first node ∷ [])

-- # What prepares a joining

-- whether what prepares a node prepares the joining that comes next, of this meter; what prepares the coordinator does so too
abbrev pub is_readied : Option ℕ → ℕ → Bool
is_readied None node = false
is_readied (Some meter) node = node == 0 || (node == meter)

-- the place of the first that prepares no joining
abbrev pub unready : Option ℕ → List ℕ → Option ℕ
unready joined ready = position (λ node. not (is_readied joined node)) ready

-- the stories with one on the line, where an event goes to it: the first such event is that of this number
abbrev pub with_line : Option ℕ → ℕ → List Story → List Story
with_line None first stories = stories
with_line (Some place) first stories = with_place (line_place stories) (first + place) 0 stories

-- the number of that story, 0 if there is none
abbrev pub line_number : Option ℕ → List Story → ℕ
line_number None stories = 0
line_number (Some place) stories = number_at (line_place stories) stories

-- the stories of the events that readied something
abbrev pub ready_owner : Option ℕ → ℕ → ℕ → ℕ → ℕ
ready_owner joined story line node = if is_readied joined node then story else line

abbrev pub ready_owners : Option ℕ → ℕ → ℕ → List ℕ → List ℕ
ready_owners joined story line [] = []
ready_owners joined story line (node ∷ ready) = ready_owner joined story line node ∷ ready_owners joined story line ready

-- # One event

-- the number of the next event
abbrev pub next_event : Stories → ℕ
next_event s = length s.owners + length s.ready + 1

-- the events that readied something and an event after them get their stories, by the stories with that of the line
abbrev pub settled_by : List Story → ℕ → Act → ℕ → Stories → Stories
settled_by stories line act first s =
    let place = place_of act stories s.courses in
    record s {
      stories = with_place place first (person_of act) stories;
      owners = (s.owners ++ ready_owners (joins act) (number_at place stories) line s.ready) ++ (number_at place stories ∷ []);
      ready = [];
    }

unfoldable pub settled : Act → Stories → Stories
settled act s =
    settled_by (with_line (unready (joins act) s.ready) (length s.owners + 1) s.stories) (line_number (unready (joins act) s.ready) s.stories)
    act (next_event s) s

-- the story of the last event, 0 if there is none
abbrev pub last_owner : List ℕ → ℕ
last_owner owners = elim (slice_get owners (length owners - 1)) [ None ↦ 0 | Some story ↦ story ]

abbrev pub sent_with : Bool → ℕ → List ℕ → List ℕ
sent_with true story sent = sent ++ (story ∷ [])
sent_with false story sent = sent

abbrev pub joinings_with : Option ℕ → ℕ → List ℕ → List ℕ
joinings_with (Some node) story joinings = slice_set joinings node story
joinings_with None story joinings = joinings

-- each node that is made has a place
abbrev pub nodes_with : Bool → List ℕ → List ℕ
nodes_with true joinings = joinings ++ (0 ∷ [])
nodes_with false joinings = joinings

abbrev pub addressed : ℕ → ℕ → Option ℕ → Option ℕ
addressed count node None = None
addressed count node (Some address) = if address == count then Some node else None

abbrev pub depot_newcomer : ℕ → Answer → Option ℕ
depot_newcomer node answers.Joined = Some node
depot_newcomer node _ = None

abbrev pub allow_newcomer : ℕ → ℕ → Answer → Option ℕ → Option ℕ
allow_newcomer count node answers.Allowed address = addressed count node address
allow_newcomer count node _ address = None

-- the node that gets the next address: the coordinator has address 0, and the book gives one to each meter that is first joined in the
-- workshop or allowed
abbrev pub newcomer : ℕ → Act → Answer → Option ℕ → Option ℕ
newcomer count (acts.Coordinator eui) _ address = Some 0
newcomer count (acts.Depot node) answer address = depot_newcomer node answer
newcomer count (acts.Allow node) answer address = allow_newcomer count node answer address
newcomer count _ _ address = None

abbrev pub homes_with : Option ℕ → List ℕ → List ℕ
homes_with (Some node) homes = homes ++ (node ∷ [])
homes_with None homes = homes

-- the stories, where a datagram of this note is handed up
abbrev pub up_marked : Option ℕ → ℕ → List ℕ → List Story → List Story
up_marked None n sent stories = stories
up_marked (Some note) n sent stories =
    elim (numbered sent note) [ None ↦ stories | Some story ↦ changed_at story (came n) stories ]

-- what an event of this number says to a story and of the line
unfoldable pub stories_after : RecordedEvent → ℕ → ℕ → Stories → Stories
stories_after e n story s =
    let sent = sent_with (sends e.act e.answer) story s.sent in
    record s {
      stories = up_marked e.up n sent (changed_at story (marked n e) s.stories);
      courses = courses_by e n s.courses;
      sent = sent;
      joinings = nodes_with (makes_node e.act) (joinings_with (joins e.act) story s.joinings);
      homes = homes_with (newcomer (length s.homes) e.act e.answer e.address) s.homes;
      came = e.came;
    }

-- # What nodes keep

-- with what an event ends
abbrev pub kept_ended : RecordedEvent → ℕ → Stories → Stories
kept_ended e n s =
    record s {
      stories = if may_end e then stories_ended n e s.keeping s.stories else s.stories;
      keeping = if may_end e then still_kept n e s.keeping else s.keeping;
    }

-- with something that begins to be kept
abbrev pub kept_begun : Option Kept → Stories → Stories
kept_begun kept s = record s { stories = stories_begun kept s.stories; keeping = keeping_begun kept s.keeping }

abbrev pub up_by : Option ℕ → ℕ → List Kept → List Kept
up_by None node keeping = keeping
up_by (Some story) node keeping = handed_up story node keeping

-- without the pieces of a datagram that is handed up at a node
abbrev pub up_keeping : Option ℕ → ℕ → List ℕ → List Kept → List Kept
up_keeping None node sent keeping = keeping
up_keeping (Some note) node sent keeping = up_by (numbered sent note) node keeping

abbrev pub up_kept : RecordedEvent → Stories → Stories
up_kept e s = record s { keeping = up_keeping e.up (actor_of e.act) s.sent s.keeping }

abbrev pub piece_begun : RecordedEvent → ℕ → Stories → Stories
piece_begun e n s = kept_begun (piece_kept e n s.courses s.keeping) s

-- what an event of this number makes of what is kept, but for joining messages
unfoldable pub kept_seen : RecordedEvent → ℕ → ℕ → Stories → Stories
kept_seen e n story s = piece_begun e n (kept_begun (waiting_kept e n story) (up_kept e (kept_ended e n s)))

-- # One event and its story

-- with a node that an event prepares
abbrev pub readied : ℕ → RecordedEvent → Stories → Stories
readied node e s = record s { ready = s.ready ++ (node ∷ []); homes = homes_with (newcomer (length s.homes) e.act e.answer e.address) s.homes }

-- an event that prepares something has no story so far; at it the coordinator may lose power
abbrev pub event_by : Option ℕ → RecordedEvent → Stories → Stories
event_by (Some node) e s = kept_ended e (next_event s) (readied node e s)
event_by None e s =
    let owned = settled e.act s in
    kept_seen e (length owned.owners) (last_owner owned.owners) (stories_after e (length owned.owners) (last_owner owned.owners) owned)

unfoldable pub event_seen : RecordedEvent → Stories → Stories
event_seen e s = event_by (prepares e.act) e s

-- # One flight

-- the node that a flight is for
abbrev pub node_of : FrameTarget → Option ℕ → List ℕ → Option ℕ
node_of targets.Nobody device homes = None
node_of targets.All device homes = None
node_of (targets.Node address) device homes = slice_get homes address
node_of (targets.Device eui) device homes = device

abbrev pub keeps_at : Option Story → Bool
keeps_at None = false
keeps_at (Some story) = keeps_joinings story.kind

-- whether joining messages about a meter stay with a story
abbrev pub keeps_for : Option Story → Option ℕ → Bool
keeps_for None about = false
keeps_for (Some story) about = keeps_joinings story.kind && is_node about story.person

-- a story, or another one where there is one
abbrev pub or_story : Option ℕ → ℕ → ℕ
or_story None story = story
or_story (Some other) story = if other == 0 then story else other

abbrev pub joining_of : Option ℕ → List ℕ → Option ℕ
joining_of None joinings = None
joining_of (Some node) joinings = slice_get joinings node

-- the story of a joining message about a meter that an event of a story makes: that one, where it is about that meter, or the last joining of the meter
unfoldable pub message_story : Option ℕ → ℕ → Stories → ℕ
message_story about story s =
    if keeps_for (numbered s.stories story) about then story else or_story (joining_of about s.joinings) story

abbrev pub is_own : Option ℕ → Option ℕ → Bool
is_own None device = false
is_own (Some about) device = is_node device about

abbrev pub owner_or : Option ℕ → ℕ → ℕ
owner_or None story = story
owner_or (Some other) story = other

-- the story of a joining message that flies: that of the first that waited there, unless the event itself made one about that meter
unfoldable pub message_owner : RecordedFlight → ℕ → Stories → ℕ
message_owner f story s =
    if is_own s.message f.device then message_story f.device story s
    else owner_or (waiting_story f.from f.device s.keeping) (message_story f.device story s)

-- the story that owns a flight which an event of a story made: that of the send which it carries, or of the joining message
unfoldable pub flight_owner : RecordedFlight → ℕ → Stories → ℕ
flight_owner f story s =
    if f.note == 0 then (if is_joining f.gist then message_owner f story s else story) else or_story (numbered s.sent f.note) story

-- whether a flight carries the datagram of a story, or a piece of it, or a joining message of it
abbrev pub bears_of : RecordedFlight → Option Story → Bool
bears_of f story = if f.note == 0 then (if is_joining f.gist then keeps_at story else false) else true

-- whether a flight may have waited for a route
abbrev pub may_leave : RecordedFlight → Bool
may_leave f = if f.note == 0 then is_joining f.gist else true

-- the search for a route that a flight is of with this number, by that of the flight for which it is sent: a request that its sender begins is the first
-- of a search, and its copies and the replies are of the same
abbrev pub search_of : Gist → ℕ → ℕ → ℕ
search_of (gists.Seeks origin sought cost) number search = if cost == 0 then number else search
search_of (gists.Replies origin to) number search = search
search_of _ number search = 0

abbrev pub search_at : Option Course → ℕ
search_at None = 0
search_at (Some course) = course.search

-- the stories and what is kept, where a flight of a story goes out
abbrev pub left_by : RecordedFlight → ℕ → List Kept → List Story → List Story
left_by f owner keeping stories = if may_leave f then stories_left owner f.from keeping stories else stories

abbrev pub leaving_by : RecordedFlight → ℕ → List Kept → List Kept
leaving_by f owner keeping = if may_leave f then keeping_left owner f.from keeping else keeping

-- where a flight of a story goes out for which something waited, it has left
abbrev pub let_leave : RecordedFlight → ℕ → Stories → Stories
let_leave f owner s = record s { stories = left_by f owner s.keeping s.stories; keeping = leaving_by f owner s.keeping }

-- a flight of a story
abbrev pub flight_of : RecordedFlight → ℕ → Stories → Stories
flight_of f owner s =
    record s {
      courses = s.courses ++ (record {
        story = owner;
        to = node_of f.target f.device s.homes;
        fate = fates.Missed;
        bears = bears_of f (numbered s.stories owner);
        overheard = false;
        search = search_of f.gist (length s.courses + 1) (search_at (numbered s.courses s.came));
      } ∷ []);
    }

unfoldable pub flight_seen : RecordedFlight → Stories → Stories
flight_seen f s =
    let_leave f (flight_owner f (last_owner s.owners) s) (flight_of f (flight_owner f (last_owner s.owners) s) s)

-- # A whole record

abbrev pub flights_seen : List RecordedFlight → Stories → Stories
flights_seen [] s = s
flights_seen (f ∷ fs) s = flights_seen fs (flight_seen f s)

-- with the joining message that an event makes about a meter: it waits where none of the flights of the event is that
abbrev pub announced_about : Option ℕ → RecordedEvent → List RecordedFlight → Stories → Stories
announced_about about e made s =
    record (kept_begun (message_kept about e (length s.owners) (message_story about (last_owner s.owners) s) made) s) { message = about }

unfoldable pub announced : RecordedEvent → List RecordedFlight → Stories → Stories
announced e flights s = announced_about (message_about e flights) e (made_by e flights) s

-- an event and its flights
unfoldable pub record_seen : RecordedEvent → List RecordedFlight → Stories → Stories
record_seen e flights s = flights_seen (made_by e flights) (announced e flights (event_seen e s))

abbrev pub events_seen : List RecordedFlight → List RecordedEvent → Stories → Stories
events_seen flights [] s = s
events_seen flights (e ∷ es) s = events_seen flights es (record_seen e flights s)

-- what readied something last, and no joining came
abbrev pub ended : Stories → Stories
ended s =
    record s {
      stories = with_line (unready None s.ready) (length s.owners + 1) s.stories;
      owners = s.owners ++ ready_owners None 0 (line_number (unready None s.ready) s.stories) s.ready;
      ready = [];
    }

-- the stories of a record
unfoldable pub stories_of : List RecordedEvent → List RecordedFlight → Stories
stories_of events flights = ended (events_seen flights events no_stories)
