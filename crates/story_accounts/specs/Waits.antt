-- What waits for a route, and why none came, in words.
use Rattle.std.specs.Prelude.{ℕ, ◌+◌, ◌-◌, ◌==◌, ◌&&◌, Bool, true, false, not, List, [], ◌∷◌, ◌++◌, codes, length, position}
use Rattle.std.specs.Prelude.{Option, None, Some, if◌then◌else◌, nat_lt}
use Rattle.std.specs.List.{list_any}
use Rattle.std.specs.Option.{unwrap_or}
use Rattle.frame_facts.specs.declared.gist.Gist.{Gist}
use Rattle.frame_facts.specs.declared.gist.Gist.TheVariants as gists
use Rattle.line_record.specs.declared.act.Act.{Act}
use Rattle.line_record.specs.declared.act.Act.TheVariants as acts
use Rattle.line_record.specs.declared.recorded.RecordedEvent.{RecordedEvent}
use Rattle.line_record.specs.declared.recorded.RecordedFlight.{RecordedFlight}
use Rattle.line_record.specs.declared.kind.StoryKind.{StoryKind}
use Rattle.line_record.specs.declared.kind.StoryKind.TheVariants as kinds
use Rattle.line_record.specs.declared.story.Story.{Story}
use Rattle.line_record.specs.declared.course.Course.{Course}
use Rattle.line_record.specs.declared.course.Fate.{Fate}
use Rattle.line_record.specs.declared.course.Fate.TheVariants as fates
use Rattle.line_record.specs.declared.kept.Kept.{Kept}
use Rattle.line_record.specs.declared.kept.KeptEnd.{KeptEnd}
use Rattle.line_record.specs.declared.kept.KeptEnd.TheVariants as kept_ends
use Rattle.line_record.specs.RunRecords.{made_by, numbered}
use Rattle.line_record.specs.Verdicts.{first_nonzero}
use Rattle.sentence_parts.specs.declared.part.Part.TheVariants.{Words, Number, Node}
use Rattle.sentence_parts.specs.Parts.{parts_text}
use Rattle.story_accounts.specs.declared.searches.TheConstants.{REFUSED, TOOK}
use Rattle.story_accounts.specs.Indexes.{requests_at, send_at}
use Rattle.story_accounts.specs.Accounts.{RunAccount, ends_at, first_of}
use Rattle.story_accounts.specs.Fates.{fate_text, is_mute, refused_by_all_text, unreached_text, way_text}
use Rattle.story_accounts.specs.Searches.{SearchReach, reach_of}

-- # The request for which something waits

-- the place of a node's short address
abbrev pub address_of : List ℕ → ℕ → Option ℕ
address_of homes node = position (λ (home : ℕ). home == node) homes

abbrev pub is_sought : ℕ → Gist → Bool
is_sought wanted (gists.Seeks origin sought cost) = sought == wanted
is_sought wanted _ = false

abbrev pub seeks : ℕ → Option RecordedFlight → Bool
seeks wanted None = false
seeks wanted (Some flight) = is_sought wanted flight.gist

abbrev pub begins_search : Gist → Bool
begins_search (gists.Seeks origin sought cost) = cost == 0
begins_search _ = false

abbrev pub own_by : ℕ → Option ℕ → ℕ
own_by first None = 0
own_by first (Some place) = first + place

-- the request that an event makes itself, 0 where it makes none
unfoldable pub own_request : RunAccount → RecordedEvent → ℕ
own_request a e = own_by e.first_flight (position (λ (f : RecordedFlight). begins_search f.gist) (made_by e a.flights))

-- the last of these requests before a flight that is for an address
abbrev pub request_in : RunAccount → ℕ → ℕ → List ℕ → ℕ → ℕ
request_in a wanted before [] found = found
request_in a wanted before (n ∷ ns) found =
    request_in a wanted before ns (if nat_lt n before && seeks wanted (numbered a.flights n) then n else found)

-- the last request of a node before an event, for an address
unfoldable pub request_for : Option ℕ → RunAccount → RecordedEvent → ℕ → ℕ
request_for None a e node = 0
request_for (Some wanted) a e node = request_in a wanted e.first_flight (requests_at a.index node) 0

-- the node that the first flight of a story is for
abbrev pub agent_by : Option Course → Story → ℕ
agent_by None story = story.person
agent_by (Some course) story = unwrap_or course.to story.person

abbrev pub agent_with : Option RecordedEvent → RunAccount → Story → ℕ
agent_with None a story = story.person
agent_with (Some e) a story = agent_by (numbered a.courses e.first_flight) story

unfoldable pub agent_of : RunAccount → Story → ℕ
agent_of a story = agent_with (numbered a.events story.first) a story

abbrev pub coordinator_to : StoryKind → RunAccount → Story → ℕ
coordinator_to kinds.Joining a story = agent_of a story
coordinator_to _ a story = story.person

-- the node to which a message of a story goes that waits at a node: to the coordinator, and from there to the agent or to the meter itself
unfoldable pub message_to : RunAccount → Story → ℕ → ℕ
message_to a story node = if not (node == 0) then 0 else coordinator_to story.kind a story

abbrev pub asked_by : Act → RunAccount → Story → ℕ → ℕ
asked_by (acts.Send from to octets) a story node = to
asked_by _ a story node = message_to a story node

-- # What a request reached

abbrev pub is_refuser : ℕ → ℕ → ℕ → Bool
is_refuser asker place state = (state == REFUSED) && not (asker == place)

-- whether a node beside the one that asks heard the request, and took none
abbrev pub has_refuser : ℕ → ℕ → List ℕ → Bool
has_refuser asker place [] = false
has_refuser asker place (state ∷ states) = if is_refuser asker place state then true else has_refuser asker (place + 1) states

abbrev pub has_taken : List ℕ → Bool
has_taken states = list_any (λ (state : ℕ). state == TOOK) states

abbrev pub taker_if : Bool → ℕ → List ℕ
taker_if true place = place ∷ []
taker_if false place = []

-- the nodes that took it, in ascending order
abbrev pub takers_from : ℕ → List ℕ → List ℕ
takers_from place [] = []
takers_from place (state ∷ states) = taker_if (state == TOOK) place ++ takers_from (place + 1) states

abbrev pub comma : ℕ → ℕ → List ℕ
comma place count = if place == 0 then [] else (if place == count - 1 then codes " and " else codes ", ")

unfoldable pub number_at : ℕ → ℕ → ℕ → List ℕ
number_at place count value = parts_text (Words (comma place count) ∷ Number value ∷ [])

abbrev pub numbers_from : ℕ → ℕ → List ℕ → List ℕ
numbers_from place count [] = []
numbers_from place count (value ∷ values) = number_at place count value ++ numbers_from (place + 1) count values

abbrev pub meters_word : ℕ → List ℕ
meters_word count = if count == 1 then codes "meter " else codes "meters "

unfoldable pub meters_text : List ℕ → List ℕ
meters_text meters = meters_word (length meters) ++ numbers_from 0 (length meters) meters

unfoldable pub other_meters : List ℕ → List ℕ
other_meters meters = if length meters == 0 then [] else codes " and " ++ meters_text meters

unfoldable pub coordinator_and : List ℕ → List ℕ
coordinator_and meters = codes "the coordinator" ++ other_meters meters

-- the names of nodes, the coordinator first
unfoldable pub nodes_text : List ℕ → List ℕ
nodes_text [] = []
nodes_text (first ∷ rest) = if first == 0 then coordinator_and rest else meters_text (first ∷ rest)

abbrev pub reached_end : Bool → List ℕ
reached_end true = codes ", and no other node took it"
reached_end false = codes ", and no other node heard it"

-- what a request reached that was not answered
unfoldable pub reached_text : List ℕ → ℕ → List ℕ
reached_text states asker =
    codes "the request reached " ++ (nodes_text (takers_from 0 states) ++ reached_end (has_refuser asker 0 states))

-- # Why no route came

unfoldable pub answered_text : ℕ → List ℕ
answered_text event = parts_text (Words (codes "the request was answered (event ") ∷ Number event ∷ Words (codes "), and the reply, ") ∷ [])

unfoldable pub late_text : ℕ → List ℕ
late_text event = parts_text (Words (codes ", came too late (event ") ∷ Number event ∷ Words (codes ")") ∷ [])

unfoldable pub lost_text : ℕ → List ℕ
lost_text event = parts_text (Words (codes ", was lost (event ") ∷ Number event ∷ Words (codes ")") ∷ [])

unfoldable pub all_taken_text : ℕ → List ℕ
all_taken_text event = parts_text (Words (codes "a node answered (event ") ∷ Number event ∷ Words (codes "), and no reply is missing") ∷ [])

abbrev pub reply_by : Fate → RunAccount → ℕ → RecordedFlight → Course → List ℕ
reply_by (fates.Lost event) a flight recorded course = way_text a flight recorded ++ lost_text event
reply_by (fates.WentOn event) a flight recorded course = way_text a flight recorded ++ late_text event
reply_by _ a flight recorded course = fate_text a flight

abbrev pub reply_with : Option RecordedFlight → Option Course → RunAccount → ℕ → List ℕ
reply_with None course a flight = []
reply_with (Some recorded) None a flight = []
reply_with (Some recorded) (Some course) a flight = reply_by course.fate a flight recorded course

-- a reply that did not come back
unfoldable pub reply_text : RunAccount → ℕ → List ℕ
reply_text a flight = reply_with (numbered a.flights flight) (numbered a.courses flight) a flight

unfoldable pub answer_text : RunAccount → SearchReach → List ℕ
answer_text a r = if r.reply == 0 then all_taken_text r.answered else answered_text r.answered ++ reply_text a r.reply

abbrev pub before_words : Bool → List ℕ
before_words true = []
before_words false = codes " before that"

abbrev pub unheard_by : Option Course → ℕ → RecordedFlight → List ℕ
unheard_by None request recorded = []
unheard_by (Some course) request recorded = unreached_text request recorded course.fate ++ before_words (is_mute course.fate)

-- a request that no node heard so far
unfoldable pub unheard_text : RunAccount → ℕ → RecordedFlight → List ℕ
unheard_text a request recorded = unheard_by (numbered a.courses request) request recorded

unfoldable pub refused_text : RunAccount → ℕ → SearchReach → RecordedFlight → List ℕ
refused_text a request r recorded =
    if length r.refusals == 0 then unheard_text a request recorded else refused_by_all_text a request recorded r.refusals

unfoldable pub unanswered_text : RunAccount → ℕ → SearchReach → RecordedFlight → List ℕ
unanswered_text a request r recorded = if has_taken r.states then reached_text r.states recorded.from else refused_text a request r recorded

abbrev pub unanswered_by : Option RecordedFlight → RunAccount → ℕ → SearchReach → List ℕ
unanswered_by None a request r = []
unanswered_by (Some recorded) a request r = unanswered_text a request r recorded

abbrev pub search_by : RunAccount → ℕ → SearchReach → List ℕ
search_by a request r = if nat_lt 0 r.answered then answer_text a r else unanswered_by (numbered a.flights request) a request r

-- why a search gave no route up to an event: the reply that did not come back, whom the request reached, or who refused it
unfoldable pub search_text : RunAccount → ℕ → ℕ → List ℕ
search_text a request until = search_by a request (reach_of a request until)

abbrev pub owner_by : Option Course → ℕ
owner_by None = 0
owner_by (Some course) = course.story

-- the story of a flight
abbrev pub owner_of : RunAccount → ℕ → ℕ
owner_of a flight = owner_by (numbered a.courses flight)

abbrev pub send_word : ℕ → List ℕ
send_word send = if send == 0 then codes "event " else codes "send "

unfoldable pub behind_words : List ℕ → ℕ → ℕ → List ℕ
behind_words what first request =
    parts_text
    (Words (codes "it waits behind ") ∷ Words what ∷ Number first ∷ Words (codes ", whose route request is flight ") ∷ Number request
    ∷ Words (codes ": ") ∷ [])

abbrev pub behind_by : ℕ → RunAccount → ℕ → ℕ → List ℕ
behind_by story a request until =
    behind_words (send_word (send_at a.index story)) (first_nonzero (send_at a.index story) (first_of a story)) request
    ++ search_text a request until

-- what waits behind a request of before, which is that of another story
unfoldable pub behind_text : RunAccount → ℕ → ℕ → List ℕ
behind_text a request until = if request == 0 then codes "nothing went out" else behind_by (owner_of a request) a request until

-- the event up to which something is kept, among this many
abbrev pub until_of : KeptEnd → ℕ → ℕ
until_of kept_ends.Still count = count
until_of (kept_ends.Aged event seconds) count = event
until_of (kept_ends.Restarted event) count = event
until_of (kept_ends.Left event) count = event
until_of (kept_ends.Halted event) count = event

-- the request for which something waits that began to at an event, 0 if there is none: of the event itself, or of its node before
unfoldable pub request_of : RunAccount → Story → Kept → RecordedEvent → ℕ
request_of a story k e =
    if nat_lt 0 (own_request a e) then own_request a e else request_for (address_of a.homes (asked_by e.act a story k.node)) a e k.node

unfoldable pub cause_at : RunAccount → Story → Kept → RecordedEvent → List ℕ
cause_at a story k e =
    if nat_lt 0 (own_request a e) then search_text a (own_request a e) (until_of k.end (length a.events))
    else behind_text a (request_for (address_of a.homes (asked_by e.act a story k.node)) a e k.node) (until_of k.end (length a.events))

abbrev pub cause_by : Option RecordedEvent → RunAccount → Story → Kept → List ℕ
cause_by None a story k = []
cause_by (Some e) a story k = cause_at a story k e

-- why no route came for what a story waited for
unfoldable pub cause_text : RunAccount → Story → Kept → List ℕ
cause_text a story k = cause_by (numbered a.events k.event) a story k

-- # Messages that wait

unfoldable pub message_still : Kept → List ℕ
message_still k =
    parts_text
    (Words (codes "the message waits at ") ∷ Node k.node ∷ Words (codes " for a route since event ") ∷ Number k.event ∷ Words (codes "; ") ∷ [])

unfoldable pub message_aged : Kept → ℕ → ℕ → List ℕ
message_aged k event seconds =
    parts_text
    (Words (codes "the message waited at ") ∷ Node k.node ∷ Words (codes " for a route for ") ∷ Number seconds
    ∷ Words (codes " s and was dropped (event ") ∷ Number event ∷ Words (codes "); ") ∷ [])

unfoldable pub message_until : Kept → List ℕ → ℕ → List ℕ
message_until k what event =
    parts_text
    (Words (codes "the message waited for a route until ") ∷ Node k.node ∷ Words what ∷ Words (codes " (event ") ∷ Number event
    ∷ Words (codes "); ") ∷ [])

abbrev pub message_wait : KeptEnd → Kept → List ℕ
message_wait kept_ends.Still k = message_still k
message_wait (kept_ends.Aged event seconds) k = message_aged k event seconds
message_wait (kept_ends.Restarted event) k = message_until k (codes " restarted") event
message_wait (kept_ends.Left event) k = message_until k (codes " left") event
message_wait (kept_ends.Halted event) k = message_until k (codes " lost power") event

unfoldable pub waiting_text : RunAccount → Story → Kept → List ℕ
waiting_text a story k = message_wait k.end k ++ cause_text a story k

-- # Loose ends

-- the last flight by which a story goes: of a joining or an order its last message, and no route request
abbrev pub last_of : StoryKind → RunAccount → ℕ → ℕ
last_of kinds.Joining a number = (ends_at a number).borne
last_of kinds.Renewal a number = (ends_at a number).borne
last_of kinds.Order a number = (ends_at a number).borne
last_of _ a number = (ends_at a number).last

abbrev pub loose_with : Option Kept → RunAccount → ℕ → Story → List ℕ
loose_with None a number story = fate_text a (last_of story.kind a number)
loose_with (Some k) a number story = waiting_text a story k

abbrev pub loose_by : Option Story → RunAccount → ℕ → List ℕ
loose_by None a number = codes "nothing went out"
loose_by (Some story) a number = loose_with story.waits a number story

-- the loose end of a story: what of it waits, or what became of its last flight
unfoldable pub loose_text : RunAccount → ℕ → List ℕ
loose_text a number = loose_by (numbered a.stories number) a number

abbrev pub clock_by : Option RecordedEvent → ℕ
clock_by None = 0
clock_by (Some e) = e.clock

abbrev pub clock_at : RunAccount → ℕ → ℕ
clock_at a event = clock_by (numbered a.events event)
