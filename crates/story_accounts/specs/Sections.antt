-- The text of `explain`: what became of each story, section by section, and what was refused.
use Rattle.std.specs.Prelude.{ℕ, ◌+◌, ◌-◌, ◌==◌, ◌&&◌, ◌||◌, Bool, true, false, not, List, [], ◌∷◌, ◌++◌, codes, length, position, replicate, slice_get, take}
use Rattle.std.specs.Prelude.{Option, None, Some, if◌then◌else◌, decimal, nat_lt, nat_le}
use Rattle.frame_facts.specs.declared.gist.FrameTarget.{FrameTarget}
use Rattle.line_events.specs.declared.event.Answer.{Answer}
use Rattle.line_events.specs.Answers.{is_ok}
use Rattle.line_script.specs.AnswerWords.{answer_word}
use Rattle.line_record.specs.declared.recorded.RecordedEvent.{RecordedEvent}
use Rattle.line_record.specs.declared.recorded.RecordedFlight.{RecordedFlight}
use Rattle.line_record.specs.declared.kind.StoryKind.{StoryKind}
use Rattle.line_record.specs.declared.kind.StoryKind.TheVariants as kinds
use Rattle.line_record.specs.declared.story.Story.{Story}
use Rattle.line_record.specs.declared.course.Course.{Course}
use Rattle.line_record.specs.declared.kept.Kept.{Kept}
use Rattle.line_record.specs.declared.course.Fate.{Fate}
use Rattle.line_record.specs.declared.course.Fate.TheVariants as fates
use Rattle.line_record.specs.declared.verdict.Verdict.{Verdict}
use Rattle.line_record.specs.declared.verdict.Verdict.TheVariants as verdicts
use Rattle.line_record.specs.RunRecords.{made_by, numbered}
use Rattle.line_record.specs.Kinds.{is_for_another, is_refused}
use Rattle.line_record.specs.Verdicts.{is_good}
use Rattle.sentence_parts.specs.declared.part.Part.TheVariants.{Words, Number}
use Rattle.sentence_parts.specs.Parts.{parts_text}
use Rattle.story_accounts.specs.declared.section.Chosen.{Chosen}
use Rattle.story_accounts.specs.declared.section.Chosen.TheVariants as chosens
use Rattle.story_accounts.specs.declared.section.Section.{Section}
use Rattle.story_accounts.specs.declared.section.Section.TheVariants as sections
use Rattle.story_accounts.specs.Indexes.{events_at, number_or_0, send_at}
use Rattle.story_accounts.specs.Accounts.{RunAccount, answer_at, verdict_at, why}
use Rattle.story_accounts.specs.Searches.{SearchReach, reach_of}
use Rattle.story_accounts.specs.Waits.{has_taken, request_of, until_of}
use Rattle.story_accounts.specs.Fates.{fate_text, is_mute, is_to_all, two_words}
use Rattle.story_accounts.specs.Outcomes.{outcome_text}
use Rattle.story_accounts.specs.Titles.{capital, title}
use Rattle.story_accounts.specs.Groups.{WordGroup, joined, largest_first}

-- # Sections

abbrev pub is_datagrams : Section → Bool
is_datagrams sections.Datagrams = true
is_datagrams _ = false

abbrev pub is_joinings : Section → Bool
is_joinings sections.Joinings = true
is_joinings _ = false

abbrev pub is_orders : Section → Bool
is_orders sections.Orders = true
is_orders _ = false

abbrev pub is_injections : Section → Bool
is_injections sections.Injections = true
is_injections _ = false

abbrev pub is_broadcasts : Section → Bool
is_broadcasts sections.Broadcasts = true
is_broadcasts _ = false

abbrev pub is_walks : Section → Bool
is_walks sections.Walks = true
is_walks _ = false

-- whether stories of a kind are in a section
abbrev pub section_kind : Section → StoryKind → Bool
section_kind section kinds.Datagram = is_datagrams section
section_kind section kinds.Joining = is_joinings section
section_kind section kinds.Renewal = is_joinings section
section_kind section kinds.Order = is_orders section
section_kind section kinds.Injection = is_injections section
section_kind section kinds.Broadcast = is_broadcasts section
section_kind section kinds.Walk = is_walks section
section_kind section _ = false

abbrev pub section_title : Section → List ℕ
section_title sections.Datagrams = codes "Datagrams"
section_title sections.Joinings = codes "Joinings and keys"
section_title sections.Orders = codes "Orders"
section_title sections.Injections = codes "Injected octets"
section_title sections.Broadcasts = codes "Broadcasts"
section_title sections.Walks = codes "Path requests"

-- what a good story of a section is called; of broadcasts nothing is asked
abbrev pub good_word : Section → List ℕ
good_word sections.Datagrams = codes " came"
good_word sections.Joinings = codes " done"
good_word sections.Orders = codes " heard"
good_word sections.Injections = codes " refused"
good_word sections.Broadcasts = []
good_word sections.Walks = codes " answered"

-- whether a story is one of those that are chosen
abbrev pub is_chosen : Chosen → RunAccount → ℕ → Story → Bool
is_chosen (chosens.Send send) a number story = (send_at a.index number == send) && not (send == 0)
is_chosen (chosens.Node node) a number story = story.person == node
is_chosen _ a number story = true

-- the number, if something holds
abbrev pub number_if : Bool → ℕ → List ℕ
number_if true n = n ∷ []
number_if false n = []

abbrev pub is_in : RunAccount → Section → Chosen → ℕ → Story → Bool
is_in a section chosen number story = section_kind section story.kind && is_chosen chosen a number story

abbrev pub stories_from : RunAccount → Section → Chosen → ℕ → List Story → List ℕ
stories_from a section chosen place [] = []
stories_from a section chosen place (story ∷ stories) =
    number_if (is_in a section chosen (place + 1) story) (place + 1)
    ++ stories_from a section chosen (place + 1) stories

-- the chosen stories of a section
abbrev pub stories_in : RunAccount → Section → Chosen → List ℕ
stories_in a section chosen = stories_from a section chosen 0 a.stories

-- # Good and failed

abbrev pub is_yes : Option Bool → Bool
is_yes None = false
is_yes (Some good) = good

abbrev pub is_no : Option Bool → Bool
is_no None = false
is_no (Some good) = not good

abbrev pub came_well : RunAccount → ℕ → Bool
came_well a story = is_yes (is_good (verdict_at a story))

abbrev pub failed : RunAccount → ℕ → Bool
failed a story = is_no (is_good (verdict_at a story))

abbrev pub good_among : RunAccount → List ℕ → List ℕ
good_among a [] = []
good_among a (n ∷ ns) = number_if (came_well a n) n ++ good_among a ns

-- # Why stories failed

abbrev pub refusal_word : Option RecordedEvent → List ℕ
refusal_word None = []
refusal_word (Some e) = if is_for_another e.answer then codes "the next node had left, or has another address" else answer_word e.answer

abbrev pub refusal_at : RunAccount → ℕ → List ℕ
refusal_at a event = refusal_word (numbered a.events event)

abbrev pub missed_reason : Bool → List ℕ → List ℕ
missed_reason true words = codes "the route request reached no node"
missed_reason false words = words

abbrev pub fate_reason : Fate → RunAccount → FrameTarget → List ℕ
fate_reason fates.Missed a target = missed_reason (is_to_all target) (codes "a frame was never delivered")
fate_reason (fates.Lost event) a target = missed_reason (is_to_all target) (codes "a frame was lost")
fate_reason (fates.Refused event) a target = refusal_at a event
fate_reason (fates.Reported event) a target = codes "Reported: a relay had no route"
fate_reason (fates.WentOn event) a target = codes "nothing followed"

abbrev pub reason_by : Option RecordedFlight → Option Course → RunAccount → List ℕ
reason_by None course a = codes "nothing went out"
reason_by (Some flight) None a = codes "nothing went out"
reason_by (Some flight) (Some course) a = fate_reason course.fate a flight.target

-- why a flight did not go on, in a few words
unfoldable pub flight_reason : RunAccount → ℕ → List ℕ
flight_reason a flight = reason_by (numbered a.flights flight) (numbered a.courses flight) a

-- why a search for a route gave none, in a few words
abbrev pub reach_reason : SearchReach → List ℕ
reach_reason r =
    if nat_lt 0 r.answered then codes "waited for a route: the reply did not come"
    else (if has_taken r.states then codes "waited for a route: no node that the request reached answered it"
    else (if length r.refusals == 0 then codes "waited for a route: the route request reached no node"
    else codes "waited for a route: all that heard the request refused it"))

abbrev pub request_reason : RunAccount → ℕ → ℕ → List ℕ
request_reason a request until = if request == 0 then codes "nothing went out" else reach_reason (reach_of a request until)

abbrev pub kept_by : Option RecordedEvent → RunAccount → Story → Kept → List ℕ
kept_by None a story k = codes "nothing went out"
kept_by (Some e) a story k = request_reason a (request_of a story k e) (until_of k.end (length a.events))

-- why what waits or waited of a story has no route
abbrev pub kept_reason : RunAccount → Story → Kept → List ℕ
kept_reason a story k = kept_by (numbered a.events k.event) a story k

abbrev pub loose_reason : Option Kept → RunAccount → Story → ℕ → List ℕ
loose_reason None a story last = flight_reason a last
loose_reason (Some k) a story last = kept_reason a story k

abbrev pub piece_reason : Option Kept → List ℕ → List ℕ
piece_reason None rest = rest
piece_reason (Some k) rest = codes "a piece that was gathered ended"

abbrev pub verdict_reason : Verdict → RunAccount → Story → List ℕ
verdict_reason verdicts.NotBegun a story = two_words (codes "refused at once: ") (answer_at a story.first)
verdict_reason (verdicts.NeverLeft last) a story = loose_reason story.waits a story last
verdict_reason (verdicts.Ended flight) a story = piece_reason story.ended (flight_reason a flight)
verdict_reason (verdicts.Loose last) a story = piece_reason story.ended (loose_reason story.waits a story last)
verdict_reason (verdicts.TookOnly event last) a story = loose_reason story.waits a story last
verdict_reason (verdicts.Declined event) a story = codes "the meter was not allowed"
verdict_reason _ a story = codes "FORGED"

abbrev pub reason_of : Option Story → RunAccount → ℕ → List ℕ
reason_of None a number = []
reason_of (Some story) a number = verdict_reason (verdict_at a number) a story

-- why a story failed, in a few words
unfoldable pub reason : RunAccount → ℕ → List ℕ
reason a number = reason_of (numbered a.stories number) a number

abbrev pub joined_if : Bool → List ℕ → ℕ → List WordGroup → List WordGroup
joined_if true word n groups = joined word n groups
joined_if false word n groups = groups

abbrev pub reasons_from : RunAccount → List ℕ → List WordGroup → List WordGroup
reasons_from a [] groups = groups
reasons_from a (n ∷ ns) groups = reasons_from a ns (joined_if (failed a n) (reason a n) n groups)

-- for which reasons these stories failed, each with the numbers of its stories, the most first
unfoldable pub reasons : RunAccount → List ℕ → List WordGroup
reasons a stories = largest_first (reasons_from a stories [])

-- those of all stories of a section
unfoldable pub section_reasons : RunAccount → Section → List WordGroup
section_reasons a section = reasons a (stories_in a section chosens.All)

-- # Columns

abbrev pub blanks : ℕ → List ℕ
blanks count = replicate count 32

-- a number at the end of a field of some signs
abbrev pub padded : ℕ → ℕ → List ℕ
padded number width = blanks (width - length (decimal number)) ++ decimal number

-- words at the start of a field of some octets
abbrev pub widened : List ℕ → ℕ → List ℕ
widened word width = word ++ blanks (width - length word)

unfoldable pub reason_row : WordGroup → List ℕ
reason_row group = codes "  " ++ (padded (length group.members) 4 ++ (codes " " ++ (group.word ++ codes "\n")))

abbrev pub reason_rows : List WordGroup → List ℕ
reason_rows [] = []
reason_rows (group ∷ groups) = reason_row group ++ reason_rows groups

-- how many stories failed for which reason, the most first
unfoldable pub reasons_text : RunAccount → List ℕ → List ℕ
reasons_text a stories = reason_rows (reasons a stories)

-- # Stories

-- what came to a node that it is not for has no words
abbrev pub is_shown : RunAccount → ℕ → RecordedEvent → Bool
is_shown a event e = not (is_for_another e.answer) || not (length (why a event) == 0)

abbrev pub refusal_mark : Answer → List ℕ
refusal_mark answer = if is_ok answer then [] else parts_text (Words (codes " [") ∷ Words (answer_word answer) ∷ Words (codes "]") ∷ [])

unfoldable pub event_line_by : ℕ → ℕ → List ℕ → List ℕ → List ℕ
event_line_by event line why mark =
    parts_text
    (Words (codes "      event ") ∷ Number event ∷ Words (codes ", line ") ∷ Number line ∷ Words (codes ": ") ∷ Words why
    ∷ Words (codes ".") ∷ Words mark ∷ Words (codes "\n") ∷ [])

unfoldable pub event_line : RunAccount → ℕ → RecordedEvent → List ℕ
event_line a event e = event_line_by event e.line (why a event) (refusal_mark e.answer)

abbrev pub event_by : Option RecordedEvent → RunAccount → ℕ → List ℕ
event_by None a event = []
event_by (Some e) a event = if is_shown a event e then event_line a event e else []

abbrev pub event_text : RunAccount → ℕ → List ℕ
event_text a event = event_by (numbered a.events event) a event

abbrev pub left_words : StoryKind → List ℕ
left_words kinds.Datagram = codes "the datagram left as flight "
left_words _ = codes "the message left as flight "

abbrev pub is_of : ℕ → Course → Bool
is_of number course = course.story == number

unfoldable pub left_by : ℕ → ℕ → List ℕ → ℕ → List ℕ
left_by event line what flight =
    parts_text
    (Words (codes "      event ") ∷ Number event ∷ Words (codes ", line ") ∷ Number line ∷ Words (codes ": ") ∷ Words what ∷ Number flight
    ∷ Words (codes ".\n") ∷ [])

abbrev pub left_at : Option ℕ → ℕ → RecordedEvent → Story → List ℕ
left_at None event e story = []
left_at (Some place) event e story = left_by event e.line (left_words story.kind) (e.first_flight + place)

-- what left of a story at an event of another one, by the first flight of it
abbrev pub left_text : RunAccount → ℕ → RecordedEvent → ℕ → Story → List ℕ
left_text a event e number story = left_at (position (is_of number) (made_by e a.courses)) event e story

abbrev pub left_with : Option RecordedEvent → RunAccount → ℕ → ℕ → Story → List ℕ
left_with None a event number story = []
left_with (Some e) a event number story = left_text a event e number story

abbrev pub is_owner : Option ℕ → ℕ → Bool
is_owner None number = false
is_owner (Some owner) number = owner == number

-- an event of a story, or of another one at which a flight of the story went out
abbrev pub story_event : RunAccount → ℕ → ℕ → Story → List ℕ
story_event a event number story =
    if is_owner (numbered a.owners event) number then event_text a event else left_with (numbered a.events event) a event number story

abbrev pub events_text : RunAccount → List ℕ → ℕ → Story → List ℕ
events_text a [] number story = []
events_text a (event ∷ events) number story = story_event a event number story ++ events_text a events number story

abbrev pub verdict_line : List ℕ → List ℕ
verdict_line outcome = if length outcome == 0 then [] else codes "    " ++ (capital outcome ++ codes ".\n")

unfoldable pub story_head : RunAccount → ℕ → Story → List ℕ
story_head a number story = codes "\n  " ++ (capital (title a number story) ++ (codes "\n" ++ verdict_line (outcome_text a number)))

abbrev pub whole_events : Bool → RunAccount → ℕ → Story → List ℕ
whole_events true a number story = events_text a (events_at a.index number) number story
whole_events false a number story = []

-- a story: what it is about, its verdict, and, where it is whole, its events
abbrev pub story_text : RunAccount → ℕ → Story → Bool → List ℕ
story_text a number story whole = story_head a number story ++ whole_events whole a number story

-- whether good stories are written in short, or left out where there are many
abbrev pub is_brief : Chosen → Bool
is_brief chosens.Failed = true
is_brief _ = false

-- many stories are more than this many
abbrev pub many : ℕ
many = 20

abbrev pub is_left_out : RunAccount → Chosen → ℕ → ℕ → Bool
is_left_out a chosen count number = came_well a number && (is_brief chosen && nat_lt many count)

abbrev pub is_whole : RunAccount → Chosen → ℕ → Bool
is_whole a chosen number = not (came_well a number) || not (is_brief chosen)

abbrev pub entry_by : Option Story → RunAccount → Chosen → ℕ → ℕ → List ℕ
entry_by None a chosen count number = []
entry_by (Some story) a chosen count number =
    if is_left_out a chosen count number then [] else story_text a number story (is_whole a chosen number)

unfoldable pub entry_text : RunAccount → Chosen → ℕ → ℕ → List ℕ
entry_text a chosen count number = entry_by (numbered a.stories number) a chosen count number

abbrev pub entries_text : RunAccount → Chosen → ℕ → List ℕ → List ℕ
entries_text a chosen count [] = []
entries_text a chosen count (number ∷ numbers) = entry_text a chosen count number ++ entries_text a chosen count numbers

-- # Whole sections

abbrev pub good_text : Section → ℕ → List ℕ
good_text section count = if is_broadcasts section then [] else parts_text (Words (codes ", ") ∷ Number count ∷ Words (good_word section) ∷ [])

abbrev pub head_by : List ℕ → ℕ → List ℕ → List ℕ
head_by title count good =
    parts_text (Words (codes "\n") ∷ Words title ∷ Words (codes ": ") ∷ Number count ∷ Words good ∷ Words (codes "\n") ∷ [])

abbrev pub section_head : Section → ℕ → ℕ → List ℕ
section_head section count good = head_by (section_title section) count (good_text section good)

abbrev pub many_reasons : RunAccount → List ℕ → List ℕ
many_reasons a stories = if nat_lt many (length stories) then reasons_text a stories else []

-- a section with these stories
unfoldable pub section_of : RunAccount → Section → Chosen → List ℕ → List ℕ
section_of a section chosen stories =
    section_head section (length stories) (length (good_among a stories))
    ++ (many_reasons a stories ++ entries_text a chosen (length stories) stories)

abbrev pub section_by : RunAccount → Section → Chosen → List ℕ → List ℕ
section_by a section chosen stories = if length stories == 0 then [] else section_of a section chosen stories

abbrev pub section_text : RunAccount → Section → Chosen → List ℕ
section_text a section chosen = section_by a section chosen (stories_in a section chosen)

abbrev pub sections_from : RunAccount → List Section → Chosen → List ℕ
sections_from a [] chosen = []
sections_from a (section ∷ rest) chosen = section_text a section chosen ++ sections_from a rest chosen

-- # Refusals

abbrev pub refused_from : ℕ → List RecordedEvent → List ℕ
refused_from place [] = []
refused_from place (e ∷ es) = number_if (is_refused e.answer) (place + 1) ++ refused_from (place + 1) es

abbrev pub answers_from : RunAccount → List ℕ → List WordGroup → List WordGroup
answers_from a [] groups = groups
answers_from a (event ∷ events) groups = answers_from a events (joined (answer_at a event) event groups)

abbrev pub line_by : Option RecordedEvent → ℕ
line_by None = 0
line_by (Some e) = e.line

abbrev pub line_at : RunAccount → ℕ → ℕ
line_at a event = line_by (numbered a.events event)

unfoldable pub first_text : RunAccount → ℕ → List ℕ
first_text a event =
    parts_text
    (Words (codes " first at event ") ∷ Number event ∷ Words (codes ", line ") ∷ Number (line_at a event) ∷ Words (codes ": ")
    ∷ Words (why a event) ∷ Words (codes "\n") ∷ [])

unfoldable pub refusal_row : RunAccount → WordGroup → List ℕ
refusal_row a group =
    codes "  "
    ++ (padded (length group.members) 5 ++ (codes " " ++ (widened group.word 12 ++ first_text a (number_or_0 (slice_get group.members 0)))))

abbrev pub refusal_rows : RunAccount → List WordGroup → List ℕ
refusal_rows a [] = []
refusal_rows a (group ∷ groups) = refusal_row a group ++ refusal_rows a groups

unfoldable pub refusals_head : ℕ → List ℕ
refusals_head count = parts_text (Words (codes "\nRefusals: ") ∷ Number count ∷ Words (codes "\n") ∷ [])

unfoldable pub refusals_of : RunAccount → List ℕ → List ℕ
refusals_of a events =
    refusals_head (length events)
    ++ refusal_rows a (largest_first (answers_from a events []))

abbrev pub refusals_by : RunAccount → List ℕ → List ℕ
refusals_by a events = if length events == 0 then [] else refusals_of a events

-- how often what was refused, the most first, with the first of each
abbrev pub refusals_text : RunAccount → List ℕ
refusals_text a = refusals_by a (refused_from 0 a.events)

-- # Flights that never came

abbrev pub mute_from : ℕ → List Course → List ℕ
mute_from place [] = []
mute_from place (course ∷ courses) = number_if (is_mute course.fate) (place + 1) ++ mute_from (place + 1) courses

abbrev pub is_maker : ℕ → RecordedEvent → Bool
is_maker flight e = nat_le e.first_flight flight && nat_lt (flight - e.first_flight) e.flights

abbrev pub after_place : Option ℕ → ℕ
after_place None = 0
after_place (Some place) = place + 1

-- the event that made a flight
abbrev pub made_at : RunAccount → ℕ → ℕ
made_at a flight = after_place (position (is_maker flight) a.events)

unfoldable pub mute_row : RunAccount → ℕ → ℕ → List ℕ
mute_row a flight event =
    parts_text
    (Words (codes "        flight ") ∷ Number flight ∷ Words (codes ", event ") ∷ Number event ∷ Words (codes ", line ") ∷ Number (line_at a event)
    ∷ Words (codes ": ") ∷ Words (fate_text a flight) ∷ Words (codes "\n") ∷ [])

abbrev pub mute_rows : RunAccount → List ℕ → List ℕ
mute_rows a [] = []
mute_rows a (flight ∷ flights) = mute_row a flight (made_at a flight) ++ mute_rows a flights

unfoldable pub mute_head : ℕ → List ℕ
mute_head count =
    parts_text (Words (codes "\nFrames that never came to the node that they are for: ") ∷ Number count ∷ Words (codes "\n") ∷ [])

unfoldable pub mute_of : RunAccount → List ℕ → List ℕ
mute_of a flights =
    mute_head (length flights)
    ++ mute_rows a (take many flights)

abbrev pub mute_by : RunAccount → List ℕ → List ℕ
mute_by a flights = if length flights == 0 then [] else mute_of a flights

-- the flights that never came to the node that they are for: how many there are, and the first of them
abbrev pub mute_text : RunAccount → List ℕ
mute_text a = mute_by a (mute_from 0 a.courses)

-- # Forged events

unfoldable pub forged_row : RunAccount → ℕ → RecordedEvent → List ℕ
forged_row a event e =
    parts_text
    (Words (codes "FORGED at event ") ∷ Number event ∷ Words (codes ", line ") ∷ Number e.line ∷ Words (codes ": ") ∷ Words (why a event)
    ∷ Words (codes ". No node of this run had made that tag with that key.\n") ∷ [])

abbrev pub forged_by : RunAccount → ℕ → RecordedEvent → List ℕ
forged_by a event e = if e.forged then forged_row a event e else []

abbrev pub forged_from : RunAccount → ℕ → List RecordedEvent → List ℕ
forged_from a place [] = []
forged_from a place (e ∷ es) = forged_by a (place + 1) e ++ forged_from a (place + 1) es

-- # All

-- whether only some stories are chosen, and what concerns the others is left out
abbrev pub is_part : Chosen → Bool
is_part (chosens.Send send) = true
is_part (chosens.Node node) = true
is_part _ = false

abbrev pub rest_text : RunAccount → Chosen → List ℕ
rest_text a chosen = if is_part chosen then [] else refusals_text a ++ mute_text a

abbrev pub all_sections : List Section
all_sections =
    sections.Datagrams ∷ sections.Joinings ∷ sections.Orders ∷ sections.Injections ∷ sections.Broadcasts ∷ sections.Walks ∷ []

-- what became of the chosen stories: the forged events, each section, and where all are chosen the refusals and the flights that never came
unfoldable pub account_text : RunAccount → Chosen → List ℕ
account_text a chosen = forged_from a 0 a.events ++ (sections_from a all_sections chosen ++ rest_text a chosen)
