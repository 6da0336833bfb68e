-- What nodes keep of stories while a record is gone through.
use Rattle.std.specs.Prelude.{ℕ, ◌==◌, ◌&&◌, ◌||◌, Bool, true, false, not, List, [], ◌∷◌, ◌++◌, Option, None, Some, if◌then◌else◌}
use Rattle.std.specs.List.{find, list_any}
use Rattle.frame_facts.specs.declared.gist.Gist.{Gist}
use Rattle.frame_facts.specs.declared.gist.Gist.TheVariants as gists
use Rattle.line_events.specs.declared.event.Answer.{Answer}
use Rattle.line_events.specs.declared.event.Answer.TheVariants as answers
use Rattle.line_record.specs.declared.act.Act.{Act}
use Rattle.line_record.specs.declared.act.Act.TheVariants as acts
use Rattle.line_record.specs.declared.recorded.RecordedEvent.{RecordedEvent}
use Rattle.line_record.specs.declared.recorded.RecordedFlight.{RecordedFlight}
use Rattle.line_record.specs.declared.story.Story.{Story}
use Rattle.line_record.specs.declared.course.Course.{Course}
use Rattle.line_record.specs.declared.kept.Kept.{Kept}
use Rattle.line_record.specs.declared.kept.KeptEnd.{KeptEnd}
use Rattle.line_record.specs.declared.kept.KeptEnd.TheVariants as kept_ends
use Rattle.line_record.specs.KeptItems.{end_of, is_kept_of, is_message, is_still, makes_message}
use Rattle.line_record.specs.Kinds.{actor_of, is_piece_held, sends}
use Rattle.line_record.specs.Lists.{changed_at}
use Rattle.line_record.specs.Marks.{is_node, left, with_kept}
use Rattle.line_record.specs.RunRecords.{numbered}

-- # What begins to be kept

-- by the node that the event of this number is about
abbrev pub new_kept : ℕ → RecordedEvent → ℕ → ℕ → Bool → Kept
new_kept story e n about gathered =
    record {
      story = story;
      node = actor_of e.act;
      about = about;
      gathered = gathered;
      event = n;
      clock = e.clock;
      flight = e.came;
      end = kept_ends.Still;
    }

abbrev pub is_waiting : Answer → Bool
is_waiting answers.Waiting = true
is_waiting _ = false

-- the datagram that begins to wait for a route at an event of a story
abbrev pub waiting_kept : RecordedEvent → ℕ → ℕ → Option Kept
waiting_kept e n story = if sends e.act e.answer && is_waiting e.answer then Some (new_kept story e n 0 false) else None

abbrev pub has_kept : Bool → ℕ → ℕ → List Kept → Bool
has_kept gathered story node keeping = list_any (is_kept_of gathered story node) keeping

abbrev pub piece_by : Course → RecordedEvent → ℕ → List Kept → Option Kept
piece_by course e n keeping =
    if course.bears && not (has_kept true course.story (actor_of e.act) keeping) then Some (new_kept course.story e n 0 true) else None

abbrev pub piece_of : Option Course → RecordedEvent → ℕ → List Kept → Option Kept
piece_of None e n keeping = None
piece_of (Some course) e n keeping = piece_by course e n keeping

-- the piece that begins to be gathered at an event, where its node gathers none of that story
abbrev pub piece_kept : RecordedEvent → ℕ → List Course → List Kept → Option Kept
piece_kept e n courses keeping = if not (is_piece_held e.answer) || (e.came == 0) then None else piece_of (numbered courses e.came) e n keeping

-- the meter that the joining message of an event is about which somebody asked for
abbrev pub asked_about : Act → Option ℕ
asked_about (acts.Challenge node) = Some node
asked_about (acts.Activate node index) = Some node
asked_about (acts.Kick node) = Some node
asked_about _ = None

abbrev pub is_joining : Gist → Bool
is_joining (gists.Joins eui) = true
is_joining _ = false

-- the meter that a flight is about, where it is a joining message
abbrev pub flight_about : RecordedFlight → Option ℕ
flight_about f = if is_joining f.gist then f.device else None

abbrev pub about_by : Option RecordedFlight → Option ℕ
about_by None = None
about_by (Some f) = flight_about f

-- the meter that the joining message is about which an event makes
abbrev pub message_about : RecordedEvent → List RecordedFlight → Option ℕ
message_about e flights =
    if not (makes_message e.answer) then None
    else (if e.came == 0 then asked_about e.act else about_by (numbered flights e.came))

abbrev pub is_message_about : ℕ → RecordedFlight → Bool
is_message_about about f = is_node (flight_about f) about

-- the message that begins to wait: none of the new flights is that
abbrev pub message_kept : Option ℕ → RecordedEvent → ℕ → ℕ → List RecordedFlight → Option Kept
message_kept None e n story made = None
message_kept (Some about) e n story made = if list_any (is_message_about about) made then None else Some (new_kept story e n about false)

abbrev pub stories_begun : Option Kept → List Story → List Story
stories_begun None stories = stories
stories_begun (Some k) stories = changed_at k.story (with_kept k) stories

abbrev pub keeping_begun : Option Kept → List Kept → List Kept
keeping_begun None keeping = keeping
keeping_begun (Some k) keeping = keeping ++ (k ∷ [])

-- # What ends

abbrev pub ended_so : KeptEnd → Kept → Kept
ended_so end k = record k { end = end }

abbrev pub story_ended : ℕ → RecordedEvent → Kept → List Story → List Story
story_ended n e k stories =
    if is_still (end_of n e k) then stories else changed_at k.story (with_kept (ended_so (end_of n e k) k)) stories

-- the stories after an event that ends some of what is kept
abbrev pub stories_ended : ℕ → RecordedEvent → List Kept → List Story → List Story
stories_ended n e [] stories = stories
stories_ended n e (k ∷ ks) stories = stories_ended n e ks (story_ended n e k stories)

abbrev pub kept_if : Bool → Kept → List Kept
kept_if true k = k ∷ []
kept_if false k = []

-- what is kept still after an event
abbrev pub still_kept : ℕ → RecordedEvent → List Kept → List Kept
still_kept n e [] = []
still_kept n e (k ∷ ks) = kept_if (is_still (end_of n e k)) k ++ still_kept n e ks

-- # What leaves, and what is handed up

-- what is kept beside that of a story at a node
abbrev pub others_kept : Bool → ℕ → ℕ → List Kept → List Kept
others_kept gathered story node [] = []
others_kept gathered story node (k ∷ ks) = kept_if (not (is_kept_of gathered story node k)) k ++ others_kept gathered story node ks

abbrev pub is_waiting_message : ℕ → ℕ → Kept → Bool
is_waiting_message node about k = is_message node about k

-- the story of the first message about a meter that waits at a node
abbrev pub story_by : Option Kept → Option ℕ
story_by None = None
story_by (Some k) = Some k.story

abbrev pub waiting_story : ℕ → Option ℕ → List Kept → Option ℕ
waiting_story node None keeping = None
waiting_story node (Some about) keeping = story_by (find (is_waiting_message node about) keeping)

abbrev pub stories_left : ℕ → ℕ → List Kept → List Story → List Story
stories_left story node keeping stories = if has_kept false story node keeping then changed_at story left stories else stories

abbrev pub keeping_left : ℕ → ℕ → List Kept → List Kept
keeping_left story node keeping = if has_kept false story node keeping then others_kept false story node keeping else keeping

abbrev pub handed_up : ℕ → ℕ → List Kept → List Kept
handed_up story node keeping = if has_kept true story node keeping then others_kept true story node keeping else keeping
