-- What a page shows of a run: its parts in their order. Charts are those of `run_charts`.
use Rattle.std.specs.Prelude.{◌≡◌, ℕ, ◌+◌, ◌-◌, ◌==◌, ◌&&◌, ◌||◌, nat_le, nat_lt, zero, suc, Bool, true, false, not, List, [], ◌∷◌, ◌++◌}
use Rattle.std.specs.Prelude.{codes, length, position, slice_get, Option, None, Some, if◌then◌else◌}
use Rattle.markup.specs.declared.names.Element.TheVariants as E
use Rattle.markup.specs.declared.names.Attribute.TheVariants as A
use Rattle.markup.specs.Markups.{Markup, Nothing, Words, Inside, Both, markup_text, with_text, with_number}
use Rattle.markup.specs.HtmlReader.{IsContent}
use Rattle.markup.specs.Frames.{doctype, page_text}
use Rattle.markup.specs.Parts.{band, event_numbers, fault_tile, heading, keys, map_keys, name, not_drawn, share, span, tile, totals}
use Rattle.line_record.specs.declared.kind.StoryKind.{StoryKind}
use Rattle.line_record.specs.declared.kind.StoryKind.TheVariants as kinds
use Rattle.line_record.specs.declared.course.Course.{Course}
use Rattle.line_record.specs.declared.story.Story.{Story}
use Rattle.line_record.specs.declared.recorded.RecordedEvent.{RecordedEvent}
use Rattle.line_record.specs.Verdicts.{is_good}
use Rattle.run_charts.specs.Charts.{chart}
use Rattle.run_charts.specs.Lanes.{lanes}
use Rattle.run_maps.specs.Maps.{run_map}
use Rattle.line_record.specs.Kinds.{is_refused}
use Rattle.run_charts.specs.Runs.{Run, is_missed}
use Rattle.sentence_parts.specs.declared.part.Part.TheVariants as part
use Rattle.sentence_parts.specs.Parts.{parts_text}
use Rattle.run_pages.specs.Counts.{count_if, is_kind, is_yes}
use Rattle.run_pages.specs.NodeTables.{nodes_table}
use Rattle.run_pages.specs.Reasons.{reasons}
use Rattle.story_accounts.specs.Accounts.{RunAccount, verdict_at, why}
use Rattle.story_accounts.specs.Indexes.{events_at}
use Rattle.story_accounts.specs.Outcomes.{outcome_text}
use Rattle.story_accounts.specs.Titles.{title as story_title}

pub record Sheet : Type 0 where
  pub account : RunAccount
  -- what was counted
  pub events : ℕ
  pub flights : ℕ
  pub forged : ℕ
  -- no words where the script has none
  pub title : List ℕ
  -- what is said of the bad line at which the run ends, no words where there is none
  pub bad : List ℕ

-- # Words

abbrev pub or_words : List ℕ → List ℕ → List ℕ
or_words words other = if length words == 0 then other else words

abbrev pub kind_title : StoryKind → List ℕ
kind_title kinds.Setup = codes "Setup"
kind_title kinds.Datagram = codes "Datagrams"
kind_title kinds.Joining = codes "Joinings"
kind_title kinds.Renewal = codes "Renewals of keys"
kind_title kinds.Order = codes "Orders"
kind_title kinds.Injection = codes "Injected octets"
kind_title kinds.Broadcast = codes "Broadcasts"
kind_title kinds.Walk = codes "Path requests"
kind_title kinds.Line = codes "On the line"

-- what a good story of a kind is called
abbrev pub good_words : StoryKind → List ℕ
good_words kinds.Datagram = codes "datagrams came"
good_words kinds.Joining = codes "joinings done"
good_words kinds.Renewal = codes "key renewals done"
good_words kinds.Order = codes "orders heard"
good_words kinds.Injection = codes "injections refused"
good_words kinds.Walk = codes "path requests answered"
good_words _ = []

abbrev pub story_class : Option Bool → List ℕ
story_class (Some true) = codes "s g"
story_class (Some false) = codes "s b"
story_class None = codes "s"

abbrev pub is_no : Option Bool → Bool
is_no None = false
is_no (Some good) = not good

-- # Counts

abbrev pub missed_from : List Course → ℕ → ℕ
missed_from [] n = n
missed_from (course ∷ courses) n = missed_from courses (count_if (is_missed course.fate) n)

abbrev pub missed : Sheet → ℕ
missed s = missed_from s.account.courses 0

abbrev pub refusals_from : List RecordedEvent → ℕ → ℕ
refusals_from [] n = n
refusals_from (e ∷ es) n = refusals_from es (count_if (is_refused e.answer) n)

abbrev pub refusals : Sheet → ℕ
refusals s = refusals_from s.account.events 0

abbrev pub seconds_by : Option RecordedEvent → ℕ
seconds_by None = 0
seconds_by (Some e) = e.clock

abbrev pub seconds : Sheet → ℕ
seconds s = seconds_by (slice_get s.account.events (length s.account.events - 1))

-- # The top

abbrev pub top : Sheet → Markup
top s = Both (name (or_words s.title (codes "A run"))) (totals (length s.account.euis) s.events s.flights (seconds s))

abbrev pub bad_band : Sheet → Markup
bad_band s = if length s.bad == 0 then Nothing else band s.bad

abbrev pub is_forged : RecordedEvent → Bool
is_forged e = e.forged

abbrev pub number_at : Option ℕ → Option ℕ
number_at None = None
number_at (Some place) = Some (place + 1)

-- the number of the first event that is forged
abbrev pub first_forged : List RecordedEvent → Option ℕ
first_forged events = number_at (position is_forged events)

abbrev pub forged_text : RunAccount → ℕ → List ℕ
forged_text a event =
    parts_text
    (part.Words (codes "Forged: the first at event ") ∷ part.Number event ∷ part.Words (codes ": ") ∷ part.Words (why a event)
    ∷ part.Words (codes ". What is promised holds up to there.") ∷ [])

abbrev pub forged_at : Sheet → ℕ → Markup
forged_at s event = band (forged_text s.account event)

abbrev pub forged_by : Option ℕ → Sheet → Markup
forged_by None s = Nothing
forged_by (Some event) s = forged_at s event

abbrev pub forged_band : Sheet → Markup
forged_band s = forged_by (first_forged s.account.events) s

-- # Charts

abbrev pub numbers_to : ℕ → List ℕ
numbers_to zero = []
numbers_to (suc n) = numbers_to n ++ ((n + 1) ∷ [])

-- the chart of these events on a card
unfoldable pub card : Run → List ℕ → Markup
card run events = Inside E.Division (with_text A.Class (codes "card") ∷ []) (chart run events)

-- the chart of these events, which are all
unfoldable pub whole : Run → List ℕ → Markup
whole run events = Both (heading (codes "The whole run in order")) (card run events)

-- # Stories

abbrev pub last_or : Option ℕ → ℕ → ℕ
last_or None first = first
last_or (Some last) first = last

abbrev pub story_head : Sheet → ℕ → Story → List ℕ → Markup
story_head s number story events =
    Inside E.Summary []
    (Both (event_numbers story.first (last_or (slice_get events (length events - 1)) story.first))
    (Both (span (codes "t") (or_words (story_title s.account number story) (kind_title story.kind))) (span (codes "v") (outcome_text s.account number))))

abbrev pub chart_if : Bool → Run → List ℕ → Markup
chart_if true run events = chart run events
chart_if false run events = not_drawn

-- what it is about, what became of it, and, if it is drawn, its chart inside
abbrev pub story : Sheet → Run → Bool → ℕ → Story → Markup
story s run drawn number it =
    Inside E.Details (with_number A.Id number ∷ with_text A.Class (story_class (is_good (verdict_at s.account number))) ∷ [])
    (Both (story_head s number it (events_at s.account.index number)) (chart_if drawn run (events_at s.account.index number)))

-- # Stories of a kind

-- how many stories of a kind there are among these, from this place on, and how many of them reached their ends
abbrev pub all_from : StoryKind → List Story → ℕ → ℕ
all_from kind [] n = n
all_from kind (it ∷ stories) n = all_from kind stories (count_if (is_kind it.kind kind) n)

abbrev pub good_from : RunAccount → StoryKind → ℕ → List Story → ℕ → ℕ
good_from a kind place [] n = n
good_from a kind place (it ∷ stories) n =
    good_from a kind (place + 1) stories (count_if (is_kind it.kind kind && is_yes (is_good (verdict_at a (place + 1)))) n)

abbrev pub all_of : Sheet → StoryKind → ℕ
all_of s kind = all_from kind s.account.stories 0

abbrev pub good_of : Sheet → StoryKind → ℕ
good_of s kind = good_from s.account kind 0 s.account.stories 0

-- whether a story did not reach its end
abbrev pub has_failed : Sheet → ℕ → Bool
has_failed s number = is_no (is_good (verdict_at s.account number))

-- among this many stories
abbrev pub failed_among : Sheet → ℕ → ℕ
failed_among s zero = 0
failed_among s (suc number) = count_if (has_failed s (number + 1)) (failed_among s number)

abbrev pub failed : Sheet → ℕ
failed s = failed_among s (length s.account.stories)

abbrev pub is_other : Sheet → StoryKind → ℕ → Story → Bool
is_other s kind number it = is_kind it.kind kind && not (has_failed s number)

abbrev pub other_from : Sheet → StoryKind → ℕ → List Story → ℕ → ℕ
other_from s kind place [] n = n
other_from s kind place (it ∷ stories) n = other_from s kind (place + 1) stories (count_if (is_other s kind (place + 1) it) n)

-- how many of a kind did not fail
abbrev pub others_of : Sheet → StoryKind → ℕ
others_of s kind = other_from s kind 0 s.account.stories 0

abbrev pub story_if : Bool → Sheet → Run → Bool → ℕ → Story → Markup
story_if true s run drawn number it = story s run drawn number it
story_if false s run drawn number it = Nothing

-- how many charts are left after a story
abbrev pub left_after : Bool → ℕ → ℕ
left_after true left = left - 1
left_after false left = left

-- those of a kind that did not fail, from this place on, with this many charts
abbrev pub others_from : Sheet → Run → StoryKind → ℕ → ℕ → List Story → Markup
others_from s run kind left place [] = Nothing
others_from s run kind left place (it ∷ stories) =
    Both (story_if (is_other s kind (place + 1) it) s run (nat_lt 0 left) (place + 1) it)
    (others_from s run kind (left_after (is_other s kind (place + 1) it) left) (place + 1) stories)

abbrev pub stories_of : Sheet → Run → StoryKind → Markup
stories_of s run kind =
    if others_of s kind == 0 then Nothing else Both (heading (kind_title kind)) (others_from s run kind 100 0 s.account.stories)

-- those of all kinds that failed, from this place on, with this many charts
abbrev pub failed_from : Sheet → Run → ℕ → ℕ → List Story → Markup
failed_from s run left place [] = Nothing
failed_from s run left place (it ∷ stories) =
    Both (story_if (has_failed s (place + 1)) s run (nat_lt 0 left) (place + 1) it)
    (failed_from s run (left_after (has_failed s (place + 1)) left) (place + 1) stories)

unfoldable pub failed_list : Sheet → Run → Markup
failed_list s run = Both (heading (codes "What failed")) (failed_from s run 300 0 s.account.stories)

-- why they failed, and each of them
abbrev pub failed_stories : Sheet → Run → Markup
failed_stories s run = if failed s == 0 then Nothing else Both (reasons s.account) (failed_list s run)

abbrev pub stories : Sheet → Run → List StoryKind → Markup
stories s run [] = Nothing
stories s run (kind ∷ rest) = Both (stories_of s run kind) (stories s run rest)

-- # Tiles

abbrev pub kind_tile : Sheet → StoryKind → Markup
kind_tile s kind =
    if (all_of s kind == 0) || (length (good_words kind) == 0) then Nothing else share (good_of s kind) (all_of s kind) (good_words kind)

abbrev pub kind_tiles : Sheet → List StoryKind → Markup
kind_tiles s [] = Nothing
kind_tiles s (kind ∷ rest) = Both (kind_tile s kind) (kind_tiles s rest)

abbrev pub all_kinds : List StoryKind
all_kinds =
    kinds.Datagram ∷ kinds.Joining ∷ kinds.Renewal ∷ kinds.Order ∷ kinds.Injection ∷ kinds.Broadcast ∷ kinds.Walk ∷ kinds.Line ∷ kinds.Setup ∷ []

-- how many stories of each kind reached their ends
unfoldable pub story_tiles : Sheet → Markup
story_tiles s = kind_tiles s all_kinds

-- what else is counted of the run
unfoldable pub count_tiles : Sheet → Markup
count_tiles s =
    Both (tile (refusals s) (codes "refusals"))
    (Both (tile (missed s) (codes "frames missed their target")) (fault_tile s.forged (codes "forged")))

unfoldable pub tile_list : Sheet → Markup
tile_list s = Both (story_tiles s) (count_tiles s)

abbrev pub tiles : Sheet → Markup
tiles s = Inside E.Division (with_text A.Class (codes "tiles") ∷ []) (tile_list s)

-- # The order

-- who hears whom, and each next hop to the coordinator, by the node of each short address
unfoldable pub map_of : Run → List ℕ → Markup
map_of run homes = run_map run.events run.flights run.pasts homes

abbrev pub map_card : Run → List ℕ → Markup
map_card run homes = Inside E.Division (with_text A.Class (codes "card high") ∷ []) (map_of run homes)

unfoldable pub links : Run → List ℕ → Markup
links run homes = Both (heading (codes "Who hears whom")) (Both map_keys (map_card run homes))

-- each node over the run
abbrev pub nodes : Run → Markup
nodes run =
    Both (heading (codes "Each node over the run"))
    (Both keys (Inside E.Division (with_text A.Class (codes "card high") ∷ []) (lanes run)))

abbrev pub whole_if : Bool → Sheet → Run → Markup
whole_if true s run = whole run (numbers_to (length s.account.events))
whole_if false s run = Nothing

-- what is said of the run as a whole
unfoldable pub summary : Sheet → Markup
summary s = Both (top s) (Both (bad_band s) (Both (forged_band s) (tiles s)))

-- the map, its nodes, and each over the run
abbrev pub views : Sheet → Run → Markup
views s run = Both (links run s.account.homes) (Both (nodes_table s.account run) (nodes run))

-- what is said of its parts; a run of at most 60 events is shown whole before its stories, one of at most 600 after them
unfoldable pub parts : Sheet → Run → Markup
parts s run =
    Both (failed_stories s run) (Both (views s run) (Both (whole_if (nat_le (length s.account.events) 60) s run)
    (Both (stories s run all_kinds)
    (whole_if (nat_lt 60 (length s.account.events) && nat_le (length s.account.events) 600) s run))))

abbrev pub content : Sheet → Run → Markup
content s run = Both (summary s) (parts s run)

abbrev pub page : Sheet → Run → List ℕ
page s run = page_text (or_words s.title (codes "A run")) (markup_text (content s run))

-- # What is a page

-- the type of the document, and after it markup that closes all that it opens, and nothing else
pub record IsPage (octets : List ℕ) : Type 0 where
  pub markup : List ℕ
  pub whole : octets ≡ doctype ++ markup
  pub nests : IsContent markup
