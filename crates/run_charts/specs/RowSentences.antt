-- The sentences beside the rows of a chart.
use Rattle.std.specs.Prelude.{ℕ, ◌+◌, ◌==◌, ◌&&◌, Bool, true, false, not, min, nat_lt, List, [], ◌∷◌, ◌++◌, codes, length}
use Rattle.std.specs.Prelude.{Option, None, Some, if◌then◌else◌}
use Rattle.std.specs.Fmt.{decimal}
use Rattle.std.specs.Str.{bytes_eq}
use Rattle.markup.specs.declared.names.Element.TheVariants as E
use Rattle.markup.specs.declared.names.Attribute.TheVariants as A
use Rattle.markup.specs.Markups.{Markup, Nothing, Words, Inside, Both, with_text, with_number}
use Rattle.line_script.specs.AnswerWords.{answer_word}
use Rattle.line_record.specs.declared.act.Act.{Act}
use Rattle.line_record.specs.declared.act.Act.TheVariants as acts
use Rattle.line_record.specs.declared.recorded.RecordedEvent.{RecordedEvent}
use Rattle.line_record.specs.declared.course.Course.{Course}
use Rattle.line_record.specs.declared.course.Fate.{Fate}
use Rattle.line_record.specs.declared.course.Fate.TheVariants as fates
use Rattle.line_record.specs.Kinds.{is_setup}
use Rattle.line_record.specs.RunRecords.{made_by, numbered}
use Rattle.sentence_parts.specs.declared.part.Part.TheVariants as part
use Rattle.sentence_parts.specs.Parts.{parts_text}
use Rattle.run_charts.specs.declared.row.Row.{Row}
use Rattle.run_charts.specs.declared.saying.Made.{Made}
use Rattle.run_charts.specs.EventDeeds.{doing_text}
use Rattle.run_charts.specs.Outcomes.{outcome_of, pill_class}
use Rattle.run_charts.specs.Runs.{Run, is_hushed, is_missed, is_silent, note, why}
use Rattle.run_charts.specs.Rows.{flight_heard, members, number_at}

-- # Lines of the setup

-- one more; a run has at most 50,000 events
unfoldable pub more : ℕ → Bool → ℕ
more old holds = if holds then min old 100000 + 1 else old

abbrev pub is_made : Act → Bool
is_made (acts.Coordinator eui) = true
is_made (acts.Meter eui) = true
is_made _ = false

abbrev pub is_joined : Act → Bool
is_joined (acts.Depot node) = true
is_joined _ = false

abbrev pub is_routed : Act → Bool
is_routed (acts.Near a b) = true
is_routed _ = false

unfoldable pub made_more : Made → Act → Made
made_more made act =
    record { nodes = more made.nodes (is_made act); joined = more made.joined (is_joined act); routes = more made.routes (is_routed act) }

abbrev pub made_after : Option RecordedEvent → Made → Made
made_after None made = made
made_after (Some e) made = made_more made e.act

unfoldable pub with_made : Run → Made → ℕ → Made
with_made r made event = made_after (numbered r.events event) made

abbrev pub made_from : Run → List ℕ → Made → Made
made_from r [] made = made
made_from r (event ∷ events) made = made_from r events (with_made r made event)

unfoldable pub made_by_all : Run → List ℕ → Made
made_by_all r events = made_from r events (record { nodes = 0; joined = 0; routes = 0 })

unfoldable pub setup_words : Made → List ℕ
setup_words made =
    parts_text
    (part.Words (codes "nodes: ") ∷ part.Number made.nodes ∷ part.Words (codes ", joined in the workshop: ") ∷ part.Number made.joined
    ∷ part.Words (codes ", pairs with a route to each other: ") ∷ part.Number made.routes ∷ [])

-- # Words of a row

-- words after others
unfoldable pub joined_words : List ℕ → List ℕ → List ℕ
joined_words before words = if is_silent words then before else (if is_silent before then words else before ++ (codes "; " ++ words))

abbrev pub said_by : Option RecordedEvent → List ℕ → List ℕ
said_by None words = words
said_by (Some e) words = if bytes_eq words (answer_word e.answer) then doing_text e else words

-- what is said of an event: its sentence, where that is more than the word of its answer
unfoldable pub said : Run → ℕ → List ℕ
said r event = said_by (numbered r.events event) (why r event)

-- what is said of some events, after others
abbrev pub reasons_after : Run → List ℕ → List ℕ → List ℕ
reasons_after r [] before = before
reasons_after r (event ∷ events) before = reasons_after r events (joined_words before (said r event))

-- a flight that came only to nodes that it is not for
unfoldable pub overheard : ℕ → ℕ → List ℕ
overheard flight nodes =
    parts_text
    (part.Words (codes "flight ") ∷ part.Number flight ∷ part.Words (codes " is heard by others than the node that it is for: ")
    ∷ part.Number nodes ∷ [])

-- whether a row is this many lines of the setup
unfoldable pub is_setup_row : RecordedEvent → ℕ → Bool
is_setup_row e events = is_setup e.act && nat_lt 1 events

-- whether a row is a flight that came only to nodes that it is not for
unfoldable pub is_overheard : RecordedEvent → Bool → Bool
is_overheard e hushed = not (flight_heard e.act == 0) && hushed

unfoldable pub row_words : Run → List ℕ → Row → ℕ → RecordedEvent → List ℕ
row_words r events row event e =
    if is_setup_row e (length (members events row)) then setup_words (made_by_all r (members events row))
    else (if is_overheard e (is_hushed r event) then overheard (flight_heard e.act) (length (members events row))
    else reasons_after r (members events row) [])

-- # Flights that nobody heard

unfoldable pub is_unheard : Course → Bool
is_unheard course = is_missed course.fate && not course.overheard

abbrev pub late_words : Fate → List ℕ
late_words (fates.Lost event) = codes " lost"
late_words _ = codes " never delivered"

unfoldable pub unheard : ℕ → List ℕ → Markup
unheard flight words =
    Inside E.Span (with_text A.Class (codes "late") ∷ []) (Both (Words (32 ∷ 226 ∷ 128 ∷ 148 ∷ codes " flight ")) (Both (Words (decimal flight)) (Words words)))

abbrev pub unheard_if : Bool → ℕ → Course → Markup
unheard_if true flight course = unheard flight (late_words course.fate)
unheard_if false flight course = Nothing

abbrev pub late_from : ℕ → List Course → Markup
late_from flight [] = Nothing
late_from flight (course ∷ courses) = Both (unheard_if (is_unheard course) flight course) (late_from (flight + 1) courses)

unfoldable pub late : Run → RecordedEvent → Markup
late r e = late_from e.first_flight (made_by e r.courses)

-- # Items

unfoldable pub full_note : List ℕ → Markup
full_note words = Inside E.Item (with_text A.Class (codes "cm") ∷ with_text A.Title words ∷ []) (Words words)

abbrev pub note_if : Bool → List ℕ → Markup
note_if true words = Nothing
note_if false words = full_note words

unfoldable pub note_item : List ℕ → Markup
note_item words = note_if (is_silent words) words

unfoldable pub pill : RecordedEvent → Markup
pill e = Inside E.Span (with_text A.Class (pill_class (outcome_of e)) ∷ []) (Words (answer_word e.answer))

unfoldable pub item_content : Run → RecordedEvent → List ℕ → Markup
item_content r e said = Both (pill e) (Both (Words said) (late r e))

unfoldable pub item : Run → RecordedEvent → List ℕ → Markup
item r e said = Inside E.Item (with_number A.Flight (flight_heard e.act) ∷ with_text A.Title said ∷ []) (item_content r e said)

abbrev pub saying_by : Option RecordedEvent → Run → List ℕ → Row → ℕ → Markup
saying_by None r events row event = Nothing
saying_by (Some e) r events row event =
    Both (note_item (note r (number_at events row.start))) (item r e (row_words r events row event e))

unfoldable pub saying : Run → List ℕ → Row → Markup
saying r events row = saying_by (numbered r.events (number_at events row.main)) r events row (number_at events row.main)

abbrev pub saying_list : Run → List ℕ → List Row → Markup
saying_list r events [] = Nothing
saying_list r events (row ∷ rows) = Both (saying r events row) (saying_list r events rows)

-- what is said of the rows
unfoldable pub sayings : Run → List ℕ → List Row → Markup
sayings r events rows = Inside E.List [] (saying_list r events rows)
