-- What is wrong with a line that has no reading, in words.
use Rattle.std.specs.Prelude.{ℕ, ◌+◌, ◌-◌, ◌==◌, ◌&&◌, ◌||◌, Bool, true, false, not, ◌∷◌, [], List, Option, None, Some, codes, length, take, min, max}
use Rattle.std.specs.Prelude.{if◌then◌else◌}
use Rattle.std.specs.Prelude.{count_by, position, slice_get}
use Rattle.line_script.specs.declared.kind.EventKind.{EventKind}
use Rattle.line_script.specs.Kinds.{kind_named, kind_word}
use Rattle.sentence_parts.specs.declared.part.Part.TheVariants.{Words, Count, Octets}
use Rattle.sentence_parts.specs.Parts.{parts_text}
use Rattle.script_faults.specs.Findings.{FindingParts, finding_at, noted}
use Rattle.script_faults.specs.LineWords.{rest_at, word_at, spaces_at}
use Rattle.script_faults.specs.declared.fault.Cause.{Cause}
use Rattle.script_faults.specs.declared.fault.Cause.TheVariants as causes
use Rattle.script_faults.specs.declared.fault.Fault.{Fault}
use Rattle.script_faults.specs.declared.form.WordKind.{WordKind}
use Rattle.script_faults.specs.Forms.{fault_of, form_of}
use Rattle.script_faults.specs.Nearest.{meant}
use Rattle.script_faults.specs.Wording.{form_text, first_words, other_words, wanted, word_count}
use Rattle.script_faults.specs.WordFindings.{is_octet, tab_finding, with_form, in_lower_case, wrong_word, word_finding}

-- how many octets are to go
abbrev pub this_or_these : ℕ → List ℕ
this_or_these count = if count == 1 then codes "remove this" else codes "remove these"

-- # Before and after the words

unfoldable pub carriage_return_finding : ℕ → FindingParts
carriage_return_finding at =
    noted
    (parts_text (Words (codes "the file has the line ends of Windows: save it with LF alone, or run it through `tr -d '\\r'`") ∷ []))
    (finding_at at (at + 1)
    (parts_text (Words (codes "the line ends with a carriage return") ∷ []))
    (parts_text (Words (codes "remove this") ∷ [])))

unfoldable pub order_mark_finding : FindingParts
order_mark_finding =
    noted
    (parts_text (Words (codes "save the file as UTF-8 without a byte order mark") ∷ []))
    (finding_at 0 3
    (parts_text (Words (codes "a byte order mark stands before the first word") ∷ []))
    (parts_text (Words (codes "remove this") ∷ [])))

-- whether octets begin with a byte order mark, in UTF-8
abbrev pub has_order_mark : List ℕ → Bool
has_order_mark line = is_octet 239 (slice_get line 0) && (is_octet 187 (slice_get line 1) && is_octet 191 (slice_get line 2))

-- the note where a comment comes after the spaces
abbrev pub with_comment : Bool → FindingParts → FindingParts
with_comment false t = t
with_comment true t = noted (parts_text (Words (codes "a comment begins with `#` in the first column") ∷ [])) t

unfoldable pub spaces_finding : ℕ → FindingParts
spaces_finding count =
    finding_at 0 count
    (parts_text (Words (codes "a line may not begin with a space") ∷ []))
    (parts_text (Words (this_or_these count) ∷ []))

abbrev pub leading_finding : ℕ → List ℕ → FindingParts
leading_finding count line = with_comment (is_octet 35 (slice_get line count)) (spaces_finding count)

-- # A first word that begins no line

-- the place of the tab behind the first word of a line
abbrev pub tab_known : Option EventKind → ℕ → Option ℕ
tab_known None at = None
tab_known (Some kind) at = Some at

abbrev pub tab_by : Option ℕ → List ℕ → Option ℕ
tab_by None word = None
tab_by (Some at) word = tab_known (kind_named (take at word)) at

abbrev pub tab_place : List ℕ → Option ℕ
tab_place word = tab_by (position (λ c. c == 9) word) word

unfoldable pub meant_note : EventKind → List ℕ
meant_note kind =
    parts_text
    (Words (codes "did you mean `") ∷ Words (kind_word kind) ∷ Words (codes "`? the form is `") ∷ Words (form_text kind) ∷ Words (codes "`") ∷ [])

unfoldable pub words_note : List ℕ
words_note = parts_text (Words (codes "the lines are: ") ∷ Words first_words ∷ Words other_words ∷ [])

abbrev pub with_meant : Option EventKind → FindingParts → FindingParts
with_meant (Some kind) t = noted (meant_note kind) t
with_meant None t = noted words_note t

unfoldable pub unknown_word : List ℕ → FindingParts
unknown_word word =
    finding_at 0 (max (length word) 1)
    (parts_text (Words (codes "no line begins with `") ∷ Octets word ∷ Words (codes "`") ∷ []))
    (parts_text (Words (codes "unknown word") ∷ []))

abbrev pub unknown_by : Option ℕ → List ℕ → FindingParts
unknown_by (Some at) word = tab_finding at
unknown_by None word = with_meant (meant (in_lower_case word)) (unknown_word word)

unfoldable pub unknown_finding : List ℕ → FindingParts
unknown_finding word = unknown_by (tab_place word) word

-- # Between the words

abbrev pub this_space_or_these : ℕ → List ℕ
this_space_or_these count = if count == 1 then codes "remove this space" else codes "remove these spaces"

-- more than one space
unfoldable pub wide_gap_finding : ℕ → ℕ → FindingParts
wide_gap_finding at count =
    finding_at at (at + count)
    (parts_text (Words (codes "words are separated by one space") ∷ []))
    (parts_text (Words (this_space_or_these count) ∷ []))

unfoldable pub own_line_note : List ℕ
own_line_note = parts_text (Words (codes "a comment has a line of its own, with `#` in the first column") ∷ [])

-- a comment where a word is expected
unfoldable pub comment_word : List ℕ → ℕ → ℕ → FindingParts
comment_word want at end =
    finding_at at end
    (parts_text (Words (codes "a comment stands behind a line's words") ∷ []))
    (parts_text (Words (codes "expected ") ∷ Words want ∷ []))

abbrev pub comment_finding : EventKind → List ℕ → ℕ → ℕ → FindingParts
comment_finding kind want at end = with_form kind (noted own_line_note (comment_word want at end))

-- a word that is not there; `how` says how the line ends
unfoldable pub missing_word : List ℕ → ℕ → List ℕ → FindingParts
missing_word want at how =
    finding_at at (at + 1)
    (parts_text (Words how ∷ Words want ∷ Words (codes " is expected") ∷ []))
    (parts_text (Words (codes "expected ") ∷ Words want ∷ []))

abbrev pub missing_finding : EventKind → List ℕ → ℕ → List ℕ → FindingParts
missing_finding kind want at how = with_form kind (missing_word want at how)

-- how many spaces stand in a line
abbrev pub spaces_in : List ℕ → ℕ
spaces_in line = count_by (λ c. c == 32) line

-- a word that is not of its kind, by the octet that stands at its place
abbrev pub wrong_by : Option ℕ → EventKind → WordKind → ℕ → ℕ → List ℕ → FindingParts
wrong_by None kind word place at line = missing_finding kind (wanted kind word place) at (codes "a space ends the line, where ")
wrong_by (Some c) kind word place at line =
    if c == 32 then wide_gap_finding at (spaces_at line at)
    else (if c == 35 then comment_finding kind (wanted kind word place) at (length line)
    else word_finding (wrong_word kind word place at (word_at line at)))

unfoldable pub wrong_finding : EventKind → WordKind → ℕ → List ℕ → FindingParts
wrong_finding kind word at line = wrong_by (slice_get line at) kind word (spaces_in (take (min at (length line)) line)) at line

-- # Behind the words

abbrev pub is_blank : ℕ → Bool
is_blank c = c == 32 || c == 9

-- whether octets are a comment behind spaces and tabs
abbrev pub comment_by : Option ℕ → List ℕ → Bool
comment_by None rest = false
comment_by (Some at) rest = is_octet 35 (slice_get rest at)

abbrev pub is_comment : List ℕ → Bool
is_comment rest = comment_by (position (λ c. not (is_blank c)) rest) rest

unfoldable pub trailing_finding : ℕ → ℕ → ℕ → FindingParts
trailing_finding at end count =
    finding_at at end (parts_text (Words (codes "a space ends the line") ∷ [])) (parts_text (Words (this_or_these count) ∷ []))

unfoldable pub comment_behind : ℕ → ℕ → FindingParts
comment_behind at end =
    finding_at at end
    (parts_text (Words (codes "a comment stands behind a line's words") ∷ []))
    (parts_text (Words (codes "remove this") ∷ []))

unfoldable pub more_words : EventKind → ℕ → ℕ → ℕ → FindingParts
more_words kind count at end =
    finding_at at end
    (parts_text
    (Words (codes "`") ∷ Words (kind_word kind) ∷ Words (codes "` has ") ∷ Count count (codes "word") ∷ Words (codes ", and more stands here") ∷ []))
    (parts_text (Words (codes "not expected") ∷ []))

-- more octets than words
unfoldable pub surplus_finding : EventKind → ℕ → List ℕ → FindingParts
surplus_finding kind at line =
    if spaces_at line at == length (rest_at line at) then trailing_finding at (length line) (length (rest_at line at))
    else (if is_comment (rest_at line at) then noted own_line_note (comment_behind at (length line))
    else with_form kind (more_words kind (word_count (form_of kind)) at (length line)))

-- # By the first fault

abbrev pub known_finding : EventKind → Cause → ℕ → List ℕ → FindingParts
known_finding kind causes.Unknown at line = unknown_finding (word_at line 0)
known_finding kind (causes.Missing word) at line =
    missing_finding kind (wanted kind word (spaces_in line + 1)) at (codes "the line ends where ")
known_finding kind (causes.Wrong word) at line = wrong_finding kind word at line
known_finding kind causes.Surplus at line = surplus_finding kind at line

abbrev pub faulty_by : Option EventKind → Cause → ℕ → List ℕ → FindingParts
faulty_by None cause at line = unknown_finding (word_at line 0)
faulty_by (Some kind) cause at line = known_finding kind cause at line

unfoldable pub faulty_finding : Cause → ℕ → List ℕ → FindingParts
faulty_finding cause at line = faulty_by (kind_named (word_at line 0)) cause at line

-- a byte order mark and a space at the front come first
abbrev pub bad_finding : Fault → List ℕ → FindingParts
bad_finding fault line =
    if has_order_mark line then order_mark_finding
    else (if is_octet 32 (slice_get line 0) then leading_finding (spaces_at line 0) line
    else faulty_finding fault.cause fault.start line)

abbrev pub plain_by : Option Fault → List ℕ → Option FindingParts
plain_by None line = None
plain_by (Some fault) line = Some (bad_finding fault line)

-- of a line with no carriage return at its end
abbrev pub plain_finding : List ℕ → Option FindingParts
plain_finding line = plain_by (fault_of line) line

abbrev pub or_return : Option FindingParts → ℕ → FindingParts
or_return None at = carriage_return_finding at
or_return (Some t) at = t

-- of one with it: what else is wrong comes first
abbrev pub returned_by : Option Fault → List ℕ → Option FindingParts
returned_by None line = None
returned_by (Some fault) line = Some (or_return (plain_finding (take (length line - 1) line)) (length line - 1))

-- what is wrong with a line: nothing where it is an event, a comment or empty
unfoldable pub line_finding : List ℕ → Option FindingParts
line_finding line =
    if is_octet 13 (slice_get line (length line - 1)) then returned_by (fault_of line) line else plain_finding line
