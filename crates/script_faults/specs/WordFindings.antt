-- What is wrong with a word of a line that is not of its kind.
use Rattle.std.specs.Prelude.{ℕ, ◌+◌, ◌-◌, ◌*◌, ◌/◌, ◌==◌, ◌&&◌, ◌||◌, Bool, true, false, not, List, [], ◌∷◌, codes, length, take, min}
use Rattle.std.specs.Prelude.{max, position, slice_get}
use Rattle.std.specs.Prelude.{Option, None, Some, if◌then◌else◌, nat_le, nat_lt, flat_map, encode_utf8}
use Rattle.std.specs.Char.{is_ascii_digit, is_ascii_hexdigit, to_ascii_lowercase}
use Rattle.line_script.specs.declared.kind.EventKind.{EventKind}
use Rattle.sentence_parts.specs.declared.part.Part.TheVariants as parts
use Rattle.sentence_parts.specs.Parts.{parts_text}
use Rattle.script_faults.specs.Findings.{FindingParts, finding_at, noted}
use Rattle.script_faults.specs.LineWords.{rest_at}
use Rattle.script_faults.specs.declared.form.WordKind.{WordKind}
use Rattle.script_faults.specs.declared.wording.Shape.{Shape}
use Rattle.script_faults.specs.declared.wording.Shape.TheVariants.{Number, Digits, Pairs, Record}
use Rattle.script_faults.specs.Nearest.{distance}
use Rattle.script_faults.specs.Wording.{form_text, shape_of, wanted}

-- A word that is not of its kind: its line, what it should be, and that in words, its octets as far as they are looked at, the place of
-- its first octet, and the first of its octets that stands in no word of this kind.
pub record Wrong : Type 0 where
  pub line : EventKind
  pub kind : WordKind
  pub want : List ℕ
  pub word : List ℕ
  pub at : ℕ
  pub bad : Option ℕ

-- # Where a word goes wrong

abbrev pub is_of_record : ℕ → Bool
is_of_record c = c == 111 || (c == 108 || (c == 100 || (c == 110 || (c == 101 || c == 119))))

-- the first octet that stands in no word of this shape
abbrev pub first_bad : Shape → List ℕ → Option ℕ
first_bad (Number low high) word = position (λ c. not (is_ascii_digit c)) word
first_bad (Digits count) word = position (λ c. not (is_ascii_hexdigit c)) word
first_bad Pairs word = position (λ c. not (is_ascii_hexdigit c)) word
first_bad Record word = position (λ c. not (is_of_record c)) word

-- Whether a digit goes on a number from `low`, which is 0 or 1, to `high`: the first digit is 0 only where the number is, and no digit
-- makes it too large.
abbrev pub goes_on : ℕ → ℕ → ℕ → ℕ → ℕ → Bool
goes_on at value next low high =
    (if at == 0 then nat_le low next else nat_lt 0 value) && nat_le next high

-- the first octet after which no number goes on, from a place on, where the digits before make this value
abbrev pub off_from : ℕ → ℕ → ℕ → ℕ → List ℕ → Option ℕ
off_from at value low high [] = None
off_from at value low high (c ∷ cs) =
    if is_ascii_digit c && goes_on at value (value * 10 + (c - 48)) low high
    then off_from (at + 1) (value * 10 + (c - 48)) low high cs
    else Some at

-- the surplus of a word with too many digits, or the first octet that is no digit
abbrev pub digits_off : ℕ → List ℕ → Option ℕ → Option ℕ
digits_off count word None = if nat_lt count (length word) then Some count else None
digits_off count word (Some bad) = if nat_lt bad count then Some bad else Some count

-- the first octet that no word of this shape has after the same beginning
abbrev pub off_of : Shape → List ℕ → Option ℕ → Option ℕ
off_of (Number low high) word bad = off_from 0 0 low high word
off_of (Digits count) word bad = digits_off count word bad
off_of Pairs word bad = bad
off_of Record word bad = bad

abbrev pub wrong : EventKind → WordKind → List ℕ → ℕ → List ℕ → Option ℕ → Wrong
wrong line kind want at word bad = record { line = line; kind = kind; want = want; word = word; at = at; bad = bad }

-- what stands after the first octet that can't be right is not looked at
abbrev pub cut_off : EventKind → WordKind → List ℕ → ℕ → List ℕ → Option ℕ → Option ℕ → Wrong
cut_off line kind want at word None off = wrong line kind want at word None
cut_off line kind want at word (Some bad) None = wrong line kind want at word (Some bad)
cut_off line kind want at word (Some bad) (Some off) =
    if nat_lt off bad then wrong line kind want at (take (off + 1) word) None else wrong line kind want at word (Some bad)

unfoldable pub wrong_word : EventKind → WordKind → ℕ → ℕ → List ℕ → Wrong
wrong_word line kind place at word =
    cut_off line kind (wanted line kind place) at word (first_bad (shape_of kind) word) (off_of (shape_of kind) word (first_bad (shape_of kind) word))

-- # Octets that no word has

-- the first octet of a list, by itself
abbrev pub first_of : List ℕ → List ℕ
first_of octets = take (min (length octets) 1) octets

-- the octet at a place
unfoldable pub octet_at : ℕ → List ℕ → List ℕ
octet_at place word = first_of (rest_at word place)

abbrev pub is_octet : ℕ → Option ℕ → Bool
is_octet wanted None = false
is_octet wanted (Some c) = c == wanted

abbrev pub tab_finding : ℕ → FindingParts
tab_finding at =
    finding_at at (at + 1)
    (parts_text (parts.Words (codes "a tab stands between the words") ∷ []))
    (parts_text (parts.Words (codes "one space is expected here") ∷ []))

-- the note at an octet that begins the space that breaks no line
abbrev pub with_space : Bool → FindingParts → FindingParts
with_space true t = noted (parts_text (parts.Words (codes "this looks like a space that is no plain space") ∷ [])) t
with_space false t = t

unfoldable pub strange_finding : Wrong → ℕ → FindingParts
strange_finding w place =
    finding_at (w.at + place) (w.at + place + 1)
    (parts_text (parts.Words (codes "an octet that no line may hold: ") ∷ parts.Octets (octet_at place w.word) ∷ []))
    (parts_text (parts.Words (codes "expected ") ∷ parts.Words w.want ∷ []))

-- whether octets from a place on are a space that breaks no line, in UTF-8
abbrev pub is_broken_space : List ℕ → ℕ → Bool
is_broken_space word place = is_octet 194 (slice_get word place) && is_octet 160 (slice_get word (place + 1))

abbrev pub octet_finding : Wrong → ℕ → ℕ → Option FindingParts
octet_finding w place octet =
    if octet == 9 then Some (tab_finding (w.at + place))
    else (if nat_lt 32 octet && nat_lt octet 127 then None
    else Some (with_space (is_broken_space w.word place) (strange_finding w place)))

-- # Numbers

unfoldable pub begins_hex : List ℕ → Bool
begins_hex word = is_octet 48 (slice_get word 0) && (is_octet 120 (slice_get word 1) || is_octet 88 (slice_get word 1))

abbrev pub has_sign : List ℕ → Bool
has_sign word = is_octet 43 (slice_get word 0) || is_octet 45 (slice_get word 0)

-- the form of a line
unfoldable pub form_note : EventKind → List ℕ
form_note kind = parts_text (parts.Words (codes "the form is `") ∷ parts.Words (form_text kind) ∷ parts.Words (codes "`") ∷ [])

abbrev pub with_form : EventKind → FindingParts → FindingParts
with_form kind t = noted (form_note kind) t

unfoldable pub with_decimal : List ℕ → FindingParts → FindingParts
with_decimal word t =
    if begins_hex word then noted (parts_text (parts.Words (codes "numbers are decimal") ∷ [])) t
    else (if has_sign word then noted (parts_text (parts.Words (codes "numbers have no sign") ∷ [])) t
    else t)

unfoldable pub no_digits : Wrong → ℕ → FindingParts
no_digits w place =
    finding_at w.at (w.at + length w.word)
    (parts_text (parts.Words (codes "expected ") ∷ parts.Words w.want ∷ parts.Words (codes ", found `") ∷ parts.Octets w.word ∷ parts.Words (codes "`") ∷ []))
    (parts_text (parts.Words (codes "`") ∷ parts.Octets (octet_at place w.word) ∷ parts.Words (codes "` is no digit") ∷ []))

abbrev pub no_number : Wrong → ℕ → FindingParts
no_number w place = with_form w.line (with_decimal w.word (no_digits w place))

-- a number without its leading zeros
abbrev pub stripped_by : Option ℕ → List ℕ → List ℕ
stripped_by None word = first_of word
stripped_by (Some place) word = rest_at word place

unfoldable pub stripped : List ℕ → List ℕ
stripped word = stripped_by (position (λ c. not (c == 48)) word) word

unfoldable pub zeros_finding : Wrong → FindingParts
zeros_finding w =
    finding_at w.at (w.at + length w.word)
    (parts_text (parts.Words (codes "a number has no leading zeros") ∷ []))
    (parts_text (parts.Words (codes "write `") ∷ parts.Octets (stripped w.word) ∷ parts.Words (codes "`") ∷ []))

unfoldable pub range_finding : Wrong → FindingParts
range_finding w =
    finding_at w.at (w.at + length w.word)
    (parts_text (parts.Words (codes "expected ") ∷ parts.Words w.want ∷ parts.Words (codes ", found ") ∷ parts.Octets w.word ∷ []))
    (parts_text (parts.Words (codes "out of its range") ∷ []))

-- whether a number has a leading zero
abbrev pub has_zeros : List ℕ → Bool
has_zeros word = is_octet 48 (slice_get word 0) && nat_lt 1 (length word)

abbrev pub number_by : Option ℕ → Wrong → FindingParts
number_by (Some place) w = no_number w place
number_by None w = if has_zeros w.word then zeros_finding w else range_finding w

-- # `old` and `new`

-- octets in lower case, each as the character of its number
abbrev pub lower_sign : ℕ → List ℕ
lower_sign c = encode_utf8 (to_ascii_lowercase c)

unfoldable pub in_lower_case : List ℕ → List ℕ
in_lower_case word = flat_map lower_sign word

-- the nearer of the two by the steps to `new` and to `old`
abbrev pub nearer_record : ℕ → ℕ → ℕ → Option (List ℕ)
nearer_record new old reach =
    if nat_lt reach (min new old) then None else (if nat_le new old then Some (codes "new") else Some (codes "old"))

-- which of `old` and `new` is meant, if one is near
unfoldable pub record_near : List ℕ → Option (List ℕ)
record_near word =
    nearer_record (distance (in_lower_case word) (codes "new")) (distance (in_lower_case word) (codes "old")) (max (length word / 3) 1)

unfoldable pub near_note : List ℕ → List ℕ
near_note near = parts_text (parts.Words (codes "did you mean `") ∷ parts.Words near ∷ parts.Words (codes "`?") ∷ [])

abbrev pub with_near : Option (List ℕ) → FindingParts → FindingParts
with_near None t = t
with_near (Some near) t = noted (near_note near) t

unfoldable pub no_record : Wrong → FindingParts
no_record w =
    finding_at w.at (w.at + length w.word)
    (parts_text (parts.Words (codes "expected `old` or `new`, found `") ∷ parts.Octets w.word ∷ parts.Words (codes "`") ∷ []))
    (parts_text (parts.Words (codes "which record a cut leaves") ∷ []))

abbrev pub record_finding : Wrong → FindingParts
record_finding w = with_near (record_near w.word) (no_record w)

-- # Digits in hexadecimal

unfoldable pub is_separator : Option ℕ → Bool
is_separator octet = is_octet 58 octet || (is_octet 45 octet || is_octet 44 octet)

unfoldable pub with_plain : Bool → Bool → FindingParts → FindingParts
with_plain begins separates t =
    if begins then noted (parts_text (parts.Words (codes "octets are written without `0x`") ∷ [])) t
    else (if separates then noted (parts_text (parts.Words (codes "octets are written without separators") ∷ [])) t
    else t)

unfoldable pub no_hex : Wrong → ℕ → FindingParts
no_hex w place =
    finding_at (w.at + place) (w.at + place + 1)
    (parts_text (parts.Words (codes "`") ∷ parts.Octets (octet_at place w.word) ∷ parts.Words (codes "` is no hexadecimal digit") ∷ []))
    (parts_text (parts.Words (codes "in ") ∷ parts.Words w.want ∷ []))

abbrev pub no_digit : Wrong → ℕ → FindingParts
no_digit w place = with_plain (begins_hex w.word) (is_separator (slice_get w.word place)) (no_hex w place)

unfoldable pub many_finding : Wrong → ℕ → FindingParts
many_finding w count =
    finding_at (w.at + count) (w.at + length w.word)
    (parts_text (parts.Words (codes "expected ") ∷ parts.Words w.want ∷ parts.Words (codes ", found ") ∷ parts.Count (length w.word) (codes "digit") ∷ []))
    (parts_text (parts.Count (length w.word - count) (codes "digit") ∷ parts.Words (codes " too many") ∷ []))

unfoldable pub few_finding : Wrong → ℕ → FindingParts
few_finding w count =
    finding_at w.at (w.at + length w.word)
    (parts_text (parts.Words (codes "expected ") ∷ parts.Words w.want ∷ parts.Words (codes ", found ") ∷ parts.Count (length w.word) (codes "digit") ∷ []))
    (parts_text (parts.Count (count - length w.word) (codes "digit") ∷ parts.Words (codes " too few") ∷ []))

abbrev pub digits_by : Option ℕ → Wrong → ℕ → FindingParts
digits_by (Some place) w count = no_digit w place
digits_by None w count = if nat_lt count (length w.word) then many_finding w count else few_finding w count

unfoldable pub odd_finding : Wrong → FindingParts
odd_finding w =
    finding_at w.at (w.at + length w.word)
    (parts_text (parts.Words (codes "octets are pairs of digits, found ") ∷ parts.Count (length w.word) (codes "digit") ∷ []))
    (parts_text (parts.Words (codes "one digit too few or too many") ∷ []))

abbrev pub pairs_by : Option ℕ → Wrong → FindingParts
pairs_by (Some place) w = no_digit w place
pairs_by None w = odd_finding w

-- # By the shape of the word

abbrev pub shape_finding : Shape → Wrong → FindingParts
shape_finding (Number low high) w = number_by w.bad w
shape_finding (Digits count) w = digits_by w.bad w count
shape_finding Pairs w = pairs_by w.bad w
shape_finding Record w = record_finding w

-- an octet that no word has comes first
abbrev pub or_shape : Option FindingParts → Wrong → FindingParts
or_shape (Some t) w = t
or_shape None w = shape_finding (shape_of w.kind) w

abbrev pub octet_by : Option ℕ → Wrong → ℕ → Option FindingParts
octet_by None w place = None
octet_by (Some octet) w place = octet_finding w place octet

abbrev pub bad_octet : Option ℕ → Wrong → Option FindingParts
bad_octet None w = None
bad_octet (Some place) w = octet_by (slice_get w.word place) w place

unfoldable pub word_finding : Wrong → FindingParts
word_finding w = or_shape (bad_octet w.bad w) w
