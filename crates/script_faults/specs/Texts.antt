-- How what is wrong with a line is written: for people, and as an object of JSON.
use Rattle.std.specs.Prelude.{ℕ, zero, suc, ◌+◌, ◌-◌, ◌==◌, ◌||◌, Bool, List, [], ◌∷◌, ◌++◌, codes, length, drop, take, min, max, flat_map, encode_utf8, chars}
use Rattle.std.specs.Prelude.{if◌then◌else◌, nat_le, nat_lt}
use Rattle.std.specs.Fmt.{decimal}
use Rattle.hex.specs.Hex.{encode_lower}
use Rattle.sentence_parts.specs.declared.part.Part.TheVariants.{Words, Number}
use Rattle.sentence_parts.specs.Parts.{parts_text}
use Rattle.text_signs.specs.Quotes.{is_printable}
use Rattle.script_faults.specs.declared.finding.Cut.{Cut}
use Rattle.script_faults.specs.Findings.{FindingParts}

-- # The line with its mark

-- a place counted from 1; the greatest number stays itself
unfoldable pub column : ℕ → ℕ
column place = min (place + 1) 18446744073709551615

-- 110 octets from a place on
abbrev pub cut_from : ℕ → ℕ → Cut
cut_from length first = record { start = first; end = min (first + 110) length }

-- which octets of a line of this length are shown: all, or 110 of them about the mark
abbrev pub cut_of : ℕ → ℕ → Cut
cut_of length start =
    if nat_le length 110 then record { start = 0; end = length } else cut_from length (min (start - 50) (length - 100))

-- an octet as it is shown: what is no printable character of ASCII as a middle dot
abbrev pub sign_text : ℕ → List ℕ
sign_text octet = if is_printable octet then octet ∷ [] else 194 ∷ 183 ∷ []

abbrev pub shown_text : List ℕ → List ℕ
shown_text octets = flat_map sign_text octets

-- the dots where a line is cut
abbrev pub dots : Bool → List ℕ
dots is_cut = if is_cut then 226 ∷ 128 ∷ 166 ∷ [] else []

-- what is shown of a line
abbrev pub excerpt_text : List ℕ → Cut → List ℕ
excerpt_text line cut =
    dots (nat_lt 0 cut.start)
    ++ (shown_text (take (cut.end - cut.start) (drop cut.start line)) ++ dots (nat_lt cut.end (length line)))

-- a sign this many times
unfoldable pub repeated : List ℕ → ℕ → List ℕ
repeated sign zero = []
repeated sign (suc n) = repeated sign n ++ sign

-- how many columns the dots take
abbrev pub width : Bool → ℕ
width is_cut = if is_cut then 1 else 0

-- how far the mark is set in
abbrev pub mark_start : Cut → ℕ → ℕ
mark_start cut start = (start - cut.start) + width (nat_lt 0 cut.start)

-- where it ends: at the end of what is shown at the latest
abbrev pub mark_end : Cut → ℕ → ℕ → ℕ
mark_end cut length end =
    min ((end - cut.start) + width (nat_lt 0 cut.start))
    ((cut.end - cut.start) + width (nat_lt 0 cut.start) + width (nat_lt cut.end length))

-- the mark under a line of this length, at least one column wide
abbrev pub mark_text : Cut → ℕ → FindingParts → List ℕ
mark_text cut length t =
    repeated (codes " ") (mark_start cut t.start)
    ++ repeated (codes "^") (max (mark_end cut length t.end - mark_start cut t.start) 1)

-- # For people

-- as many spaces as the number of a line has digits
unfoldable pub gap_text : ℕ → List ℕ
gap_text row = repeated (codes " ") (length (decimal row))

abbrev pub head_text : List ℕ → FindingParts → List ℕ
head_text reason t =
    parts_text (Words (codes "error[") ∷ Words reason ∷ Words (codes "]: ") ∷ Words t.message ∷ Words (codes "\n") ∷ [])

-- where it is
unfoldable pub spot_text : ℕ → FindingParts → List ℕ
spot_text row t = parts_text (Words (codes "--> script:") ∷ Number row ∷ Words (codes ":") ∷ Number (column t.start) ∷ [])

abbrev pub place_text : ℕ → FindingParts → List ℕ
place_text row t = gap_text row ++ (spot_text row t ++ codes "\n")

-- the line, or what is shown of it
abbrev pub line_text : ℕ → List ℕ → Cut → List ℕ
line_text row line cut =
    gap_text row
    ++ (parts_text (Words (codes " |\n") ∷ Number row ∷ Words (codes " | ") ∷ []) ++ (excerpt_text line cut ++ codes "\n"))

-- the mark and the words at it
abbrev pub mark_line : ℕ → ℕ → Cut → FindingParts → List ℕ
mark_line row length cut t =
    gap_text row
    ++ (codes " | " ++ (mark_text cut length t ++ parts_text (Words (codes " ") ∷ Words t.label ∷ Words (codes "\n") ∷ [])))

-- a line that helps
abbrev pub note_line : ℕ → List ℕ → List ℕ
note_line row note = gap_text row ++ parts_text (Words (codes " = ") ∷ Words note ∷ Words (codes "\n") ∷ [])

-- the lines that help, and an empty one
abbrev pub notes_text : ℕ → List (List ℕ) → List ℕ
notes_text row notes = flat_map (note_line row) notes ++ codes "\n"

abbrev pub marked_text : ℕ → List ℕ → FindingParts → Cut → List ℕ
marked_text row line t cut = line_text row line cut ++ mark_line row (length line) cut t

-- what is wrong with a line of this number
abbrev pub finding_text : List ℕ → ℕ → List ℕ → FindingParts → List ℕ
finding_text reason row line t =
    head_text reason t ++ (place_text row t ++ (marked_text row line t (cut_of (length line) t.start) ++ notes_text row t.notes))

-- the same of a line whose octets are not kept
abbrev pub unseen_place : ℕ → FindingParts → List ℕ
unseen_place row t = gap_text row ++ (spot_text row t ++ parts_text (Words (codes ": ") ∷ Words t.label ∷ Words (codes "\n") ∷ []))

abbrev pub unseen_text : List ℕ → ℕ → FindingParts → List ℕ
unseen_text reason row t = head_text reason t ++ (unseen_place row t ++ notes_text row t.notes)

-- # JSON (RFC 8259)

-- a character in a string: quotes, backslashes and control characters are escaped
abbrev pub escaped : ℕ → List ℕ
escaped c =
    if c == 34 || c == 92 then 92 ∷ c ∷ []
    else (if nat_lt c 32 then codes "\\u00" ++ encode_lower (c ∷ []) else encode_utf8 c)

abbrev pub quoted : List ℕ → List ℕ
quoted words = codes "\"" ++ (flat_map escaped (chars words) ++ codes "\"")

unfoldable pub named : List ℕ → List ℕ → List ℕ
named name words = name ++ quoted words

-- the strings after the first of a list
abbrev pub more_quoted : List ℕ → List ℕ
more_quoted words = named (codes ", ") words

abbrev pub list_text : List (List ℕ) → List ℕ
list_text [] = []
list_text (first ∷ rest) = quoted first ++ flat_map more_quoted rest

unfoldable pub numbers_text : List ℕ → ℕ → FindingParts → List ℕ
numbers_text reason row t =
    parts_text
    (Words (codes "{\"line\": ") ∷ Number row ∷ Words (codes ", \"column\": ") ∷ Number (column t.start) ∷ Words (codes ", \"end\": ")
    ∷ Number (column t.end) ∷ Words (codes ", \"reason\": \"") ∷ Words reason ∷ [])

unfoldable pub helps_text : List (List ℕ) → List ℕ
helps_text notes = codes ", \"notes\": [" ++ (list_text notes ++ codes "]}\n")

unfoldable pub said_text : FindingParts → List ℕ
said_text t = named (codes "\", \"message\": ") t.message ++ (named (codes ", \"label\": ") t.label ++ helps_text t.notes)

-- an object in a line; columns are counted from 1
abbrev pub object_text : List ℕ → ℕ → FindingParts → List ℕ
object_text reason row t = numbers_text reason row t ++ said_text t
