-- Where a key stands in the text of a description.
use Rattle.std.specs.Prelude.{◌≡◌, ℕ, zero, suc, ◌+◌, ◌==◌, ◌&&◌, ◌||◌, nat_le, List}
use Rattle.std.specs.Prelude.{[], ◌∷◌, ◌++◌, length, take, drop, codes, Bool, true, false, if◌then◌else◌}
use Rattle.std.specs.Prelude.{Option, None, Some, is_some}
use Rattle.std.specs.Str.{bytes_eq}
use Rattle.std.specs.Str.Lossy.{utf8_lossy}
use Rattle.std.specs.Option.{option_and_then}
use Rattle.toml.specs.Data.{get_member}
use Rattle.toml.specs.Parse.{parse_document}
use Rattle.plan_tables.specs.declared.fault.Section.{Section}
use Rattle.plan_tables.specs.declared.fault.Section.TheVariants as sections
use Rattle.plan_tables.specs.declared.fault.TextPlace.{TextPlace}
use Rattle.plan_tables.specs.declared.text_places.Finder.{Finder}
use Rattle.plan_tables.specs.declared.text_places.Step.{Step}
use Rattle.plan_tables.specs.declared.text_places.Step.TheVariants.{Found, More}
use Rattle.plan_tables.specs.declared.text_places.Search.{Search}
use Rattle.plan_tables.specs.declared.text_places.Search.TheVariants.{Before, Inside, Behind}
use Rattle.plan_tables.specs.Faults.{section_word}

-- # A line

-- how many blanks a line begins with: spaces and tabs
abbrev pub indent : List ℕ → ℕ
indent [] = 0
indent (c ∷ cs) = if c == 32 || c == 9 then suc (indent cs) else 0

-- a line without the blanks before it
unfoldable pub content : List ℕ → List ℕ
content line = drop (indent line) line

-- what comes after a word that octets begin with
unfoldable pub after : List ℕ → List ℕ → Option (List ℕ)
after word octets = if bytes_eq (take (length word) octets) word then Some (drop (length word) octets) else None

abbrev pub either : Option (List ℕ) → Option (List ℕ) → Option (List ℕ)
either (Some rest) other = Some rest
either None other = other

-- what comes after the brackets of a header
unfoldable pub name_after : List ℕ → Option (List ℕ)
name_after line = option_and_then (λ rest. Some (content rest)) (either (after (codes "[[") line) (after (codes "[") line))

abbrev pub is_letter : ℕ → Bool
is_letter c = (nat_le 65 c && nat_le c 90) || (nat_le 97 c && nat_le c 122)

abbrev pub begins_with_letter : Option (List ℕ) → Bool
begins_with_letter None = false
begins_with_letter (Some []) = false
begins_with_letter (Some (c ∷ cs)) = is_letter c

-- whether a line is a header: a letter comes after its brackets, where a row of numbers has none
unfoldable pub opens : List ℕ → Bool
opens line = begins_with_letter (name_after line)

-- what comes after a word, and then blanks
abbrev pub is_followed : List ℕ → List ℕ → List ℕ → Bool
is_followed word mark octets = is_some (option_and_then (λ rest. after mark (content rest)) (after word octets))

abbrev pub named : List ℕ → Option (List ℕ) → Bool
named name None = false
named name (Some rest) = is_followed name (codes "]") rest

-- whether a line is the header of a table
unfoldable pub names : List ℕ → List ℕ → Bool
names line name = named name (name_after line)

-- whether a line begins with a key, or with a key of the table of that name
unfoldable pub is_key : List ℕ → List ℕ → Bool
is_key line key = is_followed key (codes "=") line || is_followed key (codes ".") line

-- whether a line begins with a quotation mark
abbrev pub is_quoted : List ℕ → Bool
is_quoted [] = false
is_quoted (c ∷ cs) = c == 34 || c == 39

-- whether a line is TOML by itself, and gives a key
unfoldable pub gives_alone : List ℕ → List ℕ → Bool
gives_alone line key = is_some (option_and_then (get_member key) (parse_document (utf8_lossy line)))

-- whether a line gives a key: it begins with it, or with a quotation mark, and as TOML by itself it gives it
abbrev pub gives_key : List ℕ → List ℕ → Bool
gives_key line key = if is_quoted line then gives_alone line key else is_key line key

-- # A text

-- the search after a header
abbrev pub entered : Search → Bool → Search
entered (Before zero) is_named = if is_named then Inside else Before zero
entered (Before (suc more)) is_named = if is_named then Before more else Before (suc more)
entered Inside is_named = Behind
entered Behind is_named = Behind

-- where the search begins: outside all tables, or before the nth header of the name
abbrev pub search_of : Section → Search
search_of sections.Top = Inside
search_of (sections.At nth) = Before nth
search_of sections.Place = Before 0
search_of sections.Air = Before 0
search_of sections.Joining = Before 0
search_of sections.Readings = Before 0
search_of sections.Rotation = Before 0
search_of sections.Care = Before 0

abbrev pub text_start : TextPlace
text_start = record { line = 1; column = 1 }

abbrev pub start_of : Section → Finder
start_of section = record { number = 1; search = search_of section; best = text_start }

abbrev pub is_inside : Search → Bool
is_inside Inside = true
is_inside (Before more) = false
is_inside Behind = false

-- after a header, which is the table's where the search enters by it
unfoldable pub turned : Finder → TextPlace → Bool → Finder
turned finder here is_named =
    let next = entered finder.search is_named in
    record { number = finder.number + 1; search = next; best = if is_inside next then here else finder.best }

-- after a line; where the name is empty, as outside all tables, the key may be that of a table, with a header
unfoldable pub line_step : List ℕ → List ℕ → Finder → List ℕ → Step
line_step name key finder line =
    let here : TextPlace = record { line = finder.number; column = indent line + 1 } in
    if opens (content line) then
    (if length name == 0 && names (content line) key then Found here else More (turned finder here (names (content line) name)))
    else if is_inside finder.search && gives_key (content line) key then Found here
    else More (record { number = finder.number + 1; search = finder.search; best = finder.best })

-- the next line has the next number
abbrev pub IsNumbered : ℕ → Step → Type 0
IsNumbered number (Found place) = Unit {0}
IsNumbered number (More next) = next.number ≡ number + 1

-- the lines that octets have after a part of one
abbrev pub lines_from : List ℕ → List ℕ → List (List ℕ)
lines_from part [] = part ∷ []
lines_from part (c ∷ cs) = if c == 10 then part ∷ lines_from [] cs else lines_from (part ++ c ∷ []) cs

abbrev pub found_or : Step → (Finder → TextPlace) → TextPlace
found_or (Found place) f = place
found_or (More finder) f = f finder

-- the line that gives the key, or what is best without it
abbrev pub found : List ℕ → List ℕ → Finder → List (List ℕ) → TextPlace
found name key finder [] = finder.best
found name key finder (line ∷ lines) = found_or (line_step name key finder line) (λ next. found name key next lines)

abbrev pub place_of : List ℕ → Section → List ℕ → TextPlace
place_of text section key = found (section_word section) key (start_of section) (lines_from [] text)

-- the place after octets
abbrev pub walked : ℕ → ℕ → List ℕ → TextPlace
walked line column [] = record { line = line; column = column }
walked line column (c ∷ cs) = if c == 10 then walked (line + 1) 1 cs else walked line (column + 1) cs

abbrev pub octet_place : List ℕ → TextPlace
octet_place octets = walked 1 1 octets
