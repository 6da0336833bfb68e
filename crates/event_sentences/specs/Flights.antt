-- The flights that an event made, as a sentence names them.
use Rattle.std.specs.Prelude.{ℕ, ◌+◌, ◌-◌, ◌==◌, Bool, true, false, List, [], ◌∷◌, ◌++◌, length, slice_index, codes, Option, None, Some, if◌then◌else◌}
use Rattle.std.specs.List.{find}
use Rattle.std.specs.Fmt.{decimal}
use Rattle.plc_base.specs.declared.address.Eui.{Eui}
use Rattle.frame_facts.specs.declared.gist.Gist.{Gist}
use Rattle.frame_facts.specs.declared.gist.Gist.TheVariants as gists
use Rattle.frame_facts.specs.declared.kind.PayloadKind.{PayloadKind}
use Rattle.frame_facts.specs.declared.kind.PayloadKind.TheVariants as kinds
use Rattle.line_record.specs.declared.recorded.RecordedFlight.{RecordedFlight}
use Rattle.sentence_parts.specs.declared.part.Who.{Who}
use Rattle.sentence_parts.specs.declared.part.Who.TheVariants.{Nobody}
use Rattle.sentence_parts.specs.declared.part.Part.TheVariants.{Words, Number}
use Rattle.sentence_parts.specs.Parts.{parts_text}
use Rattle.sentence_parts.specs.Whos.{who_of}
use Rattle.event_sentences.specs.declared.flights.Meant.{Meant}
use Rattle.event_sentences.specs.declared.flights.Meant.TheVariants as meants

-- # Which are meant

abbrev pub waited : Gist → Bool
waited (gists.Bears hops) = true
waited (gists.Joins eui) = true
waited _ = false

abbrev pub is_request : PayloadKind → Bool
is_request kinds.RouteRequest = true
is_request _ = false

abbrev pub is_reply : PayloadKind → Bool
is_reply kinds.RouteReply = true
is_reply _ = false

abbrev pub is_meant : Meant → RecordedFlight → Bool
is_meant meants.All flight = true
is_meant meants.Requests flight = is_request flight.kind
is_meant meants.Replies flight = is_reply flight.kind
is_meant meants.Waiting flight = waited flight.gist

abbrev pub meant_number : Meant → ℕ → RecordedFlight → List ℕ
meant_number meant number flight = if is_meant meant flight then number ∷ [] else []

-- the numbers of those that are meant, of flights from a number on
abbrev pub meant_from : Meant → ℕ → List RecordedFlight → List ℕ
meant_from meant number [] = []
meant_from meant number (flight ∷ rest) = meant_number meant number flight ++ meant_from meant (number + 1) rest

-- whom the first is for that is meant
abbrev pub target_of : Option RecordedFlight → List ℕ → List Eui → Who
target_of None homes euis = Nobody
target_of (Some flight) homes euis = who_of flight.target homes euis

abbrev pub first_target : Meant → List RecordedFlight → List ℕ → List Eui → Who
first_target meant made homes euis = target_of (find (is_meant meant) made) homes euis

-- # Their names

abbrev pub commas : List ℕ → List ℕ
commas [] = []
commas (number ∷ rest) = (codes ", " ++ decimal number) ++ commas rest

-- each by its number
abbrev pub listed_text : List ℕ → List ℕ
listed_text [] = []
listed_text (first ∷ rest) = (codes "flights " ++ decimal first) ++ commas rest

abbrev pub between : ℕ → List ℕ
between count = if count == 2 then codes " and " else codes " to "

-- a row of this many, by the first and the last
abbrev pub row_text : ℕ → ℕ → ℕ → List ℕ
row_text count first last = parts_text (Words (codes "flights ") ∷ Number first ∷ Words (between count) ∷ Number last ∷ [])

-- two or more: a row, where none is left out
abbrev pub many_text : List ℕ → ℕ → ℕ → List ℕ
many_text numbers first last = if last - first == length numbers - 1 then row_text (length numbers) first last else listed_text numbers

abbrev pub named_text : List ℕ → List ℕ
named_text numbers =
    if length numbers == 0 then []
    else (if length numbers == 1 then parts_text (Words (codes "flight ") ∷ Number (slice_index numbers 0) ∷ [])
    else many_text numbers (slice_index numbers 0) (slice_index numbers (length numbers - 1)))

-- in brackets
abbrev pub bracketed_text : List ℕ → List ℕ
bracketed_text numbers = if length numbers == 0 then [] else parts_text (Words (codes " (") ∷ Words (named_text numbers) ∷ Words (codes ")") ∷ [])

-- what waited and leaves
abbrev pub leaving_text : List ℕ → List ℕ
leaving_text numbers =
    if length numbers == 0 then [] else parts_text (Words (codes "; what waited leaves as ") ∷ Words (named_text numbers) ∷ [])
