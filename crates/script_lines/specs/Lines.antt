-- The lines of a script.
use Rattle.std.specs.Prelude.{◌≢◌, ℕ, ◌+◌, ◌==◌, ◌&&◌, Bool, List, [], ◌∷◌, ◌++◌, length, if◌then◌else◌, nat_lt, nat_le}

-- what a line holds: its octets, or more than 4,096 of them, or the first octet after the 67,108,864 that may come
pub data Content : Type 0 where
  Text : (octets : List ℕ) → Content
  Long : Content
  TooMuch : Content

-- a line, its number from 1, and the octets after it
pub record Line : Type 0 where
  pub number : ℕ
  pub content : Content
  pub behind : List ℕ

abbrev pub content_of : List ℕ → Content
content_of octets = if nat_le (length octets) 4096 then Text octets else Long

-- The lines that begin with `part`, after this many octets and lines. A line feed ends a line, and so does the end of
-- input where the line has an octet. The octet that is too much ends the last line.
unfoldable pub lines_from : ℕ → ℕ → List ℕ → List ℕ → Bool → List Line
lines_from seen count part [] ended =
    if ended && nat_lt 0 (length part)
    then record { number = count + 1; content = content_of part; behind = [] } ∷ []
    else []
lines_from seen count part (c ∷ cs) ended =
    if nat_lt seen 67108864
    then (
    if c == 10
    then record { number = count + 1; content = content_of part; behind = cs }
    ∷ lines_from (seen + 1) (count + 1) [] cs ended
    else lines_from (seen + 1) count (part ++ c ∷ []) cs ended
    )
    else record { number = count + 1; content = TooMuch; behind = cs } ∷ []

-- the lines of these octets, where the input has ended or not
abbrev pub lines : List ℕ → Bool → List Line
lines octets ended = lines_from 0 0 [] octets ended

-- ---- the same in terms of whole lines, which `lines_of_a_script` shows

-- no octet is a line feed
abbrev pub NoFeed : List ℕ → Type 0
NoFeed [] = Unit {0}
NoFeed (c ∷ cs) = (c ≢ 10) × NoFeed cs

abbrev pub NoFeeds : List (List ℕ) → Type 0
NoFeeds [] = Unit {0}
NoFeeds (line ∷ lines) = NoFeed line × NoFeeds lines

-- lines with a line feed after each, and then the rest
abbrev pub script : List (List ℕ) → List ℕ → List ℕ
script [] rest = rest
script (line ∷ lines) rest = line ++ 10 ∷ script lines rest

-- what the rest is: a line where the input has ended and there is an octet
abbrev pub rest_line : List ℕ → Bool → List Content
rest_line rest ended = if ended && nat_lt 0 (length rest) then content_of rest ∷ [] else []
