-- What a reader of lines takes from its source.
use Rattle.std.specs.Prelude.{◌≡◌, ◌⊎◌, ℕ, ◌+◌, ◌<◌, ◌≤◌, Bool, false, List, [], ◌∷◌, ◌++◌, length, take, slice_index, if◌then◌else◌, nat_lt, nat_le, true}
use Rattle.std.specs.Prelude.{Result, Ok, Err, None, Some, IsTrue, OnErr, IfOk}
use Rattle.std.specs.declared.option.Option.{Option}
use Rattle.std.specs.Io.KnownBytes.{IsAtEnd}
use Rattle.plc_base.specs.declared.streams.Failed.{Failed}
use Rattle.plc_base.specs.Streams.{SourceState, Gives, GivesNone, ReadFaults}
use Rattle.script_lines.specs.declared.input.LineKind.{LineKind}
use Rattle.script_lines.specs.declared.input.LineKind.TheVariants as kinds
use Rattle.script_lines.specs.declared.input.Found.{Found}
use Rattle.script_lines.specs.declared.input.Found.TheVariants.{Feed, PastRoom, Neither}
use Rattle.script_lines.specs.Lines.{NoFeed, Content, Text, Long, TooMuch, Line, lines_from}

-- A line that was read to its end, of which this many octets stand in the window, and maybe more before them.
abbrev pub kind_by : Bool → ℕ → LineKind
kind_by true count = kinds.Long
kind_by false count = if nat_le count 4096 then kinds.Text else kinds.Long

-- the kind of the line that the end of input ends, if it has an octet: what was used of it since `begin`, and this many octets ahead
abbrev pub last_kind : ℕ → ℕ → Bool → ℕ → Option LineKind
last_kind begin seen long count = if nat_lt begin (seen + count) then Some (kind_by long count) else None

-- how many lines were taken with that one
abbrev pub last_count : ℕ → ℕ → ℕ → ℕ → ℕ
last_count begin seen lines count = if nat_lt begin (seen + count) then lines + 1 else lines

-- the source has ended, and none is left
abbrev pub IsOver : SourceState → Type 0
IsOver source = IsTrue source.ended × IsAtEnd source.left

-- where the end of input was seen, the source has ended
abbrev pub StaysOver : Bool → Bool → SourceState → SourceState → Type 0
StaysOver seen0 seen1 source0 source1 = (IsTrue seen0 → IsOver source0) → IsTrue seen1 → IsOver source1

-- what was found, where the octets of a text stand in a buffer
abbrev pub content_found : List ℕ → LineKind → Content
content_found octets kinds.Text = Text octets
content_found octets kinds.Long = Long
content_found octets kinds.TooMuch = TooMuch

-- how many octets a read gave, none where it failed
abbrev pub count_read : Result ℕ Failed → ℕ
count_read (Ok n) = n
count_read (Err e) = 0

-- This many octets came after those ahead.
pub record Given (source0 source1 : SourceState) (ahead0 ahead1 : List ℕ) (count : ℕ) : Type 0 where
  pub octets : List ℕ
  pub gave : Gives source0 source1 octets
  pub grown : ahead1 ≡ ahead0 ++ octets
  pub counted : length octets ≡ count

-- A read after the octets ahead.
pub record Fills (source0 source1 : SourceState) (ahead0 ahead1 : List ℕ) (result : Result ℕ Failed) : Type 0 where
  pub given : IfOk result (Given source0 source1 ahead0 ahead1)
  pub over : IfOk result (λ count. count ≡ 0 → IsOver source1)
  pub kept : OnErr result ((ahead1 ≡ ahead0) × GivesNone source0 source1)
  pub faults : ReadFaults source0 source1 result

-- Octets came after those ahead, and the end of input is seen if none came.
pub record Refilled (source0 source1 : SourceState) (ahead0 ahead1 : List ℕ) (ended1 : Bool) : Type 0 where
  pub octets : List ℕ
  pub gave : Gives source0 source1 octets
  pub grown : ahead1 ≡ ahead0 ++ octets
  pub none : octets ≡ [] → IsTrue ended1

-- A read after the octets ahead, which sees the end of input or not.
pub record Refills (source0 source1 : SourceState) (ahead0 ahead1 : List ℕ) (ended1 : Bool)
    (result : Result (Unit {0}) Failed) : Type 0 where
  pub given : IfOk result (λ _. Refilled source0 source1 ahead0 ahead1 ended1)
  pub over : IsTrue ended1 → IsOver source1
  pub kept : OnErr result ((ahead1 ≡ ahead0) × (ended1 ≡ false) × GivesNone source0 source1)
  pub faults : ReadFaults source0 source1 result

-- All octets ahead are used where they are more than a line may have, which makes the line too long.
abbrev pub Shed : ℕ → ℕ → List ℕ → List ℕ → Bool → Bool → Type 0
Shed seen0 seen1 ahead0 ahead1 long0 long1 =
    ((length ahead0 ≤ 4096) × (seen1 ≡ seen0) × (ahead1 ≡ ahead0) × (long1 ≡ long0))
    ⊎ ((4096 < length ahead0) × (seen1 ≡ seen0 + length ahead0) × (ahead1 ≡ []) × (long1 ≡ true))

-- Where the first line feed stands among this many octets, if there is one.
abbrev pub FeedIs : List ℕ → ℕ → Option ℕ → Type 0
FeedIs octets stop (Some at) = (at < stop) × (slice_index octets at ≡ 10) × NoFeed (take at octets)
FeedIs octets stop None = NoFeed (take stop octets)

-- What stands first among octets of which this many may be used: a line feed after this many others, an octet that is too much, or neither.
abbrev pub FoundIs : List ℕ → ℕ → Found → Type 0
FoundIs octets room (Feed at) =
    (at < room) × (at < length octets) × (slice_index octets at ≡ 10) × NoFeed (take at octets)
FoundIs octets room PastRoom = (room < length octets) × NoFeed (take room octets)
FoundIs octets room Neither = (length octets ≤ room) × NoFeed octets

-- what may come after: nothing, where the input has ended
abbrev pub MayFollow : Bool → List ℕ → Bool → Type 0
MayFollow ended more e = IsTrue ended → (more ≡ []) × IsTrue e

-- the lines that a line begins, with what may come after the window
abbrev pub lines_with : ℕ → Content → List ℕ → List Line → List Line
lines_with number (Text octets) behind rest = record { number = number; content = Text octets; behind = behind } ∷ rest
lines_with number Long behind rest = record { number = number; content = Long; behind = behind } ∷ rest
lines_with number TooMuch behind rest = record { number = number; content = TooMuch; behind = behind } ∷ []

-- a text or a long line takes octets, and no more than may come
abbrev pub Advances : ℕ → ℕ → LineKind → Type 0
Advances seen0 seen1 kinds.Text = (seen0 < seen1) × (seen1 ≤ 67108864)
Advances seen0 seen1 kinds.Long = (seen0 < seen1) × (seen1 ≤ 67108864)
Advances seen0 seen1 kinds.TooMuch = Unit {0}

-- The lines that were to come are the line that was found and those that come from now on.
abbrev pub LineIs : ℕ → ℕ → List ℕ → List ℕ → ℕ → ℕ → List ℕ → Bool → List ℕ → Option LineKind → Type 0
LineIs seen0 count0 window0 octets seen1 count1 window1 ended1 line (Some kind) =
    Advances seen0 seen1 kind × (count1 ≡ count0 + 1)
    × ((more : List ℕ) (e : Bool) → MayFollow ended1 more e → lines_from seen0 count0 [] (window0 ++ (octets ++ more)) e
    ≡ lines_with count1 (content_found line kind) (window1 ++ more) (lines_from seen1 count1 [] (window1 ++ more) e))
LineIs seen0 count0 window0 octets seen1 count1 window1 ended1 line None =
    IsTrue ended1 × ((e : Bool) → lines_from seen0 count0 [] (window0 ++ octets) e ≡ [])

-- A line, the end of input, or a failure, and what the source gave for it.
pub record NextLine (source0 source1 : SourceState) (seen0 count0 : ℕ) (window0 : List ℕ) (ended0 : Bool)
    (seen1 count1 : ℕ) (window1 : List ℕ) (ended1 : Bool) (line : List ℕ)
    (result : Result (Option LineKind) Failed) : Type 0 where
  pub octets : List ℕ
  pub gave : Gives source0 source1 octets
  pub found : IfOk result (LineIs seen0 count0 window0 octets seen1 count1 window1 ended1 line)
  -- no line is whole
  pub failed : OnErr result ((ended0 ≡ false) × (lines_from seen0 count0 [] (window0 ++ octets) false ≡ []))
  pub still : IsTrue ended0 → (octets ≡ []) × IsTrue ended1
