-- When the lines of a script are.
use Rattle.std.specs.Prelude.{◌≤◌, ℕ, ◌+◌, ◌-◌, ◌*◌, ◌/◌, ◌%◌, ◌==◌, ◌&&◌, Bool, true, false, List, [], ◌∷◌, ◌++◌, Option, None, Some, if◌then◌else◌}
use Rattle.std.specs.Prelude.{codes, decimal}
use Rattle.script_lines.specs.Lines.{Content, Text, Long, TooMuch}
use Rattle.line_events.specs.declared.event.Event.{Event}
use Rattle.line_events.specs.declared.event.Event.TheVariants as events
use Rattle.line_rules.specs.Worlds.{World, start}
use Rattle.line_sim.specs.Scripts.{contents_of, event_in, said}

-- When a line is: a remark says it to the thousandth of a second, and an event is at the second to which the clock of the line was brought.
pub data Time : Type 0 where
  Remarked : (thousandths : ℕ) → Time
  Stepped : (second : ℕ) → Time

-- # Remarks

-- a number that goes on with digits, up to a space; a point between them is passed over
abbrev pub number_on : ℕ → List ℕ → ℕ
number_on n [] = n
number_on n (x ∷ xs) = if x == 32 then n else (if x == 46 then number_on n xs else number_on (n * 10 + (x - 48)) xs)

-- the time of a remark: it comes after `#@ `, in seconds with three digits after the point
abbrev pub remarked : List ℕ → Option Time
remarked (a ∷ b ∷ c ∷ rest) = if (a == 35) && ((b == 64) && (c == 32)) then Some (Remarked (number_on 0 rest)) else None
remarked _ = None

-- a remark at a time in thousandths of a second
abbrev pub remark_line : ℕ → List ℕ → List ℕ
remark_line at text =
    codes "#@ " ++ (decimal (at / 1000) ++ (codes "." ++ (decimal (at / 100 % 10) ++ (decimal (at / 10 % 10) ++ (decimal (at % 10) ++ (codes " " ++ text))))))

-- # Lines

abbrev pub is_tick : Event → Bool
is_tick (events.Tick seconds) = true
is_tick _ = false

abbrev pub time_by : World → Event → Option Time
time_by w event = if is_tick event then None else Some (Stepped w.clock)

abbrev pub time_if : World → Content → Option Event → Option Time
time_if w content (Some event) = time_by w event
time_if w (Text octets) None = remarked octets
time_if w Long None = None
time_if w TooMuch None = None

abbrev pub time_at : World → Content → Option Time
time_at w content = time_if w content (event_in content)

-- the times of the remarks of a script, and of its events but `tick`, which only brings the clock up to the next event, in order
abbrev pub times : List ℕ → List Time
times script = said time_at start (contents_of script)

-- a later line is at no earlier time; where one of both is an event, at no earlier second
abbrev pub IsUpTo : Time → Time → Type 0
IsUpTo (Remarked a) (Remarked b) = a ≤ b
IsUpTo (Remarked a) (Stepped b) = a / 1000 ≤ b
IsUpTo (Stepped a) (Remarked b) = a ≤ b / 1000
IsUpTo (Stepped a) (Stepped b) = a ≤ b
