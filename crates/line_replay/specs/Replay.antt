-- What a script does, line by line, and its report.
use Rattle.std.specs.Prelude.{◌≡◌, ℕ, ◌+◌, ◌==◌, Bool, not, List, [], ◌∷◌, ◌++◌, Option, None, Some, codes, if◌then◌else◌, nat_eq, nat_lt}
use Rattle.std.specs.List.{starts_with}
use Rattle.script_lines.specs.Lines.{Content, TooMuch, Line, lines}
use Rattle.script_lines.specs.Clauses.{IsStop}
use Rattle.script_lines.specs.Outcomes.{Turn, Skips, Takes, Stops, Outcome, outcome as outcome_of}
use Rattle.line_rules.specs.Worlds.{World, start}
use Rattle.line_rules.specs.Runs.{Entry}
use Rattle.line_script.specs.Texts.{happened_text, bad_text, end_text}
pub use Rattle.script_runs.specs.TakenLines.{Taking, Skipped, Taken, Refused, step_taking, event_taking, reading_taking}
pub use Rattle.script_runs.specs.TakenLines.{entries_by, entries_from, entries}
pub use Rattle.script_runs.specs.TakenLines.{BadLine, bad_by, first_bad_from, first_bad}
unfoldable pub use Rattle.script_runs.specs.TakenLines.{taking}
use Rattle.line_replay.specs.Texts.{sent_text, totals}

-- ---- the report

-- the lines that report an event, in a quiet report without those of its flights
abbrev pub entry_text : Bool → Entry → List ℕ
entry_text quiet entry =
    happened_text entry.number entry.event entry.trace.happenings
    ++ sent_text quiet entry.after entry.trace.happenings.first_flight

-- A world, and whether its report is quiet.
pub record Playing : Type 0 where
  pub quiet : Bool
  pub world : World

abbrev pub turn_by : Bool → ℕ → Taking → Turn Playing
turn_by quiet number Skipped = Skips
turn_by quiet number (Taken entry) = Takes (record { quiet = quiet; world = entry.after }) (entry_text quiet entry)
turn_by quiet number (Refused reason) = Stops (bad_text number reason)

-- what a line of a number does to the world, and its report
abbrev pub turn_of : Playing → ℕ → Content → Turn Playing
turn_of p number content = turn_by p.quiet number (taking p.world content)

abbrev pub end_of : Playing → List ℕ
end_of p = end_text (totals p.world)

-- the octet that is too much makes its line bad
pub stops_at_too_much : (p : Playing) (number : ℕ) → IsStop (turn_of p number TooMuch)
unfolding taking
stops_at_too_much p number = tt

-- what a script does, where its input has ended or not
abbrev pub outcome : Bool → List ℕ → Bool → Outcome Playing
outcome quiet octets ended = outcome_of turn_of end_of (record { quiet = quiet; world = start }) octets ended

-- its report, quiet or not
abbrev pub report : Bool → List ℕ → Bool → List ℕ
report quiet octets ended = (outcome quiet octets ended).text

-- ---- the quiet report

-- whether a text begins with the line of a flight
abbrev pub is_fly : List ℕ → Bool
is_fly text = starts_with nat_eq text (codes "fly ")

-- what is left of the rest of a line, which is kept or not, and of the lines after it
abbrev pub rest_without : Bool → List ℕ → List ℕ
rest_without keeps [] = []
rest_without keeps (c ∷ cs) =
    let more = rest_without (if c == 10 then not (is_fly cs) else keeps) cs in
    if keeps then c ∷ more else more

-- a text without its lines that begin with "fly "
abbrev pub without_flights : List ℕ → List ℕ
without_flights text = rest_without (not (is_fly text)) text

-- whether a world has seen a forged event
abbrev pub is_forged : Playing → Bool
is_forged p = nat_lt 0 p.world.forged

-- ---- the report by entries

abbrev pub entries_text : Bool → List Entry → List ℕ
entries_text quiet [] = []
entries_text quiet (x ∷ xs) = entry_text quiet x ++ entries_text quiet xs

abbrev pub last_by : World → ℕ → Taking → (World → List ℕ) → List ℕ
last_by w number Skipped rest = rest w
last_by w number (Taken entry) rest = rest entry.after
last_by w number (Refused reason) rest = bad_text number reason

-- the line of the first bad line, or the last line at the end of input
abbrev pub last_from : World → List Line → Bool → List ℕ
last_from w [] ended = if ended then end_text (totals w) else []
last_from w (line ∷ lines) ended = last_by w line.number (taking w line.content) (λ next. last_from next lines ended)

abbrev pub last_text : List ℕ → Bool → List ℕ
last_text octets ended = last_from start (lines octets ended) ended

-- what the last line says, by the first bad line, where the input has ended or not
abbrev pub EndsBy : Bool → Option BadLine → List ℕ → Type 0
EndsBy ended None text = (w : World) × (text ≡ (if ended then end_text (totals w) else []))
EndsBy ended (Some x) text = text ≡ bad_text x.number x.reason

-- ---- forged events

-- how many events of a history are forged
abbrev pub forged_in : List Entry → ℕ
forged_in [] = 0
forged_in (x ∷ xs) = (if x.trace.happenings.forged then 1 else 0) + forged_in xs
