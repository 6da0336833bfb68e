-- Laws of the run of a script, whatever its lines are.
use Rattle.std.specs.Prelude.{◌≡◌, ℕ, Bool, List, ◌∷◌, ◌++◌, Some, None}
use Rattle.script_lines.specs.Lines.{Line, Text}
use Rattle.node_rules.specs.Ciphers.{network}
use Rattle.line_rules.specs.Worlds.{World}
use Rattle.line_rules.specs.Runs.{IsLineRun, last_world}
use Rattle.line_script.specs.declared.reading.Reading.TheVariants.{Quiet}
use Rattle.line_script.specs.LineReader.{reading}
use Rattle.script_runs.specs.TakenLines.{Skipped, Refused, taking, entries_from, entries, BadLine, first_bad_from}

-- the world that the entries of lines leave
abbrev pub left_by : World → List Line → World
left_by w lines = last_world w (entries_from w lines)

-- A bad line: where it stands, and why it is bad in the world that the lines before it leave, of which none is.
pub record IsFirstBad (w : World) (lines : List Line) (bad : BadLine) : Type 0 where
  pub front : List Line
  pub line : Line
  pub behind : List Line
  pub place : lines ≡ front ++ line ∷ behind
  pub before : first_bad_from w front ≡ None
  pub number : line.number ≡ bad.number
  pub reason : taking (left_by w front) line.content ≡ Refused bad.reason

-- the bad line that ends a run is a line of the script, with its number, and the first that is bad
abbrev pub TheFirstBadLineIsOne : Type 0
TheFirstBadLineIsOne = (w : World) (lines : List Line) (bad : BadLine) → first_bad_from w lines ≡ Some bad → IsFirstBad w lines bad

-- behind a bad line nothing is run
abbrev pub RunsEndAtABadLine : Type 0
RunsEndAtABadLine =
    (w : World) (front behind : List Line) (bad : BadLine) → first_bad_from w front ≡ Some bad
    → (entries_from w (front ++ behind) ≡ entries_from w front) × (first_bad_from w (front ++ behind) ≡ Some bad)

-- behind lines of which none is bad a run goes on, in the world that they leave
abbrev pub RunsGoOn : Type 0
RunsGoOn =
    (w : World) (front behind : List Line) → first_bad_from w front ≡ None
    → (entries_from w (front ++ behind) ≡ entries_from w front ++ entries_from (left_by w front) behind)
    × (first_bad_from w (front ++ behind) ≡ first_bad_from (left_by w front) behind)

-- a line that does nothing is quiet: it is empty, or a comment; the rules take or refuse each event
abbrev pub OnlyQuietLinesAreSkipped : Type 0
OnlyQuietLinesAreSkipped = (w : World) (octets : List ℕ) → taking w (Text octets) ≡ Skipped → reading octets ≡ Quiet

-- the entries of a script are a run of the network, whose events are those that lines can say
abbrev pub EveryScriptIsARun : Type 0
EveryScriptIsARun = (octets : List ℕ) (ended : Bool) → IsLineRun network (entries octets ended)
