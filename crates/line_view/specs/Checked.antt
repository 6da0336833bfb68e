-- What the calls of a check leave, and what a whole check says.
use Rattle.std.specs.Prelude.{◌≡◌, ℕ, ◌∷◌, ◌++◌, [], Bool, List, Option, None, Some, Result, Ok, Err, if◌then◌else◌}
use Rattle.line_script.specs.declared.report.Reason.{Reason}
use Rattle.line_script.specs.declared.report.Reason.TheVariants as reasons
use Rattle.script_faults.specs.Findings.{FindingParts}
use Rattle.script_lines.specs.declared.text_output.StopReason.{StopReason}
use Rattle.script_lines.specs.declared.text_output.StopReason.TheVariants as stops
use Rattle.script_lines.specs.Lines.{Content, Text, Long, TooMuch, Line, lines}
use Rattle.script_runs.specs.TakenLines.{Taking, Skipped, Taken, Refused, BadLine}
use Rattle.line_view.specs.CheckRuns.{CheckRun, checking, Look, Nothing, Keeps, Tells, text_look, long_finding, input_finding, taken_after, after}
use Rattle.line_view.specs.CheckRuns.{counted, bad_text, look_text, end_of}

-- # One line

-- A line was looked at.
pub record Looked (text0 text1 : List ℕ) (c0 c1 : CheckRun) (number : ℕ) (line : List ℕ) (look : Look) : Type 0 where
  pub checking : c1 ≡ after number line look c0
  pub text : text1 ≡ text0 ++ look_text number line look c0

-- the octet that is too much, and the last lines
abbrev pub LooksLast : List ℕ → List ℕ → CheckRun → ℕ → Look → Type 0
LooksLast text0 text1 c number look = text1 ≡ text0 ++ (look_text number [] look c ++ end_of (after number [] look c))

-- an event was taken, or it was not, for a reason
abbrev pub Stepped : CheckRun → CheckRun → ℕ → List ℕ → Taking → Option Reason → Type 0
Stepped c0 c1 number line Skipped reason = ⊥
Stepped c0 c1 number line (Taken entry) reason = (reason ≡ None) × (c1 ≡ taken_after number line entry c0)
Stepped c0 c1 number line (Refused why) reason = (reason ≡ Some why) × (c1 ≡ c0)

-- what a bad line answers, once its text was written or not
abbrev pub bad_line : Result (Unit {0}) StopReason → Result (Unit {0}) StopReason
bad_line (Ok _) = Err stops.BadLine
bad_line (Err reason) = Err reason

-- # The faults of a script

-- A line that is bad, and what is wrong with it.
pub record Fault : Type 0 where
  pub number : ℕ
  pub line : List ℕ
  pub reason : Reason
  pub finding : FindingParts

abbrev pub faults_by : ℕ → List ℕ → Look → CheckRun → (CheckRun → List Fault) → List Fault
faults_by number line Nothing c rest = rest (after number line Nothing c)
faults_by number line (Keeps entry) c rest = rest (after number line (Keeps entry) c)
faults_by number line (Tells reason t) c rest =
    record { number = number; line = line; reason = reason; finding = t } ∷ rest (after number line (Tells reason t) c)

abbrev pub faults_on : Content → ℕ → CheckRun → (CheckRun → List Fault) → List Fault
faults_on (Text line) number c rest = faults_by number line (text_look c line) c rest
faults_on Long number c rest = faults_by number [] (Tells reasons.Long long_finding) c rest
faults_on TooMuch number c rest = faults_by number [] (Tells reasons.Input input_finding) c (λ next. [])

abbrev pub faults_from : CheckRun → List Line → List Fault
faults_from c [] = []
faults_from c (line ∷ lines) = faults_on line.content line.number c (λ next. faults_from next lines)

-- the faults of a script, in the order of its lines
abbrev pub faults : Bool → List ℕ → Bool → List Fault
faults json octets ended = faults_from (checking json) (lines octets ended)

-- the first of faults: its line and its reason
abbrev pub first_of : List Fault → Option BadLine
first_of [] = None
first_of (f ∷ fs) = Some (record { number = f.number; reason = f.reason })

-- what is written of faults after this many others
abbrev pub faults_text : Bool → ℕ → List Fault → List ℕ
faults_text json before [] = []
faults_text json before (f ∷ fs) = bad_text json before f.number f.line f.reason f.finding ++ faults_text json (counted before) fs

-- the last lines, at the end of input or after the octet that is too much
abbrev pub closing_on : Content → ℕ → CheckRun → (CheckRun → List ℕ) → List ℕ
closing_on (Text line) number c rest = rest (after number line (text_look c line) c)
closing_on Long number c rest = rest (after number [] (Tells reasons.Long long_finding) c)
closing_on TooMuch number c rest = end_of (after number [] (Tells reasons.Input input_finding) c)

abbrev pub closing_from : CheckRun → List Line → Bool → List ℕ
closing_from c [] ended = if ended then end_of c else []
closing_from c (line ∷ lines) ended = closing_on line.content line.number c (λ next. closing_from next lines ended)

abbrev pub closing : Bool → List ℕ → Bool → List ℕ
closing json octets ended = closing_from (checking json) (lines octets ended) ended
