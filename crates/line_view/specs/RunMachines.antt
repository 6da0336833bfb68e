-- What a command makes of a script that records its run, and writes where the run ends.
use Rattle.std.specs.Prelude.{◌≡◌, ℕ, Bool, true, false, List, [], Option, None, Some}
use Rattle.script_lines.specs.Lines.{Content, TooMuch}
use Rattle.script_lines.specs.Clauses.{IsStop}
use Rattle.script_lines.specs.Outcomes.{Turn, Skips, Takes, Stops, Outcome, outcome as outcome_of}
use Rattle.line_script.specs.declared.report.Reason.{Reason}
use Rattle.line_rules.specs.Runs.{Entry}
use Rattle.line_rules.specs.Worlds.{World, start}
use Rattle.script_runs.specs.TakenLines.{Taking, Skipped, Taken, Refused}
unfoldable use Rattle.script_runs.specs.TakenLines.{taking}
use Rattle.script_runs.specs.declared.status.Status.{Status}
use Rattle.script_runs.specs.declared.status.Status.TheVariants as status
use Rattle.line_view.specs.declared.bad_line.BadLine.{BadLine}
use Rattle.line_view.specs.declared.run_machine.Finding.{Finding}
use Rattle.line_view.specs.declared.run_machine.Finding.TheVariants as findings

-- whether an event was forged, and what is written shows it
abbrev pub forged_if : Bool → Finding
forged_if true = findings.Forged
forged_if false = findings.Nothing

-- the status of a run that came to its end
abbrev pub found_status : Finding → Status
found_status findings.Nothing = status.Fine
found_status findings.Forged = status.Forged
found_status findings.NotThere = status.Usage

-- What differs between the commands.
pub record RunRules (M : Type 0) : Type 0 where
  -- the world after the last event
  pub world : M → World
  -- the machine after an entry of the script, which stands in a line of this number
  pub after_entry : ℕ → Entry → M → M
  -- what a line without an event does
  pub quiet_turn : M → Content → Turn M
  -- what is written where the run ends, with the bad line, if there is one
  pub text : M → Option BadLine → List ℕ
  -- what the status says of a run that came to its end
  pub finding : M → Finding

-- # Lines

-- an event was taken, or it was not, for a reason
abbrev pub Stepped : {M : Type 0} → RunRules M → ℕ → M → M → Taking → Option Reason → Type 0
Stepped rules row m0 m1 Skipped reason = ⊥
Stepped rules row m0 m1 (Taken entry) reason = (reason ≡ None) × (m1 ≡ rules.after_entry row entry m0)
Stepped rules row m0 m1 (Refused why) reason = (reason ≡ Some why) × (m1 ≡ m0)

-- what is written where the run ends at a bad line
abbrev pub refused_text : {M : Type 0} → RunRules M → M → ℕ → Reason → List ℕ
refused_text rules m row reason = rules.text m (Some (record { row = row; reason = reason }))

-- by what a line is: of an event nothing is written before the end, or before a bad line
abbrev pub turn_by : {M : Type 0} → RunRules M → M → ℕ → Content → Taking → Turn M
turn_by rules m row content Skipped = rules.quiet_turn m content
turn_by rules m row content (Taken entry) = Takes (rules.after_entry row entry m) []
turn_by rules m row content (Refused reason) = Stops (refused_text rules m row reason)

-- what a line does
abbrev pub turn_of : {M : Type 0} → RunRules M → M → ℕ → Content → Turn M
turn_of rules m row content = turn_by rules m row content (taking (rules.world m) content)

abbrev pub end_of : {M : Type 0} → RunRules M → M → List ℕ
end_of rules m = rules.text m None

-- the octet that is too much makes its line bad
pub stops_at_too_much : {M : Type 0} (rules : RunRules M) (m : M) (row : ℕ) → IsStop (turn_of rules m row TooMuch)
unfolding taking
stops_at_too_much rules m row = tt

-- what a script does, from a machine that has seen no line, where its input has ended or not
abbrev pub outcome_by : {M : Type 0} → RunRules M → M → List ℕ → Bool → Outcome M
outcome_by rules first octets ended = outcome_of (turn_of rules) (end_of rules) first octets ended

-- # The run of the script

-- a turn does to the world of a machine what the line does to it, and stops where the line is bad
abbrev pub Follows : {M : Type 0} → (M → World) → M → Turn M → Taking → Type 0
Follows world m Skips Skipped = Unit {0}
Follows world m Skips (Taken entry) = ⊥
Follows world m Skips (Refused reason) = ⊥
Follows world m (Takes next text) Skipped = world next ≡ world m
Follows world m (Takes next text) (Taken entry) = world next ≡ entry.after
Follows world m (Takes next text) (Refused reason) = ⊥
Follows world m (Stops text) Skipped = ⊥
Follows world m (Stops text) (Taken entry) = ⊥
Follows world m (Stops text) (Refused reason) = Unit {0}

-- the world of a machine is that of the script's run, from its first line on
pub record FollowsRun {M : Type 0} (rules : RunRules M) (first : M) : Type 0 where
  pub begins : rules.world first ≡ start
  pub entries : (row : ℕ) (entry : Entry) (m : M) → rules.world (rules.after_entry row entry m) ≡ entry.after
  pub quiet : (m : M) (content : Content) → Follows rules.world m (rules.quiet_turn m content) Skipped
