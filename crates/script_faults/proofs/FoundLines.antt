-- A line has a finding exactly where it has a fault.
use Rattle.std.proofs.Common.{◌≡◌, Bool, true, false, not, List, ℕ, ◌-◌, length, Option, None, Some, Ok, Err, Result, refl, ap, ◌∙◌}
use Rattle.std.specs.Prelude.{IfOk, is_some, if◌then◌else◌, slice_get}
use Rattle.line_script.specs.LineReader.{reading}
use Rattle.script_faults.specs.Findings.{FindingParts}
use Rattle.script_faults.specs.declared.fault.Fault.{Fault}
use Rattle.script_faults.specs.Forms.{has_reading, fault_of}
use Rattle.script_faults.specs.LineFindings.{plain_by, returned_by, line_finding}
use Rattle.script_faults.specs.WordFindings.{is_octet}
use Rattle.script_faults.proofs.Readable.{faults_are}

by_end : (fault : Option Fault) (returns : Bool) (line : List ℕ) → is_some (if returns then returned_by fault line else plain_by fault line) ≡ is_some fault
by_end None true line = refl
by_end None false line = refl
by_end (Some fault) true line = refl
by_end (Some fault) false line = refl

pub found_where : (line : List ℕ) → is_some (line_finding line) ≡ not (has_reading (reading line))
unfolding line_finding
found_where line = by_end (fault_of line) (is_octet 13 (slice_get line (length line - 1))) line ∙ faults_are line

pub found_at_all : {E : Type 0} (line : List ℕ) (r : Result (Option FindingParts) E) → IfOk r (λ f. f ≡ line_finding line)
    → IfOk r (λ f. is_some f ≡ not (has_reading (reading line)))
found_at_all line (Ok found) is = ap is_some is ∙ found_where line
found_at_all line (Err e) is = tt
