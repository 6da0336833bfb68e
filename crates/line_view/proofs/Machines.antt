-- The turn of a line, of a machine that records a run and writes where it ends: nothing is written of the line before.
use Rattle.std.proofs.Common.{◌≡◌, ℕ, true, false, List, [], Option, Some, None, Ok, Result, refl, sym, ap, subst, ◌∙◌, arith}
use Rattle.std.specs.Prelude.{is_some}
use Rattle.plc_base.specs.Streams.{SinkState}
use Rattle.script_lines.specs.declared.text_output.StopReason.{StopReason}
use Rattle.script_lines.specs.declared.input.LineKind.{LineKind}
use Rattle.script_lines.specs.declared.input.LineKind.TheVariants as kinds
use Rattle.script_lines.specs.Lines.{Content, Text}
use Rattle.script_lines.specs.Next.{content_found}
use Rattle.script_lines.specs.Outcomes.{Stops, Takes}
use Rattle.script_lines.specs.Clauses.{StopsWith, Turned}
use Rattle.script_lines.proofs.Turned.{stopped}
use Rattle.line_events.specs.declared.event.Event.{Event}
use Rattle.line_script.specs.declared.reading.Reading.{Reading}
use Rattle.line_script.specs.declared.reading.Reading.TheVariants.{Quiet}
use Rattle.line_script.specs.declared.report.Reason.{Reason}
use Rattle.line_script.specs.LineReader.{reading}
use Rattle.script_runs.specs.TakenLines.{Taking, Skipped, Taken, Refused, reading_taking, taking}
use Rattle.line_view.specs.Recordings.{Recording, Recorded}
use Rattle.line_view.specs.RunMachines.{RunRules, Stepped, refused_text, turn_by, turn_of}
use Rattle.line_view.proofs.Turns.{nothing_appended, room_of}

no_reason : (why : Reason) → None ≡ Some why → ⊥
no_reason why is = cc

some_reason : (why : Reason) → Some why ≡ None → ⊥
some_reason why is = cc

same_reason : (why reason : Reason) → Some why ≡ Some reason → why ≡ reason
same_reason why reason is = cc

no_truth : false ≡ true → ⊥
no_truth is = cc

-- # The step

-- an event that was not taken
pub refused : {M : Type 0} (rules : RunRules M) (with_run : Recording → M) (row : ℕ) (old new : Recording) (e : Event) (t : Taking)
    (refusal : Option Reason) → Recorded row e old new t refusal → is_some refusal ≡ true → Stepped rules row (with_run old) (with_run new) t refusal
refused rules with_run row old new e Skipped refusal r some = absurd r
refused rules with_run row old new e (Taken entry) refusal r some = absurd (no_truth (ap (λ (o : Option Reason). is_some o) (sym r.0) ∙ some))
refused rules with_run row old new e (Refused reason) refusal r some = (r.0, ap with_run r.1)

-- # The turn

-- a line is taken, and nothing is written
pub silent : {M : Type 0} (s : SinkState) (m next after : M) → next ≡ after → Turned {M = M} s s m next (Takes after []) (Ok tt)
silent s m next after is =
    record {
      w = [];
      wrote = nothing_appended s.taken;
      turned = (is, refl);
      faults = record { later = omega arith; none = λ more room. (room_of s.plan 0 more room, refl) };
    }

-- the run goes on
pub went_on : {M : Type 0} (rules : RunRules M) (s : SinkState) (row : ℕ) (content : Content) (m next : M) (t : Taking)
    → Stepped rules row m next t None → Turned {M = M} s s m next (turn_by rules m row content t) (Ok tt)
went_on rules s row content m next Skipped h = absurd h
went_on rules s row content m next (Taken entry) h = silent s m next (rules.after_entry row entry m) h.1
went_on rules s row content m next (Refused why) h = absurd (no_reason why h.0)

-- it stops at a bad line, whose text was written
pub ended : {M : Type 0} {old new : SinkState} (rules : RunRules M) (row : ℕ) (content : Content) (m next : M) (t : Taking) (why : Reason)
    (r : Result (Unit {0}) StopReason) → Stepped rules row m next t (Some why) → StopsWith old new (refused_text rules next row why) r
    → Turned {M = M} old new m next (turn_by rules m row content t) r
ended rules row content m next Skipped why r h stops = absurd h
ended rules row content m next (Taken entry) why r h stops = absurd (some_reason why h.0)
ended {M} {old} {new} rules row content m next (Refused reason) why r h stops =
    let same : why ≡ reason = same_reason why reason h.0 in
    let is : refused_text rules next row why ≡ refused_text rules m row reason = λ i. refused_text rules (h.1 i) row (same i) in
    subst (λ (x : M). Turned {M = M} old new m x (Stops (refused_text rules m row reason)) r) (sym h.1)
    (stopped (refused_text rules m row reason) r (subst (λ (x : List ℕ). StopsWith old new x r) is stops) m)

-- a line has no event
pub quiet : {M : Type 0} {old new : SinkState} (rules : RunRules M) (m inside next : M) (row : ℕ) (line : List ℕ) (kind : LineKind)
    (r : Result (Unit {0}) StopReason) → inside ≡ m → kind ≡ kinds.Text → reading line ≡ Quiet
    → Turned {M = M} old new inside next (turn_by rules inside row (Text line) Skipped) r
    → Turned {M = M} old new m next (turn_of rules m row (content_found line kind)) r
unfolding taking
quiet {M} {old} {new} rules m inside next row line kind r same is none h =
    subst (λ (x : M). Turned {M = M} old new x next (turn_of rules x row (content_found line kind)) r) same
    (subst (λ (k : LineKind). Turned {M = M} old new inside next (turn_of rules inside row (content_found line k)) r) (sym is)
    (subst (λ (t : Reading). Turned {M = M} old new inside next (turn_by rules inside row (Text line) (reading_taking (rules.world inside) t)) r)
    (sym none) h))
