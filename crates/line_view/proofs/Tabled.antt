-- What an event and a remark do to a table: the event is recorded.
use Rattle.std.proofs.Common.{◌≡◌, ℕ, true, false, List, Option, None, refl, sym, ap, ◌∙◌}
use Rattle.std.specs.Prelude.{is_some}
use Rattle.line_events.specs.declared.event.Event.{Event}
use Rattle.line_script.specs.declared.report.Reason.{Reason}
use Rattle.script_lines.specs.Lines.{Content, Text, Long, TooMuch}
use Rattle.script_runs.specs.TakenLines.{Taking, Skipped, Taken, Refused}
use Rattle.line_view.specs.declared.tables.Table.{Table}
use Rattle.line_view.specs.Recordings.{Recording, Recorded}
use Rattle.line_view.specs.RunMachines.{FollowsRun, Stepped}
use Rattle.line_view.specs.TableRuns.{TableRun, nothing_tabled, remarked, rules}
use Rattle.line_view.proofs.Recorded.{recorded_world}

no_falsehood : true ≡ false → ⊥
no_falsehood is = cc

abbrev next_of : TableRun → Recording → List ℕ → TableRun
next_of m run spares = record m { run = run; spares = spares }

-- an event that was taken and recorded
pub entry_tabled : (row : ℕ) (m : TableRun) (e : Event) (run : Recording) (spares : List ℕ) (t : Taking) (refusal : Option Reason)
    → Recorded row e m.run run t refusal → is_some refusal ≡ false → spares ≡ m.spares → Stepped rules row m (next_of m run spares) t None
entry_tabled row m e run spares Skipped refusal r none same = absurd r
entry_tabled row m e run spares (Taken entry) refusal r none same =
    (refl, ap (λ (x : List ℕ). next_of m run x) same ∙ ap (λ (x : Recording). next_of m x m.spares) r.1.1)
entry_tabled row m e run spares (Refused why) refusal r none same =
    absurd (no_falsehood (ap (λ (o : Option Reason). is_some o) (sym r.0) ∙ none))

remark_world : (content : Content) (m : TableRun) → (remarked content m).run.world ≡ m.run.world
remark_world (Text line) m = refl
remark_world Long m = refl
remark_world TooMuch m = refl

-- the run of a table follows the script
pub table_follows : (table : Table) → FollowsRun rules (nothing_tabled table)
table_follows table =
    record { begins = refl; entries = λ row entry m. recorded_world row entry m.run; quiet = λ m content. remark_world content m }
