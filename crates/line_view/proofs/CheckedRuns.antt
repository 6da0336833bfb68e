-- From a run over lines to what a check says.
use Rattle.std.proofs.Common.{◌≡◌, ℕ, Bool, true, false, List, sym, ap, ◌∙◌, refl, subst}
use Rattle.std.specs.Prelude.{is_some}
use Rattle.plc_base.specs.Streams.{SourceState, SinkState}
use Rattle.script_lines.specs.declared.machine.Exit.{Exit}
use Rattle.script_lines.specs.declared.machine.Exit.TheVariants as exits
use Rattle.script_lines.specs.declared.window.TheConstants.{WINDOW}
use Rattle.script_lines.specs.Clauses.{Comes}
use Rattle.script_runs.specs.TakenLines.{first_bad}
use Rattle.script_runs.specs.declared.status.Status.{Status}
use Rattle.script_runs.specs.declared.status.Status.TheVariants as status
use Rattle.line_view.specs.CheckRuns.{CheckRun, is_bad, outcome}
use Rattle.script_runs.specs.Runs.{Ran}
use Rattle.script_runs.specs.Statuses.{status_of}
use Rattle.line_view.specs.Tool.{Names}
use Rattle.line_view.proofs.Checks.{bad_at_end, bad_where_stopped}

module _ (json : Bool) where
  at_end : (source1 : SourceState) (b : List ℕ) → source1.ended ≡ true → is_some (first_bad b true) ≡ is_some (first_bad b source1.ended)
  at_end source1 b ended = ap (λ e. is_some (first_bad b e)) (sym ended)

  names_by : (source0 source1 : SourceState) (sink0 sink1 : SinkState) (b w : List ℕ) (last : CheckRun) (exit : Exit) (flag : Bool) → is_bad last ≡ flag
      → Comes (outcome json) last source0 source1 sink0 sink1 b w exit → Names (status_of exit flag status.BadScript) (is_some (first_bad b source1.ended))
  names_by source0 source1 sink0 sink1 b w last exits.Fine false is comes =
      sym (at_end source1 b comes.0) ∙ sym (bad_at_end json b last comes.1) ∙ is
  names_by source0 source1 sink0 sink1 b w last exits.Fine true is comes =
      sym (at_end source1 b comes.0) ∙ sym (bad_at_end json b last comes.1) ∙ is
  names_by source0 source1 sink0 sink1 b w last exits.BadScript flag is comes = bad_where_stopped json b source1.ended WINDOW comes.0
  names_by source0 source1 sink0 sink1 b w last exits.ReadFault flag is comes = tt
  names_by source0 source1 sink0 sink1 b w last exits.WriteFault flag is comes = tt
  names_by source0 source1 sink0 sink1 b w last exits.Memory flag is comes = tt

  -- the status of a check says whether a line is bad
  pub names : {source0 source1 : SourceState} {sink0 sink1 : SinkState} {s : Status}
      (ran : Ran is_bad status.BadScript (outcome json) source0 source1 sink0 sink1 s)
      → Names s (is_some (first_bad ran.drives.b source1.ended))
  names {source0} {source1} {sink0} {sink1} {s} ran = subst (λ t. Names t (is_some (first_bad ran.drives.b source1.ended))) (sym ran.status)
      (names_by source0 source1 sink0 sink1 ran.drives.b ran.drives.w ran.last ran.exit (is_bad ran.last) refl ran.drives.comes)
