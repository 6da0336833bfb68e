-- What an event does to an account: it is recorded, and has its sentence.
use Rattle.std.proofs.Common.{◌≡◌, ℕ, true, false, Option, None, refl, sym, ap, ◌∙◌}
use Rattle.std.specs.Prelude.{is_some}
use Rattle.line_events.specs.declared.event.Event.{Event}
use Rattle.line_script.specs.declared.report.Reason.{Reason}
use Rattle.script_runs.specs.TakenLines.{Taking, Skipped, Taken, Refused}
use Rattle.line_view.specs.Recordings.{Recording, Recorded}
use Rattle.line_view.specs.Sentences.{Sentences, with_sentence}
use Rattle.line_view.specs.RunMachines.{Stepped}
use Rattle.line_view.specs.ExplainRuns.{ExplainRun, rules}

abbrev next_of : ExplainRun → Recording → Sentences → ExplainRun
next_of m run worded = record m { run = run; worded = worded }

no_falsehood : true ≡ false → ⊥
no_falsehood is = cc

-- an event that was taken and recorded, and has its sentence
pub entry_worded : (row : ℕ) (m : ExplainRun) (e : Event) (run again : Recording) (worded : Sentences) (t : Taking) (refusal : Option Reason)
    → Recorded row e m.run run t refusal → is_some refusal ≡ false → worded ≡ with_sentence e run m.worded → again ≡ run
    → Stepped rules row m (next_of m again worded) t None
entry_worded row m e run again worded Skipped refusal r none is same = absurd r
entry_worded row m e run again worded (Taken entry) refusal r none is same =
    let words : worded ≡ with_sentence entry.event run m.worded = is ∙ ap (λ (x : Event). with_sentence x run m.worded) (sym r.1.0) in (
      refl,
      ap (λ (x : Recording). next_of m x worded) same
          ∙ ap (λ (s : Sentences). next_of m run s) words
          ∙ ap (λ (x : Recording). next_of m x (with_sentence entry.event x m.worded)) r.1.1,
    )
entry_worded row m e run again worded (Refused why) refusal r none is same =
    absurd (no_falsehood (ap (λ (o : Option Reason). is_some o) (sym r.0) ∙ none))
