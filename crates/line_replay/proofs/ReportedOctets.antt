-- What went through the streams of a run, where nothing had gone through them before.
use Rattle.std.proofs.Common.{◌≡◌, ℕ, Bool, true, false, List, [], ◌++◌, Option, None, Some, sym, ◌∙◌, ap, subst}
use Rattle.std.specs.Io.KnownBytes.{Appends}
use Rattle.plc_base.specs.Streams.{SourceState, SinkState, IsPrefixOf}
use Rattle.script_lines.specs.Clauses.{Comes}
use Rattle.script_lines.specs.Outcomes.{Outcome}
use Rattle.script_lines.specs.declared.machine.Exit.{Exit}
use Rattle.script_lines.specs.declared.machine.Exit.TheVariants as exits
use Rattle.script_runs.specs.Runs.{Ran}
use Rattle.script_runs.specs.Statuses.{status_of}
use Rattle.script_runs.specs.declared.status.Status.{Status}
use Rattle.script_runs.specs.declared.status.Status.TheVariants as status
use Rattle.line_replay.specs.Tool.{IsReportOf}

no_none : ◌≡◌ {A = Option (List ℕ)} None (Some []) → ⊥
no_none is = cc

same_some : (xs : List ℕ) → Some xs ≡ Some [] → xs ≡ []
same_some xs is = cc

-- what was taken after nothing is all that was taken
taken_is : (before after : Option (List ℕ)) (w : List ℕ) → before ≡ Some [] → Appends before after w → after ≡ Some w
taken_is None after w none appends = absurd (no_none none)
taken_is (Some xs) None w none appends = absurd appends
taken_is (Some xs) (Some ys) w none appends = ap (λ (l : List ℕ). Some l) (appends ∙ ap (λ (front : List ℕ). front ++ w) (same_some xs none))

module _ {M : Type 0} {judge : M → Bool} {outcome : List ℕ → Bool → Outcome M} {source0 source1 : SourceState} {sink0 sink1 : SinkState} {s : Status}
    (ran : Ran judge status.Forged outcome source0 source1 sink0 sink1 s) where
  reported_by : (exit : Exit) (flag : Bool) (b w : List ℕ) → Comes outcome ran.last source0 source1 sink0 sink1 b w exit → source1.given ≡ b
      → sink1.taken ≡ Some w → IsReportOf (λ octets ended. (outcome octets ended).text) (status_of exit flag status.Forged) source1 sink1
  reported_by exits.Fine false b w comes gave took = took ∙ ap (λ (l : List ℕ). Some l) (comes.2 ∙ ap (λ (l : List ℕ). (outcome l true).text) (sym gave))
  reported_by exits.Fine true b w comes gave took = took ∙ ap (λ (l : List ℕ). Some l) (comes.2 ∙ ap (λ (l : List ℕ). (outcome l true).text) (sym gave))
  reported_by exits.BadScript flag b w comes gave took =
      took ∙ ap (λ (l : List ℕ). Some l) (comes.1 ∙ ap (λ (l : List ℕ). (outcome l source1.ended).text) (sym gave))
  reported_by exits.ReadFault flag b w comes gave took =
      took ∙ ap (λ (l : List ℕ). Some l) (comes.2 ∙ ap (λ (l : List ℕ). (outcome l false).text) (sym gave))
  reported_by exits.WriteFault flag b w comes gave took =
      record { w = w; taken = took; front = subst (λ (l : List ℕ). IsPrefixOf w (outcome l source1.ended).text) (sym gave) comes.1 }
  reported_by exits.Memory flag b w comes gave took =
      record { w = w; taken = took; front = subst (λ (l : List ℕ). IsPrefixOf w (outcome l source1.ended).text) (sym gave) comes.0 }

  pub reported_as : source0.given ≡ [] → sink0.taken ≡ Some [] → IsReportOf (λ octets ended. (outcome octets ended).text) s source1 sink1
  reported_as fresh empty =
      let d = ran.drives in
      let gave : source1.given ≡ d.b = d.gave.given ∙ ap (λ (l : List ℕ). l ++ d.b) fresh in
      let took : sink1.taken ≡ Some d.w = taken_is sink0.taken sink1.taken d.w empty d.wrote in
      subst (λ t. IsReportOf (λ octets ended. (outcome octets ended).text) t source1 sink1) (sym ran.status)
      (reported_by ran.exit (judge ran.last) d.b d.w d.comes gave took)
