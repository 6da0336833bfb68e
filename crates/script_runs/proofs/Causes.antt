-- Why the status of a run over lines came.
use Rattle.std.proofs.Common.{◌≡◌, ℕ, List, Bool, true, false, refl, sym, ap, ◌∙◌}
use Rattle.plc_base.specs.Streams.{SourceState, SinkState, SourceRose, SinkRose}
use Rattle.script_lines.specs.declared.machine.Exit.{Exit}
use Rattle.script_lines.specs.declared.machine.Exit.TheVariants as exits
use Rattle.script_lines.specs.Clauses.{Comes, Drives}
use Rattle.script_lines.specs.Outcomes.{Outcome}
use Rattle.script_runs.specs.declared.status.Status.{Status}
use Rattle.script_runs.specs.declared.status.Status.TheVariants as status
use Rattle.script_runs.specs.Runs.{Ran}
use Rattle.script_runs.specs.Statuses.{status_of}

-- what a run over lines did, by its status
pub ran_of : {M : Type 0} (judge : M → Bool) (found : Status) (outcome : List ℕ → Bool → Outcome M) {source0 source1 : SourceState} {sink0 sink1 : SinkState}
    (exit : Exit) (last : M) (flag : Bool) (s : Status) → s ≡ status_of exit flag found → judge last ≡ flag
    → Drives outcome last source0 source1 sink0 sink1 exit → Ran judge found outcome source0 source1 sink0 sink1 s
ran_of judge found outcome exit last flag s of is d = record {
  exit = exit;
  last = last;
  drives = d;
  status = of ∙ ap (λ (b : Bool). status_of exit b found) (sym is);
}

fine_of : (exit : Exit) (flag : Bool) (found : Status) → status_of exit flag found ≡ status.Fine → exit ≡ exits.Fine
fine_of exits.Fine flag found is = refl
fine_of exits.BadScript flag found is = absurd (let no : status.BadScript ≡ status.Fine → ⊥ = λ e. cc in no is)
fine_of exits.Memory flag found is = absurd (let no : status.Memory ≡ status.Fine → ⊥ = λ e. cc in no is)
fine_of exits.ReadFault flag found is = absurd (let no : status.ReadFault ≡ status.Fine → ⊥ = λ e. cc in no is)
fine_of exits.WriteFault flag found is = absurd (let no : status.WriteFault ≡ status.Fine → ⊥ = λ e. cc in no is)

-- a run that ended Fine came to the end of its input
pub fine_exit : (exit : Exit) (flag : Bool) (found s : Status) → s ≡ status_of exit flag found → s ≡ status.Fine → exit ≡ exits.Fine
fine_exit exit flag found s of fine = fine_of exit flag found (sym of ∙ fine)

module _ {M : Type 0} {outcome : List ℕ → Bool → Outcome M} {last : M} {source0 source1 : SourceState} {sink0 sink1 : SinkState} (found : Status)
    (exit : Exit) (flag : Bool) (s : Status) (of : s ≡ status_of exit flag found) (drives : Drives outcome last source0 source1 sink0 sink1 exit) where
  read_by : (exit : Exit) (flag : Bool) → (found ≡ status.ReadFault → ⊥) → Comes outcome last source0 source1 sink0 sink1 drives.b drives.w exit
      → status_of exit flag found ≡ status.ReadFault → SourceRose source0 source1
  read_by exits.Fine false other comes is = absurd (let no : status.Fine ≡ status.ReadFault → ⊥ = λ e. cc in no is)
  read_by exits.Fine true other comes is = absurd (other is)
  read_by exits.BadScript flag other comes is = absurd (let no : status.BadScript ≡ status.ReadFault → ⊥ = λ e. cc in no is)
  read_by exits.Memory flag other comes is = absurd (let no : status.Memory ≡ status.ReadFault → ⊥ = λ e. cc in no is)
  read_by exits.WriteFault flag other comes is = absurd (let no : status.WriteFault ≡ status.ReadFault → ⊥ = λ e. cc in no is)
  read_by exits.ReadFault flag other comes is = comes.0

  write_by : (exit : Exit) (flag : Bool) → (found ≡ status.WriteFault → ⊥) → Comes outcome last source0 source1 sink0 sink1 drives.b drives.w exit
      → status_of exit flag found ≡ status.WriteFault → SinkRose sink0 sink1
  write_by exits.Fine false other comes is = absurd (let no : status.Fine ≡ status.WriteFault → ⊥ = λ e. cc in no is)
  write_by exits.Fine true other comes is = absurd (other is)
  write_by exits.BadScript flag other comes is = absurd (let no : status.BadScript ≡ status.WriteFault → ⊥ = λ e. cc in no is)
  write_by exits.Memory flag other comes is = absurd (let no : status.Memory ≡ status.WriteFault → ⊥ = λ e. cc in no is)
  write_by exits.ReadFault flag other comes is = absurd (let no : status.ReadFault ≡ status.WriteFault → ⊥ = λ e. cc in no is)
  write_by exits.WriteFault flag other comes is = comes.0

  -- a fault of the outside has its cause there
  pub read_cause : (found ≡ status.ReadFault → ⊥) → s ≡ status.ReadFault → SourceRose source0 source1
  read_cause other is = read_by exit flag other drives.comes (sym of ∙ is)

  pub write_cause : (found ≡ status.WriteFault → ⊥) → s ≡ status.WriteFault → SinkRose sink0 sink1
  write_cause other is = write_by exit flag other drives.comes (sym of ∙ is)
