-- What a run over lines says of its status.
use Rattle.std.specs.Prelude.{◌≡◌, ℕ, Bool, List}
use Rattle.plc_base.specs.Streams.{SourceState, SinkState}
use Rattle.script_lines.specs.declared.machine.Exit.{Exit}
use Rattle.script_lines.specs.Clauses.{Drives}
use Rattle.script_lines.specs.Outcomes.{Outcome}
use Rattle.script_runs.specs.declared.status.Status.{Status}
use Rattle.script_runs.specs.Statuses.{status_of}

-- What reading lines did: how the run ended, the last state where it came to the end of input, and the status of both.
pub record Ran {M : Type 0} (judge : M → Bool) (found : Status) (outcome : List ℕ → Bool → Outcome M) (source0 source1 : SourceState)
    (sink0 sink1 : SinkState) (result : Status) : Type 0 where
  pub exit : Exit
  pub last : M
  pub drives : Drives outcome last source0 source1 sink0 sink1 exit
  pub status : result ≡ status_of exit (judge last) found
