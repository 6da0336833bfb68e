-- What the writing of one text says.
use Rattle.std.specs.Prelude.{◌≡◌, ◌⊎◌, ℕ, List, length}
use Rattle.std.specs.Io.KnownBytes.{Appends}
use Rattle.plc_base.specs.Streams.{SinkState, SinkFaults, SinkRose, IsPrefixOf}
use Rattle.script_runs.specs.declared.status.Status.{Status}
use Rattle.script_runs.specs.declared.status.Status.TheVariants as status

-- What the writing of one text did: all of it was written, and the status is the one for that; or the sink failed, and a prefix of it was written.
pub record WritesText (text : List ℕ) (done : Status) (sink0 sink1 : SinkState) (result : Status) : Type 0 where
  pub w : List ℕ
  pub wrote : Appends sink0.taken sink1.taken w
  pub by : ((result ≡ done) × (w ≡ text)) ⊎ ((result ≡ status.WriteFault) × SinkRose sink0 sink1 × IsPrefixOf w text)
  pub faults : SinkFaults sink0 sink1 (length text)
