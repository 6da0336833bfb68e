-- A replay, by what its run over lines did.
use Rattle.std.proofs.Common.{ℕ, Bool, true, List}
use Rattle.plc_base.specs.Streams.{SourceState, SinkState}
use Rattle.line_laws.specs.Network.{IsRight}
use Rattle.run_laws.specs.RunLaws.{IsLawful}
use Rattle.line_replay.specs.Replay.{entries, is_forged, outcome}
use Rattle.script_runs.specs.declared.status.Status.{Status}
use Rattle.script_runs.specs.declared.status.Status.TheVariants as status
use Rattle.script_runs.specs.Runs.{Ran}
use Rattle.line_replay.specs.Tool.{Replays}
use Rattle.line_replay.proofs.DriverRuns.{entries_run, last_is, report_by_entries, names, breaks_as}
use Rattle.line_replay.proofs.QuietReports.{report_quieted}
use Rattle.line_replay.proofs.ReportedOctets.{reported_as}

pub replays_of : (quiet : Bool) {source0 source1 : SourceState} {sink0 sink1 : SinkState} {s : Status}
    → Ran is_forged status.Forged (outcome quiet) source0 source1 sink0 sink1 s → ((octets : List ℕ) (e : Bool) → IsRight (entries octets e))
    → ((octets : List ℕ) (e : Bool) → IsLawful (entries octets e)) → Replays quiet source0 source1 sink0 sink1 s
replays_of quiet ran right lawful = record {
  ran = ran;
  reported = reported_as ran;
  by_entries = report_by_entries quiet ran.drives.b;
  quieted = λ e. report_quieted ran.drives.b e;
  breaks = breaks_as ran;
  bad = last_is ran.drives.b;
  run = entries_run ran.drives.b;
  holds = λ e. right ran.drives.b e;
  lawful = λ e. lawful ran.drives.b e;
  named = names quiet ran (right ran.drives.b true).counted;
}
