use Rattle.line_rules.specs.Runs.{IsLineRun}
-- What the tool's call says.
use Rattle.std.specs.Prelude.{◌≡◌, ℕ, ◌<◌, Bool, true, false, ◌&&◌, List, [], ◌∷◌, ◌++◌, String, Some, None, codes, string_bytes, bytes_eq}
use Rattle.std.specs.Prelude.{if◌then◌else◌}
use Rattle.std.specs.declared.option.Option.{Option}
use Rattle.std.specs.Option.{option_map}
use Rattle.std.specs.declared.alloc.Global.{Global}
use Rattle.plc_base.specs.Streams.{SourceState, SinkState, IsPrefixOf}
use Rattle.script_lines.specs.declared.window.TheConstants.{WINDOW}
use Rattle.script_lines.specs.Outcomes.{BreaksOff, MayBreakOff}
use Rattle.node_rules.specs.Ciphers.{network}
use Rattle.line_laws.specs.Network.{IsRight}
use Rattle.run_laws.specs.RunLaws.{IsLawful}
use Rattle.line_script.specs.Words.{number_within}
use Rattle.line_replay.specs.declared.tool.Command.{Command}
use Rattle.line_replay.specs.declared.tool.Command.TheVariants.{Replay, Show, Vectors, Drill}
use Rattle.script_runs.specs.declared.status.Status.{Status}
use Rattle.script_runs.specs.declared.status.Status.TheVariants as status
use Rattle.script_runs.specs.Runs.{Ran}
use Rattle.script_runs.specs.Texts.{WritesText}
use Rattle.line_replay.specs.Shown.{show_outcome}
use Rattle.line_replay.specs.Replay.{is_forged, outcome, report, entries, entries_text, last_text, EndsBy, first_bad, forged_in, without_flights}

-- a drill with this many meters: 1 to 60, as a line has a number
abbrev pub drill_of : List ℕ → Option Command
drill_of word = option_map Drill (number_within 1 60 word)

-- the command that words name, if they are of a form
abbrev pub command_of : List (String Global) → Option Command
command_of [] = None
command_of (word ∷ []) =
    if bytes_eq (string_bytes word) (codes "replay") then Some (Replay false)
    else (if bytes_eq (string_bytes word) (codes "show") then Some Show
    else (if bytes_eq (string_bytes word) (codes "vectors") then Some Vectors
    else None))
command_of (word ∷ option ∷ []) =
    if bytes_eq (string_bytes word) (codes "replay") && bytes_eq (string_bytes option) (codes "-q")
    then Some (Replay true)
    else (if bytes_eq (string_bytes word) (codes "drill") then drill_of (string_bytes option)
    else None)
command_of (word ∷ option ∷ other ∷ words) = None

-- no frame that is shown is forged
abbrev pub none_forged : ℕ → Bool
none_forged frames = false

-- What showing frames did.
abbrev pub Shows : SourceState → SourceState → SinkState → SinkState → Status → Type 0
Shows source0 source1 sink0 sink1 result = Ran none_forged status.Forged show_outcome source0 source1 sink0 sink1 result

-- a status says of a run whether an event of it is forged
abbrev pub Names : Status → ℕ → Type 0
Names status.Fine forged = forged ≡ 0
Names status.Forged forged = 0 < forged
Names status.BadScript forged = Unit {0}
Names status.ReadFault forged = Unit {0}
Names status.WriteFault forged = Unit {0}
Names status.Memory forged = Unit {0}
Names status.Usage forged = Unit {0}
Names status.LimitReached forged = ⊥

-- the input was read whole
abbrev pub is_whole : Status → Bool
is_whole status.Fine = true
is_whole status.Forged = true
is_whole _ = false

-- A report that could not be written whole, since a write failed or memory ran out, breaks off in the report of one line, or in the
-- last line of all: what comes before was written whole, and few octets after that line were read.
abbrev pub BreaksOffBy : Status → (List ℕ → Bool → List ℕ) → List ℕ → List ℕ → Bool → Type 0
BreaksOffBy status.WriteFault whole b w ended = BreaksOff WINDOW whole b w ended
BreaksOffBy status.Memory whole b w ended = MayBreakOff WINDOW whole b w ended
BreaksOffBy status.Fine whole b w ended = Unit {0}
BreaksOffBy status.Forged whole b w ended = Unit {0}
BreaksOffBy status.BadScript whole b w ended = Unit {0}
BreaksOffBy status.ReadFault whole b w ended = Unit {0}
BreaksOffBy status.Usage whole b w ended = Unit {0}
BreaksOffBy status.LimitReached whole b w ended = ⊥

-- A sink has taken a prefix of a text.
pub record HasTakenFront (text : List ℕ) (sink : SinkState) : Type 0 where
  pub w : List ℕ
  pub taken : sink.taken ≡ Some w
  pub front : IsPrefixOf w text

-- What a sink has taken is the report of what a source has given, by the status: of all octets once the input has ended, of the lines up to a bad one, of the
-- whole lines before a read that failed; or a prefix of it where it could not be written whole.
abbrev pub IsReportOf : (List ℕ → Bool → List ℕ) → Status → SourceState → SinkState → Type 0
IsReportOf whole status.Fine source sink = sink.taken ≡ Some (whole source.given true)
IsReportOf whole status.Forged source sink = sink.taken ≡ Some (whole source.given true)
IsReportOf whole status.BadScript source sink = sink.taken ≡ Some (whole source.given source.ended)
IsReportOf whole status.ReadFault source sink = sink.taken ≡ Some (whole source.given false)
IsReportOf whole status.WriteFault source sink = HasTakenFront (whole source.given source.ended) sink
IsReportOf whole status.Memory source sink = HasTakenFront (whole source.given source.ended) sink
IsReportOf whole status.Usage source sink = ⊥
IsReportOf whole status.LimitReached source sink = ⊥

-- What a replay did: the same, and what holds of its run.
pub record Replays (quiet : Bool) (source0 source1 : SourceState) (sink0 sink1 : SinkState)
    (result : Status) : Type 0 where
  pub ran : Ran is_forged status.Forged (outcome quiet) source0 source1 sink0 sink1 result
  -- where nothing had gone through the streams before, what the sink's writes have taken is the report of what the source's reads have answered
  pub reported : source0.given ≡ [] → sink0.taken ≡ Some [] → IsReportOf (report quiet) result source1 sink1
  -- the report is the lines of the run's entries, and then the last line
  pub by_entries : (e : Bool)
      → report quiet ran.drives.b e ≡ entries_text quiet (entries ran.drives.b e) ++ last_text ran.drives.b e
  -- the quiet report is the full one without its lines that begin with "fly "
  pub quieted : (e : Bool) → report true ran.drives.b e ≡ without_flights (report false ran.drives.b e)
  -- where a write failed or memory ran out, the reports of all lines before that one were written whole
  pub breaks : BreaksOffBy result (report quiet) ran.drives.b ran.drives.w source1.ended
  -- the last line names the first bad line, where there is one
  pub bad : (e : Bool) → EndsBy e (first_bad ran.drives.b e) (last_text ran.drives.b e)
  -- the entries are a run of the network: the step of each event gives the next world
  pub run : (e : Bool) → IsLineRun network (entries ran.drives.b e)
  -- all that the laws of every run say of it
  pub holds : (e : Bool) → IsRight (entries ran.drives.b e)
  pub lawful : (e : Bool) → IsLawful (entries ran.drives.b e)
  -- the status names a forged event exactly where there is one
  pub named : Names result (forged_in (entries ran.drives.b true))

-- One text was written, unless memory ran out while it was made: then nothing was written.
abbrev pub WritesTextOrMemory : List ℕ → Status → SinkState → SinkState → Status → Type 0
WritesTextOrMemory text done sink0 sink1 status.Memory = sink1 ≡ sink0
WritesTextOrMemory text done sink0 sink1 result = WritesText text done sink0 sink1 result
