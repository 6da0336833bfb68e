-- What the program's call says.
use Rattle.std.specs.Prelude.{◌≡◌, ◌⊎◌, ℕ, Bool, true, false, List, [], ◌∷◌, ◌++◌, String, Some, None, codes, is_some, string_bytes, bytes_eq}
use Rattle.std.specs.Prelude.{if◌then◌else◌}
use Rattle.std.specs.declared.option.Option.{Option}
use Rattle.std.specs.declared.alloc.Global.{Global}
use Rattle.plc_base.specs.Streams.{SourceState, SinkState}
use Rattle.script_lines.specs.declared.machine.Exit.{Exit}
use Rattle.script_lines.specs.declared.machine.Exit.TheVariants as exits
use Rattle.script_lines.specs.Clauses.{Drives}
use Rattle.script_lines.specs.Outcomes.{Outcome}
use Rattle.script_runs.specs.TakenLines.{first_bad}
use Rattle.line_view.specs.declared.run_machine.Finding.{Finding}
use Rattle.line_view.specs.RunMachines.{found_status}
use Rattle.line_view.specs.declared.tool.Command.{Command}
use Rattle.line_view.specs.declared.tool.Command.TheVariants.{Capture, Check, Explain, Page, Tables}
use Rattle.script_runs.specs.declared.status.Status.{Status}
use Rattle.script_runs.specs.declared.status.Status.TheVariants as status
use Rattle.script_runs.specs.Runs.{Ran}
use Rattle.script_runs.specs.Statuses.{status_of}
use Rattle.script_runs.specs.Texts.{WritesText}
use Rattle.line_view.specs.CheckRuns.{is_bad, outcome}
use Rattle.line_script.specs.Words.{number_within}
use Rattle.story_accounts.specs.declared.section.Chosen.{Chosen}
use Rattle.story_accounts.specs.declared.section.Chosen.TheVariants as chosens
use Rattle.line_view.specs.ExplainRuns.{explained, finding, says}
use Rattle.line_view.specs.declared.capture.Wanted.{Wanted}
use Rattle.line_view.specs.declared.capture.Wanted.TheVariants as wants
use Rattle.line_view.specs.CaptureRuns.{captured, finding as capture_finding}
use Rattle.line_view.specs.declared.tables.Table.{Table}
use Rattle.line_view.specs.declared.tables.Table.TheVariants as tables
use Rattle.line_view.specs.TableRuns.{tabled, finding as table_finding, says as table_says}
use Rattle.run_pages.specs.Pages.{IsPage}
use Rattle.line_view.specs.PageRuns.{paged, finding as page_finding}
use Rattle.line_view.specs.Checked.{faults, first_of, faults_text, closing}

-- the table that a word asks for, if it does
abbrev pub table_word : List ℕ → Option Command
table_word word =
    if bytes_eq word (codes "meters") then Some (Tables tables.Meters)
    else (if bytes_eq word (codes "links") then Some (Tables tables.Links) else None)

-- what Wireshark reads, or a table, if a word asks for that
abbrev pub wanted_word : List ℕ → Option Command
wanted_word word =
    if bytes_eq word (codes "capture") then Some (Capture (wants.Frames false))
    else (if bytes_eq word (codes "keys") then Some (Capture wants.Keys)
    else (if bytes_eq word (codes "addresses") then Some (Capture wants.Addresses) else table_word word))

-- the command that words name, if they are of a form
abbrev pub one_word : List ℕ → Option Command
one_word word =
    if bytes_eq word (codes "check") then Some (Check false)
    else (if bytes_eq word (codes "explain") then Some (Explain chosens.Failed)
    else (if bytes_eq word (codes "page") then Some Page else wanted_word word))

abbrev pub check_with : List ℕ → Option Command
check_with option = if bytes_eq option (codes "--json") then Some (Check true) else None

abbrev pub explain_with : List ℕ → Option Command
explain_with option = if bytes_eq option (codes "--all") then Some (Explain chosens.All) else None

abbrev pub capture_with : List ℕ → Option Command
capture_with option = if bytes_eq option (codes "--heard") then Some (Capture (wants.Frames true)) else None

abbrev pub two_words : List ℕ → List ℕ → Option Command
two_words word option =
    if bytes_eq word (codes "check") then check_with option
    else (if bytes_eq word (codes "explain") then explain_with option
    else (if bytes_eq word (codes "capture") then capture_with option else None))

-- the stories that a word and a number choose
abbrev pub chosen_by : List ℕ → Option ℕ → Option Command
chosen_by kind None = None
chosen_by kind (Some number) =
    if bytes_eq kind (codes "send") then Some (Explain (chosens.Send number))
    else (if bytes_eq kind (codes "node") then Some (Explain (chosens.Node number)) else None)

abbrev pub three_words : List ℕ → List ℕ → List ℕ → Option Command
three_words word kind number = if bytes_eq word (codes "explain") then chosen_by kind (number_within 0 4294967295 number) else None

abbrev pub command_of : List (String Global) → Option Command
command_of [] = None
command_of (word ∷ []) = one_word (string_bytes word)
command_of (word ∷ option ∷ []) = two_words (string_bytes word) (string_bytes option)
command_of (word ∷ kind ∷ number ∷ []) = three_words (string_bytes word) (string_bytes kind) (string_bytes number)
command_of (word ∷ kind ∷ number ∷ other ∷ words) = None

abbrev pub usage_text : List ℕ
usage_text = codes "usage: line_view check [--json] | explain [--all | send K | node N] | page | meters | links | capture [--heard] | keys | addresses\n"

-- a status says of a script whether a line of it is bad
abbrev pub Names : Status → Bool → Type 0
Names status.Fine bad = bad ≡ false
Names status.BadScript bad = bad ≡ true
Names status.Forged bad = bad ≡ false
Names status.ReadFault bad = Unit {0}
Names status.WriteFault bad = Unit {0}
Names status.Memory bad = Unit {0}
Names status.Usage bad = Unit {0}
Names status.LimitReached bad = ⊥

-- What an account of a run did, and what its status says.
pub record Accounts {M : Type 0} (finding : M → Finding) (outcome : List ℕ → Bool → Outcome M) (source0 source1 : SourceState)
    (sink0 sink1 : SinkState) (result : Status) : Type 0 where
  pub exit : Exit
  pub last : M
  pub drives : Drives outcome last source0 source1 sink0 sink1 exit
  -- of a run that came to its end the status says what was found
  pub status : result ≡ status_of exit true (found_status (finding last))
  -- the status says whether a line of the script is bad
  pub named : Names result (is_some (first_bad drives.b source1.ended))

-- nothing was written
abbrev pub WritesNothing : Status → SinkState → SinkState → Status → Type 0
WritesNothing why sink0 sink1 result = (result ≡ why) × (sink1 ≡ sink0)

-- what was written of a run that came to its end: a text of which something is known, or nothing where there was no memory for it
abbrev pub WritesEnd : {M : Type 0} → (M → Finding) → (M → List ℕ → Type 0) → M → SinkState → SinkState → Status → Type 0
WritesEnd finding says last sink0 sink1 result =
    ((text : List ℕ) × says last text × WritesText text (found_status (finding last)) sink0 sink1 result)
    ⊎ WritesNothing status.Memory sink0 sink1 result

-- What was written once a script was read, by how that ended: the last text of its run, or what was held for a bad line. Nothing where the source failed,
-- or memory ran out.
abbrev pub WritesBy : {M : Type 0} → (M → Finding) → (M → List ℕ → Type 0) → M → List ℕ → Exit → SinkState → SinkState → Status → Type 0
WritesBy finding says last held exits.Fine sink0 sink1 result = WritesEnd finding says last sink0 sink1 result
WritesBy finding says last held exits.BadScript sink0 sink1 result = WritesText held status.BadScript sink0 sink1 result
WritesBy finding says last held exits.ReadFault sink0 sink1 result = WritesNothing status.ReadFault sink0 sink1 result
WritesBy finding says last held exits.Memory sink0 sink1 result = WritesNothing status.Memory sink0 sink1 result
WritesBy finding says last held exits.WriteFault sink0 sink1 result = WritesNothing status.Memory sink0 sink1 result

-- What an account of a run did whose text is written once its script was read, and what its status says. What a bad line writes is held until then.
pub record Tells {M : Type 0} (finding : M → Finding) (says : M → List ℕ → Type 0) (outcome : List ℕ → Bool → Outcome M)
    (source0 source1 : SourceState) (sink0 sink1 : SinkState) (result : Status) : Type 0 where
  pub exit : Exit
  pub last : M
  -- what is held, before and after
  pub held0 : SinkState
  pub held1 : SinkState
  pub drives : Drives outcome last source0 source1 held0 held1 exit
  pub writes : WritesBy finding says last drives.w exit sink0 sink1 result
  -- the status says whether a line of the script is bad
  pub named : Names result (is_some (first_bad drives.b source1.ended))

-- what was said of the chosen stories
abbrev pub Explains : Chosen → SourceState → SourceState → SinkState → SinkState → Status → Type 0
Explains chosen source0 source1 sink0 sink1 result = Tells finding says (explained chosen) source0 source1 sink0 sink1 result

-- what was said in a table
abbrev pub Tabulates : Table → SourceState → SourceState → SinkState → SinkState → Status → Type 0
Tabulates table source0 source1 sink0 sink1 result =
    Tells table_finding table_says (tabled table) source0 source1 sink0 sink1 result

-- what was written for Wireshark
abbrev pub Captures : Wanted → SourceState → SourceState → SinkState → SinkState → Status → Type 0
Captures wanted source0 source1 sink0 sink1 result = Accounts capture_finding (captured wanted) source0 source1 sink0 sink1 result

-- all was written
abbrev pub IsWhole : Status → Type 0
IsWhole status.Fine = Unit {0}
IsWhole status.BadScript = Unit {0}
IsWhole status.Forged = Unit {0}
IsWhole status.Usage = ⊥
IsWhole status.Memory = ⊥
IsWhole status.ReadFault = ⊥
IsWhole status.WriteFault = ⊥
IsWhole status.LimitReached = ⊥

-- What was shown of a run: its page, of which a part is left out only where something failed.
pub record Pages (source0 source1 : SourceState) (sink0 sink1 : SinkState) (result : Status) : Type 0 where
  pub account : Accounts page_finding paged source0 source1 sink0 sink1 result
  -- what is written whole is a page that closes all that it opens, whatever the script holds
  pub well_formed : IsWhole result → IsPage account.drives.w

-- What a check did, and what holds of it.
pub record Checks (json : Bool) (source0 source1 : SourceState) (sink0 sink1 : SinkState) (result : Status) : Type 0 where
  pub ran : Ran is_bad status.BadScript (outcome json) source0 source1 sink0 sink1 result
  -- the first fault is the line, and the reason, at which the run of the script ends; there is none exactly where no line of it is bad
  pub finds : (e : Bool) → first_of (faults json ran.drives.b e) ≡ first_bad ran.drives.b e
  -- what is written is the text of each fault, and then the last lines
  pub text : (e : Bool) → (outcome json ran.drives.b e).text ≡ faults_text json 0 (faults json ran.drives.b e) ++ closing json ran.drives.b e
  -- the status says whether a line is bad
  pub named : Names result (is_some (first_bad ran.drives.b source1.ended))
