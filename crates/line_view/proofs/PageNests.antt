-- What a page writes closes all that it opens, where it is written whole.
use Rattle.std.proofs.Common.{◌≡◌, ℕ, Bool, true, false, List, [], ◌∷◌, ◌++◌, length, Option, None, Some, refl, sym, subst}
use Rattle.plc_base.specs.Streams.{SourceState, SinkState}
use Rattle.script_lines.specs.declared.machine.Exit.{Exit}
use Rattle.script_lines.specs.declared.machine.Exit.TheVariants as exits
use Rattle.script_lines.specs.declared.window.TheConstants.{WINDOW}
use Rattle.script_lines.specs.Lines.{Content, Line, lines}
use Rattle.script_lines.specs.Outcomes.{Turn, Skips, Takes, Stops, Outcome, StopsShortOf, outcome_turn, outcome_from}
use Rattle.script_lines.specs.Clauses.{Comes}
use Rattle.script_runs.specs.TakenLines.{Taking, Skipped, Taken, Refused, taking}
use Rattle.line_record.specs.Stories.{Stories, stories_of}
use Rattle.line_record.specs.Verdicts.{ends_of}
use Rattle.run_pages.specs.Pages.{IsPage, Sheet}
use Rattle.run_pages.proofs.PageNests.{page_nests}
use Rattle.story_accounts.specs.Indexes.{index_of}
use Rattle.line_view.specs.BadLines.{bad_words}
use Rattle.line_view.specs.declared.bad_line.BadLine.{BadLine}
use Rattle.script_runs.specs.declared.status.Status.{Status}
use Rattle.script_runs.specs.declared.status.Status.TheVariants as status
use Rattle.script_runs.specs.Statuses.{status_of}
use Rattle.line_view.specs.PageRuns.{PageRun, chart_run, finding, nothing_paged, page_text, paged, rules, sheet_with}
use Rattle.line_view.specs.RunMachines.{end_of, found_status, turn_by, turn_of}
use Rattle.line_view.specs.Tool.{Accounts, IsWhole}

-- # A page

pages_are : (p : PageRun) (bad : Option BadLine) → IsPage (page_text p bad)
unfolding page_text
pages_are p bad =
    let s : Stories = stories_of p.run.events p.run.flights in
    let sheet : Sheet = sheet_with p s (bad_words bad) (ends_of (length s.stories) s.courses)
    (index_of (length s.stories) (length p.run.euis) p.run.events p.run.flights s.courses s.sent s.owners) in
    page_nests sheet (chart_run p s)

-- # The outcome of a script

-- what a turn writes before the end, nothing or a whole page
abbrev Writes : Turn PageRun → Type 0
Writes Skips = Unit {0}
Writes (Takes next text) = text ≡ []
Writes (Stops text) = IsPage text

writes_by : (p : PageRun) (row : ℕ) (c : Content) (t : Taking) → Writes (turn_by rules p row c t)
writes_by p row c Skipped = refl
writes_by p row c (Taken entry) = refl
writes_by p row c (Refused reason) = pages_are p (Some (record { row = row; reason = reason }))

fine_by : (p : PageRun) (line : Line) (u : Turn PageRun) (rest : PageRun → Outcome PageRun) → Writes u → ((next : PageRun) → IsPage (rest next).text)
    → IsPage (outcome_turn p line u rest).text
fine_by p line Skips rest w all = all p
fine_by p line (Takes next text) rest w all = subst (λ (x : List ℕ). IsPage (x ++ (rest next).text)) (sym w) (all next)
fine_by p line (Stops text) rest w all = w

-- to the end of the input
fine_from : (ls : List Line) (p : PageRun) → IsPage (outcome_from (turn_of rules) (end_of rules) p ls true).text
unfolding outcome_from
fine_from [] p = pages_are p None
fine_from (line ∷ ls) p =
    fine_by p line (turn_of rules p line.number line.content) (λ next. outcome_from (turn_of rules) (end_of rules) next ls true)
    (writes_by p line.number line.content (taking p.run.world line.content)) (fine_from ls)

bad_by : (ahead : ℕ) (p : PageRun) (line : Line) (u : Turn PageRun) (rest : PageRun → Outcome PageRun) → Writes u
    → ((next : PageRun) → StopsShortOf ahead (rest next).ending → IsPage (rest next).text) → StopsShortOf ahead (outcome_turn p line u rest).ending
    → IsPage (outcome_turn p line u rest).text
bad_by ahead p line Skips rest w all stops = all p stops
bad_by ahead p line (Takes next text) rest w all stops = subst (λ (x : List ℕ). IsPage (x ++ (rest next).text)) (sym w) (all next stops)
bad_by ahead p line (Stops text) rest w all stops = w

-- to a bad line
bad_from : (ahead : ℕ) (ls : List Line) (p : PageRun) (ended : Bool) → StopsShortOf ahead (outcome_from (turn_of rules) (end_of rules) p ls ended).ending
    → IsPage (outcome_from (turn_of rules) (end_of rules) p ls ended).text
unfolding outcome_from
bad_from ahead [] p true stops = absurd stops
bad_from ahead [] p false stops = absurd stops
bad_from ahead (line ∷ ls) p ended stops =
    bad_by ahead p line (turn_of rules p line.number line.content) (λ next. outcome_from (turn_of rules) (end_of rules) next ls ended)
    (writes_by p line.number line.content (taking p.run.world line.content)) (λ next. bad_from ahead ls next ended) stops

-- # What was written

well_by : (source0 source1 : SourceState) (sink0 sink1 : SinkState) (last : PageRun) (b w : List ℕ) (exit : Exit) (found : Status)
    → Comes paged last source0 source1 sink0 sink1 b w exit → IsWhole (status_of exit true found) → IsPage w
well_by source0 source1 sink0 sink1 last b w exits.Fine found comes whole = subst IsPage (sym comes.2) (fine_from (lines b true) nothing_paged)
well_by source0 source1 sink0 sink1 last b w exits.BadScript found comes whole =
    subst IsPage (sym comes.1) (bad_from WINDOW (lines b source1.ended) nothing_paged source1.ended comes.0)
well_by source0 source1 sink0 sink1 last b w exits.ReadFault found comes whole = absurd whole
well_by source0 source1 sink0 sink1 last b w exits.WriteFault found comes whole = absurd whole
well_by source0 source1 sink0 sink1 last b w exits.Memory found comes whole = absurd whole

-- what is written whole is a page
pub is_page : {source0 source1 : SourceState} {sink0 sink1 : SinkState} (result : Status)
    (account : Accounts finding paged source0 source1 sink0 sink1 result) → IsWhole result → IsPage account.drives.w
is_page {source0} {source1} {sink0} {sink1} result account whole =
    let a = account in
    well_by source0 source1 sink0 sink1 a.last a.drives.b a.drives.w a.exit (found_status (finding a.last)) a.drives.comes (subst IsWhole a.status whole)
