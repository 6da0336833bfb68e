-- The laws of reports.
use Rattle.std.specs.Prelude.{◌≡◌, ℕ, false, All, List, Option, Some, None}
use Rattle.std.specs.List.{AllZip}
use Rattle.node_rules.specs.declared.shown.Shown.{Shown}
use Rattle.line_events.specs.declared.event.Event.{Event}
use Rattle.line_events.specs.declared.happenings.Happenings.{Happenings}
use Rattle.line_events.specs.Events.{IsEvent, IsNumber}
use Rattle.line_script.specs.declared.report.Reason.{Reason}
use Rattle.line_script.specs.declared.report.Totals.{Totals}
use Rattle.line_script.specs.NodeTexts.{node_text}
use Rattle.line_script.specs.Texts.{happened_text, fly_text, bad_text, end_text}
use Rattle.text_laws.specs.ReportLines.{ReportLine, Fly, Bad, AreReportLines, IsReportLine, line_text, report_text}
use Rattle.text_laws.specs.Reports.{AreHappenings, AreTotals, IsShown, ShownNode, end_line, lines_of, node_lines, shown_by}
use Rattle.text_laws.specs.Runs.{Ending, ReportedEvent, IsEnding, IsReportedEvent, run_text}

-- two lines of one text are one line
abbrev pub OneLineForAText : Type 0
OneLineForAText = (l m : ReportLine) → IsReportLine l → IsReportLine m → line_text l ≡ line_text m → l ≡ m

-- two reports of one text have the same lines
abbrev pub OneReportForAText : Type 0
OneReportForAText = (ls ms : List ReportLine) → AreReportLines ls → AreReportLines ms → report_text ls ≡ report_text ms → ls ≡ ms

-- the texts that a report is made of are those of lines
pub record ReportsAreLines : Type 0 where
  pub happened : (number : ℕ) (event : Event) (happenings : Happenings) → happened_text number event happenings ≡ report_text (lines_of number event happenings)
  pub node : (node : ℕ) (shown : Shown) → node_text node shown ≡ report_text (node_lines node shown)
  pub fly : (flight node : ℕ) (octets : List ℕ) → fly_text flight node octets ≡ line_text (Fly flight node octets)
  pub bad : (number : ℕ) (reason : Reason) → bad_text number reason ≡ line_text (Bad number reason)
  pub last : (totals : Totals) → end_text totals ≡ line_text (end_line totals)

-- the lines of what is in its ranges are in theirs
pub record LinesAreInRange : Type 0 where
  pub happened : (number : ℕ) (event : Event) (happenings : Happenings) → IsNumber number → IsEvent event → AreHappenings happenings
      → AreReportLines (lines_of number event happenings)
  pub node : (node : ℕ) (shown : Shown) → IsNumber node → IsShown shown → AreReportLines (node_lines node shown)
  pub last : (totals : Totals) → AreTotals totals → IsReportLine (end_line totals)

-- # One outcome for a report

-- two events show one node, which is halted, or of which all that is shown is the same
pub record IsSameNode (s t : ShownNode) : Type 0 where
  pub node : s.node ≡ t.node
  pub halted : s.shown.halted ≡ t.shown.halted
  pub running : s.shown.halted ≡ false → s.shown ≡ t.shown

-- two events show the same
abbrev pub IsSameShown : Option ShownNode → Option ShownNode → Type 0
IsSameShown None None = Unit {0}
IsSameShown None (Some t) = ⊥
IsSameShown (Some s) None = ⊥
IsSameShown (Some s) (Some t) = IsSameNode s t

-- what is reported of two events is the same
pub record IsSameOutcome (d e : Event) (h k : Happenings) : Type 0 where
  pub answer : h.answer ≡ k.answer
  pub forged : h.forged ≡ k.forged
  pub up : h.up ≡ k.up
  pub bup : h.bup ≡ k.bup
  pub agent : h.agent ≡ k.agent
  pub path : h.path ≡ k.path
  pub grant : h.grant ≡ k.grant
  pub took : h.took ≡ k.took
  pub done : h.done ≡ k.done
  pub shown : IsSameShown (shown_by d h.shown) (shown_by e k.shown)

-- events that are reported by one text have one number and one outcome
abbrev pub OneOutcomeForAReport : Type 0
OneOutcomeForAReport =
    (d e : Event) (m n : ℕ) (h k : Happenings) → IsEvent d → IsEvent e → IsNumber m → IsNumber n → AreHappenings h → AreHappenings k
    → happened_text m d h ≡ happened_text n e k → (m ≡ n) × IsSameOutcome d e h k

-- # One run for a report

-- what a report says of an event with its flights is the same
pub record IsSameReported (x y : ReportedEvent) : Type 0 where
  pub number : x.number ≡ y.number
  pub outcome : IsSameOutcome x.event y.event x.happenings y.happenings
  pub flights : x.flights ≡ y.flights

-- there are as many events, and of each the same is reported
abbrev pub AreSameReported : List ReportedEvent → List ReportedEvent → Type 0
AreSameReported xs ys = AllZip IsSameReported xs ys

-- runs that are reported by one text took as many events, each with one outcome and with the same flights, and ended in the same way
abbrev pub OneRunForAReport : Type 0
OneRunForAReport =
    (xs ys : List ReportedEvent) (e f : Ending) → All IsReportedEvent xs → All IsReportedEvent ys → IsEnding e → IsEnding f → run_text xs e ≡ run_text ys f
    → AreSameReported xs ys × (e ≡ f)
