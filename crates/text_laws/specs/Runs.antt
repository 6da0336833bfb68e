-- The report of a run: its events with their flights, and how it ends.
use Rattle.std.specs.Prelude.{ℕ, All, List, [], ◌∷◌, ◌++◌}
use Rattle.plc_base.specs.Fields.{AreOctets}
use Rattle.line_events.specs.declared.event.Event.{Event}
use Rattle.line_events.specs.declared.happenings.Happenings.{Happenings}
use Rattle.line_events.specs.Events.{IsEvent, IsNumber}
use Rattle.line_script.specs.declared.report.Reason.{Reason}
use Rattle.line_script.specs.declared.report.Totals.{Totals}
use Rattle.line_script.specs.Texts.{happened_text, fly_text, bad_text, end_text}
use Rattle.text_laws.specs.Reports.{AreHappenings, AreTotals}

-- A frame that flew: its number, the node that sent it, and its octets.
pub record Flown : Type 0 where
  pub flight : ℕ
  pub node : ℕ
  pub octets : List ℕ

-- An event that was taken, with its number, what happened, and the flights that are reported: none in a quiet report.
pub record ReportedEvent : Type 0 where
  pub number : ℕ
  pub event : Event
  pub happenings : Happenings
  pub flights : List Flown

-- How a report ends: with the totals of the run, with a bad line, or without a last line, where it breaks off.
pub data Ending : Type 0 where
  Whole : (totals : Totals) → Ending
  Stopped : (number : ℕ) → (reason : Reason) → Ending
  BrokenOff : Ending

-- # Texts

abbrev pub flights_text : List Flown → List ℕ
flights_text [] = []
flights_text (f ∷ fs) = fly_text f.flight f.node f.octets ++ flights_text fs

abbrev pub event_text : ReportedEvent → List ℕ
event_text x = happened_text x.number x.event x.happenings ++ flights_text x.flights

abbrev pub ending_text : Ending → List ℕ
ending_text (Whole totals) = end_text totals
ending_text (Stopped number reason) = bad_text number reason
ending_text BrokenOff = []

-- the report of a run
unfoldable pub run_text : List ReportedEvent → Ending → List ℕ
run_text [] ending = ending_text ending
run_text (x ∷ xs) ending = event_text x ++ run_text xs ending

-- # Ranges

abbrev pub IsFlown : Flown → Type 0
IsFlown f = IsNumber f.flight × IsNumber f.node × AreOctets f.octets

-- the fields of an event are in the ranges that their types have
pub record IsReportedEvent (x : ReportedEvent) : Type 0 where
  pub number : IsNumber x.number
  pub event : IsEvent x.event
  pub happenings : AreHappenings x.happenings
  pub flights : All IsFlown x.flights

abbrev pub IsEnding : Ending → Type 0
IsEnding (Whole totals) = AreTotals totals
IsEnding (Stopped number _) = IsNumber number
IsEnding BrokenOff = Unit {0}
