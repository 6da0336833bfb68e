-- What `meters` and `links` write of a script.
use Rattle.std.specs.Prelude.{ℕ, Bool, nat_lt, min, List, [], length}
use Rattle.script_lines.specs.Lines.{Content, Text, Long, TooMuch}
use Rattle.script_lines.specs.Outcomes.{Outcome, Takes}
use Rattle.line_record.specs.declared.story.Story.{Story}
use Rattle.line_record.specs.Stories.{stories_of}
use Rattle.line_rules.specs.Runs.{Entry}
use Rattle.line_readings.specs.Readings.{IsLinkTable, IsMeterTable}
use Rattle.line_readings.specs.Spares.{spare_in, with_spare}
use Rattle.line_view.specs.declared.tables.Table.{Table}
use Rattle.line_view.specs.declared.tables.Table.TheVariants as tables
use Rattle.line_view.specs.BadLines.{bad_line_text}
use Rattle.line_view.specs.Recordings.{Recording, no_recording, recording_after}
use Rattle.line_view.specs.declared.run_machine.Finding.{Finding}
use Rattle.line_view.specs.RunMachines.{RunRules, forged_if, outcome_by}

-- which table is written, the run, and the nodes that remarks say are nobody's meter
pub record TableRun : Type 0 where
  pub table : Table
  pub run : Recording
  pub spares : List ℕ

abbrev pub nothing_tabled : Table → TableRun
nothing_tabled table = record { table = table; run = no_recording; spares = [] }

-- # The tables

-- the stories of a run
abbrev pub stories_in : Recording → List Story
stories_in r = (stories_of r.events r.flights).stories

abbrev pub node_count : Recording → ℕ
node_count r = min (length r.euis) 1000

abbrev pub IsTableBy : Table → List ℕ → ℕ → List Story → List ℕ → Type 0
IsTableBy tables.Meters spares nodes stories text = IsMeterTable spares nodes stories text
IsTableBy tables.Links spares nodes stories text = IsLinkTable text

-- this table of a run with these spare nodes
abbrev pub IsTable : Table → List ℕ → Recording → List ℕ → Type 0
IsTable table spares r text = IsTableBy table spares (node_count r) (stories_in r) text

-- what is known of the text at the end
abbrev pub says : TableRun → List ℕ → Type 0
says m text = IsTable m.table m.spares m.run text

-- # Lines

-- after an entry of the script, which stands in a line of this number
abbrev pub after_entry : ℕ → Entry → TableRun → TableRun
after_entry row entry m = record m { run = recording_after row entry m.run }

abbrev pub with_remark : List ℕ → TableRun → TableRun
with_remark line m = record m { spares = with_spare (spare_in line) m.spares }

-- what a line without an event says
abbrev pub remarked : Content → TableRun → TableRun
remarked (Text line) m = with_remark line m
remarked Long m = m
remarked TooMuch m = m

-- whether an event was forged
abbrev pub finding : TableRun → Finding
finding m = forged_if (nat_lt 0 m.run.world.forged)

-- What a line without an event says is kept. A script with a bad line has no table.
abbrev pub rules : RunRules TableRun
rules =
    record {
      world = λ m. m.run.world;
      after_entry = after_entry;
      quiet_turn = λ m content. Takes (remarked content m) [];
      text = λ m bad. bad_line_text bad;
      finding = finding;
    }

-- what a script does, where its input has ended or not
abbrev pub tabled : Table → List ℕ → Bool → Outcome TableRun
tabled table octets ended = outcome_by rules (nothing_tabled table) octets ended
