-- What `page` writes of a script.
use Rattle.std.specs.Prelude.{ℕ, ◌-◌, zero, suc, min, Bool, true, false, nat_lt, List, [], ◌∷◌, ◌++◌, length, Option, None, Some, if◌then◌else◌}
use Rattle.script_lines.specs.Lines.{Content, Text, Long, TooMuch}
use Rattle.script_lines.specs.Outcomes.{Outcome, Takes}
use Rattle.node_rules.specs.Memory.{Node}
use Rattle.node_rules.specs.ShownNodes.{shown_of}
use Rattle.line_record.specs.Pasts.{NodePast, looked as past_looked, no_past}
use Rattle.line_record.specs.declared.act.Act.{Act}
use Rattle.line_record.specs.declared.act.Act.TheVariants as acts
use Rattle.line_record.specs.declared.recorded.RecordedEvent.{RecordedEvent}
use Rattle.line_record.specs.Kinds.{actor_of, is_for_another, makes_node, person_of}
use Rattle.line_record.specs.RunRecords.{numbered}
use Rattle.line_record.specs.Verdicts.{ends_of}
use Rattle.line_record.specs.declared.ends.Ends.{Ends}
use Rattle.story_accounts.specs.Indexes.{Index, index_of}
use Rattle.line_record.specs.Stories.{Stories, stories_of}
use Rattle.line_events.specs.declared.event.Event.{Event}
use Rattle.line_rules.specs.Worlds.{node_at}
use Rattle.line_rules.specs.Runs.{Entry}
use Rattle.run_charts.specs.Runs.{Run}
use Rattle.run_pages.specs.Pages.{Sheet, page}
use Rattle.run_pages.specs.Remarks.{Remarked, no_remarks, with_event, with_line}
use Rattle.line_view.specs.BadLines.{bad_words}
use Rattle.line_view.specs.declared.bad_line.BadLine.{BadLine}
use Rattle.line_view.specs.ExplainRuns.{run_account}
use Rattle.line_view.specs.Recordings.{Recording, no_recording, recording_after}
use Rattle.line_view.specs.declared.run_machine.Finding.{Finding}
use Rattle.line_view.specs.RunMachines.{RunRules, forged_if, outcome_by}
use Rattle.line_view.specs.Sentences.{Sentences, no_sentences, with_sentence}

pub record PageRun : Type 0 where
  pub run : Recording
  pub worded : Sentences
  pub remarks : Remarked
  -- what is known of each node
  pub pasts : List NodePast

abbrev pub nothing_paged : PageRun
nothing_paged = record { run = no_recording; worded = no_sentences; remarks = no_remarks; pasts = [] }

-- # Nodes

abbrev pub with_look : Option Node → ℕ → ℕ → PageRun → PageRun
with_look None event node p = p
with_look (Some state) event node p = record p { pasts = past_looked node event (shown_of state) p.pasts }

-- with what a node shows after an event
unfoldable pub looked : ℕ → ℕ → PageRun → PageRun
looked event node p = with_look (node_at p.run.world node) event node p

-- with what this many nodes show
abbrev pub looked_at_all : ℕ → ℕ → PageRun → PageRun
looked_at_all event zero p = p
looked_at_all event (suc node) p = looked event node (looked_at_all event node p)

abbrev pub with_node : PageRun → PageRun
with_node p = record p { pasts = p.pasts ++ (no_past ∷ []) }

abbrev pub node_count : PageRun → ℕ
node_count p = min (length p.run.euis) 1000

-- the node that an event may change beside the one that it is about
abbrev pub other_of : Act → ℕ
other_of (acts.Near a b) = b
other_of act = person_of act

-- whether time passes, for all nodes
abbrev pub is_tick : Act → Bool
is_tick (acts.Tick seconds) = true
is_tick _ = false

-- whether a flight came, which changes no other node
abbrev pub is_delivery : Act → Bool
is_delivery (acts.Deliver flight node cost) = true
is_delivery _ = false

-- with what the nodes show that an event is about
abbrev pub looked_at_both : Act → ℕ → PageRun → PageRun
looked_at_both act event p =
    if is_delivery act then looked event (actor_of act) p else looked event (other_of act) (looked event (actor_of act) p)

abbrev pub looked_by : Act → ℕ → PageRun → PageRun
looked_by act event p = if is_tick act then looked_at_all event (node_count p) p else looked_at_both act event p

-- with what the nodes show that an event of this kind may change
abbrev pub looked_around : ℕ → Act → PageRun → PageRun
looked_around event act p = if makes_node act then looked event (node_count p - 1) (with_node p) else looked_by act event p

-- a frame that was for another node changed none
abbrev pub looked_after : ℕ → RecordedEvent → PageRun → PageRun
looked_after event e p = if is_for_another e.answer then p else looked_around event e.act p

abbrev pub kept_by : Option RecordedEvent → PageRun → PageRun
kept_by None p = p
kept_by (Some e) p = looked_after (length p.run.events) e p

-- with what is kept of the event that the run took last
unfoldable pub kept : PageRun → PageRun
kept p = kept_by (numbered p.run.events (length p.run.events)) (record p { remarks = with_event p.remarks })

-- with the sentence of an event that the run took, and what else there is of it
abbrev pub worded_and_kept : Event → PageRun → PageRun
worded_and_kept event p = kept (record p { worded = with_sentence event p.run p.worded })

-- # The page

abbrev pub sheet_with : PageRun → Stories → List ℕ → List Ends → Index → Sheet
sheet_with p s bad ends index =
    record {
      account = run_account p.run p.worded s ends index;
      events = p.run.world.events;
      flights = length p.run.world.flights;
      forged = p.run.world.forged;
      title = p.remarks.title;
      bad = bad;
    }

abbrev pub chart_run : PageRun → Stories → Run
chart_run p s =
    record {
      events = p.run.events;
      flights = p.run.flights;
      courses = s.courses;
      sentences = p.worded.sentences;
      notes = p.remarks.notes;
      pasts = p.pasts;
    }

abbrev pub page_over : PageRun → Stories → List ℕ → List Ends → Index → List ℕ
page_over p s bad ends index = page (sheet_with p s bad ends index) (chart_run p s)

abbrev pub page_with : PageRun → Stories → List ℕ → List ℕ
page_with p s bad =
    page_over p s bad (ends_of (length s.stories) s.courses)
    (index_of (length s.stories) (length p.run.euis) p.run.events p.run.flights s.courses s.sent s.owners)

-- the page of a run, with the bad line at which it ends, if there is one
unfoldable pub page_text : PageRun → Option BadLine → List ℕ
page_text p bad = page_with p (stories_of p.run.events p.run.flights) (bad_words bad)

-- # Lines

-- after an entry of the script, which stands in a line of this number
abbrev pub after_entry : ℕ → Entry → PageRun → PageRun
after_entry row entry p = worded_and_kept entry.event (record p { run = recording_after row entry p.run })

abbrev pub with_remark : List ℕ → PageRun → PageRun
with_remark line p = record p { remarks = with_line line p.remarks }

-- what a line without an event says
abbrev pub remarked : Content → PageRun → PageRun
remarked (Text line) p = with_remark line p
remarked Long p = p
remarked TooMuch p = p

-- whether an event was forged
abbrev pub finding : PageRun → Finding
finding p = forged_if (nat_lt 0 p.run.world.forged)

-- what a line without an event says is kept
abbrev pub rules : RunRules PageRun
rules =
    record {
      world = λ p. p.run.world;
      after_entry = after_entry;
      quiet_turn = λ p content. Takes (remarked content p) [];
      text = page_text;
      finding = finding;
    }

-- what a script does, where its input has ended or not
abbrev pub paged : List ℕ → Bool → Outcome PageRun
paged octets ended = outcome_by rules nothing_paged octets ended
