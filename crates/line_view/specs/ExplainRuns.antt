-- What `explain` writes of a script.
use Rattle.std.specs.Prelude.{◌≡◌, ℕ, ◌-◌, ◌==◌, ◌&&◌, Bool, true, nat_le, nat_lt, List, [], ◌∷◌, ◌++◌, codes, length, Option, None, Some, if◌then◌else◌}
use Rattle.script_lines.specs.Outcomes.{Outcome, Skips}
use Rattle.sentence_parts.specs.declared.part.Part.TheVariants.{Words, Number, Count}
use Rattle.sentence_parts.specs.Parts.{parts_text}
use Rattle.line_record.specs.declared.ends.Ends.{Ends}
use Rattle.line_record.specs.Verdicts.{ends_of}
use Rattle.line_record.specs.Stories.{Stories, stories_of}
use Rattle.line_rules.specs.Worlds.{World}
use Rattle.line_rules.specs.Runs.{Entry}
use Rattle.story_accounts.specs.declared.section.Chosen.{Chosen}
use Rattle.story_accounts.specs.declared.section.Chosen.TheVariants as chosens
use Rattle.story_accounts.specs.Accounts.{RunAccount}
use Rattle.story_accounts.specs.Indexes.{Index, index_of}
use Rattle.story_accounts.specs.Sections.{account_text}
use Rattle.line_view.specs.declared.bad_line.BadLine.{BadLine}
use Rattle.line_view.specs.BadLines.{bad_line_text}
use Rattle.line_view.specs.Recordings.{Recording, no_recording, recording_after}
use Rattle.line_view.specs.declared.run_machine.Finding.{Finding}
use Rattle.line_view.specs.declared.run_machine.Finding.TheVariants as findings
use Rattle.line_view.specs.RunMachines.{RunRules, forged_if, outcome_by}
use Rattle.line_readings.specs.Readings.{IsHeadline}
use Rattle.line_view.specs.TableRuns.{stories_in}
use Rattle.line_view.specs.Sentences.{Sentences, no_sentences, with_sentence}

pub record ExplainRun : Type 0 where
  pub chosen : Chosen
  pub run : Recording
  pub worded : Sentences

abbrev pub nothing_explained : Chosen → ExplainRun
nothing_explained chosen = record { chosen = chosen; run = no_recording; worded = no_sentences }

-- # The text

-- what was counted
unfoldable pub counts_text : World → List ℕ
counts_text w =
    parts_text
    (Words (codes "script: ") ∷ Count w.events (codes "event") ∷ Words (codes ", ") ∷ Count (length w.flights) (codes "flight") ∷ Words (codes ", ")
    ∷ Count w.sends (codes "send") ∷ Words (codes ", ") ∷ Number w.ups ∷ Words (codes " handed up, ") ∷ Number w.forged ∷ Words (codes " forged\n") ∷ [])

-- a run with its stories, the sentences of its events, the ends of its stories and what is looked up of it
abbrev pub run_account : Recording → Sentences → Stories → List Ends → Index → RunAccount
run_account r worded s ends index =
    record {
      events = r.events;
      flights = r.flights;
      more = r.more;
      counters = r.counters;
      marks = worded.marks;
      stories = s.stories;
      owners = s.owners;
      courses = s.courses;
      ends = ends;
      index = index;
      homes = s.homes;
      euis = r.euis;
      sentences = worded.sentences;
    }

-- what became of the chosen stories of a run
abbrev pub account_over : Chosen → Recording → Sentences → Stories → List Ends → Index → List ℕ
account_over chosen r worded s ends index = account_text (run_account r worded s ends index) chosen

abbrev pub account_with : Chosen → Recording → Sentences → Stories → List ℕ
account_with chosen r worded s =
    account_over chosen r worded s (ends_of (length s.stories) s.courses)
    (index_of (length s.stories) (length r.euis) r.events r.flights s.courses s.sent s.owners)

abbrev pub account_of : Chosen → Recording → Sentences → List ℕ
account_of chosen r worded = account_with chosen r worded (stories_of r.events r.flights)

-- whether a run has what is chosen: sends have numbers from 1, nodes from 0
unfoldable pub is_there : Chosen → Recording → Bool
is_there (chosens.Send send) r = nat_le 1 send && nat_le send r.world.sends
is_there (chosens.Node node) r = nat_lt node (length r.euis)
is_there _ r = true

abbrev pub range_text : List ℕ → ℕ → Option ℕ → List ℕ
range_text name first None = parts_text (Words (codes "the run has no ") ∷ Words name ∷ Words (codes "s.\n") ∷ [])
range_text name first (Some last) =
    parts_text (Words name ∷ Words (codes "s are ") ∷ Number first ∷ Words (codes " to ") ∷ Number last ∷ Words (codes ".\n") ∷ [])

abbrev pub no_text : List ℕ → ℕ → List ℕ
no_text name asked = parts_text (Words (codes "\nThere is no ") ∷ Words name ∷ Words (codes " ") ∷ Number asked ∷ Words (codes ": ") ∷ [])

-- that a run has nothing of this name and number, and what it has of the name
unfoldable pub lacking_text : List ℕ → ℕ → ℕ → Option ℕ → List ℕ
lacking_text name asked first last = no_text name asked ++ range_text name first last

-- the number of the last of this many
abbrev pub last_send : ℕ → Option ℕ
last_send sends = if sends == 0 then None else Some sends

abbrev pub last_node : ℕ → Option ℕ
last_node nodes = if nodes == 0 then None else Some (nodes - 1)

abbrev pub not_there_text : Chosen → Recording → List ℕ
not_there_text (chosens.Send send) r = lacking_text (codes "send") send 1 (last_send r.world.sends)
not_there_text (chosens.Node node) r = lacking_text (codes "node") node 0 (last_node (length r.euis))
not_there_text _ r = []

-- what became of the chosen stories, or that the run does not have what is chosen
abbrev pub answer_of : Chosen → Recording → Sentences → List ℕ
answer_of chosen r worded = if is_there chosen r then account_of chosen r worded else not_there_text chosen r

-- what was counted, the bad line, and the answer
unfoldable pub explain_text : ExplainRun → Option BadLine → List ℕ
explain_text m bad = counts_text m.run.world ++ (bad_line_text bad ++ answer_of m.chosen m.run m.worded)

-- whether all readings of a run came, where an account is of the whole run
abbrev pub IsFirstLine : Chosen → Recording → List ℕ → Type 0
IsFirstLine chosens.Failed r line = IsHeadline (stories_in r) line
IsFirstLine chosens.All r line = IsHeadline (stories_in r) line
IsFirstLine (chosens.Send send) r line = line ≡ []
IsFirstLine (chosens.Node node) r line = line ≡ []

-- what is known of the text at the end: after the first line it is that of the run
pub record IsExplained (m : ExplainRun) (text : List ℕ) : Type 0 where
  pub line : List ℕ
  pub first : IsFirstLine m.chosen m.run line
  pub whole : text ≡ line ++ explain_text m None

abbrev pub says : ExplainRun → List ℕ → Type 0
says m text = IsExplained m text

-- where the run ends at a bad line there is no first line
abbrev pub at_bad_line : ExplainRun → Option BadLine → List ℕ
at_bad_line m None = []
at_bad_line m (Some bad) = explain_text m (Some bad)

-- # Lines

-- after an entry of the script, which stands in a line of this number
abbrev pub after_entry : ℕ → Entry → ExplainRun → ExplainRun
after_entry row entry m =
    record m { run = recording_after row entry m.run; worded = with_sentence entry.event (recording_after row entry m.run) m.worded }

-- that the run does not have what is chosen, or whether an event was forged
abbrev pub finding : ExplainRun → Finding
finding m = if is_there m.chosen m.run then forged_if (nat_lt 0 m.run.world.forged) else findings.NotThere

-- a line without an event says nothing
abbrev pub rules : RunRules ExplainRun
rules =
    record {
      world = λ m. m.run.world;
      after_entry = after_entry;
      quiet_turn = λ m content. Skips;
      text = at_bad_line;
      finding = finding;
    }

-- what a script does, where its input has ended or not
abbrev pub explained : Chosen → List ℕ → Bool → Outcome ExplainRun
explained chosen octets ended = outcome_by rules (nothing_explained chosen) octets ended
