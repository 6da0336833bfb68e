-- The status of an account of a run says whether a line is bad: the account ends where the run of the script does.
use Rattle.std.proofs.Common.{◌≡◌, ℕ, Bool, true, false, List, [], ◌∷◌, Option, sym, ap, ◌∙◌, refl, subst}
use Rattle.std.specs.Prelude.{is_some}
use Rattle.plc_base.specs.Streams.{SourceState, SinkState}
use Rattle.script_lines.specs.declared.machine.Exit.{Exit}
use Rattle.script_lines.specs.declared.machine.Exit.TheVariants as exits
use Rattle.script_lines.specs.declared.window.TheConstants.{WINDOW}
use Rattle.script_lines.specs.Lines.{Content, Line, lines}
use Rattle.script_lines.specs.Outcomes.{Turn, Skips, Takes, Stops, Bad, Ended, Outcome, outcome_turn, outcome_from, StopsShortOf}
use Rattle.script_lines.specs.Clauses.{Comes}
use Rattle.line_rules.specs.Worlds.{World}
use Rattle.script_runs.specs.TakenLines.{Taking, Skipped, Taken, Refused, taking, BadLine, bad_by, first_bad_from, first_bad}
use Rattle.script_runs.specs.declared.status.Status.{Status}
use Rattle.script_runs.specs.declared.status.Status.TheVariants as status
use Rattle.script_runs.specs.Statuses.{status_of}
use Rattle.line_view.specs.declared.run_machine.Finding.{Finding}
use Rattle.line_view.specs.declared.run_machine.Finding.TheVariants as findings
use Rattle.line_view.specs.RunMachines.{FollowsRun, Follows, RunRules, end_of, found_status, outcome_by, turn_by, turn_of}
use Rattle.line_view.specs.Tool.{Names}

-- no finding is a fault of reading or writing
pub no_read : (finding : Finding) → found_status finding ≡ status.ReadFault → ⊥
no_read findings.Nothing is = cc
no_read findings.Forged is = cc
no_read findings.NotThere is = cc

pub no_write : (finding : Finding) → found_status finding ≡ status.WriteFault → ⊥
no_write findings.Nothing is = cc
no_write findings.Forged is = cc
no_write findings.NotThere is = cc

-- a machine that records a run, and follows the script
module _ {M : Type 0} (rules : RunRules M) (first : M) (follows : FollowsRun rules first) where
  follows_by : (m : M) (row : ℕ) (content : Content) (t : Taking) → Follows rules.world m (turn_by rules m row content t) t
  follows_by m row content Skipped = follows.quiet m content
  follows_by m row content (Taken entry) = follows.entries row entry m
  follows_by m row content (Refused reason) = tt

  -- # The end of a script

  not_ended : (number : ℕ) (behind : List ℕ) (last : M) → Bad number behind ≡ Ended last → ⊥
  not_ended number behind last is = cc

  fine_by : (last m : M) (line : Line) (u : Turn M) (t : Taking) (rest : M → Outcome M) (more : World → Option BadLine) → Follows rules.world m u t
      → ((next : M) → (rest next).ending ≡ Ended last → is_some (more (rules.world next)) ≡ false)
      → (outcome_turn m line u rest).ending ≡ Ended last → is_some (bad_by (rules.world m) line.number t more) ≡ false
  fine_by last m line Skips Skipped rest more f all ends = all m ends
  fine_by last m line Skips (Taken entry) rest more f all ends = absurd f
  fine_by last m line Skips (Refused reason) rest more f all ends = absurd f
  fine_by last m line (Takes next text) Skipped rest more f all ends = sym (ap (λ (w : World). is_some (more w)) f) ∙ all next ends
  fine_by last m line (Takes next text) (Taken entry) rest more f all ends = sym (ap (λ (w : World). is_some (more w)) f) ∙ all next ends
  fine_by last m line (Takes next text) (Refused reason) rest more f all ends = absurd f
  fine_by last m line (Stops text) t rest more f all ends = absurd (not_ended line.number line.behind last ends)

  fine_from : (last : M) (ls : List Line) (m : M) → (outcome_from (turn_of rules) (end_of rules) m ls true).ending ≡ Ended last
      → is_some (first_bad_from (rules.world m) ls) ≡ false
  unfolding outcome_from
  fine_from last [] m ends = refl
  fine_from last (line ∷ ls) m ends =
      fine_by last m line (turn_of rules m line.number line.content) (taking (rules.world m) line.content)
      (λ next. outcome_from (turn_of rules) (end_of rules) next ls true)
      (λ w. first_bad_from w ls) (follows_by m line.number line.content (taking (rules.world m) line.content)) (fine_from last ls) ends

  stopped_by : (ahead : ℕ) (m : M) (line : Line) (u : Turn M) (t : Taking) (rest : M → Outcome M) (more : World → Option BadLine) → Follows rules.world m u t
      → ((next : M) → StopsShortOf ahead (rest next).ending → is_some (more (rules.world next)) ≡ true)
      → StopsShortOf ahead (outcome_turn m line u rest).ending → is_some (bad_by (rules.world m) line.number t more) ≡ true
  stopped_by ahead m line Skips Skipped rest more f all stops = all m stops
  stopped_by ahead m line Skips (Taken entry) rest more f all stops = absurd f
  stopped_by ahead m line Skips (Refused reason) rest more f all stops = absurd f
  stopped_by ahead m line (Takes next text) Skipped rest more f all stops = sym (ap (λ (w : World). is_some (more w)) f) ∙ all next stops
  stopped_by ahead m line (Takes next text) (Taken entry) rest more f all stops = sym (ap (λ (w : World). is_some (more w)) f) ∙ all next stops
  stopped_by ahead m line (Takes next text) (Refused reason) rest more f all stops = absurd f
  stopped_by ahead m line (Stops text) Skipped rest more f all stops = absurd f
  stopped_by ahead m line (Stops text) (Taken entry) rest more f all stops = absurd f
  stopped_by ahead m line (Stops text) (Refused reason) rest more f all stops = refl

  stopped_from : (ahead : ℕ) (ls : List Line) (m : M) (ended : Bool)
      → StopsShortOf ahead (outcome_from (turn_of rules) (end_of rules) m ls ended).ending → is_some (first_bad_from (rules.world m) ls) ≡ true
  unfolding outcome_from
  stopped_from ahead [] m true stops = absurd stops
  stopped_from ahead [] m false stops = absurd stops
  stopped_from ahead (line ∷ ls) m ended stops =
      stopped_by ahead m line (turn_of rules m line.number line.content) (taking (rules.world m) line.content)
      (λ next. outcome_from (turn_of rules) (end_of rules) next ls ended) (λ w. first_bad_from w ls)
      (follows_by m line.number line.content (taking (rules.world m) line.content))
      (λ next. stopped_from ahead ls next ended) stops

  -- # The status

  at_end : (source1 : SourceState) (b : List ℕ) → source1.ended ≡ true → is_some (first_bad b source1.ended) ≡ is_some (first_bad b true)
  at_end source1 b ended = ap (λ e. is_some (first_bad b e)) ended

  from_start : (b : List ℕ) (e : Bool) → is_some (first_bad b e) ≡ is_some (first_bad_from (rules.world first) (lines b e))
  from_start b e = ap (λ (w : World). is_some (first_bad_from w (lines b e))) (sym follows.begins)

  named_by : (source0 source1 : SourceState) (sink0 sink1 : SinkState) (b w : List ℕ) (last : M) (exit : Exit) (finding : Finding)
      → Comes (outcome_by rules first) last source0 source1 sink0 sink1 b w exit
      → Names (status_of exit true (found_status finding)) (is_some (first_bad b source1.ended))
  named_by source0 source1 sink0 sink1 b w last exits.Fine findings.Nothing comes =
      at_end source1 b comes.0 ∙ from_start b true ∙ fine_from last (lines b true) first comes.1
  named_by source0 source1 sink0 sink1 b w last exits.Fine findings.Forged comes =
      at_end source1 b comes.0 ∙ from_start b true ∙ fine_from last (lines b true) first comes.1
  named_by source0 source1 sink0 sink1 b w last exits.Fine findings.NotThere comes = tt
  named_by source0 source1 sink0 sink1 b w last exits.BadScript finding comes =
      from_start b source1.ended ∙ stopped_from WINDOW (lines b source1.ended) first source1.ended comes.0
  named_by source0 source1 sink0 sink1 b w last exits.ReadFault finding comes = tt
  named_by source0 source1 sink0 sink1 b w last exits.WriteFault finding comes = tt
  named_by source0 source1 sink0 sink1 b w last exits.Memory finding comes = tt

  -- the status of an account says whether a line is bad
  pub status_names : (source0 source1 : SourceState) (sink0 sink1 : SinkState) (b w : List ℕ) (last : M) (exit : Exit) (finding : Finding) (s : Status)
      → Comes (outcome_by rules first) last source0 source1 sink0 sink1 b w exit → s ≡ status_of exit true (found_status finding)
      → Names s (is_some (first_bad b source1.ended))
  status_names source0 source1 sink0 sink1 b w last exit finding s comes is =
      subst (λ (x : Status). Names x (is_some (first_bad b source1.ended))) (sym is)
      (named_by source0 source1 sink0 sink1 b w last exit finding comes)
