-- What a run over the driver is as a replay.
use Rattle.std.proofs.Common.{◌≡◌, ℕ, ◌+◌, ◌<◌, Bool, true, false, List, [], ◌∷◌, ◌++◌, nat_lt, if◌then◌else◌, Ok, Err, refl, sym, ◌∙◌, ap, subst, append_assoc}
use Rattle.std.proofs.Common.{Option, add-zero, arith}
use Rattle.std.proofs.lemmas.Bool.{ltb-true, ltb-false}
use Rattle.std.proofs.lemmas.List.Elements.{All-nil, All-cons}
use Rattle.script_lines.specs.Lines.{Content, Text, Long, TooMuch, Line, lines}
use Rattle.script_lines.specs.Outcomes.{Outcome, Bad, Ended, outcome_turn, outcome_from}
use Rattle.script_lines.specs.declared.machine.Exit.{Exit}
use Rattle.script_lines.specs.declared.machine.Exit.TheVariants as exits
use Rattle.script_lines.specs.Clauses.{Comes}
use Rattle.plc_base.specs.Streams.{SourceState, SinkState}
use Rattle.line_events.specs.declared.event.Event.{Event}
use Rattle.line_events.specs.declared.event.StepFault.TheVariants as faults
use Rattle.line_events.specs.declared.event.TheConstants.{MAX_EVENTS}
use Rattle.node_rules.specs.Ciphers.{network}
use Rattle.line_events.specs.Events.{IsEvent, AreEvents}
use Rattle.line_rules.specs.Worlds.{World, start}
use Rattle.line_rules.specs.Steps.{Step}
use Rattle.line_rules.specs.Further.{line_step}
use Rattle.line_rules.specs.Runs.{Entry, IsRun, events_of, IsLineRun}
use Rattle.line_rules.specs.Traces.{CountsRight}
use Rattle.line_script.specs.declared.reading.Reading.{Reading}
use Rattle.line_script.specs.declared.reading.Reading.TheVariants.{Quiet, NoForm, Reads}
use Rattle.line_script.specs.declared.report.Reason.TheVariants as reasons
use Rattle.line_script.specs.Lines.{IsInRange}
use Rattle.line_script.specs.LineReader.{reading}
use Rattle.line_script.proofs.Ranges.{reading_fits}
use Rattle.line_replay.specs.Replay.{Taking, Skipped, Taken, Refused, step_taking, reading_taking, taking, Playing, entry_text, turn_by, turn_of, end_of}
use Rattle.line_replay.specs.Replay.{BadLine, bad_by, first_bad_from, first_bad, EndsBy}
use Rattle.line_replay.specs.Replay.{is_forged, outcome, report, entries_by, entries_from, entries, entries_text, last_by, last_from, last_text, forged_in}
use Rattle.script_runs.specs.declared.status.Status.{Status}
use Rattle.script_runs.specs.declared.status.Status.TheVariants as status
use Rattle.script_runs.specs.Runs.{Ran}
use Rattle.script_runs.specs.Statuses.{status_of}
use Rattle.line_replay.specs.Tool.{Names, BreaksOffBy, is_whole}

-- what a taking says of the run that goes on
abbrev GoesOn : World → Taking → Type 0
GoesOn w Skipped = Unit {0}
GoesOn w (Taken x) = IsEvent x.event × (w.events < MAX_EVENTS) × (x.number ≡ w.events + 1) × (line_step network w x.event ≡ Ok (x.after, x.trace))
GoesOn w (Refused reason) = Unit {0}

step_goes : (w : World) (event : Event) (r : Step) → IsEvent event → w.events < MAX_EVENTS → line_step network w event ≡ r → GoesOn w (step_taking w event r)
step_goes w event (Ok q) said room is = (said, room, refl, is)
step_goes w event (Err faults.Memory) said room is = tt
step_goes w event (Err faults.Setup) said room is = tt
step_goes w event (Err faults.Node) said room is = tt
step_goes w event (Err faults.Flight) said room is = tt

room_goes : (w : World) (event : Event) (b : Bool) → IsEvent event → nat_lt w.events MAX_EVENTS ≡ b
    → GoesOn w (if b then step_taking w event (line_step network w event) else Refused reasons.Events)
room_goes w event true said room = step_goes w event (line_step network w event) said (ltb-true w.events MAX_EVENTS room) refl
room_goes w event false said room = tt

-- what is read is an event that a line can say
reading_goes : (w : World) (r : Reading) → IsInRange r → GoesOn w (reading_taking w r)
reading_goes w Quiet said = tt
reading_goes w NoForm said = tt
reading_goes w (Reads event) said = room_goes w event (nat_lt w.events MAX_EVENTS) said refl

taking_goes : (w : World) (content : Content) → GoesOn w (taking w content)
unfolding taking
taking_goes w TooMuch = tt
taking_goes w Long = tt
taking_goes w (Text octets) = reading_goes w (reading octets) (reading_fits octets)

run_by : (w : World) (t : Taking) (rest : World → List Entry) → GoesOn w t → ((next : World) → IsRun network next (rest next))
    → IsRun network w (entries_by w t rest)
run_by w Skipped rest on all = all w
run_by w (Taken x) rest on all = (on.1, on.2, on.3, all x.after)
run_by w (Refused reason) rest on all = tt

run_from : (ls : List Line) (w : World) → IsRun network w (entries_from w ls)
run_from [] w = tt
run_from (line ∷ ls) w = run_by w (taking w line.content) (λ next. entries_from next ls) (taking_goes w line.content) (run_from ls)

events_by : (w : World) (t : Taking) (rest : World → List Entry) → GoesOn w t → ((next : World) → AreEvents (events_of (rest next)))
    → AreEvents (events_of (entries_by w t rest))
events_by w Skipped rest on all = all w
events_by w (Taken x) rest on all = All-cons IsEvent x.event (events_of (rest x.after)) on.0 (all x.after)
events_by w (Refused reason) rest on all = All-nil IsEvent

events_from : (ls : List Line) (w : World) → AreEvents (events_of (entries_from w ls))
events_from [] w = All-nil IsEvent
events_from (line ∷ ls) w = events_by w (taking w line.content) (λ next. entries_from next ls) (taking_goes w line.content) (events_from ls)

-- the entries of a script are a run of the line
pub entries_run : (octets : List ℕ) (ended : Bool) → IsLineRun network (entries octets ended)
entries_run octets ended = record { events = events_from (lines octets ended) start; run = run_from (lines octets ended) start }

-- ---- the first bad line

ends_by : (ended : Bool) (w : World) (number : ℕ) (t : Taking) (more : World → Option BadLine) (rest : World → List ℕ)
    → ((next : World) → EndsBy ended (more next) (rest next)) → EndsBy ended (bad_by w number t more) (last_by w number t rest)
ends_by ended w number Skipped more rest all = all w
ends_by ended w number (Taken x) more rest all = all x.after
ends_by ended w number (Refused reason) more rest all = refl

ends_from : (ls : List Line) (w : World) (ended : Bool) → EndsBy ended (first_bad_from w ls) (last_from w ls ended)
ends_from [] w ended = (w, refl)
ends_from (line ∷ ls) w ended =
    ends_by ended w line.number (taking w line.content) (λ next. first_bad_from next ls) (λ next. last_from next ls ended)
    (λ next. ends_from ls next ended)

-- the last line of a report names the first bad line
pub last_is : (octets : List ℕ) (ended : Bool) → EndsBy ended (first_bad octets ended) (last_text octets ended)
last_is octets ended = ends_from (lines octets ended) start ended

-- ---- the report by entries

module _ (quiet : Bool) where
  text_by : (line : Line) (w : World) (t : Taking) (ended : Bool) (rest : Playing → Outcome Playing) (more : World → List Entry) (last : World → List ℕ)
      → ((next : World) → (rest (record { quiet = quiet; world = next })).text ≡ entries_text quiet (more next) ++ last next)
      → (outcome_turn (record { quiet = quiet; world = w }) line (turn_by quiet line.number t) rest).text
      ≡ entries_text quiet (entries_by w t more) ++ last_by w line.number t last
  text_by line w Skipped ended rest more last all = all w
  text_by line w (Taken x) ended rest more last all =
      ap (λ (l : List ℕ). entry_text quiet x ++ l) (all x.after) ∙ sym (append_assoc (entry_text quiet x) (entries_text quiet (more x.after)) (last x.after))
  text_by line w (Refused reason) ended rest more last all = refl

  text_from : (ls : List Line) (w : World) (ended : Bool)
      → (outcome_from turn_of end_of (record { quiet = quiet; world = w }) ls ended).text ≡ entries_text quiet (entries_from w ls) ++ last_from w ls ended
  unfolding outcome_from
  text_from [] w ended = refl
  text_from (line ∷ ls) w ended =
      text_by line w (taking w line.content) ended (λ next. outcome_from turn_of end_of next ls ended) (λ next. entries_from next ls)
      (λ next. last_from next ls ended) (λ next. text_from ls next ended)

  -- the report is the lines of the entries, and then the last line
  pub report_by_entries : (octets : List ℕ) (ended : Bool) → report quiet octets ended ≡ entries_text quiet (entries octets ended) ++ last_text octets ended
  report_by_entries octets ended = text_from (lines octets ended) start ended

  -- ---- forged events

  -- the last state has counted the forged events of a history after those of the first
  abbrev CountedBehind : World → List Entry → Playing → Type 0
  CountedBehind w xs last = last.world.forged ≡ w.forged + forged_in xs

  not_ended : (number : ℕ) (behind : List ℕ) (last : Playing) → Bad number behind ≡ Ended last → ⊥
  not_ended number behind last is = cc

  counted_by : (line : Line) (w : World) (t : Taking) (rest : Playing → Outcome Playing) (more : World → List Entry) (last : Playing)
      → ((next : World) → CountsRight next (more next) → (rest (record { quiet = quiet; world = next })).ending ≡ Ended last
      → CountedBehind next (more next) last)
      → CountsRight w (entries_by w t more)
      → (outcome_turn (record { quiet = quiet; world = w }) line (turn_by quiet line.number t) rest).ending ≡ Ended last
      → CountedBehind w (entries_by w t more) last
  counted_by line w Skipped rest more last all right ends = all w right ends
  counted_by line w (Taken x) rest more last all right ends = let one = right.0.forged in let behind = all x.after right.1 ends in omega (arith, one, behind)
  counted_by line w (Refused reason) rest more last all right ends = absurd (not_ended line.number line.behind last ends)

  same_last : (first last : Playing) → Ended first ≡ Ended last → first ≡ last
  same_last first last is = cc

  counted_from : (last : Playing) (ls : List Line) (w : World) → CountsRight w (entries_from w ls)
      → (outcome_from turn_of end_of (record { quiet = quiet; world = w }) ls true).ending ≡ Ended last → CountedBehind w (entries_from w ls) last
  unfolding outcome_from
  counted_from last [] w right ends =
      ap (λ (p : Playing). p.world.forged) (sym (same_last (record { quiet = quiet; world = w }) last ends)) ∙ sym (add-zero w.forged)
  counted_from last (line ∷ ls) w right ends =
      counted_by line w (taking w line.content) (λ next. outcome_from turn_of end_of next ls true) (λ next. entries_from next ls) last
      (λ next. counted_from last ls next) right ends

  none_named : (last : Playing) (n : ℕ) → is_forged last ≡ false → last.world.forged ≡ 0 + n → n ≡ 0
  none_named last n named counted = let low = ltb-false 0 last.world.forged named in omega (arith, low, counted)

  one_named : (last : Playing) (n : ℕ) → is_forged last ≡ true → last.world.forged ≡ 0 + n → 0 < n
  one_named last n named counted = let low = ltb-true 0 last.world.forged named in omega (arith, low, counted)

  names_by : (source0 source1 : SourceState) (sink0 sink1 : SinkState) (b w : List ℕ) (last : Playing) (exit : Exit) (flag : Bool) → is_forged last ≡ flag
      → Comes (outcome quiet) last source0 source1 sink0 sink1 b w exit
      → CountsRight start (entries b true) → Names (status_of exit flag status.Forged) (forged_in (entries b true))
  names_by source0 source1 sink0 sink1 b w last exits.Fine false is comes right =
      none_named last (forged_in (entries b true)) is (counted_from last (lines b true) start right comes.1)
  names_by source0 source1 sink0 sink1 b w last exits.Fine true is comes right =
      one_named last (forged_in (entries b true)) is (counted_from last (lines b true) start right comes.1)
  names_by source0 source1 sink0 sink1 b w last exits.BadScript flag is comes right = tt
  names_by source0 source1 sink0 sink1 b w last exits.ReadFault flag is comes right = tt
  names_by source0 source1 sink0 sink1 b w last exits.WriteFault flag is comes right = tt
  names_by source0 source1 sink0 sink1 b w last exits.Memory flag is comes right = tt

  -- the status of a replay names a forged event exactly where its run has one
  pub names : {source0 source1 : SourceState} {sink0 sink1 : SinkState} {s : Status}
      (ran : Ran is_forged status.Forged (outcome quiet) source0 source1 sink0 sink1 s)
      → CountsRight start (entries ran.drives.b true) → Names s (forged_in (entries ran.drives.b true))
  names {source0} {source1} {sink0} {sink1} {s} ran right = subst (λ t. Names t (forged_in (entries ran.drives.b true))) (sym ran.status)
      (names_by source0 source1 sink0 sink1 ran.drives.b ran.drives.w ran.last ran.exit (is_forged ran.last) refl ran.drives.comes right)

-- ---- where a report breaks off

module _ {M : Type 0} {judge : M → Bool} {outcome : List ℕ → Bool → Outcome M} {source0 source1 : SourceState} {sink0 sink1 : SinkState} {s : Status}
    (ran : Ran judge status.Forged outcome source0 source1 sink0 sink1 s) where
  breaks_by : (exit : Exit) (flag : Bool) → Comes outcome ran.last source0 source1 sink0 sink1 ran.drives.b ran.drives.w exit
      → BreaksOffBy (status_of exit flag status.Forged) (λ octets ended. (outcome octets ended).text) ran.drives.b ran.drives.w source1.ended
  breaks_by exits.Fine false comes = tt
  breaks_by exits.Fine true comes = tt
  breaks_by exits.BadScript flag comes = tt
  breaks_by exits.ReadFault flag comes = tt
  breaks_by exits.WriteFault flag comes = comes.2
  breaks_by exits.Memory flag comes = comes.1

  pub breaks_as : BreaksOffBy s (λ octets ended. (outcome octets ended).text) ran.drives.b ran.drives.w source1.ended
  breaks_as = subst (λ t. BreaksOffBy t (λ octets ended. (outcome octets ended).text) ran.drives.b ran.drives.w source1.ended) (sym ran.status)
      (breaks_by ran.exit (judge ran.last) ran.drives.comes)

-- ---- why a status came

whole_of : (exit : Exit) (flag : Bool) → is_whole (status_of exit flag status.Forged) ≡ true → exit ≡ exits.Fine
whole_of exits.Fine flag whole = refl
whole_of exits.BadScript flag whole = absurd (let no : false ≡ true → ⊥ = λ e. cc in no whole)
whole_of exits.Memory flag whole = absurd (let no : false ≡ true → ⊥ = λ e. cc in no whole)
whole_of exits.ReadFault flag whole = absurd (let no : false ≡ true → ⊥ = λ e. cc in no whole)
whole_of exits.WriteFault flag whole = absurd (let no : false ≡ true → ⊥ = λ e. cc in no whole)

pub whole_exit : (exit : Exit) (flag : Bool) (s : Status) → s ≡ status_of exit flag status.Forged → is_whole s ≡ true → exit ≡ exits.Fine
whole_exit exit flag s of whole = whole_of exit flag (ap is_whole (sym of) ∙ whole)
