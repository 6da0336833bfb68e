-- What an event does to a page: it is recorded, has its sentence, and the nodes that it may have changed are looked at.
use Rattle.std.proofs.Common.{◌≡◌, ℕ, ◌+◌, ◌-◌, zero, suc, Bool, true, false, List, Option, None, Some, refl, sym, ap}
use Rattle.std.proofs.Common.{◌∙◌, length, arith}
use Rattle.std.specs.Prelude.{IfSome, if◌then◌else◌, is_some}
use Rattle.node_rules.specs.Memory.{Node}
use Rattle.node_rules.specs.declared.shown.Shown.{Shown}
use Rattle.node_rules.specs.ShownNodes.{shown_of}
use Rattle.line_record.specs.Pasts.{NodePast, looked as past_looked}
use Rattle.line_events.specs.declared.event.Event.{Event}
use Rattle.line_rules.specs.Worlds.{node_at}
use Rattle.line_rules.specs.Runs.{Entry}
use Rattle.line_script.specs.declared.report.Reason.{Reason}
use Rattle.line_record.specs.Kinds.{actor_of, is_for_another, makes_node}
use Rattle.line_record.specs.declared.act.Act.{Act}
use Rattle.line_record.specs.declared.recorded.RecordedEvent.{RecordedEvent}
use Rattle.line_record.specs.RunRecords.{numbered}
use Rattle.run_pages.specs.Remarks.{with_event}
use Rattle.script_lines.specs.Lines.{Content, Text, Long, TooMuch}
use Rattle.script_runs.specs.TakenLines.{Taking, Skipped, Taken, Refused}
use Rattle.line_view.specs.Recordings.{Recording, Recorded, recording_after}
use Rattle.line_view.specs.RunMachines.{FollowsRun, Stepped}
use Rattle.line_view.specs.Sentences.{Sentences, with_sentence}
use Rattle.line_view.specs.PageRuns.{PageRun, after_entry, is_delivery, is_tick, kept, kept_by, looked, looked_after, looked_around, looked_at_all}
use Rattle.line_view.specs.PageRuns.{looked_at_both, looked_by, node_count, nothing_paged, other_of, remarked, rules, with_look, with_node}
use Rattle.line_view.proofs.Recorded.{recorded_world}

-- # The step

abbrev next_of : PageRun → Recording → Sentences → PageRun
next_of p run worded = record p { run = run; worded = worded }

no_truth : false ≡ true → ⊥
no_truth is = cc

no_falsehood : true ≡ false → ⊥
no_falsehood is = cc

-- an event that was taken and recorded, has its sentence, and of which all else is kept
pub entry_worded : (row : ℕ) (p : PageRun) (e : Event) (run again : Recording) (worded : Sentences) (next : PageRun) (t : Taking) (refusal : Option Reason)
    → Recorded row e p.run run t refusal → is_some refusal ≡ false → worded ≡ with_sentence e run p.worded → again ≡ run
    → next ≡ kept (next_of p again worded) → Stepped rules row p next t None
entry_worded row p e run again worded next Skipped refusal r none is same kept_so = absurd r
entry_worded row p e run again worded next (Taken entry) refusal r none is same kept_so =
    let words : worded ≡ with_sentence entry.event run p.worded = is ∙ ap (λ (x : Event). with_sentence x run p.worded) (sym r.1.0) in (
      refl,
      kept_so
          ∙ ap (λ (x : Recording). kept (next_of p x worded)) same
          ∙ ap (λ (s : Sentences). kept (next_of p run s)) words
          ∙ ap (λ (x : Recording). kept (next_of p x (with_sentence entry.event x p.worded))) r.1.1,
    )
entry_worded row p e run again worded next (Refused why) refusal r none is same kept_so =
    absurd (no_falsehood (ap (λ (o : Option Reason). is_some o) (sym r.0) ∙ none))

-- # Looking at nodes

abbrev with_pasts : PageRun → List NodePast → PageRun
with_pasts p pasts = record p { pasts = pasts }

-- a node that is there, and what it shows
pub look_there : (node event : ℕ) (p : PageRun) (state : Option Node) (shown : Shown) (pasts : List NodePast) → IfSome state (λ n. shown ≡ shown_of n)
    → is_some state ≡ true → pasts ≡ past_looked node event shown p.pasts → with_pasts p pasts ≡ with_look state event node p
look_there node event p None shown pasts is there looks = absurd (no_truth there)
look_there node event p (Some n) shown pasts is there looks =
    ap (with_pasts p) (looks ∙ ap (λ (s : Shown). past_looked node event s p.pasts) is)

pub look_nowhere : (node event : ℕ) (p : PageRun) (state : Option Node) → is_some state ≡ false → with_look state event node p ≡ p
look_nowhere node event p None not_there = refl
look_nowhere node event p (Some n) not_there = absurd (no_falsehood not_there)

-- one node more
pub look_more : (event node : ℕ) (first old new : PageRun) → old ≡ looked_at_all event node first → new ≡ looked event node old
    → new ≡ looked_at_all event (node + 1) first
look_more event node first old new was is =
    let more : node + 1 ≡ suc node = omega arith in rw more (is ∙ ap (λ (x : PageRun). looked event node x) was)

-- # What is looked at changes nothing of the run

with_look_run : (state : Option Node) (event node : ℕ) (p : PageRun) → (with_look state event node p).run ≡ p.run
with_look_run None event node p = refl
with_look_run (Some n) event node p = refl

looked_run : (event node : ℕ) (p : PageRun) → (looked event node p).run ≡ p.run
unfolding looked
looked_run event node p = with_look_run (node_at p.run.world node) event node p

all_run : (event count : ℕ) (p : PageRun) → (looked_at_all event count p).run ≡ p.run
all_run event zero p = refl
all_run event (suc node) p = looked_run event node (looked_at_all event node p) ∙ all_run event node p

either_run : (b : Bool) (x y p : PageRun) → x.run ≡ p.run → y.run ≡ p.run → (if b then x else y).run ≡ p.run
either_run true x y p hx hy = hx
either_run false x y p hx hy = hy

both_run : (event : ℕ) (act : Act) (p : PageRun) → (looked_at_both act event p).run ≡ p.run
both_run event act p =
    let own = looked_run event (actor_of act) p in
    either_run (is_delivery act) (looked event (actor_of act) p) (looked event (other_of act) (looked event (actor_of act) p)) p own
    (looked_run event (other_of act) (looked event (actor_of act) p) ∙ own)

by_run : (event : ℕ) (act : Act) (p : PageRun) → (looked_by act event p).run ≡ p.run
by_run event act p =
    either_run (is_tick act) (looked_at_all event (node_count p) p) (looked_at_both act event p) p (all_run event (node_count p) p) (both_run event act p)

around_run : (event : ℕ) (act : Act) (p : PageRun) → (looked_around event act p).run ≡ p.run
around_run event act p =
    either_run (makes_node act) (looked event (node_count p - 1) (with_node p)) (looked_by act event p) p
    (looked_run event (node_count p - 1) (with_node p)) (by_run event act p)

after_run : (event : ℕ) (e : RecordedEvent) (p : PageRun) → (looked_after event e p).run ≡ p.run
after_run event e p = either_run (is_for_another e.answer) p (looked_around event e.act p) p refl (around_run event e.act p)

kept_by_run : (last : Option RecordedEvent) (p : PageRun) → (kept_by last p).run ≡ p.run
kept_by_run None p = refl
kept_by_run (Some e) p = after_run (length p.run.events) e p

kept_run : (p : PageRun) → (kept p).run ≡ p.run
unfolding kept
kept_run p = kept_by_run (numbered p.run.events (length p.run.events)) (record p { remarks = with_event p.remarks })

-- # The run of a page follows the script

entry_world : (row : ℕ) (entry : Entry) (p : PageRun) → (after_entry row entry p).run.world ≡ entry.after
entry_world row entry p =
    let worded : PageRun = record p { run = recording_after row entry p.run; worded = with_sentence entry.event (recording_after row entry p.run) p.worded } in
    ap (λ (r : Recording). r.world) (kept_run worded) ∙ recorded_world row entry p.run

remark_world : (content : Content) (p : PageRun) → (remarked content p).run.world ≡ p.run.world
remark_world (Text line) p = refl
remark_world Long p = refl
remark_world TooMuch p = refl

pub page_follows : FollowsRun rules nothing_paged
page_follows = record { begins = refl; entries = entry_world; quiet = λ p content. remark_world content p }
