use Rattle.std.proofs.Common.{◌≡◌, true, false}
use Rattle.std.specs.Prelude.{is_some}
use Rattle.script_runs.specs.TakenLines.{event_taking}
use Rattle.line_view.specs.PageRuns.{PageRun, rules}
use Rattle.line_view.specs.Recordings.{Recording}
use Rattle.line_view.proofs.Machines.{refused}
use Rattle.line_view.proofs.Paged.{entry_worded}
use Rattle.line_view.proofs.page.PageRunMachine.step.Goals as goal

pub returns-then-is_some : goal.returns-then-is_some
returns-then-is_some c =
    let p : PageRun = record { run = c.self.inside.run; worded = c.self.inside.run_sentences; remarks = c.self.inside.remarks; pasts = c.self.inside.pasts } in
    let there : is_some c.in_ok-refusal.refusal ≡ true = cc in
    rw (← c.self.view_is) (refused rules (λ (run : Recording). record p { run = run }) c.args.row p.run c.step.new.self c.args.event.now
    (event_taking c.self.inside.run.world c.args.event.now) c.in_ok-refusal.refusal c.in_ok-refusal.ensures there)

pub returns : goal.returns
returns c =
    let p : PageRun = record { run = c.self.inside.run; worded = c.self.inside.run_sentences; remarks = c.self.inside.remarks; pasts = c.self.inside.pasts } in
    let none : is_some c.in_ok-refusal.refusal ≡ false = cc in
    rw (← c.self.view_is) (entry_worded c.args.row p c.args.event.now c.step.new.self c.add_sentence.new.run c.add_sentence.new.self c.keep.new.self
    (event_taking c.self.inside.run.world c.args.event.now) c.in_ok-refusal.refusal c.in_ok-refusal.ensures none c.in_ok-add_sentence.ensures.sentence
    c.in_ok-add_sentence.ensures.same c.in_ok-keep.ensures)
