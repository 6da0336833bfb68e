use Rattle.std.proofs.Common.{◌≡◌, true, false}
use Rattle.std.specs.Prelude.{is_some}
use Rattle.script_runs.specs.TakenLines.{event_taking}
use Rattle.line_view.specs.CaptureRuns.{CaptureRun, rules}
use Rattle.line_view.specs.Recordings.{Recording}
use Rattle.line_view.proofs.Captured.{entry_captured}
use Rattle.line_view.proofs.Machines.{refused}
use Rattle.line_view.proofs.capture.CaptureRunMachine.step.Goals as goal

pub returns-then-is_some : goal.returns-then-is_some
returns-then-is_some c =
    let m : CaptureRun = record {
      wanted = c.self.inside.wanted;
      run = c.self.inside.run;
      injected = c.self.inside.injected.strings;
      keys = c.self.inside.keys;
    } in
    let there : is_some c.in_ok-refusal.refusal ≡ true = cc in
    rw (← c.self.view_is) (refused rules (λ (run : Recording). record m { run = run }) c.args.row m.run c.step.new.self c.args.event.now
    (event_taking c.self.inside.run.world c.args.event.now) c.in_ok-refusal.refusal c.in_ok-refusal.ensures there)

pub returns : goal.returns
returns c =
    let m : CaptureRun = record {
      wanted = c.self.inside.wanted;
      run = c.self.inside.run;
      injected = c.self.inside.injected.strings;
      keys = c.self.inside.keys;
    } in
    let none : is_some c.in_ok-refusal.refusal ≡ false = cc in
    rw (← c.self.view_is) (entry_captured c.args.row m c.args.event.now c.step.new.self c.keep_injected.new.log.strings c.keep_drawn.new.keys
    (event_taking c.self.inside.run.world c.args.event.now) c.in_ok-refusal.refusal c.in_ok-refusal.ensures none c.in_ok-keep_injected.ensures
    c.in_ok-keep_drawn.ensures)
