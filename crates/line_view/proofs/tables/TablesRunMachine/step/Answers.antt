use Rattle.std.proofs.Common.{◌≡◌, true, false, ap}
use Rattle.std.specs.Prelude.{is_some}
use Rattle.script_runs.specs.TakenLines.{event_taking}
use Rattle.line_view.specs.TableRuns.{TableRun, rules}
use Rattle.line_view.specs.Recordings.{Recording}
use Rattle.line_view.proofs.Machines.{refused}
use Rattle.line_view.proofs.Tabled.{entry_tabled}
use Rattle.line_view.proofs.tables.TablesRunMachine.step.Goals as goal

pub returns-then-is_some : goal.returns-then-is_some
returns-then-is_some c =
    let m : TableRun = record { table = c.self.inside.table; run = c.self.inside.run; spares = c.self.inside.journal.spares.items } in
    let there : is_some c.in_ok-refusal.refusal ≡ true = cc in
    rw (← c.self.view_is) (refused rules (λ (run : Recording). record m { run = run }) c.args.row m.run c.step.new.self c.args.event.now
    (event_taking c.self.inside.run.world c.args.event.now) c.in_ok-refusal.refusal c.in_ok-refusal.ensures there)

pub returns : goal.returns
returns c =
    let m : TableRun = record { table = c.self.inside.table; run = c.self.inside.run; spares = c.self.inside.journal.spares.items } in
    let none : is_some c.in_ok-refusal.refusal ≡ false = cc in
    let same : c.take_event.new.self.spares.items ≡ m.spares = ap (λ spares. spares.items) c.in_ok-take_event.ensures in
    rw (← c.self.view_is) (entry_tabled c.args.row m c.args.event.now c.step.new.self c.take_event.new.self.spares.items
    (event_taking c.self.inside.run.world c.args.event.now) c.in_ok-refusal.refusal c.in_ok-refusal.ensures none same)
