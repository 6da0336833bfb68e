use Rattle.std.proofs.Common.{false, refl, sym}
use Rattle.script_lines.specs.declared.machine.Exit.TheVariants as exits
use Rattle.script_runs.specs.declared.status.Status.TheVariants as status
use Rattle.script_runs.proofs.Causes.{ran_of, fine_exit, read_cause, write_cause}
use Rattle.line_view.proofs.Checks.{finds, text_is}
use Rattle.line_view.proofs.CheckedRuns.{names}
use Rattle.line_view.specs.CheckRuns.{checking, is_bad, outcome}
use Rattle.line_view.proofs.tool.check.Goals as goal

pub returns-in_default-clause-checks : goal.returns-in_default-clause-checks
returns-in_default-clause-checks g c =
    let ran = ran_of is_bad status.BadScript (outcome c.args.json) exits.Memory (checking c.args.json) false status.Memory refl refl
    (c.a_run_may_end_without_memory.ensures (checking c.args.json) _ _) in
    record {
      ran = ran;
      finds = finds c.args.json ran.drives.b;
      text = text_is c.args.json ran.drives.b;
      named = names c.args.json ran;
    }

pub returns-clause-checks : goal.returns-clause-checks
returns-clause-checks g c =
    let ran = ran_of is_bad status.BadScript (outcome c.args.json) c.run-exit.result c.run-exit.new.machine c.is_bad.result c.status_of.result
    c.status_of.ensures
    (sym c.is_bad.ensures) (rw c.in-Ok.ensures at c.run-exit.ensures.drives) in
    record {
      ran = ran;
      finds = finds c.args.json ran.drives.b;
      text = text_is c.args.json ran.drives.b;
      named = names c.args.json ran;
    }

pub returns-clause-whole : goal.returns-clause-whole
returns-clause-whole g c =
    λ fine. c.run-exit.ensures.whole (fine_exit c.run-exit.result c.is_bad.result status.BadScript c.status_of.result c.status_of.ensures fine)

pub returns-clause-read : goal.returns-clause-read
returns-clause-read g c = λ is.
    read_cause status.BadScript c.run-exit.result c.is_bad.result c.status_of.result c.status_of.ensures c.run-exit.ensures.drives (λ e. cc) is

pub returns-clause-write : goal.returns-clause-write
returns-clause-write g c = λ is.
    write_cause status.BadScript c.run-exit.result c.is_bad.result c.status_of.result c.status_of.ensures c.run-exit.ensures.drives (λ e. cc) is

pub returns-clause-source : goal.returns-clause-source
returns-clause-source g c = c.run-exit.ensures.drives.source

pub returns-clause-sink : goal.returns-clause-sink
returns-clause-sink g c = c.run-exit.ensures.drives.sink_later
