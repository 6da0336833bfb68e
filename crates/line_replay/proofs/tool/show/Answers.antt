use Rattle.std.proofs.Common.{refl, false}
use Rattle.script_runs.specs.declared.status.Status.TheVariants as status
use Rattle.script_runs.proofs.Causes.{ran_of, read_cause, write_cause}
use Rattle.line_replay.proofs.DriverRuns.{whole_exit}
use Rattle.line_replay.specs.Shown.{show_outcome}
use Rattle.line_replay.specs.Tool.{none_forged}
use Rattle.line_replay.proofs.tool.show.Goals as goal

pub returns-clause-shows : goal.returns-clause-shows
returns-clause-shows g c =
    ran_of none_forged status.Forged show_outcome c.run-exit.result c.run-exit.new.machine false c.status_of.result c.status_of.ensures refl
    (rw c.new-show.ensures at c.run-exit.ensures.drives)

pub returns-clause-whole : goal.returns-clause-whole
returns-clause-whole g c = λ whole. c.run-exit.ensures.whole (whole_exit c.run-exit.result false c.status_of.result c.status_of.ensures whole)

pub returns-clause-read : goal.returns-clause-read
returns-clause-read g c = λ is.
    read_cause status.Forged c.run-exit.result false c.status_of.result c.status_of.ensures c.run-exit.ensures.drives (λ e. cc) is

pub returns-clause-write : goal.returns-clause-write
returns-clause-write g c = λ is.
    write_cause status.Forged c.run-exit.result false c.status_of.result c.status_of.ensures c.run-exit.ensures.drives (λ e. cc) is

pub returns-clause-source : goal.returns-clause-source
returns-clause-source g c = c.run-exit.ensures.drives.source

pub returns-clause-sink : goal.returns-clause-sink
returns-clause-sink g c = c.run-exit.ensures.drives.sink_later
