use Rattle.std.proofs.Common.{false, refl, sym}
use Rattle.line_rules.specs.Worlds.{start}
use Rattle.script_lines.specs.declared.machine.Exit.TheVariants as exits
use Rattle.script_runs.specs.declared.status.Status.TheVariants as status
use Rattle.script_runs.proofs.Causes.{ran_of, read_cause, write_cause}
use Rattle.line_replay.proofs.DriverRuns.{entries_run, whole_exit}
use Rattle.line_replay.proofs.Replayed.{replays_of}
use Rattle.line_replay.specs.Replay.{Playing, entries, is_forged, outcome}
use Rattle.line_replay.proofs.tool.replay.Goals as goal

pub returns-in_default-clause-replays : goal.returns-in_default-clause-replays
returns-in_default-clause-replays g c =
    let first : Playing = record { quiet = c.args.quiet; world = start } in
    replays_of c.args.quiet (ran_of is_forged status.Forged (outcome c.args.quiet) exits.Memory first false status.Memory refl refl
    (c.a_run_may_end_without_memory.ensures first _ _)) (λ b e. c.every_network_run_is_right.ensures (entries b e) (entries_run b e))
    (λ b e. c.every_run_is_lawful.ensures (entries b e) (entries_run b e))

pub returns-clause-replays : goal.returns-clause-replays
returns-clause-replays g c =
    let ran = ran_of is_forged status.Forged (outcome c.args.quiet) c.run-exit.result c.run-exit.new.machine c.is_forged.result c.status_of.result
    c.status_of.ensures (sym c.is_forged.ensures) (rw c.in-Ok.ensures at c.run-exit.ensures.drives) in
    replays_of c.args.quiet ran (λ b e. c.every_network_run_is_right.ensures (entries b e) (entries_run b e))
    (λ b e. c.every_run_is_lawful.ensures (entries b e) (entries_run b e))

pub returns-clause-whole : goal.returns-clause-whole
returns-clause-whole g c = λ whole. c.run-exit.ensures.whole (whole_exit c.run-exit.result c.is_forged.result c.status_of.result c.status_of.ensures whole)

pub returns-clause-read : goal.returns-clause-read
returns-clause-read g c = λ is.
    read_cause status.Forged c.run-exit.result c.is_forged.result c.status_of.result c.status_of.ensures c.run-exit.ensures.drives (λ e. cc) is

pub returns-clause-write : goal.returns-clause-write
returns-clause-write g c = λ is.
    write_cause status.Forged c.run-exit.result c.is_forged.result c.status_of.result c.status_of.ensures c.run-exit.ensures.drives (λ e. cc) is

pub returns-clause-source : goal.returns-clause-source
returns-clause-source g c = c.run-exit.ensures.drives.source

pub returns-clause-sink : goal.returns-clause-sink
returns-clause-sink g c = c.run-exit.ensures.drives.sink_later
