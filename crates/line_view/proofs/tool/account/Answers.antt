use Rattle.std.proofs.Common.{◌≡◌, true, ap, refl, subst, sym, ◌∙◌}
use Rattle.plc_base.specs.Streams.{SourceState, SinkState}
use Rattle.script_lines.specs.declared.machine.Exit.TheVariants as exits
use Rattle.script_lines.specs.Clauses.{Drives}
use Rattle.script_runs.specs.declared.status.Status.{Status}
use Rattle.script_runs.specs.declared.status.Status.TheVariants as status
use Rattle.script_runs.specs.Statuses.{status_of}
use Rattle.script_runs.proofs.Causes.{read_cause, write_cause}
use Rattle.line_view.proofs.StatusNames.{no_read, no_write, status_names}
use Rattle.line_view.specs.RunMachines.{found_status, outcome_by}
use Rattle.line_view.proofs.tool.account.Goals as goal

pub returns-in_default-clause-accounts : goal.returns-in_default-clause-accounts
returns-in_default-clause-accounts g c = λ first is follows.
    let rules = g.M.RunMachine.rules in
    let source : SourceState = g.S.Source.state c.args.source.now in
    let sink : SinkState = g.K.Sink.state c.args.sink.now in
    let drives = c.a_run_may_end_without_memory.ensures first source sink in
    record {
      exit = exits.Memory;
      last = first;
      drives = drives;
      status = refl;
      named = status_names rules first follows source source sink sink drives.b drives.w first exits.Memory (rules.finding first) status.Memory
          drives.comes refl;
    }

pub returns-clause-accounts : goal.returns-clause-accounts
returns-clause-accounts g c = λ first is follows.
    let rules = g.M.RunMachine.rules in
    let source0 : SourceState = g.S.Source.state c.args.source.now in
    let source1 : SourceState = g.S.Source.state c.run-exit.new.source in
    let sink0 : SinkState = g.K.Sink.state c.args.sink.now in
    let sink1 : SinkState = g.K.Sink.state c.run-exit.new.sink in
    let last : g.row.M.Denot = c.run-exit.new.machine in
    let same : c.in-Ok.machine ≡ first = rw c.in-Ok.is at is in
    let drives : Drives (outcome_by rules first) last source0 source1 sink0 sink1 c.run-exit.result
    = subst (λ (m : g.row.M.Denot). Drives (outcome_by rules m) last source0 source1 sink0 sink1 c.run-exit.result) (c.new-lines.ensures ∙ same)
    c.run-exit.ensures.drives in
    let found : c.found_status.result ≡ found_status (rules.finding last) = c.found_status.ensures ∙ ap found_status c.finding.ensures in
    let ended : c.status_of.result ≡ status_of c.run-exit.result true (found_status (rules.finding last))
    = c.status_of.ensures ∙ ap (λ (s : Status). status_of c.run-exit.result true s) found in
    record {
      exit = c.run-exit.result;
      last = last;
      drives = drives;
      status = ended;
      named = status_names rules first follows source0 source1 sink0 sink1 drives.b drives.w last c.run-exit.result (rules.finding last)
          c.status_of.result drives.comes ended;
    }

pub returns-clause-read : goal.returns-clause-read
returns-clause-read g c = λ is.
    read_cause c.found_status.result c.run-exit.result true c.status_of.result c.status_of.ensures c.run-exit.ensures.drives
    (λ e. no_read c.finding.result (sym c.found_status.ensures ∙ e)) is

pub returns-clause-write : goal.returns-clause-write
returns-clause-write g c = λ is.
    write_cause c.found_status.result c.run-exit.result true c.status_of.result c.status_of.ensures c.run-exit.ensures.drives
    (λ e. no_write c.finding.result (sym c.found_status.ensures ∙ e)) is

pub returns-clause-source : goal.returns-clause-source
returns-clause-source g c = c.run-exit.ensures.drives.source

pub returns-clause-sink : goal.returns-clause-sink
returns-clause-sink g c = c.run-exit.ensures.drives.sink_later
