use Rattle.std.proofs.Common.{◌≡◌, List, ℕ, [], refl, subst, ◌∙◌}
use Rattle.plc_base.specs.Streams.{SourceState, SinkState}
use Rattle.script_lines.specs.declared.machine.Exit.TheVariants as exits
use Rattle.script_lines.specs.Clauses.{Drives}
use Rattle.line_view.specs.HeldTexts.{held}
use Rattle.line_view.specs.RunMachines.{outcome_by}
use Rattle.line_view.specs.Tool.{WritesBy}
use Rattle.line_view.proofs.Told.{held_is, told_names, told_read, told_sink, told_write}
use Rattle.line_view.proofs.tool.tell.Goals as goal

pub returns-in_default-clause-tells : goal.returns-in_default-clause-tells
returns-in_default-clause-tells g c = λ first is follows.
    let nothing : SinkState = held [] 0 in
    record {
      exit = exits.Memory;
      last = first;
      held0 = nothing;
      held1 = nothing;
      drives = c.a_run_may_end_without_memory.ensures first (g.S.Source.state c.args.source.now) nothing;
      writes = (refl, refl);
      named = tt;
    }

pub returns-clause-tells : goal.returns-clause-tells
returns-clause-tells g c = λ first is follows.
    let rules = g.M.RunMachine.rules in
    let says = g.M.LastText.says in
    let source0 : SourceState = g.S.Source.state c.args.source.now in
    let source1 : SourceState = g.S.Source.state c.run-exit.new.source in
    let sink0 : SinkState = g.K.Sink.state c.args.sink.now in
    let sink1 : SinkState = g.K.Sink.state c.write_last.new.sink in
    let last : g.row.M.Denot = c.run-exit.new.machine in
    let held0 : SinkState = held c.new-held.result.octets.items c.new-held.result.faults in
    let held1 : SinkState = held c.run-exit.new.sink.octets.items c.run-exit.new.sink.faults in
    let same : c.in-Ok.machine ≡ first = rw c.in-Ok.is at is in
    let drives : Drives (outcome_by rules first) last source0 source1 held0 held1 c.run-exit.result
    = subst (λ (m : g.row.M.Denot). Drives (outcome_by rules m) last source0 source1 held0 held1 c.run-exit.result) (c.new-lines.ensures ∙ same)
    c.run-exit.ensures.drives in
    let text : c.octets.result.now ≡ drives.w
    = held_is held0.taken held1.taken c.octets.result.now drives.w c.new-held.ensures c.octets.ensures drives.wrote in
    let writes : WritesBy rules.finding says last drives.w c.run-exit.result sink0 sink1 c.write_last.result
    = subst (λ (t : List ℕ). WritesBy rules.finding says last t c.run-exit.result sink0 sink1 c.write_last.result) text c.write_last.ensures in
    record {
      exit = c.run-exit.result;
      last = last;
      held0 = held0;
      held1 = held1;
      drives = drives;
      writes = writes;
      named = told_names rules says last drives.w sink0 sink1 c.write_last.result first follows source0 source1 held0 held1 drives.b drives.w
          c.run-exit.result drives.comes writes;
    }

pub returns-clause-read : goal.returns-clause-read
returns-clause-read g c = λ is.
    let rules = g.M.RunMachine.rules in
    let source0 : SourceState = g.S.Source.state c.args.source.now in
    let source1 : SourceState = g.S.Source.state c.run-exit.new.source in
    let held0 : SinkState = held c.new-held.result.octets.items c.new-held.result.faults in
    let held1 : SinkState = held c.run-exit.new.sink.octets.items c.run-exit.new.sink.faults in
    let drives = c.run-exit.ensures.drives in
    told_read rules g.M.LastText.says c.run-exit.new.machine c.octets.result.now (g.K.Sink.state c.args.sink.now)
    (g.K.Sink.state c.write_last.new.sink) c.write_last.result (outcome_by rules c.new-lines.result) source0 source1 held0 held1 drives.b drives.w
    c.run-exit.result drives.comes c.write_last.ensures is

pub returns-clause-write : goal.returns-clause-write
returns-clause-write g c = λ is.
    told_write g.M.RunMachine.rules g.M.LastText.says c.run-exit.new.machine c.octets.result.now (g.K.Sink.state c.args.sink.now)
    (g.K.Sink.state c.write_last.new.sink) c.write_last.result c.run-exit.result c.write_last.ensures is

pub returns-clause-source : goal.returns-clause-source
returns-clause-source g c = c.run-exit.ensures.drives.source

pub returns-clause-sink : goal.returns-clause-sink
returns-clause-sink g c =
    told_sink g.M.RunMachine.rules g.M.LastText.says c.run-exit.new.machine c.octets.result.now (g.K.Sink.state c.args.sink.now)
    (g.K.Sink.state c.write_last.new.sink) c.write_last.result c.run-exit.result c.write_last.ensures
