use Rattle.std.proofs.Common.{List, ℕ, ◌∙◌, ap, inl, subst}
use Rattle.plc_base.specs.Streams.{SinkState}
use Rattle.script_runs.specs.Texts.{WritesText}
use Rattle.script_runs.specs.declared.status.Status.{Status}
use Rattle.line_view.specs.RunMachines.{found_status}
use Rattle.line_view.proofs.tool.write_end.Goals as goal

pub returns : goal.returns
returns g c =
    let sink0 : SinkState = g.K.Sink.state c.args.sink.now in
    let sink1 : SinkState = g.K.Sink.state c.write_whole.new.sink in
    inl (
      c.in-Ok.text.items,
      c.in-Ok.ensures,
      subst (λ (text : List ℕ). WritesText text (found_status (g.M.RunMachine.rules.finding c.args.lines.now)) sink0 sink1 c.write_whole.result)
          c.as_slice.ensures.value
          (subst (λ (done : Status). WritesText c.as_slice.result.now done sink0 sink1 c.write_whole.result)
          (c.found_status.ensures ∙ ap found_status c.finding.ensures) c.write_whole.ensures),
    )
