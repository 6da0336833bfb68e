use Rattle.std.proofs.Common.{ap}
use Rattle.line_simulation.specs.Simulations.{Simulated, state_of}
use Rattle.line_sim.specs.Recorders.{Recorded}
use Rattle.line_sim.specs.Tool.{Written}
use Rattle.line_sim.proofs.WrittenScripts.{is_run, wrote_run}
use Rattle.line_sim.proofs.tool.write_run.Goals as goal

pub returns-in-Run : goal.returns-in-Run
unfolding state_of
returns-in-Run g c = λ ran whole simulated.
    let s = c.script-script.ensures in
    let recorder = c.args.simulation.now.recording in
    Written (wrote_run recorder c.args.whole c.status_of-done.result c.script-script.result.now
    (is_run g.row.INJECTS recorder s.leads s.fits s.quiet s.causal s.in_order s.clock)
    whole (ap (λ (s : Simulated Recorded). s.recorder) simulated) (rw c.in-Run.is c.script-script.ensures.value)
    (rw (← c.forged.ensures) c.status_of-done.ensures) c.write_whole.ensures)

pub returns-in-Ok : goal.returns-in-Ok
unfolding state_of
returns-in-Ok g c = λ ran whole simulated.
    let s = c.script-script.ensures in
    let recorder = c.args.simulation.now.recording in
    Written (wrote_run recorder c.args.whole c.status_of-done.result c.as_bytes.result.now
    (is_run g.row.INJECTS recorder s.leads s.fits s.quiet s.causal s.in_order s.clock)
    whole (ap (λ (s : Simulated Recorded). s.recorder) simulated) (rw c.in-Measure.is c.as_bytes.ensures.utf8)
    (rw (← c.forged.ensures) c.status_of-done.ensures) c.write_whole-in-Ok.ensures)
