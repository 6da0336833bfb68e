use Rattle.std.proofs.Common.{refl}
use Rattle.line_simulation.specs.Simulations.{state_of}
use Rattle.line_sim.proofs.tool.run_line.Goals as goal

pub returns : goal.returns
returns g c =
    rw c.in-Ok.ensures
    (c.write_run.ensures (record { whole = c.in-Ok.whole; simulated = state_of c.run_whole.new.self }) refl refl)
