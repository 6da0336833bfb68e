use Rattle.std.proofs.Common.{subst}
use Rattle.line_simulation.specs.Simulations.{state_of}
use Rattle.line_simulation.specs.Start.{IsFirst}
use Rattle.line_sim.proofs.Firsts.{firsts_are_one}
use Rattle.line_sim.specs.Recorders.{Recorded}
use Rattle.line_sim.specs.Simulated.{new_recorder}
use Rattle.line_sim.specs.Tool.{Simulates}
use Rattle.line_sim.proofs.tool.run_over.Goals as goal

pub returns-in-Ok-Simulation : goal.returns-in-Ok-Simulation
returns-in-Ok-Simulation g c =
    let is_first = subst (λ (r : Recorded). IsFirst c.args.plan r (state_of c.in-Ok-Simulation.simulation)) c.in-Ok.ensures
    (rw c.in-Ok-Simulation.field-0-is at c.in-Ok-Simulation.ensures) in
    Simulates (state_of c.in-Ok-Simulation.simulation)
    (record {
      is_first = is_first;
      only = λ other is. firsts_are_one c.args.plan new_recorder (state_of c.in-Ok-Simulation.simulation) other is_first is;
    })
    c.run_line.ensures
