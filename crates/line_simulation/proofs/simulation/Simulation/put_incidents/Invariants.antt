use Rattle.std.proofs.Common.{◌≡◌, drop}
use Rattle.line_simulation.specs.Simulations.{state_of}
use Rattle.line_simulation.specs.Turns.{incidents_put}
use Rattle.line_simulation.proofs.simulation.Simulation.put_incidents.Given as goal

abbrev pub invariant-loop-nth : goal.invariant-loop-nth
invariant-loop-nth g l = incidents_put 0 l.times (state_of l.fn.self) ≡ incidents_put l.nth (drop l.nth l.times) (state_of l.self)
