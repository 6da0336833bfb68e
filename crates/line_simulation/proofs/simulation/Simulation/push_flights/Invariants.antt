use Rattle.std.proofs.Common.{◌≡◌, ◌-◌}
use Rattle.line_simulation.specs.Effects.{with_flights}
use Rattle.line_simulation.specs.Simulations.{state_of}
use Rattle.line_simulation.proofs.simulation.Simulation.push_flights.Given as goal

abbrev pub invariant-loop-nth : goal.invariant-loop-nth
invariant-loop-nth g l = with_flights l.first l.count l.hops (state_of l.fn.self) ≡ with_flights l.first (l.count - l.nth) l.hops (state_of l.self)
