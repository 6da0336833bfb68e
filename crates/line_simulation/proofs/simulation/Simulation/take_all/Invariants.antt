use Rattle.std.proofs.Common.{◌≡◌, ◌-◌, drop, length}
use Rattle.line_simulation.specs.Arrivals.{all_brought}
use Rattle.line_simulation.specs.Simulations.{state_of}
use Rattle.line_simulation.proofs.simulation.Simulation.take_all.Given as goal

abbrev pub invariant-loop-nth : goal.invariant-loop-nth
invariant-loop-nth g l = state_of l.self ≡ all_brought l.hops (drop (length l.brought - l.nth) l.brought) (state_of l.fn.self)
