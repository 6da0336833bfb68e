use Rattle.std.proofs.Common.{◌≡◌, ◌-◌, drop, length}
use Rattle.line_simulation.specs.Attacks.{with_releases}
use Rattle.line_simulation.specs.Simulations.{state_of}
use Rattle.line_simulation.proofs.simulation.Simulation.push_releases.Given as goal

abbrev pub invariant-loop-nth : goal.invariant-loop-nth
invariant-loop-nth g l = state_of l.self ≡ with_releases l.node (drop (length l.kept - l.nth) l.kept) (state_of l.fn.self)
