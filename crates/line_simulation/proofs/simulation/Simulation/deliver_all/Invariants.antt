use Rattle.std.proofs.Common.{◌≡◌, drop}
use Rattle.line_simulation.specs.Arrivals.{delivered_each}
use Rattle.line_simulation.specs.Simulations.{state_of}
use Rattle.line_simulation.proofs.simulation.Simulation.deliver_all.Given as goal

abbrev pub invariant-loop-node : goal.invariant-loop-node
invariant-loop-node g l =
    delivered_each g.R.Recording.recorder l.from l.flight l.came l.initial.brought.items (state_of l.fn.self)
    ≡ delivered_each g.R.Recording.recorder l.from l.flight (drop l.node-index l.came) l.brought.items (state_of l.self)
