use Rattle.std.proofs.Common.{◌≡◌, ◌-◌}
use Rattle.line_simulation.specs.Simulations.{state_of}
use Rattle.line_simulation.specs.Steps.{ticked}
use Rattle.line_simulation.proofs.simulation.Simulation.tick.Given as goal

abbrev pub invariant-loop-turn : goal.invariant-loop-turn
invariant-loop-turn g l =
    ticked g.R.Recording.recorder l.ticks l.seconds (state_of l.fn.self) ≡ ticked g.R.Recording.recorder (l.ticks - l.turn) l.gap (state_of l.self)
