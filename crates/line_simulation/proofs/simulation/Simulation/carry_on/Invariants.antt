use Rattle.std.proofs.Common.{◌≡◌, ◌-◌}
use Rattle.line_simulation.specs.declared.turns.TheConstants.{MOST_WORK}
use Rattle.line_simulation.specs.Simulations.{state_of}
use Rattle.line_simulation.specs.Turns.{carried_on}
use Rattle.line_simulation.proofs.simulation.Simulation.carry_on.Given as goal

abbrev pub invariant-loop-turn : goal.invariant-loop-turn
invariant-loop-turn g l =
    carried_on g.R.Recording.recorder MOST_WORK (state_of l.fn.self) ≡ carried_on g.R.Recording.recorder (MOST_WORK - l.turn) (state_of l.self)
