use Rattle.std.proofs.Common.{◌≡◌, ◌-◌}
use Rattle.line_simulation.specs.declared.turns.TheConstants.{MOST_TURNS}
use Rattle.line_simulation.specs.Simulations.{state_of}
use Rattle.line_simulation.specs.Turns.{turns_done}
use Rattle.line_simulation.proofs.simulation.Simulation.do_turns.Given as goal

abbrev pub invariant-loop-turn : goal.invariant-loop-turn
invariant-loop-turn g l =
    turns_done g.R.Recording.recorder l.end MOST_TURNS (state_of l.fn.self) ≡ turns_done g.R.Recording.recorder l.end (MOST_TURNS - l.turn) (state_of l.self)
