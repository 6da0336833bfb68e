use Rattle.std.proofs.Common.{Bool, ◌+◌, ◌-◌, ◌∙◌, ap, arith}
use Rattle.line_simulation.specs.declared.turns.TheConstants.{MOST_WORK}
use Rattle.line_simulation.specs.Simulations.{state_of}
use Rattle.line_simulation.specs.Turns.{on_while, carried_on}
use Rattle.line_simulation.proofs.Loops.{carried_by, carried_stops, carried_all}
use Rattle.line_simulation.proofs.simulation.Simulation.carry_on.Goals as goal

pub loop-turn-preserved : goal.loop-turn-preserved
loop-turn-preserved g c =
    carried_by g.R.Recording.recorder MOST_WORK c.loop-turn.turn _ _ _ _ c.loop-turn-test.true c.loop-turn.invariant c.in-Ok-true.ensures
    ∙ ap (λ (b : Bool). on_while (carried_on g.R.Recording.recorder (MOST_WORK - (c.loop-turn.turn + 1))) b (state_of c.carry_one.new.self))
    c.in-Ok-true.field-0-test

pub returns-in-Ok-false : goal.returns-in-Ok-false
returns-in-Ok-false g c =
    carried_by g.R.Recording.recorder MOST_WORK c.loop-turn.turn _ _ _ _ c.loop-turn-test.true c.loop-turn.invariant c.in-Ok-false.ensures
    ∙ ap (λ (b : Bool). on_while (carried_on g.R.Recording.recorder (MOST_WORK - (c.loop-turn.turn + 1))) b (state_of c.carry_one.new.self))
    c.in-Ok-false.field-0-test

pub returns-in-Err : goal.returns-in-Err
returns-in-Err g c =
    carried_stops g.R.Recording.recorder MOST_WORK c.loop-turn.turn _ _ c.in-Err.stop _ c.loop-turn-test.true c.loop-turn.invariant c.in-Err.ensures

pub returns : goal.returns
returns g c =
    c.loop-turn.invariant ∙ carried_all g.R.Recording.recorder MOST_WORK c.loop-turn.turn _ (omega (arith, c.loop-turn-test.false))
