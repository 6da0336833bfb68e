use Rattle.std.proofs.Common.{Bool, ◌+◌, ◌-◌, ◌∙◌, ap, arith}
use Rattle.line_simulation.specs.declared.turns.TheConstants.{MOST_TURNS}
use Rattle.line_simulation.specs.Simulations.{state_of}
use Rattle.line_simulation.specs.Turns.{on_while, turns_done}
use Rattle.line_simulation.proofs.Loops.{turned_by, turned_stops, turned_all}
use Rattle.line_simulation.proofs.simulation.Simulation.do_turns.Goals as goal

pub loop-turn-preserved : goal.loop-turn-preserved
loop-turn-preserved g c =
    turned_by g.R.Recording.recorder c.args.end MOST_TURNS c.loop-turn.turn _ _ _ _ c.loop-turn-test.true c.loop-turn.invariant c.in-Ok-true.ensures
    ∙ ap (λ (b : Bool). on_while (turns_done g.R.Recording.recorder c.args.end (MOST_TURNS - (c.loop-turn.turn + 1))) b (state_of c.do_turn.new.self))
    c.in-Ok-true.field-0-test

pub returns-in-Ok-false : goal.returns-in-Ok-false
returns-in-Ok-false g c =
    turned_by g.R.Recording.recorder c.args.end MOST_TURNS c.loop-turn.turn _ _ _ _ c.loop-turn-test.true c.loop-turn.invariant c.in-Ok-false.ensures
    ∙ ap (λ (b : Bool). on_while (turns_done g.R.Recording.recorder c.args.end (MOST_TURNS - (c.loop-turn.turn + 1))) b (state_of c.do_turn.new.self))
    c.in-Ok-false.field-0-test

pub returns-in-Err : goal.returns-in-Err
returns-in-Err g c =
    turned_stops g.R.Recording.recorder c.args.end MOST_TURNS c.loop-turn.turn _ _ c.in-Err.stop _ c.loop-turn-test.true c.loop-turn.invariant
    c.in-Err.ensures

pub returns : goal.returns
returns g c =
    c.loop-turn.invariant ∙ turned_all g.R.Recording.recorder c.args.end MOST_TURNS c.loop-turn.turn _ (omega (arith, c.loop-turn-test.false))
