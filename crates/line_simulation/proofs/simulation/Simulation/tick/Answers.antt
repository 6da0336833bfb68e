use Rattle.std.proofs.Common.{rules, ◌≡◌, ℕ, ◌+◌, ◌-◌, ◌∙◌, ap, arith}
use Rattle.line_simulation.specs.Simulations.{state_of}
use Rattle.line_simulation.specs.Steps.{ticked}
use Rattle.line_simulation.proofs.Loops.{ticked_goes, ticked_stops, ticked_all}
use Rattle.line_simulation.proofs.simulation.Simulation.tick.Goals as goal

pub loop-turn-preserved : goal.loop-turn-preserved
loop-turn-preserved g c =
    let same : c.tick_of-step.result ≡ c.from-gap.result = search rules in
    ticked_goes g.R.Recording.recorder c.args.ticks c.loop-turn.turn c.loop-turn.gap c.tick_of-step.result _ _ _ _ c.loop-turn-test.true
    c.tick_of-step.ensures.value c.loop-turn.invariant c.in-Ok.ensures
    ∙ ap (λ (m : ℕ). ticked g.R.Recording.recorder (c.args.ticks - (c.loop-turn.turn + 1)) (c.loop-turn.gap - m) (state_of c.step_now.new.self)) same

pub returns-in-Err : goal.returns-in-Err
returns-in-Err g c =
    ticked_stops g.R.Recording.recorder c.args.ticks c.loop-turn.turn c.loop-turn.gap c.tick_of-step.result _ _ c.in-Err.stop _ c.loop-turn-test.true
    c.tick_of-step.ensures.value c.loop-turn.invariant c.in-Err.ensures

pub returns : goal.returns
returns g c =
    c.loop-turn.invariant
    ∙ ticked_all g.R.Recording.recorder c.args.ticks c.loop-turn.turn c.loop-turn.gap _ (omega (arith, c.loop-turn-test.false))
