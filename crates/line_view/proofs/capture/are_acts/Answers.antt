use Rattle.std.proofs.Common.{◌≤◌, All, length, take_all, refl, subst, arith}
use Rattle.std.proofs.lemmas.List.Elements.{All-more}
use Rattle.line_capture.specs.Places.{HasAct}
use Rattle.line_view.proofs.capture.are_acts.Goals as goal

pub loop-recorded-preserved : goal.loop-recorded-preserved
loop-recorded-preserved c =
    All-more HasAct c.args.events.now c.loop-recorded.recorded-index _ c.loop-recorded-test.true c.loop-recorded.invariant
    (c.is_act.ensures.0 c.if-not-is_act.false)

pub returns : goal.returns
returns c =
    let finished : length c.args.events.now ≤ c.loop-recorded.recorded-index = omega (arith, c.loop-recorded-test.false) in
    (λ is. subst (All HasAct) (take_all c.loop-recorded.recorded-index c.args.events.now finished) c.loop-recorded.invariant, λ all. refl)
