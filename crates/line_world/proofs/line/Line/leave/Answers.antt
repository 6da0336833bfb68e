-- A meter leaves.
use Rattle.std.proofs.Common.{Err, false, ap, ◌∙◌}
use Rattle.line_events.specs.declared.event.StepFault.{StepFault}
use Rattle.std.proofs.lemmas.Result.{err_from_is_err_and}
use Rattle.node_rules.specs.declared.refusal.LeaveRefusal.TheVariants as leaves
use Rattle.node_rules.specs.Meters as meters
use Rattle.node_rules.specs.NodeSteps.{acts}
use Rattle.line_rules.specs.Answers.{leave_word}
use Rattle.line_rules.specs.Steps.{happenings, leave}
use Rattle.line_world.specs.Lines.{world_of}
use Rattle.line_world.proofs.EventSteps.{steps_as, begun, node_answered}
use Rattle.line_world.proofs.Orders.{at_meter, is_meter, meter_not_found, meter_begun}
use Rattle.line_world.proofs.line.Line.leave.Goals as goal

pub returns-in_err-number : goal.returns-in_err-number
unfolding leave
returns-in_err-number c =
    let p = err_from_is_err_and c.from_residual.result c.from_residual.ensures.1 in
    rw p.1 (meter_not_found false (world_of c.args.self.now) c.args.node _ p.0 c.requires.bounds (ap (λ (f : StepFault). Err f) p.2 ∙ c.in_err-number.ensures))

pub leave-left-requires-clause-there : goal.leave-left-requires-clause-there
leave-left-requires-clause-there c = (is_meter (world_of c.args.self.now) c.args.node c.in_ok-number.number c.in_ok-number.ensures).there.within

pub returns : goal.returns
unfolding leave
returns c =
    let w = world_of c.args.self.now in
    let m = is_meter w c.args.node c.in_ok-number.number c.in_ok-number.ensures in
    steps_as _ _ (begun w _ (meter_begun (world_of c.args.self.now) c.args.node c.in_ok-number.number c.in_ok-number.ensures) ∙ at_meter m _)
    (node_answered false w _ m.there (λ x. acts x (Err leaves.Halted) meters.leave) leave_word _ _ _ c.requires.bounds c.requires.events
    c.leave-left.ensures (c.answered.ensures.reported ∙ ap (λ a. happenings w a) c.leave_word.ensures) (ap world_of c.answered.ensures.line))
