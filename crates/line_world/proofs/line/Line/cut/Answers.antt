-- A node will lose power.
use Rattle.std.proofs.Common.{Some, false, ap, ◌∙◌, Err}
use Rattle.line_events.specs.declared.event.StepFault.{StepFault}
use Rattle.std.proofs.lemmas.Result.{err_from_is_err_and}
use Rattle.node_rules.specs.Memory.{Node}
use Rattle.node_rules.specs.NodeSteps.{stays}
use Rattle.line_events.specs.declared.event.Answer.TheVariants as answers
use Rattle.line_rules.specs.Steps.{cut}
use Rattle.line_world.specs.Lines.{world_of}
use Rattle.line_world.proofs.EventSteps.{steps_as, begun, at_node, is_there, node_said, not_found, has_coordinator}
use Rattle.line_world.proofs.line.Line.cut.Goals as goal

pub returns-in_err-number : goal.returns-in_err-number
unfolding cut
returns-in_err-number c =
    let p = err_from_is_err_and c.from_residual.result c.from_residual.ensures.1 in
    rw p.1 (not_found false (world_of c.args.self.now) c.args.node _ p.0 c.requires.bounds (ap (λ (f : StepFault). Err f) p.2 ∙ c.in_err-number.ensures))

pub cut-requires-clause-there : goal.cut-requires-clause-there
cut-requires-clause-there c = (is_there (world_of c.args.self.now) c.args.node c.in_ok-number.number c.in_ok-number.ensures).within

pub returns : goal.returns
unfolding cut
returns c =
    let w = world_of c.args.self.now in
    let there = is_there w c.args.node c.in_ok-number.number c.in_ok-number.ensures in
    steps_as _ _ (begun w _ (has_coordinator (world_of c.args.self.now) c.args.node c.in_ok-number.number c.in_ok-number.ensures)
    ∙ at_node w c.args.node there.node _ there.at)
    (node_said false w _ there (λ (x : Node). stays
    (record x { store = record x.store { cut = Some (record { nth = c.args.nth; keeps_new = c.args.keeps_new }) } }) answers.Set) answers.Set _ _
    c.requires.bounds c.requires.events c.cut.ensures c.answered.ensures.reported (ap world_of c.answered.ensures.line))
