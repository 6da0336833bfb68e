-- A node shows what it holds.
use Rattle.std.proofs.Common.{◌≡◌, Some, false, ap, ◌∙◌, Err}
use Rattle.line_events.specs.declared.event.StepFault.{StepFault}
use Rattle.std.proofs.lemmas.Result.{err_from_is_err_and}
use Rattle.node_rules.specs.ShownNodes.{shown_of}
use Rattle.line_events.specs.declared.event.Answer.TheVariants as answers
use Rattle.line_rules.specs.Steps.{happenings, running_world, show, trace_of}
use Rattle.line_world.specs.Lines.{world_of}
use Rattle.line_world.proofs.EventSteps.{steps_as, begun, at_node, is_there, holds_there, only_ran, not_found, has_coordinator}
use Rattle.line_world.proofs.line.Line.show.Goals as goal

pub returns-in_err-number : goal.returns-in_err-number
unfolding show
returns-in_err-number c =
    let p = err_from_is_err_and c.from_residual.result c.from_residual.ensures.1 in
    rw p.1 (not_found false (world_of c.args.self.now) c.args.node _ p.0 c.requires.bounds (ap (λ (f : StepFault). Err f) p.2 ∙ c.in_err-number.ensures))

pub show-requires : goal.show-requires
show-requires c = record { there = (is_there (world_of c.args.self.now) c.args.node c.in_ok-number.number c.in_ok-number.ensures).within }

pub returns : goal.returns
unfolding show
returns c =
    let w = world_of c.args.self.now in
    let there = is_there w c.args.node c.in_ok-number.number c.in_ok-number.ensures in
    let shown = c.new.ensures ∙ holds_there there (λ x. c.show.new.out ≡ shown_of x) c.show.ensures.shown in
    steps_as _ _ (begun w _ (has_coordinator (world_of c.args.self.now) c.args.node c.in_ok-number.number c.in_ok-number.ensures)
    ∙ at_node w c.args.node there.node _ there.at)
    (only_ran false w _ (trace_of (record (happenings w answers.Shown) { shown = Some (shown_of there.node) })) _ c.requires.bounds c.requires.events
    (λ i. record (c.answered-happenings.ensures.reported i) { shown = Some (shown i) })
    (ap world_of c.answered-happenings.ensures.line ∙ (λ i. record (running_world w) { nodes = c.show.ensures.same i })))
