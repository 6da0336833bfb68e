-- The coordinator draws a key.
use Rattle.std.proofs.Common.{Err, false, ap, ◌∙◌, refl}
use Rattle.line_events.specs.declared.event.StepFault.TheVariants as faults
use Rattle.node_rules.specs.declared.refusal.CoordinatorRefusal.TheVariants as orders
use Rattle.node_rules.specs.Coordinators as coordinators
use Rattle.node_rules.specs.NodeSteps.{acts}
use Rattle.line_events.specs.declared.event.Answer.TheVariants as answers
use Rattle.line_rules.specs.Answers.{ordered_word}
use Rattle.line_rules.specs.Steps.{happenings, rekey}
use Rattle.line_world.specs.Lines.{world_of}
use Rattle.line_world.proofs.EventSteps.{steps_as, unbegun, node_answered, refused}
use Rattle.line_world.proofs.Orders.{Runs, by_first, first_there}
use Rattle.line_world.proofs.line.Line.rekey.Goals as goal

pub returns-then-not-has_begun : goal.returns-then-not-has_begun
unfolding rekey
returns-then-not-has_begun c = refused faults.Setup refl _ _ _ c.requires.bounds (unbegun (world_of c.args.self.now) _ c.if-not-has_begun.ensures)

pub returns : goal.returns
unfolding rekey
returns c =
    let w = world_of c.args.self.now in
    let r : Runs w = record { begun = c.if-not-has_begun.ensures; bounds = c.requires.bounds; room = c.requires.events } in
    steps_as _ _ (by_first r _)
    (node_answered false w _ (first_there w r.begun) (λ x. acts x (Err orders.Halted) (λ m. coordinators.rekey m c.args.index c.args.key.now))
    (ordered_word answers.Drawn) _ _ _
    r.bounds r.room c.rekey-done.ensures (c.answered.ensures.reported ∙ ap (λ a. happenings w a) c.ordered_word.ensures) (ap world_of c.answered.ensures.line))
