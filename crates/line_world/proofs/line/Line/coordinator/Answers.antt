-- The coordinator is made.
use Rattle.std.specs.Prelude.{is_ok}
use Rattle.std.proofs.Common.{ap, ◌∙◌, refl, [], ◌∷◌, ◌++◌}
use Rattle.line_events.specs.declared.event.StepFault.TheVariants as faults
use Rattle.line_events.specs.declared.event.Answer.TheVariants as answers
use Rattle.line_rules.specs.Worlds.{World}
use Rattle.line_rules.specs.Steps.{happenings, set_up}
use Rattle.line_world.specs.declared.line.Line.{Line}
use Rattle.line_world.specs.Lines.{world_of}
use Rattle.line_world.proofs.EventSteps.{refused, out_of_memory}
use Rattle.line_world.proofs.SetupSteps.{had_begun, first_made, went_well, makes_first, went_badly}
use Rattle.line_world.proofs.line.Line.coordinator.Goals as goal

pub returns-then-has_begun : goal.returns-then-has_begun
returns-then-has_begun c = refused faults.Setup refl _ _ _ c.requires.bounds (had_begun (world_of c.args.self.now) _ _ c.if-has_begun.ensures)

pub returns-then-is_err : goal.returns-then-is_err
returns-then-is_err c =
    let w = world_of c.args.self.now in
    out_of_memory w _ _ c.requires.bounds (λ i. record w { beside = c.reserve.ensures.items i })
    (ap is_ok (makes_first w c.args.eui c.args.key.now c.if-has_begun.ensures))

pub returns-in_default : goal.returns-in_default
returns-in_default c =
    let w = world_of c.args.self.now in
    out_of_memory w _ _ c.requires.bounds (λ i. record w { beside = c.reserve.ensures.items i })
    (ap is_ok (makes_first w c.args.eui c.args.key.now c.if-has_begun.ensures))

pub returns-then-is_err-2 : goal.returns-then-is_err-2
returns-then-is_err-2 c =
    let w = world_of c.args.self.now in
    out_of_memory w _ _ c.requires.bounds
    (λ i. record w { nodes = went_badly _ c.make_coordinator.ensures.err c.if-is_err-2.ensures.value i; beside = c.reserve.ensures.items i })
    (ap is_ok (makes_first w c.args.eui c.args.key.now c.if-has_begun.ensures))

pub returns : goal.returns
returns c =
    let w = world_of c.args.self.now in
    first_made w _ c.args.eui c.args.key.now _ _ c.requires.bounds c.requires.events c.if-has_begun.ensures
    (went_well _ c.make_coordinator.ensures.ok c.if-is_err-2.ensures.value)
    (c.happenings.ensures ∙ ap (λ (l : Line). happenings (world_of l) answers.Made) c.set_up.ensures
    ∙ ap (λ (v : World). happenings v answers.Made) c.hold_beside.ensures)
    (ap world_of c.set_up.ensures ∙ ap (λ (v : World). set_up v) c.hold_beside.ensures
    ∙ (λ i. record (set_up w) { nodes = c.make_coordinator.new.self; beside = c.reserve.ensures.items i ++ c.in-Ok.ensures i ∷ [] }))
