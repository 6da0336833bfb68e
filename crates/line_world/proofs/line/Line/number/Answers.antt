-- The last own number of a node is set.
use Rattle.std.proofs.Common.{Ok, ap, ◌∙◌, Err, refl}
use Rattle.line_events.specs.declared.event.StepFault.{StepFault}
use Rattle.line_events.specs.declared.event.StepFault.TheVariants as faults
use Rattle.std.proofs.lemmas.Result.{err_from_is_err_and}
use Rattle.node_rules.specs.Calls as calls
use Rattle.node_rules.specs.NodeSteps.{acts, of_station}
use Rattle.line_events.specs.declared.event.Answer.TheVariants as answers
use Rattle.line_rules.specs.Steps.{happenings}
use Rattle.line_world.specs.declared.line.Line.{Line}
use Rattle.line_world.specs.Lines.{world_of}
use Rattle.line_world.proofs.EventSteps.{is_there, refused}
use Rattle.line_world.proofs.SetupSteps.{no_setup, value_set, stays_uncut, no_such_node}
use Rattle.line_world.proofs.line.Line.number.Goals as goal

pub returns-then-not-takes_setup : goal.returns-then-not-takes_setup
returns-then-not-takes_setup c = refused faults.Setup refl _ _ _ c.requires.bounds (no_setup (world_of c.args.self.now) _ c.if-not-takes_setup.ensures)

pub returns-in_err-number : goal.returns-in_err-number
returns-in_err-number c =
    let p = err_from_is_err_and c.from_residual.result c.from_residual.ensures.1 in
    rw p.1 (no_such_node (world_of c.args.self.now) c.args.node _ p.0 c.requires.bounds c.if-not-takes_setup.ensures
    (ap (λ (f : StepFault). Err f) p.2 ∙ c.in_err-number.ensures))

pub returns : goal.returns
returns c =
    let w = world_of c.args.self.now in
    let there = is_there w c.args.node c.in_ok-number.number c.in_ok-number.ensures in
    value_set w _ there (λ x. acts x (Ok tt) (λ m. of_station m (calls.preset_number m.station c.args.value))) _ _ _ c.requires.bounds c.requires.events
    c.if-not-takes_setup.ensures (λ x u. stays_uncut x _ _ u) c.preset_number.ensures
    (c.happenings.ensures ∙ ap (λ (l : Line). happenings (world_of l) answers.Set) c.set_up.ensures) (ap world_of c.set_up.ensures)
