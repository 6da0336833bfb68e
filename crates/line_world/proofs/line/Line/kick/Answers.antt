-- The coordinator shuts a meter out.
use Rattle.line_world.proofs.EventSteps.{unreserved}
use Rattle.std.proofs.Common.{Err, true, refl, ap, ◌∙◌}
use Rattle.std.proofs.lemmas.Result.{err_from_is_err_and}
use Rattle.node_rules.specs.Ciphers.{network}
use Rattle.node_rules.specs.Coordinators as coordinators
use Rattle.line_events.specs.declared.event.Answer.TheVariants as answers
use Rattle.line_events.specs.declared.event.StepFault.{StepFault}
use Rattle.line_rules.specs.Steps.{kick, by_coordinator}
use Rattle.line_world.specs.Lines.{world_of}
use Rattle.line_world.proofs.Orders.{about, has_ordered, meter_not_found, about_taken}
use Rattle.line_world.proofs.line.Line.kick.Goals as goal

pub returns-in_err-number : goal.returns-in_err-number
unfolding kick
returns-in_err-number c =
    let p = err_from_is_err_and c.from_residual.result c.from_residual.ensures.1 in
    rw p.1 (meter_not_found true (world_of c.args.self.now) c.args.node _ p.0 c.requires.bounds (ap (λ (f : StepFault). Err f) p.2 ∙ c.in_err-number.ensures))

pub returns-in_err-reserve : goal.returns-in_err-reserve
unfolding kick
returns-in_err-reserve c =
    let w = world_of c.args.self.now in
    let p = err_from_is_err_and c.from_residual-in_err-reserve.result c.from_residual-in_err-reserve.ensures.1 in
    rw p.1 (unreserved w (world_of c.reserve.new.self) _ p.0 c.requires.bounds c.reserve.ensures.world
    (about_taken w c.args.node c.in_ok-number.number c.requires.bounds c.requires.events c.in_ok-number.ensures
    (λ x e. by_coordinator network w e answers.Kicked (λ m. coordinators.kick m x.eui)))
    (ap (λ (f : StepFault). Err f) p.2 ∙ c.in_err-reserve.ensures.err))

pub eui-eui-requires-clause-there : goal.eui-eui-requires-clause-there
eui-eui-requires-clause-there c =
    (about (world_of c.args.self.now) (world_of c.reserve.new.self) (world_of c.reserve.new.self) c.args.node c.in_ok-number.number c.reserve.ensures.world
    c.requires.bounds
    c.requires.events c.in_ok-number.ensures).there.within

pub returns : goal.returns
unfolding kick
returns c =
    has_ordered (world_of c.args.self.now) (world_of c.reserve.new.self) (world_of c.node_outcome.new.self) c.args.node c.in_ok-number.number
    c.reserve.ensures.world
    c.requires.bounds
    c.requires.events c.in_ok-number.ensures (λ it. kick network it c.args.node) answers.Kicked (λ x e k. coordinators.kick k e)
    c.eui-eui.result c.kick-done.result c.kick-done.new.out c.kick-done.new.self c.ordered_word.result c.node_outcome.result refl c.eui-eui.ensures
    c.kick-done.ensures
    c.node_outcome.ensures.frames
    c.node_outcome.ensures.tags c.ordered_word.ensures c.node_outcome.ensures.reported c.node_outcome.ensures.world
