-- A meter is joined in the workshop.
use Rattle.std.proofs.Common.{◌≡◌, ◌<◌, ◌≤◌, length, ap, refl, subst, sym, ◌∙◌, arith, Err}
use Rattle.line_events.specs.declared.event.StepFault.{StepFault}
use Rattle.line_events.specs.declared.event.StepFault.TheVariants as faults
use Rattle.std.proofs.lemmas.Result.{err_from_is_err_and}
use Rattle.line_events.specs.declared.event.Answer.TheVariants as answers
use Rattle.line_rules.specs.Steps.{depot, happenings}
use Rattle.line_world.specs.declared.line.Line.{Line}
use Rattle.line_world.specs.Lines.{world_of}
use Rattle.line_world.proofs.EventSteps.{is_there, refused}
use Rattle.line_world.proofs.SetupSteps.{no_setup, depot_first, depot_joined, depot_not_granted, depot_granted, as_long, no_such_node}
use Rattle.line_world.proofs.line.Line.depot.Goals as goal

pub returns-then-not-takes_setup : goal.returns-then-not-takes_setup
unfolding depot
returns-then-not-takes_setup c = refused faults.Setup refl _ _ _ c.requires.bounds (no_setup (world_of c.args.self.now) _ c.if-not-takes_setup.ensures)

pub returns-in_err-number : goal.returns-in_err-number
unfolding depot
returns-in_err-number c =
    let p = err_from_is_err_and c.from_residual.result c.from_residual.ensures.1 in
    rw p.1 (no_such_node (world_of c.args.self.now) c.args.node _ p.0 c.requires.bounds c.if-not-takes_setup.ensures
    (ap (λ (f : StepFault). Err f) p.2 ∙ c.in_err-number.ensures))

pub returns-then-number-eq0 : goal.returns-then-number-eq0
returns-then-number-eq0 c =
    let w = world_of c.args.self.now in
    let there = is_there w c.args.node c.in_ok-number.number c.in_ok-number.ensures in
    refused faults.Setup refl _ _ _ c.requires.bounds (depot_first there c.if-not-takes_setup.ensures c.if-number-eq0.true)

pub address-requires : goal.address-requires
address-requires c = record { there = (is_there (world_of c.args.self.now) c.args.node c.in_ok-number.number c.in_ok-number.ensures).within }

pub returns-then-is_some : goal.returns-then-is_some
returns-then-is_some c =
    let w = world_of c.args.self.now in
    let there = is_there w c.args.node c.in_ok-number.number c.in_ok-number.ensures in
    let above : 1 ≤ c.in_ok-number.number = omega (arith, c.if-number-eq0.false) in
    refused faults.Setup refl _ _ _ c.requires.bounds
    (depot_joined there c.address.result c.if-not-takes_setup.ensures above c.address.ensures c.if-is_some.ensures)

pub eui-eui-requires-clause-there : goal.eui-eui-requires-clause-there
eui-eui-requires-clause-there c = (is_there (world_of c.args.self.now) c.args.node c.in_ok-number.number c.in_ok-number.ensures).within

pub psk-psk-requires-clause-there : goal.psk-psk-requires-clause-there
psk-psk-requires-clause-there c = (is_there (world_of c.args.self.now) c.args.node c.in_ok-number.number c.in_ok-number.ensures).within

pub returns-in_default : goal.returns-in_default
returns-in_default c =
    let w = world_of c.args.self.now in
    let there = is_there w c.args.node c.in_ok-number.number c.in_ok-number.ensures in
    let above : 1 ≤ c.in_ok-number.number = omega (arith, c.if-number-eq0.false) in
    depot_not_granted _ there c.address.result c.eui-eui.result c.psk-psk.result c.depot.result c.depot.new.self c.requires.bounds c.if-not-takes_setup.ensures
    above c.address.ensures
    c.if-is_some.ensures c.eui-eui.ensures c.psk-psk.ensures c.depot.ensures c.in_default.not-Ok refl

pub provision-requires-clause-there : goal.provision-requires-clause-there
provision-requires-clause-there c =
    let w = world_of c.args.self.now in
    let there = is_there w c.args.node c.in_ok-number.number c.in_ok-number.ensures in
    let long : length c.depot.new.self
    ≡ length w.nodes = as_long w c.eui-eui.result c.psk-psk.result c.depot.result c.depot.new.self c.if-not-takes_setup.ensures c.depot.ensures in
    subst (λ n. c.in_ok-number.number < n) (sym long) there.within

pub returns : goal.returns
returns c =
    let w = world_of c.args.self.now in
    let there = is_there w c.args.node c.in_ok-number.number c.in_ok-number.ensures in
    let above : 1 ≤ c.in_ok-number.number = omega (arith, c.if-number-eq0.false) in
    depot_granted _ there c.address.result c.eui-eui.result c.psk-psk.result c.depot.result c.in-Ok.grant c.provision.result c.depot.new.self
    c.provision.new.self _ c.requires.bounds
    c.requires.events c.if-not-takes_setup.ensures above c.address.ensures c.if-is_some.ensures c.eui-eui.ensures c.psk-psk.ensures c.depot.ensures c.in-Ok.is
    c.provision.ensures
    (c.happenings.ensures ∙ ap (λ (l : Line). happenings (world_of l) answers.Joined) c.set_up.ensures) (ap world_of c.set_up.ensures)
