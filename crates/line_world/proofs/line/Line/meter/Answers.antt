-- A meter is made.
use Rattle.std.specs.Prelude.{is_ok}
use Rattle.std.proofs.Common.{◌<◌, ◌≤◌, length, ap, ◌∙◌, arith, refl, [], ◌∷◌, ◌++◌}
use Rattle.line_events.specs.declared.event.StepFault.TheVariants as faults
use Rattle.line_events.specs.declared.event.Answer.TheVariants as answers
use Rattle.line_rules.specs.Worlds.{World}
use Rattle.line_rules.specs.Steps.{happenings, set_up}
use Rattle.line_world.specs.declared.line.Line.{Line}
use Rattle.line_world.specs.Lines.{world_of}
use Rattle.line_world.proofs.EventSteps.{refused, out_of_memory}
use Rattle.line_world.proofs.SetupSteps.{meter_late, meter_full, meter_known, meter_made, went_well, makes_meter, went_badly}
use Rattle.line_world.proofs.line.Line.meter.Goals as goal

pub returns-then-not-takes_setup : goal.returns-then-not-takes_setup
returns-then-not-takes_setup c = refused faults.Setup refl _ _ _ c.requires.bounds (meter_late (world_of c.args.self.now) _ _ c.if-not-takes_setup.ensures)

pub returns-then-len-ge-MAX_NODES : goal.returns-then-len-ge-MAX_NODES
returns-then-len-ge-MAX_NODES c =
    let w = world_of c.args.self.now in
    let full : 1000 ≤ length w.nodes = omega (arith, c.if-len-ge-MAX_NODES.true, c.len.ensures) in
    refused faults.Setup refl _ _ _ c.requires.bounds (meter_full w _ _ c.if-not-takes_setup.ensures full)

pub returns-then-has : goal.returns-then-has
returns-then-has c =
    let w = world_of c.args.self.now in
    let room : length w.nodes < 1000 = omega (arith, c.if-len-ge-MAX_NODES.false, c.len.ensures) in
    refused faults.Setup refl _ _ _ c.requires.bounds (meter_known w _ _ c.if-not-takes_setup.ensures room c.if-has.ensures)

pub returns-then-is_err : goal.returns-then-is_err
returns-then-is_err c =
    let w = world_of c.args.self.now in
    let room : length w.nodes < 1000 = omega (arith, c.if-len-ge-MAX_NODES.false, c.len.ensures) in
    out_of_memory w _ _ c.requires.bounds (λ i. record w { beside = c.reserve.ensures.items i })
    (ap is_ok (makes_meter w c.args.eui c.args.psk c.if-not-takes_setup.ensures room c.if-has.ensures))

pub returns-in_default : goal.returns-in_default
returns-in_default c =
    let w = world_of c.args.self.now in
    let room : length w.nodes < 1000 = omega (arith, c.if-len-ge-MAX_NODES.false, c.len.ensures) in
    out_of_memory w _ _ c.requires.bounds (λ i. record w { beside = c.reserve.ensures.items i })
    (ap is_ok (makes_meter w c.args.eui c.args.psk c.if-not-takes_setup.ensures room c.if-has.ensures))

pub returns-then-is_err-2 : goal.returns-then-is_err-2
returns-then-is_err-2 c =
    let w = world_of c.args.self.now in
    let room : length w.nodes < 1000 = omega (arith, c.if-len-ge-MAX_NODES.false, c.len.ensures) in
    out_of_memory w _ _ c.requires.bounds
    (λ i. record w { nodes = went_badly _ c.make_meter.ensures.err c.if-is_err-2.ensures.value i; beside = c.reserve.ensures.items i })
    (ap is_ok (makes_meter w c.args.eui c.args.psk c.if-not-takes_setup.ensures room c.if-has.ensures))

pub returns : goal.returns
returns c =
    let w = world_of c.args.self.now in
    let room : length w.nodes < 1000 = omega (arith, c.if-len-ge-MAX_NODES.false, c.len.ensures) in
    meter_made w _ c.args.eui c.args.psk _ _ c.requires.bounds c.requires.events c.if-not-takes_setup.ensures room c.if-has.ensures
    (went_well _ c.make_meter.ensures.ok c.if-is_err-2.ensures.value)
    (c.happenings.ensures ∙ ap (λ (l : Line). happenings (world_of l) answers.Made) c.set_up.ensures
    ∙ ap (λ (v : World). happenings v answers.Made) c.hold_beside.ensures)
    (ap world_of c.set_up.ensures ∙ ap (λ (v : World). set_up v) c.hold_beside.ensures
    ∙ (λ i. record (set_up w) { nodes = c.make_meter.new.self; beside = c.reserve.ensures.items i ++ c.in-Ok.ensures i ∷ [] }))
