-- The coordinator allows a meter.
use Rattle.std.proofs.Common.{◌≡◌, ℕ, Some, Result, Ok, Err, sym, ap, ◌∙◌, arith, false}
use Rattle.line_events.specs.declared.event.StepFault.{StepFault}
use Rattle.std.proofs.lemmas.Result.{err_from_is_err_and}
use Rattle.std.specs.Option.{option_map_or}
use Rattle.plc_base.specs.declared.address.Eui.{Eui}
use Rattle.plc_base.specs.declared.key.Key.{Key}
use Rattle.node_rules.specs.declared.refusal.CoordinatorRefusal.{CoordinatorRefusal}
use Rattle.node_rules.specs.declared.refusal.CoordinatorRefusal.TheVariants as orders
use Rattle.node_rules.specs.Ciphers.{network}
use Rattle.node_rules.specs.Coordinators as coordinators
use Rattle.node_rules.specs.Memory.{Node}
use Rattle.node_rules.specs.NodeSteps.{NodeStep, acts}
use Rattle.line_events.specs.declared.event.StepFault.TheVariants as faults
use Rattle.line_rules.specs.Steps.{allow, allowed, happenings, psk_of}
use Rattle.line_rules.specs.Worlds.{World}
use Rattle.line_world.specs.Lines.{world_of}
use Rattle.line_world.proofs.EventSteps.{steps_as}
use Rattle.line_world.proofs.Orders.{IsMeter, Runs, about_meter, first_there, has_allowed, is_meter, of_found, within_line, meter_not_found, meter_begun}
use Rattle.line_world.proofs.line.Line.allow.Goals as goal

pub returns-in_err-number : goal.returns-in_err-number
unfolding allow
returns-in_err-number c =
    let p = err_from_is_err_and c.from_residual.result c.from_residual.ensures.1 in
    rw p.1 (meter_not_found false (world_of c.args.self.now) c.args.node _ p.0 c.requires.bounds (ap (λ (f : StepFault). Err f) p.2 ∙ c.in_err-number.ensures))

pub eui-eui-requires-clause-there : goal.eui-eui-requires-clause-there
eui-eui-requires-clause-there c = (is_meter (world_of c.args.self.now) c.args.node c.in_ok-number.number c.in_ok-number.ensures).there.within

pub psk-psk-requires-clause-there : goal.psk-psk-requires-clause-there
psk-psk-requires-clause-there c = (is_meter (world_of c.args.self.now) c.args.node c.in_ok-number.number c.in_ok-number.ensures).there.within

pub overflow_cast-happenings : goal.overflow_cast-happenings
overflow_cast-happenings c =
    let w = world_of c.args.self.now in
    let small = within_line c.requires.bounds (is_meter w c.args.node c.in_ok-number.number c.in_ok-number.ensures).there in
    omega (arith, small)

-- what the coordinator does with the EUI and the pair key that were asked for
allows : Eui → Key → Node → NodeStep (Result ℕ CoordinatorRefusal)
allows eui psk x = acts x (Err orders.Halted) (λ m. coordinators.allow m eui psk)

-- the rule, for a meter with this EUI and this pair key
allow_is : {w : World} {number found : ℕ} (r : Runs w) (m : IsMeter w number found) (eui : Eui) (psk : Key) → eui ≡ m.there.node.eui
    → psk_of m.there.node ≡ Some psk
    → allow network w number ≡ Ok (allowed network w number (allows eui psk (first_there w r.begun).node))
unfolding allow allows
allow_is {w} {number} r m eui psk eui_is psk_is =
    let c = (first_there w r.begun).node in
    about_meter r m _ ∙ (λ i. option_map_or (λ key. Ok (allowed network w number (acts c (Err orders.Halted) (λ k. coordinators.allow k (sym eui_is i) key))))
    (psk_is i) (Err faults.Node))

pub returns-in-Ok : goal.returns-in-Ok
unfolding allows
returns-in-Ok c =
    let w = world_of c.args.self.now in
    let r : Runs w = record {
      begun = (meter_begun (world_of c.args.self.now) c.args.node c.in_ok-number.number c.in_ok-number.ensures);
      bounds = c.requires.bounds;
      room = c.requires.events;
    } in
    let m = is_meter w c.args.node c.in_ok-number.number c.in_ok-number.ensures in
    let eui = c.eui-eui.result in
    let psk = c.psk-psk.result in
    let eui_is = of_found m.there (λ (x : Node). eui ≡ x.eui) c.eui-eui.ensures in
    let psk_is = of_found m.there (λ (x : Node). psk_of x ≡ Some psk) c.psk-psk.ensures in
    let same = m.there.same in
    steps_as _ _ (allow_is r m eui psk eui_is psk_is)
    (has_allowed w _ c.args.node (first_there w r.begun) (allows eui psk) (Ok c.in-Ok.address) _ _ r.bounds r.room c.in-Ok.ensures
    (λ i. record (c.answered-happenings.ensures.reported i) { grant = Some (record { node = same i; address = c.in-Ok.address }) })
    (ap world_of c.answered-happenings.ensures.line))

pub returns-in-Err : goal.returns-in-Err
unfolding allows
returns-in-Err c =
    let w = world_of c.args.self.now in
    let r : Runs w = record {
      begun = (meter_begun (world_of c.args.self.now) c.args.node c.in_ok-number.number c.in_ok-number.ensures);
      bounds = c.requires.bounds;
      room = c.requires.events;
    } in
    let m = is_meter w c.args.node c.in_ok-number.number c.in_ok-number.ensures in
    let eui = c.eui-eui.result in
    let psk = c.psk-psk.result in
    let eui_is = of_found m.there (λ (x : Node). eui ≡ x.eui) c.eui-eui.ensures in
    let psk_is = of_found m.there (λ (x : Node). psk_of x ≡ Some psk) c.psk-psk.ensures in
    steps_as _ _ (allow_is r m eui psk eui_is psk_is)
    (has_allowed w _ c.args.node (first_there w r.begun) (allows eui psk) (Err c.in-Err.reason) _ _ r.bounds r.room c.in-Err.ensures
    (c.answered.ensures.reported ∙ ap (λ a. happenings w a) c.order_word.ensures) (ap world_of c.answered.ensures.line))
