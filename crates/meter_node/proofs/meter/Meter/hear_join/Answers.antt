use Rattle.std.proofs.Common.{sym, ap, refl, ◌∙◌}
use Rattle.std.specs.Option.{option_map}
use Rattle.plc_base.specs.Addresses.{eui_number}
use Rattle.node_rules.specs.Meters as meters
use Rattle.node_rules.specs.declared.refusal.Dropped.TheVariants.{BadUnit}
use Rattle.meter_node.specs.Sessions.{session_of}
use Rattle.meter_node.specs.MeterStates.{MeterState, memory_with, identity_of}
use Rattle.meter_node.proofs.CommandRules.{other_number, same_number}
use Rattle.meter_node.proofs.HearingRules.{same_plan}
use Rattle.meter_node.proofs.DispatchRules.{drops, near_own, near_other, mesh_far, mesh_own, mesh_other}
use Rattle.meter_node.proofs.meter.Meter.hear_join.Goals as goal

pub returns-in-Air-clause-carries : goal.returns-in-Air-clause-carries
returns-in-Air-clause-carries g c =
    same_plan c.args.self.now c.carry_up.new.self (λ m. meters.carry_up m c.in-Air.from c.args.join.now c.args.join.now.body c.args.now)
    (λ m. meters.hear_join (identity_of c.args.self.now) m c.args.way c.args.join.now c.args.now) c.carry_up.result c.carry_up.new.out
    (λ l. ap (λ w. meters.hear_join (identity_of c.args.self.now) (memory_with c.args.self.now l) w c.args.join.now c.args.now) (sym c.in-Air.is))
    c.carry_up.ensures.carries

pub returns-then-not-own-clause-carries : goal.returns-then-not-own-clause-carries
returns-then-not-own-clause-carries g c =
    let x : MeterState = record {
      station = c.self.inside.station;
      psk = c.self.inside.pair_key;
      randoms = c.self.inside.randoms;
      session = option_map session_of c.self.inside.session;
    } in
    rw (← c.self.view_is) (drops x (λ m. meters.hear_join (identity_of x) m c.args.way c.args.join.now c.args.now) BadUnit c.args.out.now c.requires.ready.empty
    (λ l. near_other x l c.args.join.now c.args.now c.in-Near.agent
    (other_number (eui_number c.args.join.now.eui) (eui_number c.self.inside.station.eui) c.number.result c.number-2.result c.number.ensures
    (c.number-2.ensures ∙ ap eui_number c.eui.ensures) c.if-not-own.true)
    ∙ ap (λ w. meters.hear_join (identity_of x) (memory_with x l) w c.args.join.now c.args.now) (sym c.in-Near.is)))

pub returns-else-not-own-clause-carries : goal.returns-else-not-own-clause-carries
returns-else-not-own-clause-carries g c =
    let x : MeterState = record {
      station = c.self.inside.station;
      psk = c.self.inside.pair_key;
      randoms = c.self.inside.randoms;
      session = option_map session_of c.self.inside.session;
    } in
    let carries = rw (← c.self.view_is) at c.hear_near.ensures.carries in
    rw (← c.self.view_is) (same_plan x c.hear_near.new.self (λ m. meters.hear_near (identity_of x) m c.in-Near.agent c.args.join.now.body c.args.now)
    (λ m. meters.hear_join (identity_of x) m c.args.way c.args.join.now c.args.now) c.hear_near.result c.hear_near.new.out
    (λ l. near_own x l c.args.join.now c.args.now c.in-Near.agent (same_number (eui_number c.args.join.now.eui) (eui_number c.self.inside.station.eui)
    c.number.result c.number-2.result c.number.ensures (c.number-2.ensures ∙ ap eui_number c.eui.ensures) c.if-not-own.false)
    ∙ ap (λ w. meters.hear_join (identity_of x) (memory_with x l) w c.args.join.now c.args.now) (sym c.in-Near.is)) carries)

pub returns-then-number-ne0-clause-carries : goal.returns-then-number-ne0-clause-carries
returns-then-number-ne0-clause-carries g c =
    let x : MeterState = record {
      station = c.self.inside.station;
      psk = c.self.inside.pair_key;
      randoms = c.self.inside.randoms;
      session = option_map session_of c.self.inside.session;
    } in
    rw (← c.self.view_is) (drops x (λ m. meters.hear_join (identity_of x) m c.args.way c.args.join.now c.args.now) BadUnit c.args.out.now c.requires.ready.empty
    (λ l. mesh_far x l c.args.join.now c.args.now c.in-Mesh.origin
    (other_number c.in-Mesh.origin 0 c.number-in-Mesh.result 0 c.number-in-Mesh.ensures.value refl c.if-number-ne0.true)
    ∙ ap (λ w. meters.hear_join (identity_of x) (memory_with x l) w c.args.join.now c.args.now) (sym c.in-Mesh.is)))

pub returns-then-own-clause-carries : goal.returns-then-own-clause-carries
returns-then-own-clause-carries g c =
    let x : MeterState = record {
      station = c.self.inside.station;
      psk = c.self.inside.pair_key;
      randoms = c.self.inside.randoms;
      session = option_map session_of c.self.inside.session;
    } in
    let carries = rw (← c.self.view_is) at c.hear_order.ensures.carries in
    rw (← c.self.view_is) (same_plan x c.hear_order.new.self (λ m. meters.hear_order (identity_of x) m c.args.join.now.body c.args.now)
    (λ m. meters.hear_join (identity_of x) m c.args.way c.args.join.now c.args.now) c.hear_order.result c.hear_order.new.out
    (λ l. mesh_own x l c.args.join.now c.args.now c.in-Mesh.origin
    (same_number c.in-Mesh.origin 0 c.number-in-Mesh.result 0 c.number-in-Mesh.ensures.value refl c.if-number-ne0.false)
    (same_number (eui_number c.args.join.now.eui) (eui_number c.self.inside.station.eui) c.number.result c.number-2.result c.number.ensures
    (c.number-2.ensures ∙ ap eui_number c.eui.ensures) c.if-own.true)
    ∙ ap (λ w. meters.hear_join (identity_of x) (memory_with x l) w c.args.join.now c.args.now) (sym c.in-Mesh.is)) carries)

pub returns-else-own-clause-carries : goal.returns-else-own-clause-carries
returns-else-own-clause-carries g c =
    let x : MeterState = record {
      station = c.self.inside.station;
      psk = c.self.inside.pair_key;
      randoms = c.self.inside.randoms;
      session = option_map session_of c.self.inside.session;
    } in
    let carries = rw (← c.self.view_is) at c.carry_down.ensures.carries in
    rw (← c.self.view_is) (same_plan x c.carry_down.new.self (λ m. meters.carry_down m c.args.join.now c.args.join.now.body)
    (λ m. meters.hear_join (identity_of x) m c.args.way c.args.join.now c.args.now) c.carry_down.result c.carry_down.new.out
    (λ l. mesh_other x l c.args.join.now c.args.now c.in-Mesh.origin
    (same_number c.in-Mesh.origin 0 c.number-in-Mesh.result 0 c.number-in-Mesh.ensures.value refl c.if-number-ne0.false)
    (other_number (eui_number c.args.join.now.eui) (eui_number c.self.inside.station.eui) c.number.result c.number-2.result c.number.ensures
    (c.number-2.ensures ∙ ap eui_number c.eui.ensures) c.if-own.false)
    ∙ ap (λ w. meters.hear_join (identity_of x) (memory_with x l) w c.args.join.now c.args.now) (sym c.in-Mesh.is)) carries)
