use Rattle.std.proofs.Common.{Some, sym, ap, refl, ◌∙◌}
use Rattle.std.specs.Option.{option_map}
use Rattle.std.proofs.lemmas.Result.{err_from_is_err_and}
use Rattle.plc_base.specs.Addresses.{eui_number}
use Rattle.node_rules.specs.HearingRules.{dropped}
use Rattle.node_rules.specs.Meters as meters
use Rattle.node_rules.specs.declared.refusal.Dropped.TheVariants.{BadUnit}
use Rattle.plc_station.proofs.CarriedPlans.{at_some}
use Rattle.meter_node.specs.Sessions.{session_of}
use Rattle.meter_node.specs.MeterStates.{MeterState, memory_with}
use Rattle.meter_node.proofs.Carried.{on_node, refuses}
use Rattle.meter_node.proofs.CommandRules.{other_number, same_number, not_up, not_own, sent_as, up_sent, up_failed, up_lacks}
use Rattle.meter_node.proofs.meter.Meter.carry_up.Goals as goal

pub returns-then-not-goes_up-clause-carries : goal.returns-then-not-goes_up-clause-carries
returns-then-not-goes_up-clause-carries g c =
    on_node c.args.self.now _ (λ l running.
    refuses dropped c.args.self.now c.args.self.now l BadUnit
    (meters.carry_up (memory_with c.args.self.now l) c.args.from c.args.join.now c.args.join.now.body c.args.now) c.args.out.now running refl
    (not_up (memory_with c.args.self.now l) c.args.join.now c.args.from c.args.now 0 c.args.join.now.body (sym c.if-not-goes_up.ensures))
    c.requires.ready.empty)

pub returns-then-number-clause-carries : goal.returns-then-number-clause-carries
returns-then-number-clause-carries g c =
    on_node c.args.self.now _ (λ l running.
    refuses dropped c.args.self.now c.args.self.now l BadUnit
    (meters.carry_up (memory_with c.args.self.now l) c.args.from c.args.join.now c.args.join.now.body c.args.now) c.args.out.now running refl
    (not_own (memory_with c.args.self.now l) c.args.join.now c.args.from c.args.now 0 c.args.join.now.body
    (other_number (eui_number c.args.join.now.eui) (eui_number c.args.from) c.number.result c.number-2.result c.number.ensures c.number-2.ensures
    c.if-number.true)) c.requires.ready.empty)

pub returns-in_err-room-clause-carries : goal.returns-in_err-room-clause-carries
returns-in_err-room-clause-carries g c =
    let p = err_from_is_err_and c.from_residual.result c.from_residual.ensures.1 in
    rw p.1 (on_node c.args.self.now _ (λ l running.
    refuses dropped c.args.self.now c.args.self.now l p.0
    (meters.carry_up (memory_with c.args.self.now l) c.args.from c.args.join.now c.args.join.now.body c.args.now) c.args.out.now running refl
    (up_lacks c.args.self.now l c.args.from c.args.join.now c.args.now p.0 (at_some _ _ l running c.requires.joined) (sym c.if-not-goes_up.ensures)
    (same_number (eui_number c.args.join.now.eui) (eui_number c.args.from) c.number.result c.number-2.result c.number.ensures c.number-2.ensures
    c.if-number.false)
    (at_some _ _ l running c.in_err-room.ensures ∙ ap Some (sym p.2))) c.requires.ready.empty))

pub returns-in_default-clause-carries : goal.returns-in_default-clause-carries
returns-in_default-clause-carries g c =
    let joined = rw (← c.self.view_is) at c.requires.joined in
    let room = rw (← c.self.view_is) at c.in_ok-room.ensures in
    let x : MeterState = record {
      station = c.self.inside.station;
      psk = c.self.inside.pair_key;
      randoms = c.self.inside.randoms;
      session = option_map session_of c.self.inside.session;
    } in
    rw (← c.self.view_is) (on_node x _ (λ l running.
    up_failed x c.send_command.new.self l c.args.from c.args.join.now c.args.now c.send_command.new.out (at_some _ _ l running joined)
    (at_some _ _ l running room) (sym c.if-not-goes_up.ensures)
    (same_number (eui_number c.args.join.now.eui) (eui_number c.args.from) c.number.result c.number-2.result c.number.ensures c.number-2.ensures
    c.if-number.false) _
    (sent_as x.station c.send_command.new.self l c.coordinator.result c.octets.result.now c.args.join.now c.args.now _ c.send_command.new.out
    c.coordinator.ensures (c.octets.ensures.value ∙ c.write_up.ensures.command)
    (at_some _ _ l running c.in_default.ensures.carries))))

pub returns-clause-carries : goal.returns-clause-carries
returns-clause-carries g c =
    let joined = rw (← c.self.view_is) at c.requires.joined in
    let room = rw (← c.self.view_is) at c.in_ok-room.ensures in
    let x : MeterState = record {
      station = c.self.inside.station;
      psk = c.self.inside.pair_key;
      randoms = c.self.inside.randoms;
      session = option_map session_of c.self.inside.session;
    } in
    rw (← c.self.view_is) (on_node x _ (λ l running.
    up_sent x c.send_command.new.self l c.args.from c.args.join.now c.args.now c.send_command.new.out (at_some _ _ l running joined)
    (at_some _ _ l running room) (sym c.if-not-goes_up.ensures)
    (same_number (eui_number c.args.join.now.eui) (eui_number c.args.from) c.number.result c.number-2.result c.number.ensures c.number-2.ensures
    c.if-number.false) _
    (sent_as x.station c.send_command.new.self l c.coordinator.result c.octets.result.now c.args.join.now c.args.now _ c.send_command.new.out
    c.coordinator.ensures (c.octets.ensures.value ∙ c.write_up.ensures.command)
    (at_some _ _ l running c.in-Ok.ensures.carries))))
