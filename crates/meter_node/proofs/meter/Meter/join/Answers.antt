use Rattle.std.proofs.Common.{Some, [], ◌∷◌, ◌++◌, sym, refl, ◌∙◌}
use Rattle.std.specs.Option.{option_map}
use Rattle.node_rules.specs.Ciphers.{network}
use Rattle.node_rules.specs.Meters as meters
use Rattle.node_rules.specs.JoiningPackets.{message}
use Rattle.node_rules.specs.Frames.{Up, spelled}
use Rattle.joining_messages.specs.declared.message.JoinBody.TheVariants as body
use Rattle.plc_station.proofs.CarriedPlans.{at_some}
use Rattle.meter_node.specs.Sessions.{session_of}
use Rattle.meter_node.specs.MeterStates.{memory_with, identity_of}
use Rattle.meter_node.proofs.Carried.{on_node, refuses, changes, joins, joined_already, asking}
use Rattle.node_rules.specs.declared.refusal.JoinRefusal.TheVariants.{AlreadyJoined}
use Rattle.meter_node.proofs.meter.Meter.join.Goals as goal

pub returns-then-is_joined-clause-carries : goal.returns-then-is_joined-clause-carries
returns-then-is_joined-clause-carries g c =
    on_node c.args.self.now _ (λ l running.
    refuses meters.joining_ends c.args.self.now c.args.self.now l AlreadyJoined
    (meters.join (identity_of c.args.self.now) (memory_with c.args.self.now l) c.args.agent c.args.now) _ running refl
    (joined_already c.args.self.now l c.args.agent c.args.now (sym (at_some _ _ l running c.if-is_joined.ensures))) c.clear.ensures)

pub returns-clause-carries : goal.returns-clause-carries
returns-clause-carries g c =
    let free = rw (← c.self.view_is) at c.if-is_joined.ensures in
    rw (← c.self.view_is) (on_node (record {
      station = c.self.inside.station;
      psk = c.self.inside.pair_key;
      randoms = c.self.inside.randoms;
      session = option_map session_of c.self.inside.session;
    }) _ (λ l running.
    changes meters.joining_ends (record {
      station = c.self.inside.station;
      psk = c.self.inside.pair_key;
      randoms = c.self.inside.randoms;
      session = option_map session_of c.self.inside.session;
    })
    (record (record {
      station = c.self.inside.station;
      psk = c.self.inside.pair_key;
      randoms = c.self.inside.randoms;
      session = option_map session_of c.self.inside.session;
    }) { session = Some (asking c.args.agent c.args.now) })
    l (Up c.args.agent c.self.inside.station.eui (message c.self.inside.station.eui (body.Join [])) ∷ []) tt
    (meters.join (identity_of (record {
      station = c.self.inside.station;
      psk = c.self.inside.pair_key;
      randoms = c.self.inside.randoms;
      session = option_map session_of c.self.inside.session;
    })) (memory_with (record {
      station = c.self.inside.station;
      psk = c.self.inside.pair_key;
      randoms = c.self.inside.randoms;
      session = option_map session_of c.self.inside.session;
    }) l) c.args.agent c.args.now) _ running (rw (← c.self.view_is) at c.requires.agrees) refl
    (joins (record {
      station = c.self.inside.station;
      psk = c.self.inside.pair_key;
      randoms = c.self.inside.randoms;
      session = option_map session_of c.self.inside.session;
    }) l c.args.agent c.args.now (sym (at_some _ _ l running free)))
    (c.push_up.ensures ∙ (λ i. record (c.clear.ensures i) {
      frames = (c.clear.ensures i).frames
          ++ spelled network (Up c.args.agent (c.eui-eui.ensures i) (message (c.eui-eui.ensures i) (body.Join (c.new.ensures i)))) ∷ [];
    }))))
