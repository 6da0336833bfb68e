use Rattle.std.proofs.Common.{None, [], sym, refl}
use Rattle.std.specs.Option.{option_map}
use Rattle.node_rules.specs.CarriedPlans.{nothing}
use Rattle.node_rules.specs.HearingRules.{dropped}
use Rattle.node_rules.specs.Meters as meters
use Rattle.node_rules.specs.declared.heard.MeterHeard.TheVariants as heard
use Rattle.node_rules.specs.declared.refusal.Dropped.TheVariants.{BadUnit, NoSession}
use Rattle.plc_station.proofs.CarriedPlans.{at_some}
use Rattle.meter_node.specs.Sessions.{session_of}
use Rattle.meter_node.specs.MeterStates.{memory_with}
use Rattle.meter_node.proofs.Carried.{on_node, refuses, changes}
use Rattle.meter_node.proofs.MeterRules.{declines, declined_joined, declined_unasked}
use Rattle.meter_node.proofs.meter.Meter.declined.Goals as goal

pub returns-then-is_joined-clause-carries : goal.returns-then-is_joined-clause-carries
returns-then-is_joined-clause-carries g c =
    on_node c.args.self.now _ (λ l running.
    refuses dropped c.args.self.now c.args.self.now l BadUnit (meters.declined (memory_with c.args.self.now l) c.args.agent) nothing running refl
    (declined_joined c.args.self.now l c.args.agent (sym (at_some _ _ l running c.if-is_joined.ensures))) refl)

pub returns-then-not-has_session-clause-carries : goal.returns-then-not-has_session-clause-carries
returns-then-not-has_session-clause-carries g c =
    on_node c.args.self.now _ (λ l running.
    refuses dropped c.args.self.now c.args.self.now l NoSession (meters.declined (memory_with c.args.self.now l) c.args.agent) nothing running refl
    (declined_unasked c.args.self.now l c.args.agent (sym (at_some _ _ l running c.if-is_joined.ensures)) (sym (c.if-not-has_session.ensures l))) refl)

pub returns-clause-carries : goal.returns-clause-carries
returns-clause-carries g c =
    let free = rw (← c.self.view_is) at c.if-is_joined.ensures in
    let has = rw (← c.self.view_is) at c.if-not-has_session.ensures in
    rw (← c.self.view_is) (on_node (record {
      station = c.self.inside.station;
      psk = c.self.inside.pair_key;
      randoms = c.self.inside.randoms;
      session = option_map session_of c.self.inside.session;
    }) _ (λ l running.
    changes dropped (record {
      station = c.self.inside.station;
      psk = c.self.inside.pair_key;
      randoms = c.self.inside.randoms;
      session = option_map session_of c.self.inside.session;
    }) (record (record {
      station = c.self.inside.station;
      psk = c.self.inside.pair_key;
      randoms = c.self.inside.randoms;
      session = option_map session_of c.self.inside.session;
    }) { session = None }) l [] heard.Declined (meters.declined (memory_with
    (record {
      station = c.self.inside.station;
      psk = c.self.inside.pair_key;
      randoms = c.self.inside.randoms;
      session = option_map session_of c.self.inside.session;
    }) l) c.args.agent) nothing running (rw (← c.self.view_is) at c.requires.ready.agrees) refl
    (declines (record {
      station = c.self.inside.station;
      psk = c.self.inside.pair_key;
      randoms = c.self.inside.randoms;
      session = option_map session_of c.self.inside.session;
    }) l c.args.agent (sym (at_some _ _ l running free)) (sym (has l))) refl))
