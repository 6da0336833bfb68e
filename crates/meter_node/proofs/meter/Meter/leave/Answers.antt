use Rattle.std.proofs.Common.{None, sym, refl}
use Rattle.std.specs.Option.{option_map}
use Rattle.node_rules.specs.CarriedPlans.{nothing}
use Rattle.node_rules.specs.Meters as meters
use Rattle.plc_station.proofs.CarriedPlans.{at_some}
use Rattle.meter_node.specs.Sessions.{session_of}
use Rattle.meter_node.specs.MeterStates.{memory_with}
use Rattle.meter_node.proofs.Carried.{on_node, refuses, as_station, leaves, left_as, not_joined}
use Rattle.node_rules.specs.declared.refusal.LeaveRefusal.TheVariants as leaving
use Rattle.node_rules.specs.Calls as calls
use Rattle.meter_node.proofs.meter.Meter.leave.Goals as goal

pub returns-then-not-is_joined-clause-carries : goal.returns-then-not-is_joined-clause-carries
returns-then-not-is_joined-clause-carries g c =
    on_node c.args.self.now _ (λ l running.
    refuses meters.leaving_ends c.args.self.now c.args.self.now l leaving.NotJoined (meters.leave (memory_with c.args.self.now l)) nothing running refl
    (not_joined c.args.self.now l (sym (at_some _ _ l running c.if-not-is_joined.ensures))) refl)

pub returns-in_default-clause-carries : goal.returns-in_default-clause-carries
returns-in_default-clause-carries g c =
    let ring = rw (← c.self.view_is) at c.if-not-is_joined.ensures in
    rw (← c.self.view_is) (on_node (record {
      station = c.self.inside.station;
      psk = c.self.inside.pair_key;
      randoms = c.self.inside.randoms;
      session = option_map session_of c.self.inside.session;
    }) _ (λ l running.
    as_station left_as (record {
      station = c.self.inside.station;
      psk = c.self.inside.pair_key;
      randoms = c.self.inside.randoms;
      session = option_map session_of c.self.inside.session;
    })
    (record { station = c.leave.new.self; psk = c.self.inside.pair_key; randoms = c.self.inside.randoms; session = None })
    (calls.leave l) (meters.leave (memory_with (record {
      station = c.self.inside.station;
      psk = c.self.inside.pair_key;
      randoms = c.self.inside.randoms;
      session = option_map session_of c.self.inside.session;
    }) l)) _ nothing (leaves (record {
      station = c.self.inside.station;
      psk = c.self.inside.pair_key;
      randoms = c.self.inside.randoms;
      session = option_map session_of c.self.inside.session;
    }) l (sym (at_some _ _ l running ring)))
    (at_some _ _ l running c.in_default.ensures.carries)))

pub returns-clause-carries : goal.returns-clause-carries
returns-clause-carries g c =
    let ring = rw (← c.self.view_is) at c.if-not-is_joined.ensures in
    rw (← c.self.view_is) (on_node (record {
      station = c.self.inside.station;
      psk = c.self.inside.pair_key;
      randoms = c.self.inside.randoms;
      session = option_map session_of c.self.inside.session;
    }) _ (λ l running.
    as_station left_as (record {
      station = c.self.inside.station;
      psk = c.self.inside.pair_key;
      randoms = c.self.inside.randoms;
      session = option_map session_of c.self.inside.session;
    })
    (record { station = c.leave.new.self; psk = c.self.inside.pair_key; randoms = c.self.inside.randoms; session = None })
    (calls.leave l) (meters.leave (memory_with (record {
      station = c.self.inside.station;
      psk = c.self.inside.pair_key;
      randoms = c.self.inside.randoms;
      session = option_map session_of c.self.inside.session;
    }) l)) _ nothing (leaves (record {
      station = c.self.inside.station;
      psk = c.self.inside.pair_key;
      randoms = c.self.inside.randoms;
      session = option_map session_of c.self.inside.session;
    }) l (sym (at_some _ _ l running ring)))
    (at_some _ _ l running c.in-Ok.ensures.carries)))
