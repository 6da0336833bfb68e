use Rattle.std.proofs.Common.{None}
use Rattle.std.specs.Option.{option_map}
use Rattle.node_rules.specs.CarriedPlans.{nothing}
use Rattle.node_rules.specs.Meters as meters
use Rattle.plc_station.proofs.CarriedPlans.{at_some}
use Rattle.meter_node.specs.Sessions.{session_of}
use Rattle.meter_node.specs.MeterStates.{memory_with}
use Rattle.meter_node.proofs.Carried.{on_node, as_station}
use Rattle.node_rules.specs.Calls as calls
use Rattle.meter_node.specs.MeterAnswers as meter_answers
use Rattle.meter_node.proofs.MeterRules.{kicks}
use Rattle.meter_node.proofs.meter.Meter.kicked.Goals as goal

pub returns-in_default-clause-carries : goal.returns-in_default-clause-carries
returns-in_default-clause-carries g c =
    rw (← c.self.view_is) (on_node (record {
      station = c.self.inside.station;
      psk = c.self.inside.pair_key;
      randoms = c.self.inside.randoms;
      session = option_map session_of c.self.inside.session;
    }) _ (λ l running.
    as_station meter_answers.left_as (record {
      station = c.self.inside.station;
      psk = c.self.inside.pair_key;
      randoms = c.self.inside.randoms;
      session = option_map session_of c.self.inside.session;
    })
    (record { station = c.leave.new.self; psk = c.self.inside.pair_key; randoms = c.self.inside.randoms; session = None })
    (calls.leave l) (meters.kicked (memory_with (record {
      station = c.self.inside.station;
      psk = c.self.inside.pair_key;
      randoms = c.self.inside.randoms;
      session = option_map session_of c.self.inside.session;
    }) l)) _ nothing (kicks (record {
      station = c.self.inside.station;
      psk = c.self.inside.pair_key;
      randoms = c.self.inside.randoms;
      session = option_map session_of c.self.inside.session;
    }) l)
    (at_some _ _ l running c.in_default.ensures.carries)))

pub returns-clause-carries : goal.returns-clause-carries
returns-clause-carries g c =
    rw (← c.self.view_is) (on_node (record {
      station = c.self.inside.station;
      psk = c.self.inside.pair_key;
      randoms = c.self.inside.randoms;
      session = option_map session_of c.self.inside.session;
    }) _ (λ l running.
    as_station meter_answers.left_as (record {
      station = c.self.inside.station;
      psk = c.self.inside.pair_key;
      randoms = c.self.inside.randoms;
      session = option_map session_of c.self.inside.session;
    })
    (record { station = c.leave.new.self; psk = c.self.inside.pair_key; randoms = c.self.inside.randoms; session = None })
    (calls.leave l) (meters.kicked (memory_with (record {
      station = c.self.inside.station;
      psk = c.self.inside.pair_key;
      randoms = c.self.inside.randoms;
      session = option_map session_of c.self.inside.session;
    }) l)) _ nothing (kicks (record {
      station = c.self.inside.station;
      psk = c.self.inside.pair_key;
      randoms = c.self.inside.randoms;
      session = option_map session_of c.self.inside.session;
    }) l)
    (at_some _ _ l running c.in-Ok.ensures.carries)))
