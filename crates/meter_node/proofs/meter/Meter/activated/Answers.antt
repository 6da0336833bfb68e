use Rattle.std.specs.Option.{option_map}
use Rattle.node_rules.specs.CarriedPlans.{nothing}
use Rattle.node_rules.specs.Meters as meters
use Rattle.node_rules.specs.Calls as calls
use Rattle.plc_station.proofs.CarriedPlans.{at_some}
use Rattle.meter_node.specs.Sessions.{session_of}
use Rattle.meter_node.specs.MeterAnswers as meter_answers
use Rattle.meter_node.specs.MeterStates.{memory_with}
use Rattle.meter_node.proofs.Carried.{on_node, as_station}
use Rattle.meter_node.proofs.MeterRules.{activates}
use Rattle.meter_node.proofs.meter.Meter.activated.Goals as goal

pub returns-clause-carries : goal.returns-clause-carries
returns-clause-carries g c =
    rw (← c.self.view_is, c.activated_as.ensures) (on_node (record {
      station = c.self.inside.station;
      psk = c.self.inside.pair_key;
      randoms = c.self.inside.randoms;
      session = option_map session_of c.self.inside.session;
    }) _ (λ l running.
    as_station meter_answers.activated_as (record {
      station = c.self.inside.station;
      psk = c.self.inside.pair_key;
      randoms = c.self.inside.randoms;
      session = option_map session_of c.self.inside.session;
    })
    (record {
      station = c.activate-done.new.self;
      psk = c.self.inside.pair_key;
      randoms = c.self.inside.randoms;
      session = option_map session_of c.self.inside.session;
    })
    (calls.activate l c.args.index) (meters.activated (memory_with
    (record {
      station = c.self.inside.station;
      psk = c.self.inside.pair_key;
      randoms = c.self.inside.randoms;
      session = option_map session_of c.self.inside.session;
    }) l) c.args.index) _ nothing (activates (record {
      station = c.self.inside.station;
      psk = c.self.inside.pair_key;
      randoms = c.self.inside.randoms;
      session = option_map session_of c.self.inside.session;
    }) l c.args.index)
    (at_some _ _ l running c.activate-done.ensures.carries)))
