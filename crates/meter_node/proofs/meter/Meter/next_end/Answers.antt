use Rattle.std.specs.Option.{option_map}
use Rattle.plc_station.proofs.CarriedPlans.{at_some}
use Rattle.meter_node.specs.MeterStates.{MeterState}
use Rattle.meter_node.specs.Sessions.{session_of}
use Rattle.meter_node.proofs.Carried.{on_node}
use Rattle.meter_node.proofs.NextEnds.{is_first}
use Rattle.meter_node.proofs.meter.Meter.next_end.Goals as goal

pub returns-clause-first : goal.returns-clause-first
returns-clause-first g c =
    let x : MeterState = record {
      station = c.self.inside.station;
      psk = c.self.inside.pair_key;
      randoms = c.self.inside.randoms;
      session = option_map session_of c.self.inside.session;
    } in
    rw (← c.self.view_is) (on_node x _ (λ l running.
    is_first x l c.next_end.result c.end_with.result c.end_with.ensures (at_some x.station.memory _ l running c.next_end.ensures.first)))
