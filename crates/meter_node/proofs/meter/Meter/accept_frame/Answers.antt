use Rattle.std.specs.Option.{option_map}
use Rattle.node_rules.specs.CarriedPlans.{nothing}
use Rattle.node_rules.specs.Ciphers.{network}
use Rattle.node_rules.specs.Frames.{arrived}
use Rattle.meter_node.specs.MeterStates.{MeterState}
use Rattle.meter_node.specs.Sessions.{session_of}
use Rattle.meter_node.proofs.ReceivedFrames.{halted_beside, accepts_what_came}
use Rattle.meter_node.proofs.meter.Meter.accept_frame.Goals as goal

pub returns-clause-halted : goal.returns-clause-halted
returns-clause-halted g c =
    let x : MeterState = record {
      station = c.self.inside.station;
      psk = c.self.inside.pair_key;
      randoms = c.self.inside.randoms;
      session = option_map session_of c.self.inside.session;
    } in
    rw (← c.self.view_is) (halted_beside x c.accept.new.self c.accept.result c.accept.ensures.halted)

pub returns-clause-came : goal.returns-clause-came
returns-clause-came g c =
    accepts_what_came c.self.inside.station c.accept.new.self (arrived network c.args.octets.now) c.accept.result nothing c.accept.ensures.halted
    c.accept.ensures.carries
