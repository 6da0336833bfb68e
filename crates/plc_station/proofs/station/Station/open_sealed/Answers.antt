use Rattle.node_rules.specs.Ciphers.{network}
use Rattle.node_rules.specs.Frames.{arrived_with}
use Rattle.plc_station.specs.StationViews.{station_in}
use Rattle.plc_station.proofs.CarriedPlans.{on_memory}
use Rattle.plc_station.proofs.Acceptance.{key_missing, tag_wrong}
use Rattle.plc_station.proofs.station.Station.open_sealed.Goals as goal

pub returns-in_default-clause-carries : goal.returns-in_default-clause-carries
returns-in_default-clause-carries g c =
    rw (← c.self.view_is)
    (on_memory c.self.inside.halted _ _ (λ running. key_missing _ (station_in c.self.inside.parts c.self.inside.bodies)
    (arrived_with network c.args.raw.now.head c.args.raw.now.header.now c.args.raw.now.body.now) c.args.to c.args.from c.args.counter _ running
    c.in_default.ensures))

pub returns-in_default-open_frame-clause-carries : goal.returns-in_default-open_frame-clause-carries
returns-in_default-open_frame-clause-carries g c =
    rw (← c.self.view_is)
    (on_memory c.self.inside.halted _ _ (λ running. tag_wrong _ (station_in c.self.inside.parts c.self.inside.bodies)
    (arrived_with network c.args.raw.now.head c.args.raw.now.header.now c.args.raw.now.body.now) c.args.to c.args.from c.args.counter _ _ running
    c.in-Some.ensures (rw c.renew.ensures at c.in_default-open_frame.ensures.exact)))
