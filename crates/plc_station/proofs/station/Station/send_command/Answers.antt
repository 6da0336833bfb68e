use Rattle.node_rules.specs.declared.refusal.SendRefusal.TheVariants.{NotJoined}
use Rattle.node_rules.specs.Calls.{sending_ends}
use Rattle.plc_station.specs.StationViews.{station_in}
use Rattle.plc_station.proofs.CarriedPlans.{on_memory}
use Rattle.plc_station.proofs.EndedSteps.{refusal}
use Rattle.plc_station.proofs.CommandCases as ways
use Rattle.plc_station.proofs.station.Station.send_command.Goals as goal

pub returns-in_default-clause-carries : goal.returns-in_default-clause-carries
returns-in_default-clause-carries g c =
    rw (← c.self.view_is) (on_memory c.self.inside.halted _ _ (λ running. refusal sending_ends _ (station_in c.self.inside.parts c.self.inside.bodies) NotJoined
    _ _ running (ways.not_joined (station_in c.self.inside.parts c.self.inside.bodies) c.args.to c.args.body.now c.args.now c.in_default.ensures)
    c.clear.ensures))
