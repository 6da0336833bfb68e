use Rattle.plc_station.proofs.CarriedPlans.{met_some}
use Rattle.line_world.proofs.nodes.station_further.send_local.Goals as goal

pub returns-clause-carries : goal.returns-clause-carries
returns-clause-carries c = met_some c.args.station.now.memory _ _ c.requires.joined c.send_local-sent.ensures.carries
