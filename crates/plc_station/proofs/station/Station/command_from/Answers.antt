use Rattle.plc_station.proofs.CarriedPlans.{if_some, at_some}
use Rattle.plc_station.proofs.EndedSteps.{carried_by}
use Rattle.plc_station.proofs.CommandCases.{command_step}
use Rattle.plc_station.proofs.station.Station.command_from.Goals as goal

pub returns-clause-carries : goal.returns-clause-carries
returns-clause-carries g c =
    if_some c.args.self.now.memory _ (λ l m. carried_by _ _ _ _ _ _
    (command_step l c.args.grant.now.address c.args.to c.args.octets.now c.args.now)
    (at_some c.args.self.now.memory _ l m c.sets_out.ensures.carries))
