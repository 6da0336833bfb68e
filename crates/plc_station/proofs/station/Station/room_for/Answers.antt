use Rattle.std.proofs.Common.{ap, ◌∙◌}
use Rattle.plc_station.specs.NextSteps.{next_step, step_answer}
use Rattle.plc_station.proofs.CarriedPlans.{if_some, at_some}
use Rattle.plc_station.proofs.CommandCases.{room_step}
use Rattle.plc_station.proofs.station.Station.room_for.Goals as goal

pub returns : goal.returns
returns g c =
    if_some c.args.self.now.memory _ (λ l m. c.refusal_of.ensures ∙ ap step_answer (at_some c.args.self.now.memory _ l m c.next_step.ensures.step)
    ∙ ap (λ n. step_answer (next_step l c.args.to n 1)) c.from.ensures ∙ room_step l c.args.to c.args.octets)
