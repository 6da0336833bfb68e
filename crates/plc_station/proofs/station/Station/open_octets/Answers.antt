use Rattle.std.proofs.Common.{Err, Option, sym, subst}
use Rattle.node_rules.specs.declared.refusal.FrameRefusal.TheVariants.{Malformed, Store}
use Rattle.node_rules.specs.Acceptance as acceptance
use Rattle.node_rules.specs.Frames.{Arrived}
use Rattle.node_rules.specs.CarriedPlans.{Carries, nothing}
use Rattle.plc_station.specs.Heard.{accepted_on}
use Rattle.plc_station.proofs.CarriedPlans.{if_some, at_some, resting_carried}
use Rattle.plc_station.proofs.Acceptance.{not_arrived, arrived_is}
use Rattle.plc_station.proofs.station.Station.open_octets.Goals as goal

pub returns-in-Err-clause-carries : goal.returns-in-Err-clause-carries
returns-in-Err-clause-carries g c =
    if_some c.args.self.now.memory _
    (λ l m. subst (λ (a : Option Arrived). Carries c.args.self.now (acceptance.accept l c.args.self.now.eui a) (Err Malformed) nothing c.args.self.now)
    (sym (not_arrived c.args.octets.now _ c.in-Err.ensures.exact)) (resting_carried c.args.self.now l (Err Malformed) (Err Store) m))

pub returns-in-Ok-clause-carries : goal.returns-in-Ok-clause-carries
returns-in-Ok-clause-carries g c =
    if_some c.args.self.now.memory _ (λ l m. subst
    (λ (a : Option Arrived). Carries c.args.self.now (acceptance.accept l c.args.self.now.eui a)
    (accepted_on c.open_raw.result c.open_raw.new.payload) nothing c.open_raw.new.self)
    (sym (arrived_is c.args.octets.now _ _ _ c.in-Ok.ensures.exact c.in-Ok.ensures.places.0 c.in-Ok.ensures.places.1 c.in-Ok.ensures.front))
    (at_some c.args.self.now.memory _ l m c.open_raw.ensures.carries))
