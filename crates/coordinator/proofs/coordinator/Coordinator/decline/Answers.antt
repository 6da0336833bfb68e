use Rattle.plc_station.proofs.CarriedPlans.{if_some, at_some}
use Rattle.coordinator.specs.CoordinatorStates.{node_of}
use Rattle.node_rules.specs.HearingRules.{dropped}
use Rattle.coordinator.proofs.StoredChanges.{refusal}
use Rattle.std.proofs.Common.{Ok, Err}
use Rattle.coordinator.proofs.RequestRules.{decline_lacks, declined}
use Rattle.coordinator.proofs.coordinator.Coordinator.decline.Goals as goal

pub returns-in-Err-clause-carries : goal.returns-in-Err-clause-carries
returns-in-Err-clause-carries g c =
    if_some (node_of c.args.self.now).memory _ (λ m running. refusal dropped (node_of c.args.self.now) m _ _ _ running
    (decline_lacks m c.args.way.now c.args.eui c.args.now (node_of c.args.self.now) _
    (at_some (node_of c.args.self.now).memory _ m running c.requires.ready.holds)
    (at_some (node_of c.args.self.now).memory _ m running c.in-Err.ensures.refused)) c.requires.ready.empty)

pub returns-in_default-clause-carries : goal.returns-in_default-clause-carries
returns-in_default-clause-carries g c =
    if_some (node_of c.args.self.now).memory _ (λ m running. declined m c.args.way.now c.args.eui c.args.now (node_of c.args.self.now) _
    c.args.out.now.tags (Err _) _
    (at_some (node_of c.args.self.now).memory _ m running c.requires.ready.holds) running (λ i. (c.requires.ready.empty i).tags)
    (at_some (node_of c.args.self.now).memory _ m running c.in-Ok.ensures.room) c.in_default.ensures.carries)

pub returns-clause-carries : goal.returns-clause-carries
returns-clause-carries g c =
    if_some (node_of c.args.self.now).memory _ (λ m running. declined m c.args.way.now c.args.eui c.args.now (node_of c.args.self.now) _
    c.args.out.now.tags (Ok _) _
    (at_some (node_of c.args.self.now).memory _ m running c.requires.ready.holds) running (λ i. (c.requires.ready.empty i).tags)
    (at_some (node_of c.args.self.now).memory _ m running c.in-Ok.ensures.room) c.in-Ok-say.ensures.carries)

pub say-requires-clause-quiet : goal.say-requires-clause-quiet
say-requires-clause-quiet g c = λ i. (c.requires.ready.empty i).frames
