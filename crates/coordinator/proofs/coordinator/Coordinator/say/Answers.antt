use Rattle.plc_station.proofs.CarriedPlans.{if_some, at_some}
use Rattle.coordinator.specs.CoordinatorStates.{node_of}
use Rattle.std.proofs.Common.{sym, ap, subst, ◌∙◌, ◌++◌, ◌∷◌, []}
use Rattle.std.specs.Prelude.{IfSome}
use Rattle.plc_base.specs.declared.out_frame.Out.{Out}
use Rattle.node_rules.specs.Ciphers.{network}
use Rattle.node_rules.specs.Frames.{Down, spelled}
use Rattle.coordinator.specs.JoiningReplies.{RoomToSay, saying}
use Rattle.coordinator.proofs.StoredChanges.{carried_by}
use Rattle.coordinator.proofs.ReplyRules.{air_said, near_said}
use Rattle.coordinator.proofs.coordinator.Coordinator.say.Goals as goal

pub returns-in-Air-clause-carries : goal.returns-in-Air-clause-carries
returns-in-Air-clause-carries g c =
    if_some (node_of c.args.self.now).memory _
    (λ m running. carried_by _ _ _ _ _ _ (ap (λ w. saying m w c.args.message.now c.args.out.now.tags c.args.now) (sym c.in-Air.is))
    (air_said (node_of c.args.self.now) m c.args.message.now c.args.out.now.tags c.args.now _
    (at_some (node_of c.args.self.now).memory _ m running c.requires.ready.holds)
    running (record { 0 = [] })
    (λ i. record {
      frames = (ap (λ (o : Out). o.frames) c.push_down.ensures
          ∙ (λ j. c.requires.quiet j ++ spelled network (Down (c.coordinator_address.ensures j) c.args.message.now) ∷ [])) i;
      tags = ap (λ (o : Out). o.tags) c.push_down.ensures i;
    })))

pub returns-in-Near-clause-carries : goal.returns-in-Near-clause-carries
returns-in-Near-clause-carries g c =
    if_some (node_of c.args.self.now).memory _
    (λ m running. carried_by _ _ _ _ _ _ (ap (λ w. saying m w c.args.message.now c.args.out.now.tags c.args.now) (sym c.in-Near.is))
    (near_said (node_of c.args.self.now) m c.args.message.now c.args.out.now.tags c.args.now _
    (at_some (node_of c.args.self.now).memory _ m running c.requires.ready.holds)
    running 0
    (λ i. record { frames = c.requires.quiet i; tags = c.args.out.now.tags })))

pub returns-in-Mesh-clause-carries : goal.returns-in-Mesh-clause-carries
returns-in-Mesh-clause-carries g c =
    if_some (node_of c.args.self.now).memory _ (λ m running. carried_by _ _ _ _ _ _
    (ap (λ w. saying m w c.args.message.now c.args.out.now.tags c.args.now) (sym c.in-Mesh.is))
    (at_some (node_of c.args.self.now).memory _ m running c.say_over_mesh.ensures.carries))

pub say_over_mesh-requires-clause-room : goal.say_over_mesh-requires-clause-room
say_over_mesh-requires-clause-room g c =
    subst (λ w. IfSome (node_of c.args.self.now).memory (λ m. RoomToSay m w c.args.message.now)) c.in-Mesh.is c.requires.room
