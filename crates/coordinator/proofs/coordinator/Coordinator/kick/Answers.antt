use Rattle.std.proofs.Common.{sym, subst}
use Rattle.plc_base.specs.declared.out_frame.Out.{Out}
use Rattle.node_rules.specs.declared.refusal.CoordinatorRefusal.TheVariants.{NotAllowed}
use Rattle.node_rules.specs.Coordinators.{orders, kick}
use Rattle.node_rules.specs.CarriedPlans.{Carries}
use Rattle.plc_station.proofs.CarriedPlans.{if_some, at_some}
use Rattle.coordinator.specs.CoordinatorStates.{node_of}
use Rattle.coordinator.proofs.StoredChanges.{refusal, carried_by}
use Rattle.coordinator.proofs.Kicks.{room_of, not_allowed, not_known, kicks, silent_plan}
use Rattle.coordinator.proofs.coordinator.Coordinator.kick.Goals as goal

pub returns-in_default-clause-carries : goal.returns-in_default-clause-carries
returns-in_default-clause-carries g c =
    if_some (node_of c.args.self.now).memory _ (λ m running. refusal orders (node_of c.args.self.now) m NotAllowed _ _ running
    (not_allowed m c.args.eui (at_some (node_of c.args.self.now).memory _ m running c.in_default.ensures.entry)) c.clear.ensures)

pub returns-in_default-known_address-clause-carries : goal.returns-in_default-known_address-clause-carries
returns-in_default-known_address-clause-carries g c =
    if_some (node_of c.args.self.now).memory _ (λ m running. refusal orders (node_of c.args.self.now) m NotAllowed _ _ running
    (not_known m c.args.eui _ (at_some (node_of c.args.self.now).memory _ m running c.in-Some.ensures.entry)
    (at_some (node_of c.args.self.now).memory _ m running c.in_default-known_address.ensures)) c.clear.ensures)

pub kick_silently-requires-clause-room : goal.kick_silently-requires-clause-room
kick_silently-requires-clause-room g c =
    if_some (node_of c.args.self.now).memory _
    (λ m running. room_of m.book c.args.eui _ (at_some (node_of c.args.self.now).memory _ m running c.in-Some.ensures.entry))

pub kick_by_command-requires-clause-room : goal.kick_by_command-requires-clause-room
kick_by_command-requires-clause-room g c =
    if_some (node_of c.args.self.now).memory _
    (λ m running. room_of m.book c.args.eui _ (at_some (node_of c.args.self.now).memory _ m running c.in-Some.ensures.entry))

pub returns-then-not-reaches-clause-carries : goal.returns-then-not-reaches-clause-carries
returns-then-not-reaches-clause-carries g c =
    if_some (node_of c.args.self.now).memory _ (λ m running. subst
    (λ (o : Out). Carries (node_of c.args.self.now) (kick m c.args.eui) c.kick_silently.result o (node_of c.kick_silently.new.self)) (sym c.clear.ensures)
    (carried_by _ _ _ _ _ _ (kicks m c.args.eui c.in-Some.entry c.in-Some-known_address.to
    (at_some (node_of c.args.self.now).memory _ m running c.in-Some.ensures.entry)
    (at_some (node_of c.args.self.now).memory _ m running c.in-Some-known_address.ensures))
    (carried_by _ _ _ _ _ _ (silent_plan m c.in-Some.entry c.in-Some-known_address.to
    (at_some (node_of c.args.self.now).memory _ m running c.if-not-reaches.ensures))
    (at_some (node_of c.args.self.now).memory _ m running c.kick_silently.ensures.carries))))

pub returns-clause-carries : goal.returns-clause-carries
returns-clause-carries g c =
    if_some (node_of c.args.self.now).memory _ (λ m running. carried_by _ _ _ _ _ _
    (kicks m c.args.eui c.in-Some.entry c.in-Some-known_address.to (at_some (node_of c.args.self.now).memory _ m running c.in-Some.ensures.entry)
    (at_some (node_of c.args.self.now).memory _ m running c.in-Some-known_address.ensures))
    (at_some (node_of c.args.self.now).memory _ m running c.kick_by_command.ensures.carries))
