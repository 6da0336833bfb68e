use Rattle.std.proofs.Common.{Ok, Err, ap, sym, ◌∙◌}
use Rattle.node_rules.specs.declared.heard.Path.TheVariants as paths
use Rattle.node_rules.specs.declared.refusal.FrameRefusal.TheVariants.{Store}
use Rattle.node_rules.specs.Acceptance.{accept_head}
use Rattle.node_rules.specs.Ciphers.{network}
use Rattle.node_rules.specs.Frames.{Arrived, arrived_with}
use Rattle.node_rules.specs.Plans.{resting}
use Rattle.plc_station.proofs.CarriedPlans.{if_some, at_some}
use Rattle.plc_station.proofs.Acceptance.{not_for_me, plain_accepted}
use Rattle.plc_station.proofs.station.Station.open_raw.Goals as goal

pub returns-then-not-is_for_me-clause-carries : goal.returns-then-not-is_for_me-clause-carries
returns-then-not-is_for_me-clause-carries g c =
    if_some c.args.self.now.memory _
    (λ l m. not_for_me c.args.self.now l (arrived_with network c.args.raw.now.head c.args.raw.now.header.now c.args.raw.now.body.now) m
    (at_some c.args.self.now.memory _ l m c.if-not-is_for_me.ensures))

pub returns-in-Up-clause-carries : goal.returns-in-Up-clause-carries
returns-in-Up-clause-carries g c =
    let a : Arrived = arrived_with network c.args.raw.now.head c.args.raw.now.header.now c.args.raw.now.body.now in
    if_some c.args.self.now.memory _ (λ l m. plain_accepted c.args.self.now l a _ m (at_some c.args.self.now.memory _ l m c.if-not-is_for_me.ensures)
    (ap (accept_head l a) c.in-Up.is ∙ ap (λ p. resting l (Ok (record { path = paths.Up c.in-Up.from; payload = p })) (Err Store)) (sym c.hold.ensures)))

pub returns-in-Down-clause-carries : goal.returns-in-Down-clause-carries
returns-in-Down-clause-carries g c =
    let a : Arrived = arrived_with network c.args.raw.now.head c.args.raw.now.header.now c.args.raw.now.body.now in
    if_some c.args.self.now.memory _ (λ l m. plain_accepted c.args.self.now l a _ m (at_some c.args.self.now.memory _ l m c.if-not-is_for_me.ensures)
    (ap (accept_head l a) c.in-Down.is
    ∙ ap (λ p. resting l (Ok (record { path = paths.Down c.in-Down.from; payload = p })) (Err Store)) (sym c.hold-in-Down.ensures)))
