use Rattle.std.proofs.Common.{sym, ap, ◌∙◌}
use Rattle.node_rules.specs.Memory as memory
use Rattle.node_rules.specs.Meters as meters
use Rattle.node_rules.specs.declared.refusal.Dropped.TheVariants.{BadUnit}
use Rattle.meter_node.specs.MeterStates.{memory_with, identity_of}
use Rattle.meter_node.proofs.HearingRules.{same_plan}
use Rattle.meter_node.proofs.DispatchRules.{noted, drops, quietly}
use Rattle.meter_node.proofs.meter.Meter.hear_near.Goals as goal

pub returns-in-Challenge-clause-carries : goal.returns-in-Challenge-clause-carries
returns-in-Challenge-clause-carries g c =
    same_plan c.args.self.now c.challenged_by_agent.new.self (λ m. meters.challenged (identity_of c.args.self.now) m (memory.ByAgent c.args.agent)
    c.octets.result.now c.args.now) (λ m. meters.hear_near (identity_of c.args.self.now) m c.args.agent c.args.body.now c.args.now) c.challenged_by_agent.result
    c.challenged_by_agent.new.out
    (λ l. ap (λ p. meters.challenged (identity_of c.args.self.now) (memory_with c.args.self.now l) (memory.ByAgent c.args.agent) p c.args.now)
    c.octets.ensures.value ∙ ap (λ b. meters.hear_near (identity_of c.args.self.now) (memory_with c.args.self.now l) c.args.agent b c.args.now)
    (sym c.in-Challenge.is)) c.challenged_by_agent.ensures.carries

pub returns-in-Accept-clause-carries : goal.returns-in-Accept-clause-carries
returns-in-Accept-clause-carries g c =
    noted c.args.self.now (λ m. meters.hear_near (identity_of c.args.self.now) m c.args.agent c.args.body.now c.args.now) c.args.out.now c.requires.ready.agrees
    c.requires.ready.empty (λ l. ap (λ b. meters.hear_near (identity_of c.args.self.now) (memory_with c.args.self.now l) c.args.agent b c.args.now)
    (sym c.in-Accept.is))

pub returns-in-Decline-clause-carries : goal.returns-in-Decline-clause-carries
returns-in-Decline-clause-carries g c =
    quietly c.args.self.now c.declined.new.self (λ m. meters.declined m c.args.agent)
    (λ m. meters.hear_near (identity_of c.args.self.now) m c.args.agent c.args.body.now c.args.now) c.declined.result c.args.out.now c.requires.ready.empty
    (λ l. ap (λ b. meters.hear_near (identity_of c.args.self.now) (memory_with c.args.self.now l) c.args.agent b c.args.now) (sym c.in-Decline.is))
    c.declined.ensures.carries

pub returns-in-Join-clause-carries : goal.returns-in-Join-clause-carries
returns-in-Join-clause-carries g c =
    drops c.args.self.now (λ m. meters.hear_near (identity_of c.args.self.now) m c.args.agent c.args.body.now c.args.now) BadUnit c.args.out.now
    c.requires.ready.empty (λ l. ap (λ b. meters.hear_near (identity_of c.args.self.now) (memory_with c.args.self.now l) c.args.agent b c.args.now)
    (sym c.in-Join.is))

pub returns-in-Kick-clause-carries : goal.returns-in-Kick-clause-carries
returns-in-Kick-clause-carries g c =
    drops c.args.self.now (λ m. meters.hear_near (identity_of c.args.self.now) m c.args.agent c.args.body.now c.args.now) BadUnit c.args.out.now
    c.requires.ready.empty (λ l. ap (λ b. meters.hear_near (identity_of c.args.self.now) (memory_with c.args.self.now l) c.args.agent b c.args.now)
    (sym c.in-Kick.is))

pub returns-in-Activate-clause-carries : goal.returns-in-Activate-clause-carries
returns-in-Activate-clause-carries g c =
    drops c.args.self.now (λ m. meters.hear_near (identity_of c.args.self.now) m c.args.agent c.args.body.now c.args.now) BadUnit c.args.out.now
    c.requires.ready.empty (λ l. ap (λ b. meters.hear_near (identity_of c.args.self.now) (memory_with c.args.self.now l) c.args.agent b c.args.now)
    (sym c.in-Activate.is))
