use Rattle.std.proofs.Common.{sym}
use Rattle.node_rules.specs.Memory as memory
use Rattle.node_rules.specs.Meters as meters
use Rattle.meter_node.specs.MeterStates.{identity_of}
use Rattle.meter_node.proofs.ChallengeRules.{first_challenge, other_challenge}
use Rattle.meter_node.proofs.HearingRules.{same_plan}
use Rattle.meter_node.proofs.meter.Meter.challenged_by_agent.Goals as goal

pub returns-then-is_first-clause-carries : goal.returns-then-is_first-clause-carries
returns-then-is_first-clause-carries g c =
    same_plan c.args.self.now c.reply_by_agent.new.self
    (λ m. meters.reply (identity_of c.args.self.now) m (memory.ByAgent c.args.agent) c.args.packet.now c.args.now)
    (λ m. meters.challenged (identity_of c.args.self.now) m (memory.ByAgent c.args.agent) c.args.packet.now c.args.now) c.reply_by_agent.result
    c.reply_by_agent.new.out
    (λ l. first_challenge c.args.self.now l (memory.ByAgent c.args.agent) c.args.packet.now c.args.now (sym c.if-is_first.ensures))
    c.reply_by_agent.ensures.carries

pub returns-clause-carries : goal.returns-clause-carries
returns-clause-carries g c =
    same_plan c.args.self.now c.take_by_agent.new.self
    (λ m. meters.take (identity_of c.args.self.now) m (memory.ByAgent c.args.agent) c.args.packet.now c.args.now)
    (λ m. meters.challenged (identity_of c.args.self.now) m (memory.ByAgent c.args.agent) c.args.packet.now c.args.now) c.take_by_agent.result
    c.take_by_agent.new.out
    (λ l. other_challenge c.args.self.now l (memory.ByAgent c.args.agent) c.args.packet.now c.args.now (sym c.if-is_first.ensures))
    c.take_by_agent.ensures.carries
