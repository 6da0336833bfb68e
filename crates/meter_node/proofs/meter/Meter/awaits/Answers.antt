use Rattle.std.proofs.Common.{sym}
use Rattle.plc_station.proofs.CarriedPlans.{at_some}
use Rattle.meter_node.proofs.ChallengeRules.{on_some, no_session, awaited}
use Rattle.meter_node.proofs.meter.Meter.awaits.Goals as goal

pub returns-then-not-has_session : goal.returns-then-not-has_session
returns-then-not-has_session g c =
    on_some c.args.self.now.station.memory _ (λ l running.
    no_session c.args.self.now l c.args.agent (sym (at_some _ _ l running c.if-is_joined.ensures)) (sym (c.if-not-has_session.ensures l)))

pub returns : goal.returns
returns g c =
    on_some c.args.self.now.station.memory _ (λ l running.
    awaited c.args.self.now l c.args.agent (sym (at_some _ _ l running c.if-is_joined.ensures)) (sym (c.if-not-has_session.ensures l)))
