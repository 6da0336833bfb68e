use Rattle.std.proofs.Common.{sym}
use Rattle.node_rules.specs.declared.refusal.Dropped.TheVariants.{BadUnit}
use Rattle.node_rules.specs.HearingRules.{dropped}
use Rattle.plc_station.proofs.CarriedPlans.{if_some, at_some}
use Rattle.plc_station.proofs.SentReplies.{refusal_heard, heard_by, quiet, errors_quiet}
use Rattle.plc_station.proofs.HearingCases.{request_to_one, reply_to_all, error_to_all, error_is}
use Rattle.plc_station.proofs.station.Station.hear_message.Goals as goal

pub returns-then-not-last-clause-hears : goal.returns-then-not-last-clause-hears
returns-then-not-last-clause-hears g c =
    if_some c.args.self.now.memory _ (λ l m. refusal_heard dropped c.args.self.now l BadUnit _ _ m
    (request_to_one l c.args.grant.now.address c.args.last.now.by c.args.last.now.to_all c.args.last.now.link c.args.last.now.time c.args.message
    c.in-Rreq.number c.in-Rreq.cost c.in-Rreq.origin
    c.in-Rreq.dest c.in-Rreq.is (sym c.if-not-last.true)) c.requires.ready.empty c.requires.fresh)

pub returns-then-last-clause-hears : goal.returns-then-last-clause-hears
returns-then-last-clause-hears g c =
    if_some c.args.self.now.memory _ (λ l m. refusal_heard dropped c.args.self.now l BadUnit _ _ m
    (reply_to_all l c.args.grant.now.address c.args.last.now.by c.args.last.now.to_all c.args.last.now.link c.args.last.now.time c.args.message c.in-Rrep.number
    c.in-Rrep.cost c.in-Rrep.origin
    c.in-Rrep.to c.in-Rrep.is (sym c.if-last.true)) c.requires.ready.empty c.requires.fresh)

pub returns-then-last-2-clause-hears : goal.returns-then-last-2-clause-hears
returns-then-last-2-clause-hears g c =
    if_some c.args.self.now.memory _ (λ l m. refusal_heard dropped c.args.self.now l BadUnit _ _ m
    (error_to_all l c.args.grant.now.address c.args.last.now.by c.args.last.now.to_all c.args.last.now.link c.args.last.now.time c.args.message c.in-Rerr.lost
    c.in-Rerr.to c.in-Rerr.is
    (sym c.if-last-2.true)) c.requires.ready.empty c.requires.fresh)

pub returns-else-last-2-clause-hears : goal.returns-else-last-2-clause-hears
returns-else-last-2-clause-hears g c =
    if_some c.args.self.now.memory _
    (λ l m. heard_by _ _ _ _ _ _ (error_is l c.args.grant.now.address c.args.last.now.by c.args.last.now.to_all c.args.last.now.link c.args.last.now.time
    c.args.message c.in-Rerr.lost c.in-Rerr.to c.in-Rerr.is (sym c.if-last-2.false))
    (quiet _ _ _ _ _ (at_some c.args.self.now.memory _ l m c.hear_error.ensures.carries) c.requires.fresh c.hear_error.ensures.after.replied
    (errors_quiet l c.args.grant.now.address c.args.last.now.by c.in-Rerr.lost c.in-Rerr.to)))
