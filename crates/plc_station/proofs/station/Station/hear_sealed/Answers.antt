use Rattle.std.proofs.Common.{sym}
use Rattle.node_rules.specs.declared.refusal.Dropped.TheVariants.{BadUnit}
use Rattle.node_rules.specs.HearingRules.{dropped}
use Rattle.plc_station.proofs.CarriedPlans.{if_some, at_some}
use Rattle.plc_station.proofs.SentReplies.{refusal_heard, heard_by, quiet, over_mesh_quiet}
use Rattle.plc_station.proofs.HearingCases.{mesh_all, mesh_one}
use Rattle.plc_station.proofs.station.Station.hear_sealed.Goals as goal

pub returns-then-last-clause-hears : goal.returns-then-last-clause-hears
returns-then-last-clause-hears g c =
    if_some c.args.self.now.memory _ (λ l m. refusal_heard dropped c.args.self.now l BadUnit _ _ m
    (mesh_all l c.args.grant.now.address c.args.last.now.by c.args.last.now.to_all c.args.unit.now c.args.last.now.link c.args.last.now.note
    c.args.last.now.time c.in-Whole.is (sym c.if-last.true))
    c.requires.ready.empty c.requires.fresh)

pub returns-else-last-clause-hears : goal.returns-else-last-clause-hears
returns-else-last-clause-hears g c =
    if_some c.args.self.now.memory _
    (λ l m. heard_by _ _ _ _ _ _ (mesh_one l c.args.grant.now.address c.args.last.now.by c.args.last.now.to_all c.args.unit.now c.args.last.now.link
    c.args.last.now.note c.args.last.now.time c.in-Whole.is (sym c.if-last.false))
    (quiet _ _ _ _ _ (at_some c.args.self.now.memory _ l m c.hear_over_mesh.ensures.carries)
    c.requires.fresh c.hear_over_mesh.ensures.after.replied
    (over_mesh_quiet l c.args.grant.now.address c.args.unit.now c.args.last.now.note c.args.last.now.time)))
