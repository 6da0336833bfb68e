use Rattle.std.proofs.Common.{◌≡◌, true, ap, arith}
use Rattle.std.specs.Prelude.{◌==◌}
use Rattle.std.proofs.lemmas.Bool.Decides.{nat_tests}
use Rattle.plc_base.specs.Grant.{Granted}
use Rattle.node_rules.specs.declared.refusal.Dropped.TheVariants.{NoRoute}
use Rattle.node_rules.specs.Memory.{next_hop}
use Rattle.node_rules.specs.HearingRules.{dropped}
use Rattle.plc_station.specs.StationViews.{station_in}
use Rattle.plc_station.proofs.CarriedPlans.{on_memory, if_some, at_some}
use Rattle.plc_station.proofs.SentReplies.{refusal_heard, heard_by, quiet, learned_quiet}
use Rattle.plc_station.proofs.ReplyCases.{reply_here, reply_lost, reply_on}
use Rattle.plc_station.proofs.station.Station.hear_reply.Goals as goal

pub returns-then-number-clause-hears : goal.returns-then-number-clause-hears
returns-then-number-clause-hears g c =
    let here : true ≡ (c.args.to == c.args.grant.now.address) =
    (grind (arith, nat_tests, c.if-number.true, c.number.ensures.value, c.number-2.ensures.value, ap (λ (g : Granted). g.address) c.grant.view_is)) in
    if_some c.args.self.now.memory _ (λ l m. heard_by _ _ _ _ _ _ (reply_here l c.args.grant.now.address c.args.last.now.by c.args.offered.now.origin c.args.to
    (record { number = c.args.offered.now.number; cost = c.args.offered.now.cost }) c.args.last.now.time here)
    (quiet _ _ _ _ _ (at_some c.args.self.now.memory _ l m c.hear_own_reply.ensures.carries) c.requires.fresh c.hear_own_reply.ensures.after.replied
    (learned_quiet l c.args.grant.now.address c.args.last.now.by c.args.offered.now.origin
    (record { number = c.args.offered.now.number; cost = c.args.offered.now.cost }) c.args.last.now.time)))

pub returns-in_default-clause-hears : goal.returns-in_default-clause-hears
unfolding next_hop
returns-in_default-clause-hears g c =
    rw (← c.self.view_is) (on_memory c.self.inside.halted _ _
    (λ running. refusal_heard dropped _ (station_in c.self.inside.parts c.self.inside.bodies) NoRoute _ _ running
    (reply_lost (station_in c.self.inside.parts c.self.inside.bodies) c.args.grant.now.address c.args.last.now.by c.args.offered.now.origin c.args.to
    (record { number = c.args.offered.now.number; cost = c.args.offered.now.cost }) c.args.last.now.time
    (grind (arith, nat_tests, c.if-number.false, c.number.ensures.value, c.number-2.ensures.value, ap (λ (g : Granted). g.address) c.grant.view_is))
    c.in_default.ensures) c.requires.ready.empty (rw (← c.self.view_is) at c.requires.fresh)))

pub returns-clause-hears : goal.returns-clause-hears
unfolding next_hop
returns-clause-hears g c =
    rw (← c.self.view_is) (on_memory c.self.inside.halted _ _ (λ running. heard_by _ _ _ _ _ _
    (reply_on (station_in c.self.inside.parts c.self.inside.bodies) c.args.grant.now.address c.args.last.now.by c.args.offered.now.origin c.args.to
    c.in-Some.hop
    (record { number = c.args.offered.now.number; cost = c.args.offered.now.cost }) c.args.last.now.time
    (grind (arith, nat_tests, c.if-number.false, c.number.ensures.value, c.number-2.ensures.value, ap (λ (g : Granted). g.address) c.grant.view_is))
    c.in-Some.ensures) (at_some _ _ (station_in c.self.inside.parts c.self.inside.bodies) running (rw (← c.self.view_is) at c.hear_reply_for.ensures.hears))))
