use Rattle.std.proofs.Common.{ap, arith}
use Rattle.std.proofs.lemmas.Bool.Decides.{nat_tests}
use Rattle.plc_base.specs.Grant.{Granted}
use Rattle.loadng_messages.specs.declared.message.Message.TheVariants.{Rerr}
use Rattle.node_rules.specs.declared.heard.Heard.TheVariants.{Reported}
use Rattle.node_rules.specs.declared.refusal.Dropped.TheVariants.{NoRoute, CounterSpent}
use Rattle.node_rules.specs.Memory.{next_hop}
use Rattle.node_rules.specs.Drafts.{empty_draft, send_message}
use Rattle.node_rules.specs.HearingRules.{dropped}
use Rattle.plc_station.specs.StationViews.{station_in}
use Rattle.plc_station.proofs.CarriedPlans.{if_some, on_memory, at_some}
use Rattle.plc_station.proofs.EndedSteps.{refusal, carried_by, answered, failed}
use Rattle.plc_station.proofs.Ways.{too_few, enough}
use Rattle.plc_station.proofs.ForwardCases.{own_lost, origin_lost, report_spent, reported}
use Rattle.plc_station.proofs.station.Station.report.Goals as goal

pub returns-then-number-clause-carries : goal.returns-then-number-clause-carries
returns-then-number-clause-carries g c =
    if_some c.args.self.now.memory _ (λ l m. refusal dropped c.args.self.now l NoRoute _ _ m
    (own_lost l c.args.grant.now.address c.args.mesh.now (grind (
      arith,
      nat_tests,
      c.if-number.true,
      c.number.ensures.value,
      c.number-2.ensures.value,
      (ap (λ (g : Granted). g.address) c.grant.view_is),
    ))) c.requires.ready.empty)

pub returns-in_default-clause-carries : goal.returns-in_default-clause-carries
unfolding next_hop
returns-in_default-clause-carries g c =
    rw (← c.self.view_is) (on_memory c.self.inside.halted _ _
    (λ running. refusal dropped _ (station_in c.self.inside.parts c.self.inside.bodies) NoRoute _ _ running
    (origin_lost (station_in c.self.inside.parts c.self.inside.bodies) c.args.grant.now.address c.args.mesh.now
    (grind (arith, nat_tests, c.if-number.false, c.number.ensures.value, c.number-2.ensures.value, (ap (λ (g : Granted). g.address) c.grant.view_is)))
    c.in_default.ensures) c.requires.ready.empty))

pub returns-then-left-lt1-clause-carries : goal.returns-then-left-lt1-clause-carries
unfolding next_hop
returns-then-left-lt1-clause-carries g c =
    rw (← c.self.view_is) (on_memory c.self.inside.halted _ _
    (λ running. refusal dropped _ (station_in c.self.inside.parts c.self.inside.bodies) CounterSpent _ _ running
    (report_spent (station_in c.self.inside.parts c.self.inside.bodies) c.args.grant.now.address c.args.mesh.now c.in-Some.hop
    (grind (arith, nat_tests, c.if-number.false, c.number.ensures.value, c.number-2.ensures.value, (ap (λ (g : Granted). g.address) c.grant.view_is)))
    c.in-Some.ensures (too_few _ _ _ c.left-left.ensures (omega (arith, c.if-left-lt1.true)))) c.requires.ready.empty))

pub returns-in-Ok-clause-carries : goal.returns-in-Ok-clause-carries
unfolding next_hop
returns-in-Ok-clause-carries g c =
    rw (← c.self.view_is) (on_memory c.self.inside.halted _ _ (λ running. carried_by _ _ _ _ _ _
    (reported (station_in c.self.inside.parts c.self.inside.bodies) c.args.grant.now.address c.args.mesh.now c.in-Some.hop
    (grind (arith, nat_tests, c.if-number.false, c.number.ensures.value, c.number-2.ensures.value, (ap (λ (g : Granted). g.address) c.grant.view_is)))
    c.in-Some.ensures (enough _ _ _ c.left-left.ensures (omega (arith, c.if-left-lt1.false))))
    (answered dropped _ _ (send_message c.in-Some.hop (Rerr c.args.mesh.now.to c.args.mesh.now.origin)
    (empty_draft (station_in c.self.inside.parts c.self.inside.bodies))) _ Reported _
    (rw (c.one.ensures.value, c.error_unit-unit.ensures) at
    (at_some _ _ (station_in c.self.inside.parts c.self.inside.bodies) running (rw (← c.self.view_is) at c.in-Ok.ensures.carries))))))

pub returns-in-Err-clause-carries : goal.returns-in-Err-clause-carries
unfolding next_hop
returns-in-Err-clause-carries g c =
    rw (← c.self.view_is) (on_memory c.self.inside.halted _ _ (λ running. carried_by _ _ _ _ _ _
    (reported (station_in c.self.inside.parts c.self.inside.bodies) c.args.grant.now.address c.args.mesh.now c.in-Some.hop
    (grind (arith, nat_tests, c.if-number.false, c.number.ensures.value, c.number-2.ensures.value, (ap (λ (g : Granted). g.address) c.grant.view_is)))
    c.in-Some.ensures (enough _ _ _ c.left-left.ensures (omega (arith, c.if-left-lt1.false))))
    (failed dropped _ _ (send_message c.in-Some.hop (Rerr c.args.mesh.now.to c.args.mesh.now.origin)
    (empty_draft (station_in c.self.inside.parts c.self.inside.bodies))) _ Reported _
    (rw (c.one.ensures.value, c.error_unit-unit.ensures) at
    (at_some _ _ (station_in c.self.inside.parts c.self.inside.bodies) running (rw (← c.self.view_is) at c.in-Err.ensures.carries))))))
