use Rattle.std.proofs.Common.{arith}
use Rattle.std.proofs.lemmas.Bool.Decides.{nat_tests}
use Rattle.node_rules.specs.declared.heard.Heard.TheVariants.{Relayed}
use Rattle.node_rules.specs.declared.refusal.Dropped.TheVariants.{HopsSpent, CounterSpent}
use Rattle.node_rules.specs.Memory.{next_hop}
use Rattle.node_rules.specs.Drafts.{empty_draft, goes}
use Rattle.node_rules.specs.HearingRules.{dropped}
use Rattle.plc_station.specs.StationViews.{station_in}
use Rattle.plc_station.proofs.CarriedPlans.{on_memory, at_some}
use Rattle.plc_station.proofs.EndedSteps.{refusal, carried_by, answered, failed}
use Rattle.plc_station.proofs.Ways.{too_few, enough}
use Rattle.plc_station.proofs.ForwardCases.{no_way, hops_spent, forward_spent, forwarded}
use Rattle.plc_station.proofs.station.Station.forward.Goals as goal

pub returns-in_default-clause-carries : goal.returns-in_default-clause-carries
unfolding next_hop
returns-in_default-clause-carries g c =
    rw (← c.self.view_is) (on_memory c.self.inside.halted _ _ (λ running. carried_by _ _ _ _ _ _
    (no_way (station_in c.self.inside.parts c.self.inside.bodies) c.args.grant.now.address c.args.mesh.now c.args.unit.now c.args.note c.in_default.ensures)
    (at_some _ _ (station_in c.self.inside.parts c.self.inside.bodies) running (rw (← c.self.view_is) at c.report.ensures.carries))))

pub returns-then-mesh-lt2-clause-carries : goal.returns-then-mesh-lt2-clause-carries
unfolding next_hop
returns-then-mesh-lt2-clause-carries g c =
    rw (← c.self.view_is) (on_memory c.self.inside.halted _ _
    (λ running. refusal dropped _ (station_in c.self.inside.parts c.self.inside.bodies) HopsSpent _ _ running
    (hops_spent (station_in c.self.inside.parts c.self.inside.bodies) c.args.grant.now.address c.args.mesh.now c.args.unit.now c.args.note c.in-Some.hop
    c.in-Some.ensures (grind (arith, nat_tests, c.if-mesh-lt2.true))) c.requires.ready.empty))

pub returns-then-left-lt1-clause-carries : goal.returns-then-left-lt1-clause-carries
unfolding next_hop
returns-then-left-lt1-clause-carries g c =
    rw (← c.self.view_is) (on_memory c.self.inside.halted _ _
    (λ running. refusal dropped _ (station_in c.self.inside.parts c.self.inside.bodies) CounterSpent _ _ running
    (forward_spent (station_in c.self.inside.parts c.self.inside.bodies) c.args.grant.now.address c.args.mesh.now c.args.unit.now c.args.note c.in-Some.hop
    c.in-Some.ensures (grind (arith, nat_tests, c.if-mesh-lt2.false)) (too_few _ _ _ c.left-left.ensures (omega (arith, c.if-left-lt1.true))))
    c.requires.ready.empty))

pub returns-in-Ok-clause-carries : goal.returns-in-Ok-clause-carries
unfolding next_hop
returns-in-Ok-clause-carries g c =
    rw (← c.self.view_is) (on_memory c.self.inside.halted _ _ (λ running. carried_by _ _ _ _ _ _
    (forwarded (station_in c.self.inside.parts c.self.inside.bodies) c.args.grant.now.address c.args.mesh.now c.args.unit.now c.args.note c.in-Some.hop
    c.in-Some.ensures (grind (arith, nat_tests, c.if-mesh-lt2.false)) (enough _ _ _ c.left-left.ensures (omega (arith, c.if-left-lt1.false))))
    (answered dropped _ _ (goes c.in-Some.hop c.args.unit.now c.args.note (empty_draft (station_in c.self.inside.parts c.self.inside.bodies))) _ Relayed _
    (rw c.one.ensures.value at (at_some _ _ (station_in c.self.inside.parts c.self.inside.bodies) running
    (rw (← c.self.view_is) at c.in-Ok.ensures.carries))))))

pub returns-in-Err-clause-carries : goal.returns-in-Err-clause-carries
unfolding next_hop
returns-in-Err-clause-carries g c =
    rw (← c.self.view_is) (on_memory c.self.inside.halted _ _ (λ running. carried_by _ _ _ _ _ _
    (forwarded (station_in c.self.inside.parts c.self.inside.bodies) c.args.grant.now.address c.args.mesh.now c.args.unit.now c.args.note c.in-Some.hop
    c.in-Some.ensures (grind (arith, nat_tests, c.if-mesh-lt2.false)) (enough _ _ _ c.left-left.ensures (omega (arith, c.if-left-lt1.false))))
    (failed dropped _ _ (goes c.in-Some.hop c.args.unit.now c.args.note (empty_draft (station_in c.self.inside.parts c.self.inside.bodies))) _ Relayed _
    (rw c.one.ensures.value at (at_some _ _ (station_in c.self.inside.parts c.self.inside.bodies) running
    (rw (← c.self.view_is) at c.in-Err.ensures.carries))))))
