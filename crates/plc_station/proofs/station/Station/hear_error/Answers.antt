use Rattle.std.proofs.Common.{ap, arith}
use Rattle.std.proofs.lemmas.Bool.Decides.{nat_tests}
use Rattle.plc_base.specs.Grant.{Granted}
use Rattle.node_rules.specs.declared.refusal.Dropped.TheVariants.{CounterSpent}
use Rattle.node_rules.specs.Memory.{next_hop}
use Rattle.node_rules.specs.Drafts.{empty_draft, with_routing_by}
use Rattle.node_rules.specs.HearingRules.{dropped}
use Rattle.plc_station.specs.StationViews.{station_in}
use Rattle.plc_station.proofs.CarriedPlans.{on_memory, at_some}
use Rattle.plc_station.proofs.EndedSteps.{refusal, carried_by}
use Rattle.plc_station.proofs.Ways.{too_few, enough}
use Rattle.plc_station.proofs.ErrorCases.{error_here, error_ends, error_spent, error_on}
use Rattle.plc_station.proofs.station.Station.hear_error.Goals as goal

pub returns-then-number-clause-carries : goal.returns-then-number-clause-carries
returns-then-number-clause-carries g c =
    rw (← c.self.view_is) (on_memory c.self.inside.halted _ _ (λ running. carried_by _ _ _ _ _ _
    (error_here (station_in c.self.inside.parts c.self.inside.bodies) c.args.grant.now.address c.args.by c.args.lost c.args.to
    (grind (arith, nat_tests, c.if-number.true, c.number.ensures.value, c.number-2.ensures.value, ap (λ (g : Granted). g.address) c.grant.view_is)))
    (at_some _ _ (station_in c.self.inside.parts c.self.inside.bodies) running (rw (← c.self.view_is) at c.lose.ensures.carries))))

pub returns-in_default-clause-carries : goal.returns-in_default-clause-carries
unfolding next_hop with_routing_by empty_draft
returns-in_default-clause-carries g c =
    rw (← c.self.view_is) (on_memory c.self.inside.halted _ _ (λ running. carried_by _ _ _ _ _ _
    (error_ends (station_in c.self.inside.parts c.self.inside.bodies) c.args.grant.now.address c.args.by c.args.lost c.args.to
    (grind (arith, nat_tests, c.if-number.false, c.number.ensures.value, c.number-2.ensures.value, ap (λ (g : Granted). g.address) c.grant.view_is))
    c.in_default.ensures) (at_some _ _ (station_in c.self.inside.parts c.self.inside.bodies) running
    (rw (← c.self.view_is) at c.lose-in_default.ensures.carries))))

pub returns-then-left-lt1-clause-carries : goal.returns-then-left-lt1-clause-carries
unfolding next_hop with_routing_by empty_draft
returns-then-left-lt1-clause-carries g c =
    rw (← c.self.view_is) (on_memory c.self.inside.halted _ _
    (λ running. refusal dropped _ (station_in c.self.inside.parts c.self.inside.bodies) CounterSpent _ _ running
    (error_spent (station_in c.self.inside.parts c.self.inside.bodies) c.args.grant.now.address c.args.by c.args.lost c.args.to c.in-Some.hop
    (grind (arith, nat_tests, c.if-number.false, c.number.ensures.value, c.number-2.ensures.value, ap (λ (g : Granted). g.address) c.grant.view_is))
    c.in-Some.ensures (too_few _ _ _ c.left-left.ensures (omega (arith, c.if-left-lt1.true)))) c.requires.ready.empty))

pub returns-clause-carries : goal.returns-clause-carries
unfolding next_hop with_routing_by empty_draft
returns-clause-carries g c =
    rw (← c.self.view_is) (on_memory c.self.inside.halted _ _ (λ running. carried_by _ _ _ _ _ _
    (error_on (station_in c.self.inside.parts c.self.inside.bodies) c.args.grant.now.address c.args.by c.args.lost c.args.to c.in-Some.hop
    (grind (arith, nat_tests, c.if-number.false, c.number.ensures.value, c.number-2.ensures.value, ap (λ (g : Granted). g.address) c.grant.view_is))
    c.in-Some.ensures (enough _ _ _ c.left-left.ensures (omega (arith, c.if-left-lt1.false))))
    (at_some _ _ (station_in c.self.inside.parts c.self.inside.bodies) running (rw (← c.self.view_is) at c.pass_error_on.ensures.carries))))
