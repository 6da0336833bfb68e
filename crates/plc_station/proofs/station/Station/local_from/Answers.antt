use Rattle.std.proofs.Common.{arith}
use Rattle.node_rules.specs.declared.refusal.LocalRefusal.TheVariants.{CounterSpent}
use Rattle.node_rules.specs.Neighbours.{local_ends}
use Rattle.plc_station.specs.StationViews.{station_in}
use Rattle.plc_station.proofs.CarriedPlans.{on_memory, at_some}
use Rattle.plc_station.proofs.Ways.{too_few, enough}
use Rattle.plc_station.proofs.Beside.{after_by, refusal_after}
use Rattle.plc_station.proofs.Locals.{local_spent, local_sent}
use Rattle.plc_station.proofs.station.Station.local_from.Goals as goal

pub returns-then-left-lt1-clause-carries : goal.returns-then-left-lt1-clause-carries
returns-then-left-lt1-clause-carries g c =
    rw (← c.self.view_is) (on_memory c.self.inside.halted _ _
    (λ running. refusal_after local_ends _ (station_in c.self.inside.parts c.self.inside.bodies) CounterSpent _ _ running
    (local_spent (station_in c.self.inside.parts c.self.inside.bodies) c.args.code c.args.to c.args.body.now
    (too_few _ _ 1 c.left-left.ensures (omega (arith, c.if-left-lt1.true))))))

pub returns-clause-carries : goal.returns-clause-carries
returns-clause-carries g c =
    rw (← c.self.view_is) (on_memory c.self.inside.halted _ _ (λ running. after_by _ _ _ _ _ _ _
    (local_sent (station_in c.self.inside.parts c.self.inside.bodies) c.args.code c.args.to _ c.args.body.now c.destination.ensures
    (enough _ _ 1 c.left-left.ensures (omega (arith, c.if-left-lt1.false))))
    (at_some _ _ (station_in c.self.inside.parts c.self.inside.bodies) running (rw (← c.self.view_is) at c.local_goes.ensures.carries))))
