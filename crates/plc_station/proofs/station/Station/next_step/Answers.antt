use Rattle.std.proofs.Common.{arith}
use Rattle.std.proofs.lemmas.Bool.Decides.{nat_tests}
use Rattle.node_rules.specs.Memory.{next_hop}
use Rattle.plc_station.specs.StationViews.{station_in}
use Rattle.plc_station.proofs.CarriedPlans.{on_memory}
use Rattle.plc_station.proofs.Ways.{too_few, enough}
use Rattle.plc_station.proofs.NextStepCases.{step_is, goes_spent, goes, full, waits, numbers, seeks_spent, seeks}
use Rattle.plc_station.proofs.station.Station.next_step.Goals as goal

pub returns-then-left-frames-clause-step : goal.returns-then-left-frames-clause-step
unfolding next_hop
returns-then-left-frames-clause-step g c =
    rw (← c.self.view_is) (on_memory c.self.inside.halted _ _
    (λ running. step_is (station_in c.self.inside.parts c.self.inside.bodies) c.args.to c.args.octets c.args.frames _
    (goes_spent c.in-Some.hop c.in-Some.ensures (too_few _ _ _ c.left-left.ensures (omega (arith, c.if-left-frames.true))))))

pub returns-in-Some-clause-step : goal.returns-in-Some-clause-step
unfolding next_hop
returns-in-Some-clause-step g c =
    rw (← c.self.view_is) (on_memory c.self.inside.halted _ _
    (λ running. step_is (station_in c.self.inside.parts c.self.inside.bodies) c.args.to c.args.octets c.args.frames _
    (goes c.in-Some.hop c.in-Some.ensures (enough _ _ _ c.left-left.ensures (omega (arith, c.if-left-frames.false))))))

pub returns-then-no_room-clause-step : goal.returns-then-no_room-clause-step
unfolding next_hop
returns-then-no_room-clause-step g c =
    rw (← c.self.view_is) (on_memory c.self.inside.halted _ _
    (λ running. step_is (station_in c.self.inside.parts c.self.inside.bodies) c.args.to c.args.octets c.args.frames _
    (full c.in_default.ensures c.if-no_room.ensures)))

pub returns-then-is_awaited-clause-step : goal.returns-then-is_awaited-clause-step
unfolding next_hop
returns-then-is_awaited-clause-step g c =
    rw (← c.self.view_is) (on_memory c.self.inside.halted _ _
    (λ running. step_is (station_in c.self.inside.parts c.self.inside.bodies) c.args.to c.args.octets c.args.frames _
    (waits c.in_default.ensures c.if-no_room.ensures c.if-is_awaited.ensures)))

pub returns-then-last-clause-step : goal.returns-then-last-clause-step
unfolding next_hop
returns-then-last-clause-step g c =
    rw (← c.self.view_is) (on_memory c.self.inside.halted _ _
    (λ running. step_is (station_in c.self.inside.parts c.self.inside.bodies) c.args.to c.args.octets c.args.frames _
    (numbers c.in_default.ensures c.if-no_room.ensures c.if-is_awaited.ensures (grind (arith, nat_tests, c.last.ensures, c.if-last.true)))))

pub returns-then-left-lt1-clause-step : goal.returns-then-left-lt1-clause-step
unfolding next_hop
returns-then-left-lt1-clause-step g c =
    rw (← c.self.view_is) (on_memory c.self.inside.halted _ _
    (λ running. step_is (station_in c.self.inside.parts c.self.inside.bodies) c.args.to c.args.octets c.args.frames _
    (seeks_spent c.in_default.ensures c.if-no_room.ensures c.if-is_awaited.ensures (grind (arith, nat_tests, c.last.ensures, c.if-last.false))
    (too_few _ _ _ c.left-left.ensures (omega (arith, c.if-left-lt1.true))))))

pub returns-clause-step : goal.returns-clause-step
unfolding next_hop
returns-clause-step g c =
    rw (← c.self.view_is) (on_memory c.self.inside.halted _ _
    (λ running. step_is (station_in c.self.inside.parts c.self.inside.bodies) c.args.to c.args.octets c.args.frames _
    (seeks c.in_default.ensures c.if-no_room.ensures c.if-is_awaited.ensures (grind (arith, nat_tests, c.last.ensures, c.if-last.false))
    (enough _ _ _ c.left-left.ensures (omega (arith, c.if-left-lt1.false))))))
