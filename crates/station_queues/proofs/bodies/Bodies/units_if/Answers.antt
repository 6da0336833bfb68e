use Rattle.std.proofs.Common.{length, sym, ap, ◌∙◌}
use Rattle.station_queues.specs.Frames.{body_at}
use Rattle.station_queues.proofs.Leaves.{one-leaves, none-leaves, length-units_by}
use Rattle.station_queues.proofs.bodies.Bodies.units_if.Goals as goal

pub returns-then-not-waits_at-clause-units : goal.returns-then-not-waits_at-clause-units
returns-then-not-waits_at-clause-units c =
    λ own hop. ap length (none-leaves own c.args.dest hop (body_at c.args.self.now.waiting c.args.index) c.if-not-waits_at.ensures)

pub returns-clause-units : goal.returns-clause-units
returns-clause-units c = λ own hop. c.units_at.ensures.units ∙ sym (length-units_by own hop (body_at c.args.self.now.waiting c.args.index))
    ∙ ap length (one-leaves own c.args.dest hop (body_at c.args.self.now.waiting c.args.index) c.if-not-waits_at.ensures)
