use Rattle.std.proofs.Common.{sym, subst}
use Rattle.station_queues.specs.FirstEnd.{IsStill}
use Rattle.station_queues.proofs.FirstEnds.{none_ends}
use Rattle.station_queues.proofs.bodies.Bodies.expire.Goals as goal

pub returns-then-now-self : goal.returns-then-now-self
returns-then-now-self c =
    sym (none_ends c.args.self.now c.self.inside.next_end c.args.now c.if-now-self.true
    (subst (IsStill c.self.inside.next_end) c.self.view_is c.self.invariant.end))
