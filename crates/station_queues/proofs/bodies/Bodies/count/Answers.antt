use Rattle.std.proofs.Common.{subst, arith}
use Rattle.station_queues.specs.Sizes.{AreSized}
use Rattle.station_queues.proofs.Sizes.{are_sized}
use Rattle.station_queues.proofs.bodies.Bodies.count.Goals as goal

pub returns-clause-sized : goal.returns-clause-sized
returns-clause-sized c =
    subst AreSized c.self.view_is
    (are_sized c.self.inside.pool c.self.inside.reassembly c.self.inside.waiting.items c.self.invariant.sound (omega (arith, c.len.ensures.fits)))
