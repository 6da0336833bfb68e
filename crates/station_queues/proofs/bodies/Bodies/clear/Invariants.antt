use Rattle.std.proofs.Common.{◌≡◌, [], length}
use Rattle.station_queues.proofs.bodies.Bodies.clear.Given as goal

abbrev pub invariant-loop-self : goal.invariant-loop-self
invariant-loop-self l = l.self.reassemblies ≡ []

abbrev pub decreases-loop-self : goal.decreases-loop-self
decreases-loop-self l = length l.self.waiting
