use Rattle.std.proofs.Common.{ap, sym, arith, ◌∙◌}
use Rattle.station_queues.specs.Bodies.{Held}
use Rattle.fragment_buffers.specs.WaitingBodies.{waiting_blocks}
use Rattle.station_queues.proofs.Sound.{blocks_same}
use Rattle.station_queues.proofs.bodies.Bodies.blocks.Goals as goal

pub returns-clause-value : goal.returns-clause-value
returns-clause-value c =
    c.self.invariant.count ∙ sym (blocks_same c.self.inside.pool c.self.inside.reassembly c.self.inside.waiting.items c.self.invariant.sound.waits)
    ∙ ap (λ (h : Held). waiting_blocks h.waiting) c.self.view_is

pub returns-clause-few : goal.returns-clause-few
returns-clause-few c = omega (arith, c.self.invariant.count, c.self.invariant.sound.few)
