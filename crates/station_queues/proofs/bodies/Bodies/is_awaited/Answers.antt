use Rattle.std.proofs.Common.{ap, ◌∙◌}
use Rattle.station_queues.specs.Bodies.{Held}
use Rattle.fragment_buffers.specs.WaitingBodies.{is_awaited_in}
use Rattle.station_queues.proofs.Sound.{awaited_same}
use Rattle.station_queues.proofs.bodies.Bodies.is_awaited.Goals as goal

pub returns : goal.returns
returns c = c.any_for.ensures ∙ awaited_same c.self.inside.pool c.self.inside.waiting.items c.args.to
    ∙ ap (λ (h : Held). is_awaited_in h.waiting c.args.to) c.self.view_is
