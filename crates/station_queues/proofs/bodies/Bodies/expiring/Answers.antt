use Rattle.std.proofs.Common.{ap, ◌∙◌}
use Rattle.station_queues.specs.Bodies.{Held}
use Rattle.station_queues.specs.Expiring.{notes_of_expiring}
use Rattle.station_queues.proofs.ExpiringNotes.{same_notes}
use Rattle.station_queues.proofs.bodies.Bodies.expiring.Goals as goal

pub returns : goal.returns
returns c =
    c.notes_of_ended.ensures ∙ same_notes c.self.inside.pool c.args.now c.self.inside.waiting.items
    ∙ ap (λ (h : Held). notes_of_expiring c.args.now h.waiting) c.self.view_is
