use Rattle.std.proofs.Common.{ℕ, ◌<◌, sym, ap, subst, ◌∙◌}
use Rattle.std.specs.Prelude.{fold}
use Rattle.station_queues.specs.FirstEnd.{end_by, first_end, IsStill}
use Rattle.station_queues.proofs.FirstEnds.{still, is_first, none_ends, ends_after}
use Rattle.station_queues.proofs.bodies.Bodies.next_end.Goals as goal

pub returns-clause-value : goal.returns-clause-value
returns-clause-value c =
    c.first_end.ensures ∙ ap (λ (time : ℕ). fold end_by time c.self.inside.waiting.items) c.next_end.ensures.value
    ∙ is_first c.self.inside.pool c.self.inside.reassembly c.self.inside.waiting.items ∙ ap first_end c.self.view_is

pub returns-clause-still : goal.returns-clause-still
returns-clause-still c =
    subst (λ (n : ℕ). IsStill n c.args.self.now) (sym c.first_end.ensures)
    (subst (IsStill (fold end_by c.next_end.result c.self.inside.waiting.items)) c.self.view_is
    (still c.self.inside.pool c.self.inside.reassembly c.self.inside.waiting.items c.next_end.result (c.next_end.ensures.still c.self.inside.pool)))

pub returns-clause-waits : goal.returns-clause-waits
returns-clause-waits c = λ time before. sym (none_ends c.args.self.now c.first_end.result time before (returns-clause-still c))

pub returns-clause-ends : goal.returns-clause-ends
returns-clause-ends c = λ time clock same. subst (λ (n : ℕ). time < n) (sym (returns-clause-value c)) (ends_after c.args.self.now time clock same)
