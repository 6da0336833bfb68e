use Rattle.std.proofs.Common.{ℕ, ◌<◌, sym, subst}
use Rattle.routing_set.specs.FirstEnd.{IsStill}
use Rattle.routing_set.proofs.FirstEnds.{still, none_ends, ends_after}
use Rattle.routing_set.proofs.routing_set.RoutingSet.next_end.Goals as goal

pub returns-clause-still : goal.returns-clause-still
returns-clause-still c = subst (λ (n : ℕ). IsStill n c.args.self.now.entries) (sym c.first_end.ensures) (still c.args.self.now.entries)

pub returns-clause-waits : goal.returns-clause-waits
returns-clause-waits c = λ time before. none_ends c.args.self.now c.first_end.result time before (returns-clause-still c)

pub returns-clause-ends : goal.returns-clause-ends
returns-clause-ends c = λ time clock same. subst (λ (n : ℕ). time < n) (sym c.first_end.ensures) (ends_after c.args.self.now time clock same)
