use Rattle.std.proofs.Common.{◌≡◌}
use Rattle.line_place.specs.ScatteredSpots.{tries_after, NoneBefore}
use Rattle.line_place.proofs.scattering.Field.scatter.Given as goal

abbrev pub invariant-loop-tries : goal.invariant-loop-tries
invariant-loop-tries l =
    (l.draws ≡ tries_after l.self.meters l.fn.draws l.tries) × NoneBefore l.self l.losses l.costs l.fn.draws l.tries
