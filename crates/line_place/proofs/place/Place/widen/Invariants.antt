use Rattle.line_place.specs.Hops.{IsWider}
use Rattle.line_place.proofs.SearchRounds.{IsReachedBefore}
use Rattle.line_place.proofs.place.Place.widen.Given as goal

abbrev pub invariant-loop-a : goal.invariant-loop-a
invariant-loop-a l =
    IsWider l.round (IsReachedBefore l.self l.front l.a-index) l.initial.hops.items l.initial.next.items l.hops.items l.next.items
