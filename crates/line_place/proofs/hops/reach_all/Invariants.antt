use Rattle.line_place.specs.Hops.{IsWider}
use Rattle.line_place.proofs.SearchRounds.{IsLinkBefore}
use Rattle.line_place.proofs.hops.reach_all.Given as goal

abbrev pub invariant-loop-link : goal.invariant-loop-link
invariant-loop-link l =
    IsWider l.round (IsLinkBefore l.links l.link-index) l.initial.hops.items l.initial.next.items l.hops.items l.next.items
