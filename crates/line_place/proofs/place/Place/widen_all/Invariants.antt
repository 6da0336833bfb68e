use Rattle.std.proofs.Common.{◌+◌, length}
use Rattle.std.specs.List.{count_by}
use Rattle.line_place.specs.Hops.{AreAtMost, is_none}
use Rattle.line_place.proofs.place.Place.widen_all.Given as goal

abbrev pub invariant-rounds : goal.invariant-rounds
invariant-rounds l = AreAtMost l.self l.round l.hops.items l.front.items

abbrev pub decreases-rounds : goal.decreases-rounds
decreases-rounds l = count_by is_none l.hops.items + length l.front.items
