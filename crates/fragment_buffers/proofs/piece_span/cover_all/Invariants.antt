use Rattle.std.proofs.Common.{◌≡◌, ℕ, ◌-◌, ◌<◌, true}
use Rattle.std.specs.List.{list_any}
use Rattle.fragment_buffers.specs.Entries.{covers}
use Rattle.fragment_buffers.proofs.piece_span.cover_all.Given as goal

abbrev pub invariant-loop-at : goal.invariant-loop-at
invariant-loop-at l = (i : ℕ) → i < l.at → list_any (covers i) l.places ≡ true

abbrev pub decreases-loop-at : goal.decreases-loop-at
decreases-loop-at l = l.size - l.at
