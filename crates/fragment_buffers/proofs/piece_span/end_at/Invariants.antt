use Rattle.std.proofs.Common.{◌≡◌, take, false}
use Rattle.std.specs.List.{list_any}
use Rattle.fragment_buffers.specs.Entries.{covers}
use Rattle.fragment_buffers.proofs.piece_span.end_at.Given as goal

abbrev pub invariant-loop-held : goal.invariant-loop-held
invariant-loop-held l = list_any (covers l.at) (take l.held-index l.places) ≡ false
