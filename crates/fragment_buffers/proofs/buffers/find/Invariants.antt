use Rattle.std.proofs.Common.{◌≡◌, ℕ, ◌<◌, false}
use Rattle.fragment_buffers.specs.Buffers.{buffer_at, is_named}
use Rattle.fragment_buffers.proofs.buffers.find.Given as goal

abbrev pub invariant-loop-index : goal.invariant-loop-index
invariant-loop-index l = (k : ℕ) → k < l.index → is_named l.origin l.size l.tag (buffer_at l.buffers k) ≡ false
