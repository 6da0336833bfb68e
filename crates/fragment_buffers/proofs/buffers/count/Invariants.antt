use Rattle.std.proofs.Common.{◌≡◌, take}
use Rattle.fragment_buffers.specs.Buffers.{pieces_in}
use Rattle.fragment_buffers.proofs.buffers.count.Given as goal

abbrev pub invariant-loop-buffer : goal.invariant-loop-buffer
invariant-loop-buffer l = l.sum ≡ pieces_in (take l.buffer-index l.buffers)
