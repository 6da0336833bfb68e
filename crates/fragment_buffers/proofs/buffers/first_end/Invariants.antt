use Rattle.std.proofs.Common.{◌≡◌, take}
use Rattle.std.specs.Prelude.{fold}
use Rattle.fragment_buffers.specs.Buffers.{end_before}
use Rattle.fragment_buffers.proofs.buffers.first_end.Given as goal

abbrev pub invariant-loop-buffer : goal.invariant-loop-buffer
invariant-loop-buffer l = l.end ≡ fold end_before 18446744073709551615 (take l.buffer-index l.buffers)
