use Rattle.std.proofs.Common.{◌*◌}
use Rattle.aes_modes.specs.Eax.{eax_stream_block}
use Rattle.aes_modes.proofs.Streams.{MaskedTo}
use Rattle.aes_modes.proofs.eax.mask.Given as goal

abbrev pub invariant-whole : goal.invariant-whole
invariant-whole l = MaskedTo (eax_stream_block l.aes l.start) l.fn.text l.text (16 * l.i)
