use Rattle.std.proofs.Common.{◌*◌, ◌+◌}
use Rattle.aes_modes.specs.Ccm.{ccm_stream_block}
use Rattle.aes_modes.proofs.Streams.{MaskedTo}
use Rattle.aes_modes.proofs.pairs.mask_pairs.Given as goal

abbrev pub invariant-pairs : goal.invariant-pairs
invariant-pairs l = MaskedTo (λ i. ccm_stream_block l.aes l.nonce (i + 1)) l.fn.text l.text (16 * (2 * l.i))
