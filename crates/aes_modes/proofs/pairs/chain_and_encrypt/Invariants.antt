use Rattle.std.proofs.Common.{◌≡◌, ◌*◌, ◌+◌}
use Rattle.aes_modes.specs.Chains.{chained}
use Rattle.aes_modes.specs.Ccm.{ccm_stream_block}
use Rattle.aes_modes.proofs.Streams.{MaskedTo}
use Rattle.aes_modes.proofs.pairs.chain_and_encrypt.Given as goal

abbrev pub invariant-whole : goal.invariant-whole
invariant-whole l =
    (l.x ≡ chained l.aes l.fn.x l.fn.text l.i)
    × MaskedTo (λ i. ccm_stream_block l.aes l.nonce (i + 1)) l.fn.text l.text (16 * l.i)
