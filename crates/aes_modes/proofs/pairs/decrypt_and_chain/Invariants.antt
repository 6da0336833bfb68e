use Rattle.std.proofs.Common.{◌≡◌, ◌*◌, ◌+◌, ◌<◌}
use Rattle.aes_modes.specs.Chains.{chained}
use Rattle.aes_modes.specs.Ccm.{ccm_stream_block, ccm_text}
use Rattle.aes_modes.specs.Pairs.{following}
use Rattle.aes_modes.proofs.Streams.{MaskedTo}
use Rattle.aes_modes.proofs.pairs.decrypt_and_chain.Given as goal

abbrev pub invariant-whole : goal.invariant-whole
invariant-whole l =
    (l.x ≡ chained l.aes l.fn.x (ccm_text l.aes l.nonce l.fn.text) l.i)
    × (0 < l.blocks → l.stream ≡ ccm_stream_block l.aes l.nonce (following l.i l.blocks))
    × MaskedTo (λ i. ccm_stream_block l.aes l.nonce (i + 1)) l.fn.text l.text (16 * l.i)
