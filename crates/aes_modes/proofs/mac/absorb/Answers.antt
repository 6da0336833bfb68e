use Rattle.std.proofs.Common.{◌∙◌}
use Rattle.aes_modes.specs.Cipher.{xor_bytes, encrypted}
use Rattle.aes_modes.proofs.Chains.{chained_part}
use Rattle.aes_modes.proofs.mac.absorb.Goals as goal

pub returns : goal.returns
returns c =
    c.encrypt_block-next.ensures
    ∙ (λ i. encrypted c.args.aes.now ((c.xor_blocks.ensures ∙ (λ j. xor_bytes (c.chain.ensures j) (c.padded_block.ensures j))) i))
    ∙ chained_part c.args.aes.now c.args.x.now c.args.text.now c.if-text-eq0.false
