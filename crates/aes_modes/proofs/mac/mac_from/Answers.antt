use Rattle.std.proofs.Common.{◌∙◌, ◌/◌, arith}
use Rattle.aes_modes.specs.Cipher.{encrypted}
use Rattle.aes_modes.proofs.Chains.{mac_from_is}
use Rattle.aes_modes.proofs.mac.mac_from.Goals as goal

pub returns : goal.returns
returns c =
    c.encrypt_block.ensures ∙ (λ i. encrypted c.args.aes.now (c.xor_blocks.ensures i))
    ∙ mac_from_is c.args.aes.now c.args.x c.args.text.now c.chain.new.x c.last_block-last.result (c.saturating_sub-count.result / 16)
    (omega (arith, c.saturating_sub-count.ensures)) c.chain.ensures c.last_block-last.ensures
