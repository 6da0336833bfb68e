use Rattle.std.proofs.Common.{◌∙◌, ◌-◌, length, drop, set, arith}
use Rattle.std.specs.Int.{w128, to_be_bytes}
use Rattle.std.proofs.lemmas.List.{length-drop}
use Rattle.aes_modes.specs.Cipher.{xor_bytes}
use Rattle.aes_modes.proofs.Chains.{last_block_whole, last_block_part}
use Rattle.aes_modes.proofs.mac.last_block.Goals as goal

pub returns-then-count-eq16 : goal.returns-then-count-eq16
returns-then-count-eq16 c =
    let t = c.args.text.now in
    c.xor_blocks.ensures ∙ (λ i. xor_bytes c.padded_block-block.result (c.to_be_bytes.ensures i))
    ∙ last_block_whole c.args.aes.now (drop c.args.at t) c.padded_block-block.result c.args.subkey (length t - c.args.at)
    c.requires.subkey (omega (arith, length-drop c.args.at t)) (omega arith) c.padded_block-block.ensures

pub returns : goal.returns
returns c =
    let t = c.args.text.now in
    c.xor_blocks-2.ensures
    ∙ (λ i. xor_bytes (set c.padded_block-block.result (length t - c.args.at) 0x80)
    ((c.to_be_bytes-2.ensures ∙ (λ j. to_be_bytes w128 (c.double.ensures j))) i))
    ∙ last_block_part c.args.aes.now (drop c.args.at t) c.padded_block-block.result c.args.subkey (length t - c.args.at)
    c.requires.subkey (length-drop c.args.at t) (omega arith) c.padded_block-block.ensures
