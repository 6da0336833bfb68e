use Rattle.std.proofs.Common.{◌++◌, ◌∙◌}
use Rattle.byteorder.specs.Endian.{big_bytes}
use Rattle.aes_modes.specs.Ccm.{ccm_text, ccm_tag}
use Rattle.line_replay.specs.VectorsText.{ccm1}
use Rattle.line_replay.proofs.vectors.ccm1.Goals as goal

pub returns : goal.returns
unfolding ccm1
returns c =
    let nonce = big_bytes 13 0x00000003020100a0a1a2a3a4a5 in
    let header = big_bytes 8 0x0001020304050607 in
    let text = big_bytes 23 0x08090a0b0c0d0e0f101112131415161718191a1b1c1d1e in
    c.append-2.ensures
    ∙ (λ i. (c.append.ensures ∙ (λ j. c.new-sealed.ensures j ++ c.ccm_seal.ensures.text j)) i ++ c.ccm_seal.ensures.tag i)
    ∙ (λ i. ccm_text (c.new-aes.ensures i) nonce text ++ ccm_tag 8 (c.new-aes.ensures i) nonce header text)
