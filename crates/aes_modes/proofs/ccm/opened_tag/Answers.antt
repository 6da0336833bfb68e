use Rattle.std.proofs.Common.{◌≡◌, List, ℕ, length, take, ap, ◌∙◌, arith}
use Rattle.aes_modes.specs.Cipher.{xor_bytes, encrypted}
use Rattle.aes_modes.specs.Chains.{chained_all, padded}
use Rattle.aes_modes.specs.Ccm.{ccm_header_blocks, ccm_tag}
use Rattle.aes_modes.proofs.CcmTags.{ccm_mac_is, first_block_by_length}
use Rattle.aes_modes.proofs.ccm.opened_tag.Goals as goal

pub returns-clause-tag : goal.returns-clause-tag
unfolding ccm_tag
returns-clause-tag c =
    let key = c.args.aes.now in
    let n = c.args.tag_len in
    let m : List ℕ = c.decrypt_and_chain-first.new.text in
    let len : length c.args.text.now ≡ length m = omega arith in
    let head = ccm_header_blocks c.args.header.now in
    let e1 = c.encrypt_two.ensures.first
    ∙ (λ i. encrypted key ((c.first_block.ensures ∙ first_block_by_length n c.args.nonce.now c.args.header.now c.args.text.now m len) i)) in
    let e2 = c.absorb_header.ensures ∙ (λ i. chained_all key (e1 i) head) in
    let e3 = c.decrypt_and_chain-first.ensures.chain ∙ (λ i. chained_all key (e2 i) (padded m))
    ∙ ccm_mac_is n key c.args.nonce.now c.args.header.now m (omega arith) in
    let e4 = c.decrypt_and_chain-first.ensures.stream in
    ap (take n) (c.xor_blocks.ensures ∙ (λ i. xor_bytes (e3 i) (e4 i)))
