use Rattle.std.proofs.Common.{◌≡◌, ◌*◌, ◌+◌, ◌%◌, ◌/◌, length, refl, ◌∙◌, arith}
use Rattle.aes_modes.specs.Cipher.{encrypted}
use Rattle.aes_modes.specs.Ccm.{ccm_stream_block, ccm_text}
use Rattle.aes_modes.proofs.Chains.{length-encrypted}
use Rattle.aes_modes.proofs.Streams.{MaskedTo, masked_more, masked_all}
use Rattle.aes_modes.proofs.ccm.ccm_mask.Goals as goal

pub returns-then-rest-eq0 : goal.returns-then-rest-eq0
unfolding ccm_text
returns-then-rest-eq0 c =
    masked_all (λ i. ccm_stream_block c.args.aes.now c.args.nonce.now (i + 1)) (λ i. length-encrypted c.args.aes.now _) c.args.text.now c.whole.text
    (16 * c.whole.i) c.whole.invariant (omega arith) (omega arith)

pub returns : goal.returns
unfolding ccm_text
returns c =
    let count = length c.args.text.now / 16 in
    let done : c.whole.i ≡ count = omega arith in
    let held : MaskedTo (λ i. ccm_stream_block c.args.aes.now c.args.nonce.now (i + 1)) c.args.text.now c.whole.text (16 * count) = rw done at
    c.whole.invariant in
    masked_all (λ i. ccm_stream_block c.args.aes.now c.args.nonce.now (i + 1)) (λ i. length-encrypted c.args.aes.now _) c.args.text.now c.mask_block-2.new.text
    (length c.args.text.now)
    (masked_more (λ i. ccm_stream_block c.args.aes.now c.args.nonce.now (i + 1)) c.args.text.now c.whole.text c.mask_block-2.new.text
    c.encrypt_block-stream-2.result
    count (length c.whole.text % 16) (length c.args.text.now) held
    (c.encrypt_block-stream-2.ensures ∙ (λ i. encrypted c.args.aes.now (c.counter-2.ensures i))) (omega arith)
    c.mask_block-2.ensures.block c.mask_block-2.ensures.before c.mask_block-2.ensures.after (omega arith))
    refl (omega arith)
