use Rattle.std.proofs.Common.{◌≡◌, ◌*◌, ◌+◌, ◌%◌, ◌/◌, length, refl, ◌∙◌, arith}
use Rattle.aes_modes.specs.Cipher.{encrypted}
use Rattle.aes_modes.specs.Eax.{eax_stream_block}
use Rattle.aes_modes.proofs.Chains.{length-encrypted}
use Rattle.aes_modes.proofs.Streams.{MaskedTo, masked_more, masked_all}
use Rattle.aes_modes.proofs.eax.mask.Goals as goal

pub whole-preserved : goal.whole-preserved
whole-preserved c =
    masked_more (eax_stream_block c.args.aes.now c.args.start) c.args.text.now c.whole.text c.mask_block.new.text c.encrypt_block-stream.result
    c.whole.i 16 (16 * (c.whole.i + 1)) c.whole.invariant
    (c.encrypt_block-stream.ensures ∙ (λ i. encrypted c.args.aes.now (c.to_be_bytes.ensures i))) (omega arith)
    c.mask_block.ensures.block c.mask_block.ensures.before c.mask_block.ensures.after (omega arith)

pub returns-then-rest-eq0 : goal.returns-then-rest-eq0
returns-then-rest-eq0 c =
    masked_all (eax_stream_block c.args.aes.now c.args.start) (λ i. length-encrypted c.args.aes.now _) c.args.text.now c.whole.text
    (16 * c.whole.i) c.whole.invariant (omega arith) (omega arith)

pub returns : goal.returns
returns c =
    let count = length c.args.text.now / 16 in
    let done : c.whole.i ≡ count = omega arith in
    let held : MaskedTo (eax_stream_block c.args.aes.now c.args.start) c.args.text.now c.whole.text (16 * count) = rw done at c.whole.invariant in
    masked_all (eax_stream_block c.args.aes.now c.args.start) (λ i. length-encrypted c.args.aes.now _) c.args.text.now c.mask_block-2.new.text
    (length c.args.text.now)
    (masked_more (eax_stream_block c.args.aes.now c.args.start) c.args.text.now c.whole.text c.mask_block-2.new.text c.encrypt_block-stream-2.result
    count (length c.whole.text % 16) (length c.args.text.now) held
    (c.encrypt_block-stream-2.ensures ∙ (λ i. encrypted c.args.aes.now (c.to_be_bytes-2.ensures i))) (omega arith)
    c.mask_block-2.ensures.block c.mask_block-2.ensures.before c.mask_block-2.ensures.after (omega arith))
    refl (omega arith)
