use Rattle.std.proofs.Common.{◌≡◌, ℕ, List, ◌*◌, ◌+◌, ◌-◌, ◌%◌, ◌/◌, ◌++◌, length, take, drop, replicate, refl, sym, ap, ◌∙◌, arith}
use Rattle.aes_modes.specs.Cipher.{xor_bytes, encrypted}
use Rattle.aes_modes.specs.Chains.{chained}
use Rattle.aes_modes.specs.Ccm.{ccm_stream_block, ccm_text}
use Rattle.aes_modes.proofs.Chains.{length-encrypted, chained_none, chained_more, chained_part}
use Rattle.aes_modes.proofs.Streams.{MaskedTo, masked_more, masked_all}
use Rattle.aes_modes.proofs.Beside.{same_rest}
use Rattle.aes_modes.proofs.pairs.chain_and_encrypt.Goals as goal

pub whole-init : goal.whole-init
whole-init c = (sym (chained_none c.args.aes.now c.args.x.now c.args.text.now), (λ k low. absurd (omega (arith, low)), λ k high. refl))

pub whole-preserved : goal.whole-preserved
whole-preserved c =
    let key = c.args.aes.now in
    let i = c.whole.i in
    let rest : drop (16 * i) c.whole.text ≡ drop (16 * i) c.args.text.now = same_rest c.args.text.now c.whole.text (16 * i) (omega arith)
    c.whole.invariant.1.1 in (
      c.encrypt_two.ensures.first
          ∙ (λ j. encrypted key ((c.xor_blocks-block.ensures ∙ (λ k. xor_bytes (c.whole.invariant.0 k) ((c.block_at.ensures ∙ ap (take 16) rest) k))) j))
          ∙ sym (chained_more key c.args.x.now c.args.text.now i),
      masked_more (λ i. ccm_stream_block key c.args.nonce.now (i + 1)) c.args.text.now c.whole.text c.mask_block.new.text
          c.encrypt_two.result.1 i 16 (16 * (i + 1)) c.whole.invariant.1
          (c.encrypt_two.ensures.second ∙ (λ j. encrypted key (c.counter.ensures j))) (omega arith)
          c.mask_block.ensures.block c.mask_block.ensures.before c.mask_block.ensures.after (omega arith),
    )

pub returns-then-rest-eq0-clause-text : goal.returns-then-rest-eq0-clause-text
unfolding ccm_text
returns-then-rest-eq0-clause-text c =
    masked_all (λ i. ccm_stream_block c.args.aes.now c.args.nonce.now (i + 1)) (λ i. length-encrypted c.args.aes.now _) c.args.text.now c.whole.text
    (16 * c.whole.i) c.whole.invariant.1 (omega arith) (omega arith)

pub returns-clause-chain : goal.returns-clause-chain
returns-clause-chain c =
    let key = c.args.aes.now in
    let m : List ℕ = c.args.text.now in
    let count = length m / 16 in
    let done : c.whole.i ≡ count = omega arith in
    let len : length c.whole.text ≡ length m = omega arith in
    let part = c.if-rest-eq0.false in
    let before : c.whole.x ≡ chained key c.args.x.now m count = rw done at c.whole.invariant.0 in
    let rest : drop (16 * count) c.whole.text ≡ drop (16 * count) m = same_rest m c.whole.text (16 * count) len (rw done at c.whole.invariant.1.1) in
    let pad : 16 - (length c.whole.text - 16 * count) ≡ 16 - (length m - 16 * count) = omega (arith, len) in
    c.encrypt_two-2.ensures.first
    ∙ (λ j. encrypted key ((c.xor_blocks-block-2.ensures ∙ (λ k. xor_bytes (before k) ((c.padded_block.ensures ∙ (λ l. rest l ++ replicate (pad l) 0)) k))) j))
    ∙ chained_part key c.args.x.now m (λ e. part (omega (arith, len, e)))

pub returns-clause-text : goal.returns-clause-text
unfolding ccm_text
returns-clause-text c =
    let key = c.args.aes.now in
    let f : ℕ → List ℕ = λ i. ccm_stream_block key c.args.nonce.now (i + 1) in
    let count = length c.args.text.now / 16 in
    let done : c.whole.i ≡ count = omega arith in
    let held : MaskedTo f c.args.text.now c.whole.text (16 * count) = rw done at c.whole.invariant.1 in
    masked_all f (λ i. length-encrypted key _) c.args.text.now c.mask_block-2.new.text (length c.args.text.now)
    (masked_more f c.args.text.now c.whole.text c.mask_block-2.new.text c.encrypt_two-2.result.1
    count (length c.whole.text % 16) (length c.args.text.now) held
    (c.encrypt_two-2.ensures.second ∙ (λ i. encrypted key (c.counter-2.ensures i))) (omega arith)
    c.mask_block-2.ensures.block c.mask_block-2.ensures.before c.mask_block-2.ensures.after (omega arith))
    refl (omega arith)
