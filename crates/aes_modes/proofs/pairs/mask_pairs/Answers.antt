use Rattle.std.proofs.Common.{◌≡◌, ℕ, List, ◌*◌, ◌+◌, ◌-◌, ◌%◌, ◌/◌, length, refl, ◌∙◌, arith}
use Rattle.aes_modes.specs.Cipher.{encrypted}
use Rattle.aes_modes.specs.Ccm.{ccm_stream_block, ccm_text}
use Rattle.aes_modes.proofs.Chains.{length-encrypted}
use Rattle.aes_modes.proofs.Streams.{MaskedTo, masked_more, masked_all}
use Rattle.aes_modes.proofs.pairs.mask_pairs.Goals as goal

pub pairs-init : goal.pairs-init
pairs-init c = (λ k low. absurd (omega (arith, low)), λ k high. refl)

pub pairs-preserved : goal.pairs-preserved
pairs-preserved c =
    let key = c.args.aes.now in
    let f : ℕ → List ℕ = λ i. ccm_stream_block key c.args.nonce.now (i + 1) in
    let i = c.pairs.i in
    let one : MaskedTo f c.args.text.now c.mask_block.new.text (16 * (2 * i + 1)) =
    masked_more f c.args.text.now c.pairs.text c.mask_block.new.text c.encrypt_two.result.0 (2 * i) 16 (16 * (2 * i + 1)) c.pairs.invariant
    (c.encrypt_two.ensures.first ∙ (λ j. encrypted key (c.counter.ensures j))) (omega arith)
    c.mask_block.ensures.block c.mask_block.ensures.before c.mask_block.ensures.after (omega arith) in
    masked_more f c.args.text.now c.mask_block.new.text c.mask_block-in-pairs.new.text c.encrypt_two.result.1 (2 * i + 1) 16 (16 * (2 * (i + 1))) one
    (c.encrypt_two.ensures.second ∙ (λ j. encrypted key (c.counter-in-pairs.ensures j))) (omega arith)
    c.mask_block-in-pairs.ensures.block c.mask_block-in-pairs.ensures.before c.mask_block-in-pairs.ensures.after (omega arith)

pub returns-then-rest-eq0 : goal.returns-then-rest-eq0
unfolding ccm_text
returns-then-rest-eq0 c =
    masked_all (λ i. ccm_stream_block c.args.aes.now c.args.nonce.now (i + 1)) (λ i. length-encrypted c.args.aes.now _) c.args.text.now c.pairs.text
    (16 * (2 * c.pairs.i)) c.pairs.invariant (omega arith) (omega arith)

pub returns-then-rest-le16 : goal.returns-then-rest-le16
unfolding ccm_text
returns-then-rest-le16 c =
    let key = c.args.aes.now in
    let f : ℕ → List ℕ = λ i. ccm_stream_block key c.args.nonce.now (i + 1) in
    let pairs = length c.args.text.now / 32 in
    let done : c.pairs.i ≡ pairs = omega arith in
    let held : MaskedTo f c.args.text.now c.pairs.text (16 * (2 * pairs)) = rw done at c.pairs.invariant in
    masked_all f (λ i. length-encrypted key _) c.args.text.now c.mask_block-then-rest-le16.new.text (length c.args.text.now)
    (masked_more f c.args.text.now c.pairs.text c.mask_block-then-rest-le16.new.text c.encrypt_block-stream.result
    (2 * pairs) (length c.pairs.text % 32) (length c.args.text.now) held
    (c.encrypt_block-stream.ensures ∙ (λ i. encrypted key (c.counter-then-rest-le16.ensures i))) (omega arith)
    c.mask_block-then-rest-le16.ensures.block c.mask_block-then-rest-le16.ensures.before c.mask_block-then-rest-le16.ensures.after (omega arith))
    refl (omega arith)

pub returns : goal.returns
unfolding ccm_text
returns c =
    let key = c.args.aes.now in
    let f : ℕ → List ℕ = λ i. ccm_stream_block key c.args.nonce.now (i + 1) in
    let pairs = length c.args.text.now / 32 in
    let done : c.pairs.i ≡ pairs = omega arith in
    let held : MaskedTo f c.args.text.now c.pairs.text (16 * (2 * pairs)) = rw done at c.pairs.invariant in
    let one : MaskedTo f c.args.text.now c.mask_block-2.new.text (16 * (2 * pairs + 1)) =
    masked_more f c.args.text.now c.pairs.text c.mask_block-2.new.text c.encrypt_two-2.result.0 (2 * pairs) 16 (16 * (2 * pairs + 1)) held
    (c.encrypt_two-2.ensures.first ∙ (λ j. encrypted key (c.counter-2.ensures j))) (omega arith)
    c.mask_block-2.ensures.block c.mask_block-2.ensures.before c.mask_block-2.ensures.after (omega arith) in
    masked_all f (λ i. length-encrypted key _) c.args.text.now c.mask_block-3.new.text (length c.args.text.now)
    (masked_more f c.args.text.now c.mask_block-2.new.text c.mask_block-3.new.text c.encrypt_two-2.result.1
    (2 * pairs + 1) (length c.pairs.text % 32 - 16) (length c.args.text.now) one
    (c.encrypt_two-2.ensures.second ∙ (λ j. encrypted key (c.counter-3.ensures j))) (omega arith)
    c.mask_block-3.ensures.block c.mask_block-3.ensures.before c.mask_block-3.ensures.after (omega arith))
    refl (omega arith)
