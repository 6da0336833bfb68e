use Rattle.std.proofs.Common.{◌≡◌, ℕ, List, ◌*◌, ◌+◌, ◌-◌, ◌%◌, ◌/◌, ◌++◌, length, take, drop, replicate, refl, sym, ap, ◌∙◌, arith}
use Rattle.std.proofs.lemmas.List.{length-append, length-replicate}
use Rattle.aes_modes.specs.Cipher.{xor_bytes, encrypted}
use Rattle.aes_modes.specs.Chains.{chained}
use Rattle.aes_modes.specs.KeyStream.{masked}
use Rattle.aes_modes.specs.Ccm.{ccm_stream_block, ccm_text}
use Rattle.aes_modes.proofs.Chains.{length-encrypted, chained_none, chained_more, chained_part, chained-append}
use Rattle.aes_modes.proofs.Streams.{MaskedTo, masked_more, masked_all}
use Rattle.aes_modes.proofs.Beside.{masked_block, following_some, following_last}
use Rattle.aes_modes.proofs.pairs.decrypt_and_chain.Goals as goal

pub whole-init : goal.whole-init
whole-init c = (
  sym (chained_none c.args.aes.now c.args.x.now (ccm_text c.args.aes.now c.args.nonce.now c.args.text.now)),
  λ some. c.requires.first ∙ ap (ccm_stream_block c.args.aes.now c.args.nonce.now) (sym (following_some 0 ((length c.args.text.now + 15) / 16) some)),
  (
    λ k low. absurd
        (omega (arith, low)),
    λ k high. refl,
  ),
)

pub whole-preserved : goal.whole-preserved
unfolding ccm_text
whole-preserved c =
    let key = c.args.aes.now in
    let i = c.whole.i in
    let f : ℕ → List ℕ = λ i. ccm_stream_block key c.args.nonce.now (i + 1) in
    let blocks = (length c.args.text.now + 15) / 16 in
    let here : c.whole.stream ≡ f i = c.whole.invariant.1 (omega arith) ∙ ap (ccm_stream_block key c.args.nonce.now) (following_some i blocks (omega arith)) in
    let held : MaskedTo f c.args.text.now c.mask_block.new.text (16 * (i + 1)) =
    masked_more f c.args.text.now c.whole.text c.mask_block.new.text c.whole.stream i 16 (16 * (i + 1)) c.whole.invariant.2 here (omega arith)
    c.mask_block.ensures.block c.mask_block.ensures.before c.mask_block.ensures.after (omega arith) in
    let block : take 16 (drop (16 * i) c.mask_block.new.text) ≡ take 16 (drop (16 * i) (masked f c.args.text.now)) =
    masked_block f (λ i. length-encrypted key _) c.args.text.now c.mask_block.new.text i (omega arith) (omega arith) held in
    let two : i + 2 ≡ i + 1 + 1 = omega arith in (
      c.encrypt_two.ensures.first
          ∙ (λ j. encrypted key ((c.xor_blocks-block.ensures ∙ (λ k. xor_bytes (c.whole.invariant.0 k) ((c.block_at.ensures ∙ block) k))) j))
          ∙ sym (chained_more key c.args.x.now (masked f c.args.text.now) i),
      λ some. c.encrypt_two.ensures.second ∙ (λ j. encrypted key (c.counter.ensures j)) ∙ ap (ccm_stream_block key c.args.nonce.now) c.following.ensures,
      held,
    )

pub returns-then-rest-eq0-clause-text : goal.returns-then-rest-eq0-clause-text
unfolding ccm_text
returns-then-rest-eq0-clause-text c =
    masked_all (λ i. ccm_stream_block c.args.aes.now c.args.nonce.now (i + 1)) (λ i. length-encrypted c.args.aes.now _) c.args.text.now c.whole.text
    (16 * c.whole.i) c.whole.invariant.2 (omega arith) (omega arith)

pub returns-then-rest-eq0-clause-chain : goal.returns-then-rest-eq0-clause-chain
unfolding ccm_text
returns-then-rest-eq0-clause-chain c =
    let key = c.args.aes.now in
    let x = c.args.x.now in
    let t : List ℕ = c.whole.text in
    let n : ℕ = (16 - length t % 16) % 16 in
    let zeros : List ℕ = replicate n 0 in
    let i = c.whole.i in
    let e : t ≡ masked (λ i. ccm_stream_block key c.args.nonce.now (i + 1)) c.args.text.now =
    masked_all (λ i. ccm_stream_block key c.args.nonce.now (i + 1)) (λ i. length-encrypted key _) c.args.text.now t
    (16 * i) c.whole.invariant.2 (omega arith) (omega arith) in
    let count : length (t ++ zeros) / 16 ≡ i = omega (arith, length-append t zeros, length-replicate {A = ℕ} n 0) in
    c.whole.invariant.0 ∙ (λ j. chained key x (sym e j) i) ∙ sym (ap (chained key x (t ++ zeros)) count ∙ chained-append key x t zeros i (omega arith))

pub returns-then-count-eq0-clause-text : goal.returns-then-count-eq0-clause-text
unfolding ccm_text
returns-then-count-eq0-clause-text c =
    masked_all (λ i. ccm_stream_block c.args.aes.now c.args.nonce.now (i + 1)) (λ i. length-encrypted c.args.aes.now _) c.args.text.now c.whole.text
    (16 * c.whole.i) c.whole.invariant.2 (omega arith) (omega arith)

pub returns-then-count-eq0-clause-chain : goal.returns-then-count-eq0-clause-chain
unfolding ccm_text
returns-then-count-eq0-clause-chain c =
    let key = c.args.aes.now in
    let x = c.args.x.now in
    let t : List ℕ = c.whole.text in
    let n : ℕ = (16 - length t % 16) % 16 in
    let zeros : List ℕ = replicate n 0 in
    let i = c.whole.i in
    let e : t ≡ masked (λ i. ccm_stream_block key c.args.nonce.now (i + 1)) c.args.text.now =
    masked_all (λ i. ccm_stream_block key c.args.nonce.now (i + 1)) (λ i. length-encrypted key _) c.args.text.now t
    (16 * i) c.whole.invariant.2 (omega arith) (omega arith) in
    let count : length (t ++ zeros) / 16 ≡ i = omega (arith, length-append t zeros, length-replicate {A = ℕ} n 0) in
    c.whole.invariant.0 ∙ (λ j. chained key x (sym e j) i) ∙ sym (ap (chained key x (t ++ zeros)) count ∙ chained-append key x t zeros i (omega arith))

pub returns-then-rest-eq0-clause-stream : goal.returns-then-rest-eq0-clause-stream
returns-then-rest-eq0-clause-stream c =
    let blocks = (length c.args.text.now + 15) / 16 in
    c.whole.invariant.1 (omega arith) ∙ ap (ccm_stream_block c.args.aes.now c.args.nonce.now) (following_last c.whole.i blocks (omega arith))

pub returns-clause-text : goal.returns-clause-text
unfolding ccm_text
returns-clause-text c =
    let key = c.args.aes.now in
    let f : ℕ → List ℕ = λ i. ccm_stream_block key c.args.nonce.now (i + 1) in
    let count = length c.args.text.now / 16 in
    let done : c.whole.i ≡ count = omega arith in
    let held : MaskedTo f c.args.text.now c.whole.text (16 * count) = rw done at c.whole.invariant.2 in
    let part = c.if-rest-eq0.false in
    let blocks = (length c.args.text.now + 15) / 16 in
    let stream : c.whole.stream ≡ f count = c.whole.invariant.1 (omega (arith, part))
    ∙ ap (ccm_stream_block key c.args.nonce.now) (following_some c.whole.i blocks (omega (arith, part)) ∙ omega arith) in
    masked_all f (λ i. length-encrypted key _) c.args.text.now c.mask_block-2.new.text (length c.args.text.now)
    (masked_more f c.args.text.now c.whole.text c.mask_block-2.new.text c.whole.stream
    count (length c.args.text.now % 16) (length c.args.text.now) held stream (omega arith)
    c.mask_block-2.ensures.block c.mask_block-2.ensures.before c.mask_block-2.ensures.after (omega arith))
    refl (omega arith)

pub returns-clause-chain : goal.returns-clause-chain
returns-clause-chain c =
    let key = c.args.aes.now in
    let x = c.args.x.now in
    let t : List ℕ = c.mask_block-2.new.text in
    let len : length t ≡ length c.args.text.now = omega arith in
    let e : t ≡ ccm_text key c.args.nonce.now c.args.text.now = returns-clause-text c in
    let count : length c.args.text.now / 16 ≡ length t / 16 = omega (arith, len) in
    let done : c.whole.i ≡ length t / 16 = omega (arith, len) in
    let part = c.if-rest-eq0.false in
    let before : c.whole.x ≡ chained key x t (length t / 16) = c.whole.invariant.0 ∙ (λ j. chained key x (sym e j) (done j)) in
    c.encrypt_two-2.ensures.first
    ∙ (λ j. encrypted key ((c.xor_blocks-block-2.ensures
    ∙ (λ k. xor_bytes (before k) ((c.padded_block.ensures ∙ (λ l. drop (16 * count l) t ++ replicate (16 - (length t - 16 * count l)) 0)) k))) j))
    ∙ chained_part key x t (λ z. part (omega (arith, len, z)))
